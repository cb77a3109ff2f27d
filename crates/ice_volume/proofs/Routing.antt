-- The cube that a command of a tree is meant for, in the world as in the tables.
use Rattle.std.proofs.Common.{◌≡◌, ◌≢◌, ◌∙◌, ℕ, Bool, true, false, cond, List, [], ◌∷◌, map, length, Option, Some, None, option_map, Ok, Err, refl, sym, ap, subst}
use Rattle.std.specs.Prelude.{⊤, nat_eq, IsSome}
use Rattle.std.proofs.Math.Path.{fun_ext}
use Rattle.ice_base.specs.Disk.{DiskState}
use Rattle.tree_spec.specs.Lines.{Line, Asks, Request}
use Rattle.tree_spec.specs.Lines as line
use Rattle.tree_spec.specs.Operations.{Operation, Mkdir, Make, Write, Read, Trunc, Remove, Rename, ListDir, Stat, operation, below, paths}
use Rattle.tree_spec.specs.Own as order
use Rattle.tree_spec.specs.Records.{Cube}
use Rattle.tree_spec.specs.Replies.{Because, Refused, refused_of}
use Rattle.ice_volume.specs.Lines.{fault_in}
use Rattle.tree_spec.specs.Routes.{route}
use Rattle.tree_spec.specs.Why as why
use Rattle.tree_spec.specs.Why.{Why}
use Rattle.tree_spec.specs.World.{World, Refuse, At, aim_of, in_cube, to_one, to_tree, paths_of, depth_at}
use Rattle.tree_spec.specs.declared.reply.Refusal.{Refusal}
use Rattle.tree_spec.specs.declared.reply.Refusal.TheVariants as code
use Rattle.ice_script.specs.Bounds.{InBounds}
use Rattle.ice_cube.specs.Commands.{IsCommand}
use Rattle.ice_names.specs.Names.{NamesView, Catches, path_at, row_at, path_of}
use Rattle.ice_tables.specs.Tables.{Row}
use Rattle.ice_volume.specs.Targets.{AllCatch, one_slot, paths_asked, routed}
use Rattle.ice_volume.specs.Volumes.{VolumeView, StandsFor}
use Rattle.ice_volume.proofs.Lookups.{row_path}

-- ---- requests of a tree

-- a request of a tree, with whole paths
pub record IsOf (req : Request) (op : Operation) : Type 0 where
  pub asks : (n : ℕ) → operation n req ≡ Some (below n op)
  pub aims : (u : World) → aim_of u req ≡ to_tree u op
  pub paths : paths_asked req ≡ paths op

-- a request of a tree is an operation with whole paths
pub whole : (req : Request) → operation 0 req ≢ None → (op : Operation) × IsOf req op
whole (line.Mkdir p) some = (Mkdir p, record { asks = λ n. refl; aims = λ u. refl; paths = refl })
whole (line.Make p) some = (Make p, record { asks = λ n. refl; aims = λ u. refl; paths = refl })
whole (line.Write p at bytes) some = (Write p at bytes, record { asks = λ n. refl; aims = λ u. refl; paths = refl })
whole (line.Read p at len) some = (Read p at len, record { asks = λ n. refl; aims = λ u. refl; paths = refl })
whole (line.Trunc p len) some = (Trunc p len, record { asks = λ n. refl; aims = λ u. refl; paths = refl })
whole (line.Remove p) some = (Remove p, record { asks = λ n. refl; aims = λ u. refl; paths = refl })
whole (line.Rename p q) some = (Rename p q, record { asks = λ n. refl; aims = λ u. refl; paths = refl })
whole (line.ListDir p) some = (ListDir p, record { asks = λ n. refl; aims = λ u. refl; paths = refl })
whole (line.Stat p) some = (Stat p, record { asks = λ n. refl; aims = λ u. refl; paths = refl })
whole (line.Create p n) some = absurd (some refl)
whole (line.Delete p) some = absurd (some refl)
whole (line.Grow p n) some = absurd (some refl)
whole (line.Offline p) some = absurd (some refl)
whole (line.Online p) some = absurd (some refl)
whole line.Cubes some = absurd (some refl)
whole (line.Mount p) some = absurd (some refl)
whole (line.Unmount p) some = absurd (some refl)
whole (line.Check p) some = absurd (some refl)
whole (line.Sync p) some = absurd (some refl)

-- a request whose paths begin with the names of the cube's path is a command of it
pub commands : (v : NamesView) (s n : ℕ) (req : Request) → operation 0 req ≢ None → InBounds req → AllCatch v s n (paths_asked req) → IsCommand n req
commands v s n (line.Mkdir p) some bounds all = all.0.few
commands v s n (line.Make p) some bounds all = all.0.few
commands v s n (line.Write p at bytes) some bounds all = (all.0.few, bounds.1)
commands v s n (line.Read p at len) some bounds all = (all.0.few, bounds.1)
commands v s n (line.Trunc p len) some bounds all = all.0.few
commands v s n (line.Remove p) some bounds all = all.0.few
commands v s n (line.Rename p q) some bounds all = (all.0.few, all.1.0.few)
commands v s n (line.ListDir p) some bounds all = all.0.few
commands v s n (line.Stat p) some bounds all = all.0.few
commands v s n (line.Create p m) some bounds all = absurd (some refl)
commands v s n (line.Delete p) some bounds all = absurd (some refl)
commands v s n (line.Grow p m) some bounds all = absurd (some refl)
commands v s n (line.Offline p) some bounds all = absurd (some refl)
commands v s n (line.Online p) some bounds all = absurd (some refl)
commands v s n line.Cubes some bounds all = absurd (some refl)
commands v s n (line.Mount p) some bounds all = absurd (some refl)
commands v s n (line.Unmount p) some bounds all = absurd (some refl)
commands v s n (line.Check p) some bounds all = absurd (some refl)
commands v s n (line.Sync p) some bounds all = absurd (some refl)

-- such a request has a path, which begins with those names
pub first_caught : (v : NamesView) (s n : ℕ) (req : Request) → operation 0 req ≢ None → AllCatch v s n (paths_asked req) → (p : List (List ℕ)) × Catches v p s n
first_caught v s n (line.Mkdir p) some all = (p, all.0)
first_caught v s n (line.Make p) some all = (p, all.0)
first_caught v s n (line.Write p at bytes) some all = (p, all.0)
first_caught v s n (line.Read p at len) some all = (p, all.0)
first_caught v s n (line.Trunc p len) some all = (p, all.0)
first_caught v s n (line.Remove p) some all = (p, all.0)
first_caught v s n (line.Rename p q) some all = (p, all.0)
first_caught v s n (line.ListDir p) some all = (p, all.0)
first_caught v s n (line.Stat p) some all = (p, all.0)
first_caught v s n (line.Create p m) some all = absurd (some refl)
first_caught v s n (line.Delete p) some all = absurd (some refl)
first_caught v s n (line.Grow p m) some all = absurd (some refl)
first_caught v s n (line.Offline p) some all = absurd (some refl)
first_caught v s n (line.Online p) some all = absurd (some refl)
first_caught v s n line.Cubes some all = absurd (some refl)
first_caught v s n (line.Mount p) some all = absurd (some refl)
first_caught v s n (line.Unmount p) some all = absurd (some refl)
first_caught v s n (line.Check p) some all = absurd (some refl)
first_caught v s n (line.Sync p) some all = absurd (some refl)

-- ---- aims

-- an operation goes to the one slot of its routes
to_slot : (u : World) (op : Operation) (os : List (Option ℕ)) (x : ℕ) → one_slot os ≡ Ok x → to_one u op os ≡ in_cube u op x
to_slot u op [] x is = absurd (cc is)
to_slot u op (None ∷ os) x is = absurd (cc is)
to_slot u op (Some s ∷ []) x is = let same : s ≡ x = cc is in ap (in_cube u op) same
to_slot u op (Some s ∷ None ∷ os) x is = absurd (cc is)
to_slot u op (Some s ∷ Some t ∷ []) x is = by (nat_eq s t) is
  where
    by : (b : Bool) → cond b (Ok s) (Err code.CrossCube) ≡ Ok x → cond b (in_cube u op s) (Refuse why.CrossCube) ≡ in_cube u op x
    by true e = let same : s ≡ x = cc e in ap (in_cube u op) same
    by false e = absurd (cc e)
to_slot u op (Some s ∷ Some t ∷ o ∷ os) x is = absurd (cc is)

-- the refusal of routes, and what an operation of these routes is meant for
record IsRefused (os : List (Option ℕ)) (r : Refusal) : Type 0 where
  why_is : Why
  because : refused_of r ≡ Because why_is
  aims : (u : World) (op : Operation) → to_one u op os ≡ Refuse why_is

to_none : (os : List (Option ℕ)) (r : Refusal) → one_slot os ≡ Err r → IsRefused os r
to_none [] r is = let same : code.NoCube ≡ r = cc is in record { why_is = why.NoCube; because = sym (ap refused_of same); aims = λ u op. refl }
to_none (None ∷ os) r is = let same : code.NoCube ≡ r = cc is in record { why_is = why.NoCube; because = sym (ap refused_of same); aims = λ u op. refl }
to_none (Some s ∷ []) r is = absurd (cc is)
to_none (Some s ∷ None ∷ os) r is =
    let same : code.NoCube ≡ r = cc is in record { why_is = why.NoCube; because = sym (ap refused_of same); aims = λ u op. refl }
to_none (Some s ∷ Some t ∷ []) r is = by (nat_eq s t) refl is
  where
    by : (b : Bool) → nat_eq s t ≡ b → cond b (Ok s) (Err code.CrossCube) ≡ Err r → IsRefused (Some s ∷ Some t ∷ []) r
    by true same e = absurd (cc e)
    by false other e = let same : code.CrossCube ≡ r = cc e in record {
      why_is = why.CrossCube;
      because = sym (ap refused_of same);
      aims = λ u op. ap (λ (b : Bool). cond b (in_cube u op s) (Refuse why.CrossCube)) other;
    }
to_none (Some s ∷ Some t ∷ o ∷ os) r is =
    let same : code.NoCube ≡ r = cc is in record { why_is = why.NoCube; because = sym (ap refused_of same); aims = λ u op. refl }

-- such a refusal is no fault
pub no_fault : (os : List (Option ℕ)) (r : Refusal) → one_slot os ≡ Err r → fault_in (Err (refused_of r)) ≡ 0
no_fault os r is = ap (λ (q : Refused). fault_in (Err q)) (to_none os r is).because

map_same : (f g : List (List ℕ) → Option ℕ) → ((p : List (List ℕ)) → f p ≡ g p) → (ps : List (List (List ℕ))) → map f ps ≡ map g ps
map_same f g same [] = refl
map_same f g same (p ∷ ps) = ap (λ (o : Option ℕ). o ∷ map f ps) (same p) ∙ ap (λ (os : List (Option ℕ)). g p ∷ os) (map_same f g same ps)

module _ (v : VolumeView) (s : DiskState) (u : World) (stands : StandsFor v s u) where
  -- a path routes in the world as in the tables
  route_same : (p : List (List ℕ)) → route (paths_of u) u.slots p ≡ routed v.system.names p
  route_same p =
      ap (λ (f : ℕ → Option (List (List ℕ))). route f u.slots p) (fun_ext (λ x. sym (row_path v s u stands x)))
      ∙ ap (λ (n : ℕ). route (λ x. path_at v.system.names x) n p) (sym stands.shows.slots)

  module _ (req : Request) (tree : operation 0 req ≢ None) where
    aim_here : aim_of u req ≡ to_one u (whole req tree).0 (map (routed v.system.names) (paths_asked req))
    aim_here =
        let w = whole req tree in
        w.1.aims u
        ∙ ap (to_one u w.0) (map_same (route (paths_of u) u.slots) (routed v.system.names) route_same (paths w.0))
        ∙ ap (λ (ps : List (List (List ℕ))). to_one u w.0 (map (routed v.system.names) ps)) (sym w.1.paths)

    -- the cube in the slot
    pub target_cube : (x n : ℕ) → AllCatch v.system.names x n (paths_asked req) → (c : Cube) × (u.cube x ≡ Some c) × (n ≡ length c.path)
    target_cube x n all = let caught = first_caught v.system.names x n req tree all in by (row_at v.system.names x) (u.cube x) refl refl caught.1.live
      where
        by : (o : Option Row) (d : Option Cube) → row_at v.system.names x ≡ o → u.cube x ≡ d → IsSome o → (c : Cube) × (d ≡ Some c) × (n ≡ length c.path)
        by None d is at live = absurd (cc live)
        by (Some r) None is at live = absurd (cc (ap path_of (sym is) ∙ row_path v s u stands x ∙ ap (option_map (λ (c : Cube). c.path)) at))
        by (Some r) (Some c) is at live =
            (c, refl, (first_caught v.system.names x n req tree all).1.names c.path (row_path v s u stands x ∙ ap (option_map (λ (d : Cube). d.path)) at))

    -- a command that was routed is meant for the cube of its slot
    pub aims_tree : (x n : ℕ) → one_slot (map (routed v.system.names) (paths_asked req)) ≡ Ok x → AllCatch v.system.names x n (paths_asked req)
        → (op : Operation) → operation n req ≡ Some op → aim_of u req ≡ At x (order.OnTree op)
    aims_tree x n is all op asks =
        let w = whole req tree in
        let cube = target_cube x n all in
        let deep : depth_at (u.cube x) ≡ n = ap depth_at cube.1 ∙ sym cube.2 in
        let same : below n w.0 ≡ op = one_op (below n w.0) op (sym (w.1.asks n) ∙ asks) in
        aim_here ∙ to_slot u w.0 (map (routed v.system.names) (paths_asked req)) x is
        ∙ ap (λ (d : ℕ). At x (order.OnTree (below d w.0))) deep ∙ ap (λ (o : Operation). At x (order.OnTree o)) same
      where
        one_op : (a b : Operation) → Some a ≡ Some b → a ≡ b
        one_op a b e = cc e

    -- one that was refused is refused
    pub aims_refused : (r : Refusal) → one_slot (map (routed v.system.names) (paths_asked req)) ≡ Err r
        → (y : Why) × (refused_of r ≡ Because y) × (aim_of u req ≡ Refuse y)
    aims_refused r is =
        let n = to_none (map (routed v.system.names) (paths_asked req)) r is in
        (n.why_is, n.because, aim_here ∙ n.aims u (whole req tree).0)

-- two paths that route to one slot begin with the names of one path
pub both_catch : (v : NamesView) (p q : List (List ℕ)) (a b : ℕ × ℕ) → a.0 ≡ b.0 → Catches v p a.0 a.1 → Catches v q b.0 b.1
    → Catches v p a.0 a.1 × (Catches v q a.0 a.1 × ⊤)
both_catch v p q a b same here there = by (row_at v a.0) refl here.live
  where
    by : (o : Option Row) → row_at v a.0 ≡ o → IsSome o → Catches v p a.0 a.1 × (Catches v q a.0 a.1 × ⊤)
    by None is live = absurd (cc live)
    by (Some r) is live =
        let path : path_at v a.0 ≡ Some r.path = ap path_of is in
        let other : path_at v b.0 ≡ Some r.path = ap (λ (n : ℕ). path_at v n) (sym same) ∙ path in
        let deep : b.1 ≡ a.1 = there.names r.path other ∙ sym (here.names r.path path) in
        (here, (subst (λ (n : ℕ). Catches v q a.0 n) deep (subst (λ (n : ℕ). Catches v q n b.1) (sym same) there), tt))
