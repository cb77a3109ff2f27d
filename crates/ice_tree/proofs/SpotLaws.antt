-- The place where something new is to stand, stage by stage.
use Rattle.std.proofs.Common.{◌≡◌, ◌≤◌, ◌+◌, ◌-◌, ℕ, Bool, true, false, List, [], ◌∷◌, length, drop, Option, None, Some, refl, sym, ap, subst, ◌∙◌, arith, nat_eq, if◌then◌else◌}
use Rattle.std.specs.FinMap.{find}
use Rattle.std.proofs.lemmas.Bool.Decides.{nat_tests}
use Rattle.std.proofs.lemmas.List.{length-drop}
use Rattle.ice_base.specs.Lots.{LotView}
use Rattle.tree_spec.specs.Names.{is_name}
use Rattle.tree_spec.specs.Why.{Why}
use Rattle.tree_spec.specs.Why as why
use Rattle.tree_spec.specs.Trees.{Tree, Walk, Found, NotFound, NotDir, walk, parent, last_name, parent_walk, needs_dir, rows, by_bytes, and_on, found_or_not}
use Rattle.tree_spec.specs.Trees as tree
use Rattle.tree_spec.specs.Costs.{Form, form_one, nodes, blocks, map_cost, file_blocks, dir_blocks}
use Rattle.tree_spec.specs.Answers.{is_root, is_found, refusal, next_tree}
use Rattle.tree_spec.proofs.Accepted.{has_place, walk-last}
use Rattle.tree_spec.proofs.Changes.{total-placed}
use Rattle.ice_reads.specs.Tables.{Map, Table}
use Rattle.ice_map.specs.Inodes.{inode_of}
use Rattle.ice_map.specs.Own.{own}
use Rattle.ice_reads.specs.Reads.{inode_on}
use Rattle.ice_reads.specs.Recovers.{MapRecovers}
use Rattle.ice_look.specs.declared.ends.Ends.{Ends}
use Rattle.ice_look.specs.declared.looks.DirAt.{DirAt}
use Rattle.ice_look.specs.declared.place.Place.TheVariants.{File, Dir, Missing, Blocked}
use Rattle.ice_look.specs.Ends.{IsEnds, IsDirAt}
use Rattle.ice_tree.specs.Quotas.{Needs, quota_refusal}
use Rattle.ice_tree.specs.Makes.{Takes, new_operation, new_refusal}
use Rattle.ice_look.specs.Places.{place_by}
use Rattle.ice_look.specs.Stages.{or_else, walk_refusal, paths_refusal}
use Rattle.ice_tree.proofs.Chains.{refusal_mkdir, refusal_make}
use Rattle.ice_look.proofs.LookLaws.{ends_file, ends_dir, ends_missing, ends_blocked}
use Rattle.ice_tree.proofs.MakeLaws.{made, next-made}

-- ---- the place

abbrev Names : Type 0
Names = List (List ℕ)

abbrev rest : Names → Tree → Option Why
rest p t = or_else (if is_root p then Some why.IsRoot else None) (if is_found (walk p t) then Some why.Exists else None)

by-walk : (p : Names) (t : Tree) (w : Walk) → walk (parent p) t ≡ w → new_refusal p t ≡ or_else (walk_refusal (needs_dir w)) (rest p t)
by-walk p t w e = ap (λ v. or_else (walk_refusal (needs_dir v)) (rest p t)) e

never_blocked : (o : Option Tree) → and_on (found_or_not o) (λ u. Found u) ≡ NotDir → ⊥
never_blocked None h = cc
never_blocked (Some u) h = cc

module _ (f : Form) (o : Table) (p : Names) (t : Tree) (ends : Ends) (is : IsEnds f o p t ends) where
  pub no_parent : ends.parent ≡ Missing → new_refusal p t ≡ Some why.NotFound
  no_parent e = by-walk p t NotFound (ends_missing (inode_on f o 0 (parent p)) (walk (parent p) t) (sym e ∙ is.at_parent))

  pub blocked_parent : ends.parent ≡ Blocked → new_refusal p t ≡ Some why.NotDir
  blocked_parent e = by-walk p t NotDir (ends_blocked (inode_on f o 0 (parent p)) (walk (parent p) t) (sym e ∙ is.at_parent))

  module _ (number size : ℕ) where
    pub file_parent : ends.parent ≡ File number size → new_refusal p t ≡ Some why.NotDir
    file_parent e =
        let d = ends_file (inode_on f o 0 (parent p)) number size (walk (parent p) t) (sym e ∙ is.at_parent) in by-walk p t (Found (tree.File d.0)) d.1

    module _ (e : ends.parent ≡ Dir number size) where
      dir : (es : tree.Entries) × (walk (parent p) t ≡ Found (tree.Dir es)) × (number ≡ inode_on f o 0 (parent p)) × (size ≡ length (rows es))
      dir = ends_dir (inode_on f o 0 (parent p)) number size (walk (parent p) t) (sym e ∙ is.at_parent)

      after : new_refusal p t ≡ rest p t
      after = by-walk p t (Found (tree.Dir dir.0)) dir.1

      below : is_root p ≡ false → new_refusal p t ≡ (if is_found (walk p t) then Some why.Exists else None)
      below h = after ∙ ap (λ b. or_else (if b then Some why.IsRoot else None) (if is_found (walk p t) then Some why.Exists else None)) h

      pub spot_found : is_root p ≡ false → ends.end ≡ Missing → (new_refusal p t ≡ None) × IsDirAt f o (parent p) t (record { number = number; entries = size; node = ends.above })
      spot_found h free = (
        below h ∙ ap (λ w. if is_found w then Some why.Exists else None) (ends_missing (inode_on f o 0 p) (walk p t) (sym free ∙ is.at_end)),
        record { inside = dir.0; there = dir.1; number = dir.2; count = dir.3 },
      )

      pub spot_taken : is_root p ≡ false → (ends.end ≡ Missing → ⊥) → new_refusal p t ≡ Some why.Exists
      spot_taken h full =
          elim (walk p t) as (λ w. walk p t ≡ w → new_refusal p t ≡ Some why.Exists) [
            | Found s ↦ λ q. below h ∙ ap (λ w. if is_found w then Some why.Exists else None) q
            | NotFound ↦ λ q. absurd (full (is.at_end ∙ ap (place_by (inode_on f o 0 p)) q))
            | NotDir ↦ λ q.
                absurd (never_blocked (find by_bytes (last_name p) (rows dir.0))
                (sym (walk-last p t h ∙ ap (λ w. and_on w (λ u. walk (last_name p ∷ []) u)) dir.1) ∙ q))
          ] refl

-- ---- all that refuses something new

pub chained : (a b c d : Option Why) → or_else a (or_else b (or_else c d)) ≡ or_else (or_else a (or_else b c)) d
chained (Some r) b c d = refl
chained None (Some r) c d = refl
chained None None c d = refl

pub new-stages : (dir : Bool) (t : Tree) (k n : ℕ) (f : Form) (p : Names)
    → refusal t k n f (new_operation dir p)
    ≡ or_else (paths_refusal f (p ∷ [])) (or_else (new_refusal p t) (quota_refusal n f k (next_tree (new_operation dir p) t)))
new-stages true t k n f p =
    refusal_mkdir t k n f p
    ∙ ap (or_else (paths_refusal f (p ∷ [])))
    (chained (walk_refusal (parent_walk p t)) (if is_root p then Some why.IsRoot else None)
    (if is_found (walk p t) then Some why.Exists else None) (quota_refusal n f k (next_tree (new_operation true p) t)))
new-stages false t k n f p =
    refusal_make t k n f p
    ∙ ap (or_else (paths_refusal f (p ∷ [])))
    (chained (walk_refusal (parent_walk p t)) (if is_root p then Some why.IsRoot else None)
    (if is_found (walk p t) then Some why.Exists else None) (quota_refusal n f k (next_tree (new_operation false p) t)))

free-both : (a b : Bool) → or_else (if a then Some why.IsRoot else None) (if b then Some why.Exists else None) ≡ None → (a ≡ false) × (b ≡ false)
free-both true b h = absurd cc
free-both false true h = absurd cc
free-both false false h = (refl, refl)

same_entries : (es fs : tree.Entries) → Found (tree.Dir es) ≡ Found (tree.Dir fs) → es ≡ fs
same_entries es fs e = cc

made_blocks : (f : Form) → f ≡ form_one → (dir : Bool) → blocks f (made dir) ≡ 0
made_blocks f one true = ap (λ g. blocks g (made true)) one
made_blocks f one false = refl

made_nodes : (dir : Bool) → nodes (made dir) ≡ 1
made_nodes true = refl
made_nodes false = refl

-- what it needs
pub new-needs : (f : Form) → f ≡ form_one → (o : Table) (p : Names) (t : Tree) (spot : DirAt) (dir : Bool) → IsDirAt f o (parent p) t spot
    → new_refusal p t ≡ None
    → (b c : ℕ) → b ≡ map_cost (dir_blocks f (spot.entries + 1)) → c ≡ map_cost (dir_blocks f spot.entries)
    → Needs f t (next_tree (new_operation dir p) t) (record { nodes = 1; lost = 0; blocks = b; freed = c })
new-needs f one o p t spot dir is none b c more less =
    let free = free-both (is_root p) (is_found (walk p t)) (sym (by-walk p t (Found (tree.Dir is.inside)) is.there) ∙ none) in
    let h = has_place p t is.inside free.0 is.there free.1 in
    let same : h.entries ≡ is.inside = same_entries h.entries is.inside (sym h.there ∙ is.there) in
    let count : spot.entries ≡ length (rows h.entries) = is.count ∙ sym (ap (λ es. length (rows es)) same) in
    let old = ap (λ n. map_cost (dir_blocks f n)) count in
    let new = ap (λ n. map_cost (dir_blocks f (n + 1))) count in
    let z = made_blocks f one dir in
    let y = made_nodes dir in
    let x = ap nodes (next-made dir p t) in
    let w = ap (blocks f) (next-made dir p t) in
    let v = total-placed (λ _. 1) (λ _. 1) p (made dir) t h in
    let u = total-placed (λ bytes. map_cost (file_blocks (length bytes))) (λ entries. map_cost (dir_blocks f entries)) p (made dir) t h in
    record { nodes_move = omega arith; blocks_move = omega arith }

-- what was found before a look holds after it
pub takes-after : (f : Form) (mode : ℕ) (lot : LotView) (m m' : Map) (t : Tree) (k : ℕ) (p : Names) (dir : Bool) (spot : DirAt) (name : List ℕ)
    → m' ≡ m → MapRecovers f mode lot m t k → IsDirAt f (own f m) (parent p) t spot → spot.node ≡ inode_of m spot.number
    → name ≡ last_name p → is_name name ≡ true → refusal t k (length lot.groups) f (new_operation dir p) ≡ None → Takes f mode lot m' t k p dir spot name
takes-after f mode lot m m' t k p dir spot name same r is node last proper none =
    subst (λ (x : Map). Takes f mode lot x t k p dir spot name) (sym same)
    (record { recovers = r; spot_is = is; node_is = node; name_is = last; proper = proper; accepted = none })

-- a path with no name from the depth on is the root
pub root-is : (path : List (List ℕ)) (depth n : ℕ) → depth ≤ length path → n ≡ length path → nat_eq n depth ≡ is_root (drop depth path)
root-is path depth n h e = let long = length-drop depth path in by (drop depth path) long
  where
    by : (names : Names) → length names ≡ length path - depth → nat_eq n depth ≡ is_root names
    by [] l = grind (arith, nat_tests)
    by (c ∷ names) l = grind (arith, nat_tests)
