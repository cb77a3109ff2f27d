-- What stands at a path that is removed, and what its removal needs.
use Rattle.std.proofs.Common.{◌≡◌, ◌≢◌, ◌≤◌, ◌<◌, ◌+◌, ◌-◌, ℕ, Bool, true, false, T, List, [], ◌∷◌, length, drop, Option, None, Some, Result, MatchResult, refl, sym, ap, ◌∙◌, subst, arith, if◌then◌else◌}
use Rattle.std.proofs.lemmas.List.{length-drop}
use Rattle.std.proofs.lemmas.Result.{MatchResult-weaker}
use Rattle.ice_base.specs.Lots.{LotView}
use Rattle.tree_spec.specs.Why.{Why}
use Rattle.tree_spec.specs.Why as why
use Rattle.tree_spec.specs.Trees.{Tree, Entries, Nil, Entry, rows, by_bytes, Walk, Found, NotFound, walk, parent, last_name, without, is_ordered}
use Rattle.tree_spec.specs.Trees as tree
use Rattle.tree_spec.specs.Costs.{Form, form_one, nodes, blocks, map_cost, file_blocks, dir_blocks}
use Rattle.tree_spec.specs.Operations.{Remove}
use Rattle.tree_spec.specs.Answers.{next_tree, is_root, is_full_found, bytes_of, bytes_found}
use Rattle.tree_spec.specs.Replies.{refused_of}
use Rattle.tree_spec.specs.declared.reply.Refusal.{Refusal}
use Rattle.tree_spec.specs.declared.reply.Refusal.TheVariants as code
use Rattle.tree_spec.proofs.Accepted.{HasEntry, has_entry, entry_walk}
use Rattle.tree_spec.proofs.Changes.{total-removed, length-removed}
use Rattle.ice_reads.specs.Tables.{Map, Table}
use Rattle.ice_map.specs.Own.{own}
use Rattle.ice_reads.specs.Reads.{inode_on}
use Rattle.ice_reads.specs.Recovers.{MapRecovers}
use Rattle.ice_reads.proofs.Sorted.{Reads-ordered}
use Rattle.ice_look.specs.declared.place.Place.{Place}
use Rattle.ice_look.specs.declared.place.Place.TheVariants.{File, Dir, Missing, Blocked}
use Rattle.ice_look.specs.declared.ends.Ends.{Ends}
use Rattle.ice_look.specs.declared.looks.DirAt.{DirAt}
use Rattle.ice_tree.specs.declared.quota.Need.{Need}
use Rattle.ice_tree.specs.declared.removes.Removal.{Removal}
use Rattle.ice_tree.specs.Quotas.{Needs}
use Rattle.ice_look.specs.Ends.{IsEnds, IsDirAt}
use Rattle.ice_tree.specs.Removes.{removal_refusal, IsRemoval}
use Rattle.ice_look.specs.Outcomes.{RefusedAs}
use Rattle.ice_look.specs.Places.{place_by, place_at}
use Rattle.ice_look.specs.Stages.{or_else, walk_refusal}

abbrev Names : Type 0
Names = List (List ℕ)

pub not-root : (path : Names) (depth : ℕ) → depth ≤ length path → (length path ≡ depth → ⊥) → is_root (drop depth path) ≡ false
not-root path depth h ne = some (drop depth path) (omega (arith, length-drop depth path))
  where
    some : (p : Names) → 0 < length p → is_root p ≡ false
    some [] h = absurd (omega arith)
    some (c ∷ p) h = refl

-- ---- what a walk's place says

abbrev after : Bool → Walk → Option Why
after root w = or_else (walk_refusal w) (or_else (if root then Some why.IsRoot else None) (if is_full_found w then Some why.NotEmpty else None))

missing-walk : (i : ℕ) (w : Walk) (root : Bool) → Missing ≡ place_by i w → after root w ≡ Some why.NotFound
missing-walk i (Found (tree.File bytes)) root e = absurd cc
missing-walk i (Found (tree.Dir es)) root e = absurd cc
missing-walk i NotFound root e = refl
missing-walk i tree.NotDir root e = absurd cc

blocked-walk : (i : ℕ) (w : Walk) (root : Bool) → Blocked ≡ place_by i w → after root w ≡ Some why.NotDir
blocked-walk i (Found (tree.File bytes)) root e = absurd cc
blocked-walk i (Found (tree.Dir es)) root e = absurd cc
blocked-walk i NotFound root e = absurd cc
blocked-walk i tree.NotDir root e = refl

full-walk : (i number size : ℕ) (w : Walk) (root : Bool) → root ≡ false → 0 < size → Dir number size ≡ place_by i w → after root w ≡ Some why.NotEmpty
full-walk i number size (Found (tree.File bytes)) root r some e = absurd cc
full-walk i number size (Found (tree.Dir Nil)) root r some e = absurd (none e)
  where
    none : Dir number size ≡ Dir i 0 → ⊥
    none e = let z : size ≡ 0 = cc in omega arith
full-walk i number size (Found (tree.Dir (Entry c t es))) root r some e = ap (λ (b : Bool). or_else (if b then Some why.IsRoot else None) (Some why.NotEmpty)) r
full-walk i number size NotFound root r some e = absurd cc
full-walk i number size tree.NotDir root r some e = absurd cc

-- what is there: a file of a size, or an empty directory
pub record Stands (i number size : ℕ) (w : Walk) (root : Bool) : Type 0 where
  pub there : Tree
  pub found : w ≡ Found there
  pub none : after root w ≡ None
  pub number_is : number ≡ i
  pub bytes_are : size ≡ length (bytes_of there)

file-walk : (i number size : ℕ) (w : Walk) (root : Bool) → root ≡ false → File number size ≡ place_by i w → Stands i number size w root
file-walk i number size (Found (tree.File bytes)) root r e = record {
  there = tree.File bytes;
  found = refl;
  none = ap (λ (b : Bool). or_else (if b then Some why.IsRoot else None) None) r;
  number_is = first e;
  bytes_are = second e;
}
  where
    first : File number size ≡ File i (length bytes) → number ≡ i
    first e = cc

    second : File number size ≡ File i (length bytes) → size ≡ length bytes
    second e = cc
file-walk i number size (Found (tree.Dir es)) root r e = absurd cc
file-walk i number size NotFound root r e = absurd cc
file-walk i number size tree.NotDir root r e = absurd cc

dir-walk : (i number size : ℕ) (w : Walk) (root : Bool) → root ≡ false → size ≤ 0 → Dir number size ≡ place_by i w → Stands i number 0 w root
dir-walk i number size (Found (tree.File bytes)) root r z e = absurd cc
dir-walk i number size (Found (tree.Dir Nil)) root r z e = record {
  there = tree.Dir Nil;
  found = refl;
  none = ap (λ (b : Bool). or_else (if b then Some why.IsRoot else None) None) r;
  number_is = first e;
  bytes_are = refl;
}
  where
    first : Dir number size ≡ Dir i 0 → number ≡ i
    first e = cc
dir-walk i number size (Found (tree.Dir (Entry c t es))) root r z e = absurd (some e)
  where
    some : Dir number size ≡ Dir i (length (rows (Entry c t es))) → ⊥
    some e = let s : size ≡ length (rows (Entry c t es)) = cc in omega arith
dir-walk i number size NotFound root r z e = absurd cc
dir-walk i number size tree.NotDir root r z e = absurd cc

spot-walk : (i dir entries : ℕ) (w : Walk) → Dir dir entries ≡ place_by i w
    → (es : Entries) × (w ≡ Found (tree.Dir es)) × (dir ≡ i) × (entries ≡ length (rows es))
spot-walk i dir entries (Found (tree.File bytes)) e = absurd cc
spot-walk i dir entries (Found (tree.Dir es)) e = (es, refl, first e, second e)
  where
    first : Dir dir entries ≡ Dir i (length (rows es)) → dir ≡ i
    first e = cc

    second : Dir dir entries ≡ Dir i (length (rows es)) → entries ≡ length (rows es)
    second e = cc
spot-walk i dir entries NotFound e = absurd cc
spot-walk i dir entries tree.NotDir e = absurd cc

-- the directory at a place
pub spot-is : (f : Form) (o : Table) (names : Names) (t : Tree) (p : Place) (spot : DirAt) → p ≡ place_at f o names t
    → p ≡ Dir spot.number spot.entries → IsDirAt f o names t spot
spot-is f o names t p spot at is =
    let w = spot-walk (inode_on f o 0 names) spot.number spot.entries (walk names t) (sym is ∙ at) in
    record { inside = w.0; there = w.1; number = w.2; count = w.3 }

module _ (f : Form) (o : Table) (p : Names) (t : Tree) (below : is_root p ≡ false) (ends : Ends) (is : IsEnds f o p t ends) where
  pub gone-missing : ends.end ≡ Missing → removal_refusal p t ≡ Some why.NotFound
  gone-missing e = missing-walk (inode_on f o 0 p) (walk p t) (is_root p) (sym e ∙ is.at_end)

  pub gone-blocked : ends.end ≡ Blocked → removal_refusal p t ≡ Some why.NotDir
  gone-blocked e = blocked-walk (inode_on f o 0 p) (walk p t) (is_root p) (sym e ∙ is.at_end)

  pub gone-full : (number size : ℕ) → ends.end ≡ Dir number size → 0 < size → removal_refusal p t ≡ Some why.NotEmpty
  gone-full number size e some = full-walk (inode_on f o 0 p) number size (walk p t) (is_root p) below some (sym e ∙ is.at_end)

  -- the directory that holds it
  abbrev In : ℕ → ℕ → Removal → Type 0
  In number bytes gone = (ends.parent ≡ Dir gone.spot.number gone.spot.entries) × (gone.number ≡ number) × (gone.bytes ≡ bytes)

  stands-in : (number bytes : ℕ) → Stands (inode_on f o 0 p) number bytes (walk p t) (is_root p) → (result : Result Removal Refusal)
      → MatchResult result (In number bytes) (λ r. (r ≡ code.NotDir) × ((dir entries : ℕ) → ends.parent ≢ Dir dir entries))
      → MatchResult result (λ gone. (removal_refusal p t ≡ None) × IsRemoval f o p t gone) (λ r. RefusedAs (refused_of r) (removal_refusal p t))
  stands-in number bytes s result h = MatchResult-weaker result h
      (λ gone g. (
        s.none,
        record {
          spot_is = spot-is f o (parent p) t ends.parent gone.spot is.at_parent g.0;
          number_is = g.1 ∙ s.number_is;
          bytes_are = g.2 ∙ s.bytes_are ∙ ap (λ w. length (bytes_found w)) (sym s.found);
        },
      ))
      (λ r n. let e = has_entry p t s.there below s.found in
      absurd (n.1 (inode_on f o 0 (parent p)) (length (rows e.entries)) (is.at_parent ∙ ap (place_by (inode_on f o 0 (parent p))) e.there)))

  pub gone-file : (number size : ℕ) → ends.end ≡ File number size → (result : Result Removal Refusal)
      → MatchResult result (In number size) (λ r. (r ≡ code.NotDir) × ((dir entries : ℕ) → ends.parent ≢ Dir dir entries))
      → MatchResult result (λ gone. (removal_refusal p t ≡ None) × IsRemoval f o p t gone) (λ r. RefusedAs (refused_of r) (removal_refusal p t))
  gone-file number size e = stands-in number size (file-walk (inode_on f o 0 p) number size (walk p t) (is_root p) below (sym e ∙ is.at_end))

  pub gone-dir : (number size : ℕ) → ends.end ≡ Dir number size → size ≤ 0 → (result : Result Removal Refusal)
      → MatchResult result (In number 0) (λ r. (r ≡ code.NotDir) × ((dir entries : ℕ) → ends.parent ≢ Dir dir entries))
      → MatchResult result (λ gone. (removal_refusal p t ≡ None) × IsRemoval f o p t gone) (λ r. RefusedAs (refused_of r) (removal_refusal p t))
  gone-dir number size e z = stands-in number 0 (dir-walk (inode_on f o 0 p) number size (walk p t) (is_root p) below z (sym e ∙ is.at_end))

-- ---- what no refusal says

-- what stands there is an entry, and no directory with entries
pub record Removable (p : Names) (t : Tree) : Type 0 where
  pub gone : Tree
  pub entry : HasEntry p t gone
  pub empty : is_full_found (Found gone) ≡ false

Some≢None : (r : Why) → Some r ≡ None → ⊥
Some≢None r e = cc

pub removable : (p : Names) (t : Tree) → removal_refusal p t ≡ None → Removable p t
removable p t h = by-walk (walk p t) refl h
  where
    root-not : (b : Bool) (x : Option Why) → or_else (if b then Some why.IsRoot else None) x ≡ None → b ≡ false
    root-not true x e = absurd (Some≢None why.IsRoot e)
    root-not false x e = refl

    full-not : (b full : Bool) → or_else (if b then Some why.IsRoot else None) (if full then Some why.NotEmpty else None) ≡ None → full ≡ false
    full-not true full e = absurd (Some≢None why.IsRoot e)
    full-not false true e = absurd (Some≢None why.NotEmpty e)
    full-not false false e = refl

    by-walk : (w : Walk) → walk p t ≡ w → after (is_root p) w ≡ None → Removable p t
    by-walk (Found v) e h = record { gone = v; entry = has_entry p t v (root-not (is_root p) _ h) e; empty = full-not (is_root p) (is_full_found (Found v)) h }
    by-walk NotFound e h = absurd (Some≢None why.NotFound h)
    by-walk tree.NotDir e h = absurd (Some≢None why.NotDir h)

same-entries : (es fs : Entries) → Found (tree.Dir es) ≡ Found (tree.Dir fs) → es ≡ fs
same-entries es fs e = cc

-- a file or an empty directory is one node, and its bytes say its blocks
one-node : (v : Tree) → is_full_found (Found v) ≡ false → nodes v ≡ 1
one-node (tree.File bytes) e = refl
one-node (tree.Dir Nil) e = refl
one-node (tree.Dir (Entry c t es)) e = absurd (subst T e tt)

its-blocks : (v : Tree) → is_full_found (Found v) ≡ false → blocks form_one v ≡ map_cost (file_blocks (length (bytes_of v)))
its-blocks (tree.File bytes) e = refl
its-blocks (tree.Dir Nil) e = refl
its-blocks (tree.Dir (Entry c t es)) e = absurd (subst T e tt)

-- what its removal needs
pub gone-needs : (f : Form) → f ≡ form_one
    → (mode : ℕ) (lot : LotView) (m : Map) (t : Tree) (k : ℕ) (p : Names) (gone : Removal) (need : Need) → MapRecovers f mode lot m t k
    → IsRemoval f (own f m) p t gone → removal_refusal p t ≡ None
    → need.nodes ≡ 0 → need.lost ≡ 1 → need.blocks ≡ map_cost (dir_blocks f (gone.spot.entries - 1))
    → need.freed ≡ map_cost (dir_blocks f gone.spot.entries) + map_cost (file_blocks gone.bytes) → Needs f t (next_tree (Remove p) t) need
gone-needs f one mode lot m t k p gone need r is none n l b d =
    let g = removable p t none in
    let o : T (is_ordered t) = Reads-ordered f lot (own f m) 0 0 t r.holds.reads in
    let here : is.spot_is.inside ≡ g.entry.entries = same-entries _ _ (sym is.spot_is.there ∙ g.entry.there) in
    let count : gone.spot.entries ≡ length (rows g.entry.entries) = is.spot_is.count ∙ ap (λ es. length (rows es)) here in
    let fewer = length-removed p t g.gone o g.entry in
    let left : gone.spot.entries - 1 ≡ length (rows (without (last_name p) g.entry.entries)) = omega arith in
    let bytes : gone.bytes ≡ length (bytes_of g.gone) = is.bytes_are ∙ ap (λ w. length (bytes_found w)) (entry_walk p t g.gone g.entry) in
    record {
      nodes_move =
          let e = total-removed (λ _. 1) (λ _. 1) p t g.gone o g.entry in
          let x = one-node g.gone g.empty in
          omega arith;
      blocks_move =
          let e = total-removed (λ bytes. map_cost (file_blocks (length bytes))) (λ entries. map_cost (dir_blocks f entries)) p t g.gone o g.entry in
          let x = subst (λ h. blocks h g.gone ≡ map_cost (file_blocks (length (bytes_of g.gone)))) (sym one) (its-blocks g.gone g.empty) in
          let y = ap (λ i. map_cost (dir_blocks f i)) count in
          let z = ap (λ i. map_cost (dir_blocks f i)) left in
          let w = ap (λ i. map_cost (file_blocks i)) bytes in
          omega arith;
    }
