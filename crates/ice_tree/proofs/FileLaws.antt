-- What a change of a file's bytes does to a tree, and what it needs.
use Rattle.std.proofs.Common.{◌≡◌, ◌≤◌, ◌<◌, ◌+◌, ◌^◌, max, ℕ, true, false, cond, List, [], ◌∷◌, length, take, Option, None, Some, refl, sym, ap, subst, ◌∙◌, arith, nat_lt, if◌then◌else◌}
use Rattle.std.specs.FinMap.{find}
use Rattle.std.specs.Ordering.{eq_by_cmp}
use Rattle.std.proofs.lemmas.Bool.Decides.{nat_tests}
use Rattle.std.proofs.lemmas.List.{length-take}
use Rattle.ice_base.specs.Lots.{LotView}
use Rattle.ice_base.specs.Used.{counted, free_count, Reserved}
use Rattle.ice_base.specs.declared.fault.OpFault.{OpFault}
use Rattle.ice_base.specs.declared.fault.OpFault.TheVariants.{Disk, Damaged, NoSpace}
use Rattle.ice_base.specs.declared.fault.Rule.TheVariants.{Counts, Pointer, Bitmap}
use Rattle.ice_map.specs.Faults.{IsGrowFault, IsCutFault}
use Rattle.ice_map.specs.declared.codec.Inode.{Inode}
use Rattle.ice_map.specs.Inodes.{inode_of}
use Rattle.ice_map.specs.Maps.{cut_off, FreeOrTwice, Misleads}
use Rattle.ice_map.specs.Own.{own, file_bytes, blocks_for, WellMade, Confuses}
use Rattle.ice_file.specs.Files.{FileSet, ReachesTo, overwritten}
use Rattle.ice_map.specs.Moves.{uses_of}
use Rattle.ice_file.specs.Writes.{blocks_with}
use Rattle.tree_spec.specs.Why.{Why}
use Rattle.tree_spec.specs.Why as why
use Rattle.tree_spec.specs.Trees.{Tree, File, Dir, Entries, Nil, Entry, rows, by_bytes, walk, and_on, found_or_not, Found, at, over_entry}
use Rattle.tree_spec.specs.Costs.{Form, form_one, blocks, map_cost, file_blocks, dir_blocks}
use Rattle.tree_spec.specs.Operations.{Operation, Write, Trunc}
use Rattle.tree_spec.specs.Answers.{next_tree, refusal, written, bytes_of, bytes_found}
use Rattle.tree_spec.specs.Replies.{Refused}
use Rattle.tree_spec.proofs.Accepted.{WritesFile, accepted-write, CutsFile, accepted-trunc}
use Rattle.tree_spec.proofs.Changes.{total-file}
use Rattle.tree_spec.proofs.Refusals.{blocks-next}
use Rattle.tree_spec.proofs.Writes.{length-written}
use Rattle.ice_reads.specs.Tables.{Map}
use Rattle.ice_reads.specs.Reads.{inode_on}
use Rattle.ice_reads.specs.Recovers.{MapRecovers}
use Rattle.ice_reads.proofs.Focus.{same_Some, Found≢NotFound, same_Found}
use Rattle.ice_steps.specs.Beside.{Beside}
use Rattle.ice_steps.proofs.Costs.{write_counts, write_fits}
use Rattle.ice_steps.proofs.Files.{file_set}
use Rattle.ice_steps.proofs.Needs.{reaches_to, beside_counted, file_uses}
use Rattle.ice_steps.proofs.Recovers.{recovers_beside}
use Rattle.ice_steps.proofs.Walks.{FileAt, walk_file, walk_made}
use Rattle.ice_tree.specs.declared.quota.Need.{Need}
use Rattle.ice_tree.specs.Quotas.{Needs, quota_refusal}
use Rattle.ice_tree.specs.Writes.{TakesAt, reach_refusal}
use Rattle.ice_look.specs.Outcomes.{RefusedAs}
use Rattle.ice_look.specs.Stages.{or_else, paths_refusal, file_refusal}
use Rattle.ice_tree.proofs.Chains.{refusal_write, refusal_trunc}
use Rattle.ice_tree.proofs.SpotLaws.{chained}
use Rattle.ice_look.proofs.LookLaws.{later_stage}
use Rattle.ice_tree.proofs.StageLaws.{refused-now, refused-later}
use Rattle.ice_tree.proofs.WellLaws.{file-confused, file-misled, file-free}

abbrev Names : Type 0
Names = List (List ℕ)

-- ---- the stages

abbrev beyond : Names → ℕ → Tree → Option Why
beyond p at t = if nat_lt (length (bytes_found (walk p t))) at then Some why.BeyondEnd else None

abbrev pub big : Form → ℕ → List ℕ → Option Why
big f at bytes = if nat_lt f.longest_file (at + length bytes) then Some why.FileBig else None

pub write-stages : (t : Tree) (k n : ℕ) (f : Form) (p : Names) (at : ℕ) (bytes : List ℕ)
    → refusal t k n f (Write p at bytes) ≡ or_else (reach_refusal f p at t) (or_else (big f at bytes) (quota_refusal n f k (next_tree (Write p at bytes) t)))
write-stages t k n f p at bytes =
    refusal_write t k n f p at bytes ∙ chained (paths_refusal f (p ∷ [])) (file_refusal (walk p t)) (beyond p at t)
    (or_else (big f at bytes) (quota_refusal n f k (next_tree (Write p at bytes) t)))

pub trunc-stages : (t : Tree) (k n : ℕ) (f : Form) (p : Names) (len : ℕ)
    → refusal t k n f (Trunc p len) ≡ or_else (reach_refusal f p len t) (quota_refusal n f k (next_tree (Trunc p len) t))
trunc-stages t k n f p len =
    refusal_trunc t k n f p len ∙ chained (paths_refusal f (p ∷ [])) (file_refusal (walk p t)) (beyond p len t)
    (quota_refusal n f k (next_tree (Trunc p len) t))

module _ (f : Form) (p : Names) (at : ℕ) (t : Tree) (names : paths_refusal f (p ∷ []) ≡ None) where
  -- the walk refuses
  pub reach-walk : (r : Refused) → RefusedAs r (file_refusal (walk p t)) → RefusedAs r (reach_refusal f p at t)
  reach-walk r h =
      refused-later r (paths_refusal f (p ∷ [])) (or_else (file_refusal (walk p t)) (beyond p at t)) names
      (refused-now r (file_refusal (walk p t)) (beyond p at t) h)

  module _ (bytes : List ℕ) (found : walk p t ≡ Found (File bytes)) where
    past : reach_refusal f p at t ≡ (if nat_lt (length bytes) at then Some why.BeyondEnd else None)
    past =
        later_stage (paths_refusal f (p ∷ [])) (or_else (file_refusal (walk p t)) (beyond p at t)) names
        ∙ ap (λ w. or_else (file_refusal w) (if nat_lt (length (bytes_found w)) at then Some why.BeyondEnd else None)) found

    -- the file ends before
    pub reach-beyond : length bytes < at → reach_refusal f p at t ≡ Some why.BeyondEnd
    reach-beyond h = let test : nat_lt (length bytes) at ≡ true = grind (arith, nat_tests) in past ∙ ap (λ b. if b then Some why.BeyondEnd else None) test

    -- or it reaches so far
    pub reach-none : at ≤ length bytes → reach_refusal f p at t ≡ None
    reach-none h = let test : nat_lt (length bytes) at ≡ false = grind (arith, nat_tests) in past ∙ ap (λ b. if b then Some why.BeyondEnd else None) test

pub is-big : (f : Form) (at end long : ℕ) (bytes : List ℕ) → f ≡ form_one → long ≡ 274432 → end ≡ at + length bytes → long < end
    → big f at bytes ≡ Some why.FileBig
is-big f at end long bytes one l e h =
    let x = ap (λ g. g.longest_file) one in let test : nat_lt f.longest_file (at + length bytes) ≡ true = grind (arith, nat_tests) in
    ap (λ b. if b then Some why.FileBig else None) test

pub not-big : (f : Form) (at end long : ℕ) (bytes : List ℕ) → f ≡ form_one → long ≡ 274432 → end ≡ at + length bytes → end ≤ long → big f at bytes ≡ None
not-big f at end long bytes one l e h =
    let x = ap (λ g. g.longest_file) one in let test : nat_lt f.longest_file (at + length bytes) ≡ false = grind (arith, nat_tests) in
    ap (λ b. if b then Some why.FileBig else None) test

-- ---- what other bytes need

pub set-needs : (f : Form) (p : Names) (g : Tree → List ℕ) (t : Tree) (old : List ℕ) → walk p t ≡ Found (File old) → (b c size new : ℕ)
    → size ≡ length old → new ≡ length (g (File old)) → b ≡ map_cost (file_blocks new) → c ≡ map_cost (file_blocks size)
    → Needs f t (at p (λ u. File (g u)) t) (record { nodes = 0; lost = 0; blocks = b; freed = c })
set-needs f p g t old found b c size new s n more less =
    let v = total-file (λ _. 1) (λ _. 1) p g t old found in
    let u = total-file (λ bytes. map_cost (file_blocks (length bytes))) (λ entries. map_cost (dir_blocks f entries)) p g t old found in
    let x = ap (λ i. map_cost (file_blocks i)) s in
    let y = ap (λ i. map_cost (file_blocks i)) n in
    record { nodes_move = omega arith; blocks_move = omega arith }

pub write-needs : (f : Form) (p : Names) (t : Tree) (old : List ℕ) (off : ℕ) (bytes : List ℕ) → walk p t ≡ Found (File old)
    → off ≤ length old → (size new : ℕ) (need : Need) → size ≡ length old → new ≡ max size (off + length bytes)
    → need ≡ record { nodes = 0; lost = 0; blocks = map_cost (file_blocks new); freed = map_cost (file_blocks size) }
    → Needs f t (next_tree (Write p off bytes) t) need
write-needs f p t old off bytes found within size new need s n is =
    let long = length-written old off bytes within in
    subst (Needs f t (next_tree (Write p off bytes) t)) (sym is)
    (set-needs f p (λ u. written (bytes_of u) off bytes) t old found _ _ size new s (omega arith) refl refl)

pub trunc-needs : (f : Form) (p : Names) (t : Tree) (old : List ℕ) (len : ℕ) → walk p t ≡ Found (File old) → len ≤ length old
    → (size : ℕ) (need : Need) → size ≡ length old
    → need ≡ record { nodes = 0; lost = 0; blocks = map_cost (file_blocks len); freed = map_cost (file_blocks size) }
    → Needs f t (next_tree (Trunc p len) t) need
trunc-needs f p t old len found within size need s is =
    let long = length-take len old in
    subst (Needs f t (next_tree (Trunc p len) t)) (sym is) (set-needs f p (λ u. take len (bytes_of u)) t old found _ _ size len s (omega arith) refl refl)

-- ---- a change of one place, by what it makes of the tree that stands there

over-same : (c : List ℕ) (g h : Tree → Tree) (u : Tree) (es : Entries) → find by_bytes c (rows es) ≡ Some u → g u ≡ h u → over_entry c g es ≡ over_entry c h es
over-same c g h u Nil found same = refl
over-same c g h u (Entry d t es) found same =
    elim (eq_by_cmp by_bytes c d) as (λ b. cond b (Some t) (find by_bytes c (rows es)) ≡ Some u
    → cond b (Entry d (g t) es) (Entry d t (over_entry c g es)) ≡ cond b (Entry d (h t) es) (Entry d t (over_entry c h es))) [
      | true ↦ λ is. let e : t ≡ u = same_Some t u is in ap (λ v. Entry d v es) (ap g e ∙ same ∙ sym (ap h e))
      | false ↦ λ is. ap (λ fs. Entry d t fs) (over-same c g h u es is same)
    ] found

pub at-same : (p : Names) (g h : Tree → Tree) (t s : Tree) → walk p t ≡ Found s → g s ≡ h s → at p g t ≡ at p h t
at-same [] g h t s found same = let e : t ≡ s = same_Found t s found in ap g e ∙ same ∙ sym (ap h e)
at-same (c ∷ p) g h (File bytes) s found same = refl
at-same (c ∷ p) g h (Dir es) s found same =
    elim (find by_bytes c (rows es)) as (λ x. find by_bytes c (rows es) ≡ x → and_on (found_or_not x) (λ u. walk p u) ≡ Found s
    → Dir (over_entry c (λ u. at p g u) es) ≡ Dir (over_entry c (λ u. at p h u) es)) [
      | None ↦ λ e is. absurd (Found≢NotFound _ (sym is))
      | Some u ↦ λ e is. ap (λ fs. Dir fs) (over-same c (λ u. at p g u) (λ u. at p h u) u es e (at-same p g h u s is same))
    ] refl found

-- what was found before a look holds after it
pub takes_at-after : (f : Form) (mode : ℕ) (lot : LotView) (m m' : Map) (t : Tree) (k : ℕ) (p : Names) (op : Operation) (number : ℕ) (node : Inode)
    → m' ≡ m → MapRecovers f mode lot m t k → number ≡ inode_on f (own f m) 0 p → node ≡ inode_of m number
    → refusal t k (length lot.groups) f op ≡ None → TakesAt f mode lot m' t k p op number node
takes_at-after f mode lot m m' t k p op number node same r is node_is none =
    subst (λ (x : Map). TakesAt f mode lot x t k p op number node) (sym same) (record { recovers = r; number_is = is; node_is = node_is; accepted = none })

-- ---- the calls below

write-fails : (e : OpFault) → IsGrowFault e → (e ≡ NoSpace → ⊥) → (e ≡ Damaged Counts → ⊥)
    → (e ≡ Damaged Pointer → ⊥) → (e ≡ Damaged Bitmap → ⊥) → e ≡ Disk
write-fails Disk h n c p b = refl
write-fails NoSpace h n c p b = absurd (n refl)
write-fails (Damaged Counts) h n c p b = absurd (c refl)
write-fails (Damaged Pointer) h n c p b = absurd (p refl)
write-fails (Damaged Bitmap) h n c p b = absurd (b refl)
write-fails _ h n c p b = absurd h

cut-fails : (e : OpFault) → IsCutFault e → (e ≡ Damaged Counts → ⊥) → (e ≡ Damaged Pointer → ⊥) → (e ≡ Damaged Bitmap → ⊥) → e ≡ Disk
cut-fails Disk h c p b = refl
cut-fails (Damaged Counts) h c p b = absurd (c refl)
cut-fails (Damaged Pointer) h c p b = absurd (p refl)
cut-fails (Damaged Bitmap) h c p b = absurd (b refl)
cut-fails _ h c p b = absurd h

-- a file of the tree, at its inode
module _ (mode : ℕ) (lot : LotView) (m : Map) (t : Tree) (k : ℕ) (p : Names) (number : ℕ) (few : length lot.groups ≤ 64)
    (r : MapRecovers form_one mode lot m t k) (is : number ≡ inode_on form_one (own form_one m) 0 p) (old : List ℕ) (found : walk p t ≡ Found (File old)) where
  abbrev here : ℕ
  here = inode_on form_one (own form_one m) 0 p

  file : FileAt m here old
  file = walk_file mode lot m t k r p old found

  whole : Beside form_one mode lot m t k [] []
  whole = recovers_beside form_one mode lot m t k r

  made : WellMade lot form_one m number
  made = subst (WellMade lot form_one m) (sym is) (walk_made mode lot m t k r p few (File old) found)

  reach : (at : ℕ) → at ≤ length old → ReachesTo form_one at (inode_of m number)
  reach at h = subst (λ i. ReachesTo form_one at (inode_of m i)) (sym is) (reaches_to m here at old file h)

  counts : uses_of (blocks_for (inode_of m number).size) ≤ counted false m
  counts = subst (λ i. uses_of (blocks_for (inode_of m i).size) ≤ counted false m) (sym is)
      (let c = beside_counted mode lot m t k [] [] whole p (File old) found in let u = file_uses m here file.kind in omega arith)

  put : (m' : Map) (g : List ℕ → List ℕ) → length (g old) ≤ 274432
      → FileSet lot form_one m m' number (g (file_bytes (own form_one m number))) → MapRecovers form_one mode lot m' (at p (λ u. File (g (bytes_of u))) t) k
  put m' g short set =
      let now : FileSet lot form_one m m' here (g old) = subst (λ bytes. FileSet lot form_one m m' here (g bytes)) file.bytes_are
      (subst (λ i. FileSet lot form_one m m' i (g (file_bytes (own form_one m i)))) is set) in
      subst (λ u. MapRecovers form_one mode lot m' u k) (at-same p (λ s. File (g old)) (λ u. File (g (bytes_of u))) t (File old) found refl)
      (file_set mode lot m m' t k p old (g old) r found now short)

module _ (f : Form) (one : f ≡ form_one) (form : Form) (sized : form ≡ form_one) (mode : ℕ) (lot : LotView) (m : Map) (t : Tree) (k : ℕ)
    (p : Names) (number : ℕ) (node : Inode) (few : length lot.groups ≤ 64) where
  -- bytes are written
  module _ (off : ℕ) (bytes : List ℕ) (x : TakesAt f mode lot m t k p (Write p off bytes) number node) where
    write-takes : TakesAt form_one mode lot m t k p (Write p off bytes) number node
    write-takes = subst (λ g. TakesAt g mode lot m t k p (Write p off bytes) number node) one x

    writes : WritesFile t k (length lot.groups) form_one p off bytes
    writes = accepted-write t k (length lot.groups) form_one p off bytes write-takes.accepted

    long : length (written writes.old off bytes) ≡ max (length writes.old) (off + length bytes)
    long = length-written writes.old off bytes writes.within

    pub write-made : WellMade lot form m number
    write-made =
        subst (λ s. WellMade lot s m number) (sym sized) (made mode lot m t k p number few write-takes.recovers write-takes.number_is writes.old writes.found)

    short : length (written writes.old off bytes) ≤ 274432
    short =
        let d = file mode lot m t k p number few write-takes.recovers write-takes.number_is writes.old writes.found in
        let l = long in let a = d.size in let b = d.within in let c = writes.small in omega arith

    pub write-recovers : (m' : Map) → FileSet lot form m m' number (overwritten (file_bytes (own form m number)) off bytes)
        → MapRecovers f mode lot m' (next_tree (Write p off bytes) t) k
    write-recovers m' set = subst (λ g. MapRecovers g mode lot m' (next_tree (Write p off bytes) t) k) (sym one)
        (put mode lot m t k p number few write-takes.recovers write-takes.number_is writes.old writes.found m' (λ u. written u off bytes) short
        (subst (λ s. FileSet lot s m m' number (overwritten (file_bytes (own s m number)) off bytes)) sized set))

    pub write-sound : (e : OpFault) → IsGrowFault e
        → (e ≡ NoSpace → free_count false lot m + uses_of (blocks_for node.size) < uses_of (blocks_with node.size (off + length bytes)))
        → (e ≡ Damaged Counts → 2 ^ 32 + uses_of (blocks_for node.size) ≤ counted false m + uses_of (blocks_with node.size (off + length bytes)))
        → (e ≡ Damaged Pointer → Confuses lot m node (blocks_for node.size)) → (e ≡ Damaged Bitmap → ¬ Reserved lot m) → e ≡ Disk
    write-sound e h none full pointer unreserved =
        let b = whole mode lot m t k p number few write-takes.recovers write-takes.number_is writes.old writes.found in
        write-fails e h
        (λ q.
        subst (λ i. ¬ (free_count false lot m + uses_of (blocks_for (inode_of m i).size) < uses_of (blocks_with (inode_of m i).size (off + length bytes))))
        (sym write-takes.number_is)
        (write_fits mode lot m t k few [] [] b p writes.old writes.found (written writes.old off bytes) (off + length bytes) long writes.small
        (let l = ap (blocks form_one)
        (at-same p (λ s. File (written writes.old off bytes)) (λ u. File (written (bytes_of u) off bytes)) t (File writes.old) writes.found refl) in
        let q = blocks-next t k (length lot.groups) form_one (Write p off bytes) write-takes.accepted refl in omega arith))
        (subst (λ (i : Inode). free_count false lot m + uses_of (blocks_for i.size) < uses_of (blocks_with i.size (off + length bytes))) x.node_is (none q)))
        (λ q.
        subst (λ i. ¬ (2 ^ 32 + uses_of (blocks_for (inode_of m i).size) ≤ counted false m
        + uses_of (blocks_with (inode_of m i).size (off + length bytes)))) (sym write-takes.number_is)
        (write_counts mode lot m t k few [] [] b p writes.old writes.found (off + length bytes) writes.small)
        (subst (λ (i : Inode). 2 ^ 32 + uses_of (blocks_for i.size) ≤ counted false m + uses_of (blocks_with i.size (off + length bytes))) x.node_is (full q)))
        (λ q. file-confused lot form sized m number off
        (subst (λ (s : Form). ReachesTo s off (inode_of m number)) (sym sized)
        (reach mode lot m t k p number few write-takes.recovers write-takes.number_is writes.old writes.found off writes.within))
        (subst (λ (i : Inode). Confuses lot m i (blocks_for i.size)) x.node_is (pointer q)) write-made)
        (λ q. unreserved q write-takes.recovers.holds.reserved)

  -- the file is cut
  module _ (len : ℕ) (x : TakesAt f mode lot m t k p (Trunc p len) number node) where
    cut-takes : TakesAt form_one mode lot m t k p (Trunc p len) number node
    cut-takes = subst (λ g. TakesAt g mode lot m t k p (Trunc p len) number node) one x

    cuts : CutsFile t k (length lot.groups) form_one p len
    cuts = accepted-trunc t k (length lot.groups) form_one p len cut-takes.accepted

    pub cut-made : WellMade lot form m number
    cut-made = subst (λ s. WellMade lot s m number) (sym sized) (made mode lot m t k p number few cut-takes.recovers cut-takes.number_is cuts.old cuts.found)

    pub cut-recovers : (m' : Map) → FileSet lot form m m' number (take len (file_bytes (own form m number)))
        → MapRecovers f mode lot m' (next_tree (Trunc p len) t) k
    cut-recovers m' set = subst (λ g. MapRecovers g mode lot m' (next_tree (Trunc p len) t) k) (sym one)
        (put mode lot m t k p number few cut-takes.recovers cut-takes.number_is cuts.old cuts.found m' (λ u. take len u)
        (let d = file mode lot m t k p number few cut-takes.recovers cut-takes.number_is cuts.old cuts.found in
        let l = length-take len cuts.old in let a = d.size in let b = d.within in omega arith)
        (subst (λ s. FileSet lot s m m' number (take len (file_bytes (own s m number)))) sized set))

    cut-reach : ReachesTo form len (inode_of m number)
    cut-reach = subst (λ (s : Form). ReachesTo s len (inode_of m number)) (sym sized)
        (reach mode lot m t k p number few cut-takes.recovers cut-takes.number_is cuts.old cuts.found len cuts.within)

    pub cut-sound : (e : OpFault) → IsCutFault e → (e ≡ Damaged Counts → counted false m < uses_of (blocks_for node.size))
        → (e ≡ Damaged Pointer → Misleads lot m node (blocks_for node.size))
        → (e ≡ Damaged Bitmap → FreeOrTwice m (cut_off m node (blocks_for node.size) (blocks_for len))) → e ≡ Disk
    cut-sound e h zero pointer unused = cut-fails e h
        (λ q. let n = subst (λ (i : Inode). counted false m < uses_of (blocks_for i.size)) x.node_is (zero q) in let u = counts mode lot m t k p number few cut-takes.recovers cut-takes.number_is cuts.old cuts.found in omega arith)
        (λ q. file-misled lot form sized m number len cut-reach (subst (λ (i : Inode). Misleads lot m i (blocks_for i.size)) x.node_is (pointer q)) cut-made)
        (λ q. file-free lot form sized m number len cut-reach (subst (λ (i : Inode). FreeOrTwice m (cut_off m i (blocks_for i.size) (blocks_for len))) x.node_is (unused q)) cut-made)
