-- What a call that changes nothing answers, stage by stage.
use Rattle.std.proofs.Common.{◌≡◌, ℕ, ◌+◌, ◌-◌, ◌*◌, ◌<◌, ◌≤◌, true, false, List, [], ◌∷◌, length, map, take, drop, Some, None, Option, Ok, Err, sym, refl, ap, ◌∙◌, subst, arith}
use Rattle.std.specs.Prelude.{nat_lt, if◌then◌else◌}
use Rattle.ice_base.specs.declared.fault.OpFault.{OpFault}
use Rattle.ice_base.specs.declared.fault.OpFault.TheVariants.{Disk, Damaged}
use Rattle.ice_base.specs.declared.fault.Rule.TheVariants.{Kind, Pointer}
use Rattle.ice_base.specs.Lots.{LotView}
use Rattle.ice_map.specs.declared.codec.Inode.{Inode}
use Rattle.ice_map.specs.Inodes.{inode_of}
use Rattle.ice_map.specs.Maps.{leads}
use Rattle.ice_map.specs.Own.{own, file_bytes, map_length, blocks_for}
use Rattle.ice_file.specs.Files.{ReachesTo, IsReadFault}
use Rattle.std.proofs.lemmas.Bool.Decides.{nat_tests}
use Rattle.std.proofs.lemmas.Nat.{div-add-mod', mod_below}
use Rattle.tree_spec.specs.Why.{Why}
use Rattle.tree_spec.specs.Why as why
use Rattle.tree_spec.specs.Replies.{Response, Accepted, Refused, Bytes, Listed, Because, Fault, Memory, refused_of}
use Rattle.tree_spec.specs.declared.reply.Entry.{Entry}
use Rattle.tree_spec.specs.declared.reply.CubeRow.{CubeRow}
use Rattle.tree_spec.specs.declared.reply.Refusal.{Refusal}
use Rattle.tree_spec.specs.Operations.{Operation, Read, Stat, ListDir}
use Rattle.tree_spec.specs.Costs.{Form, form_one}
use Rattle.tree_spec.specs.Trees.{Tree, Entries, rows, Walk, Found, NotFound, NotDir, walk}
use Rattle.tree_spec.specs.Trees as tree
use Rattle.tree_spec.specs.Answers.{refusal, answer, answer_by, accepted_value, bytes_found, tree_found, stat_value, listed, list_value}
use Rattle.ice_look.specs.Outcomes.{AsModel, RefusedAs, refusal_by}
use Rattle.ice_reads.specs.Tables.{Table, Map}
use Rattle.ice_reads.specs.Reads.{Reads}
use Rattle.ice_look.specs.Places.{place_by, place_at}
use Rattle.ice_look.proofs.Names.{names-all}
use Rattle.ice_look.proofs.Chains.{refusal_read, refusal_stat, refusal_list}
use Rattle.ice_look.proofs.PlaceLaws.{inode-own, length-file_bytes, places-lead, places-own, true_false}
use Rattle.ice_look.specs.Stages.{or_else, paths_refusal, walk_refusal, file_refusal, dir_refusal}
use Rattle.ice_look.specs.declared.place.Place.{Place}
use Rattle.ice_look.specs.declared.place.Place.TheVariants.{File, Dir, Missing, Blocked}

-- ---- the walk that ends at a place

-- a walk to inode i found a file, and n and s are that inode and its bytes
abbrev pub EndsAtFile : ℕ → ℕ → ℕ → Walk → Type 0
EndsAtFile i n s w = (bytes : List ℕ) × (w ≡ Found (tree.File bytes)) × (n ≡ i) × (s ≡ length bytes)

-- the place of a file is where a walk found one
pub ends_file : (i n s : ℕ) (w : Walk) → File n s ≡ place_by i w → EndsAtFile i n s w
ends_file i n s (Found (tree.File bytes)) is = (bytes, refl, number is, size is)
  where
    number : File n s ≡ File i (length bytes) → n ≡ i
    number is = cc

    size : File n s ≡ File i (length bytes) → s ≡ length bytes
    size is = cc
ends_file i n s (Found (tree.Dir es)) is = absurd (no is)
  where
    no : File n s ≡ Dir i (length (rows es)) → ⊥
    no is = cc
ends_file i n s NotFound is = absurd (no is)
  where
    no : File n s ≡ Missing → ⊥
    no is = cc
ends_file i n s NotDir is = absurd (no is)
  where
    no : File n s ≡ Blocked → ⊥
    no is = cc

-- a walk to inode i found a directory, and n and s are that inode and its entries
abbrev pub EndsAtDir : ℕ → ℕ → ℕ → Walk → Type 0
EndsAtDir i n s w = (es : Entries) × (w ≡ Found (tree.Dir es)) × (n ≡ i) × (s ≡ length (rows es))

-- that of a directory is where a walk found one
pub ends_dir : (i n s : ℕ) (w : Walk) → Dir n s ≡ place_by i w → EndsAtDir i n s w
ends_dir i n s (Found (tree.Dir es)) is = (es, refl, number is, size is)
  where
    number : Dir n s ≡ Dir i (length (rows es)) → n ≡ i
    number is = cc

    size : Dir n s ≡ Dir i (length (rows es)) → s ≡ length (rows es)
    size is = cc
ends_dir i n s (Found (tree.File bytes)) is = absurd (no is)
  where
    no : Dir n s ≡ File i (length bytes) → ⊥
    no is = cc
ends_dir i n s NotFound is = absurd (no is)
  where
    no : Dir n s ≡ Missing → ⊥
    no is = cc
ends_dir i n s NotDir is = absurd (no is)
  where
    no : Dir n s ≡ Blocked → ⊥
    no is = cc

-- nothing is there where a walk found nothing
pub ends_missing : (i : ℕ) (w : Walk) → Missing ≡ place_by i w → w ≡ NotFound
ends_missing i (Found (tree.File bytes)) is = absurd (no is)
  where
    no : Missing ≡ File i (length bytes) → ⊥
    no is = cc
ends_missing i (Found (tree.Dir es)) is = absurd (no is)
  where
    no : Missing ≡ Dir i (length (rows es)) → ⊥
    no is = cc
ends_missing i NotFound is = refl
ends_missing i NotDir is = absurd (no is)
  where
    no : Missing ≡ Blocked → ⊥
    no is = cc

-- and the way is blocked where a walk met a file with a name left
pub ends_blocked : (i : ℕ) (w : Walk) → Blocked ≡ place_by i w → w ≡ NotDir
ends_blocked i (Found (tree.File bytes)) is = absurd (no is)
  where
    no : Blocked ≡ File i (length bytes) → ⊥
    no is = cc
ends_blocked i (Found (tree.Dir es)) is = absurd (no is)
  where
    no : Blocked ≡ Dir i (length (rows es)) → ⊥
    no is = cc
ends_blocked i NotFound is = absurd (no is)
  where
    no : Blocked ≡ Missing → ⊥
    no is = cc
ends_blocked i NotDir is = refl

-- the place of all the names from `depth` on
pub whole_path : (f : Form) (o : Table) (path : List (List ℕ)) (depth end : ℕ) (t : Tree) (p q : Place) → end ≡ length path → p ≡ q
    → p ≡ place_at f o (take (end - depth) (drop depth path)) t → q ≡ place_at f o (drop depth path) t
whole_path f o path depth end t p q all same is = sym same ∙ is ∙ ap (λ names. place_at f o names t) (names-all path depth end all)

-- ---- refusals

-- a fault of the disk is any refusal
pub fault_as : (r : Refusal) (e : OpFault) (found : Option Why) → r ≡ refusal_by e → e ≡ Disk → RefusedAs (refused_of r) found
fault_as r e found is disk = subst (λ x. RefusedAs (refused_of x) found) (sym (is ∙ ap refusal_by disk)) tt

-- and any reply
pub fault_model : (r : Refusal) (e : OpFault) (model : Response) → r ≡ refusal_by e → e ≡ Disk → AsModel (Err (refused_of r)) model
fault_model r e model is disk = subst (λ x. AsModel (Err (refused_of x)) model) (sym (is ∙ ap refusal_by disk)) tt

module _ (t : Tree) (k n : ℕ) (f : Form) (op : Operation) where
  -- the refusal of a stage is the model's, where it is the model's first
  pub as_model : (r : Refused) (found : Option Why) → RefusedAs r found → ((w : Why) → found ≡ Some w → refusal t k n f op ≡ Some w)
      → AsModel (Err r) (answer t k n f op).0
  as_model Fault found is first = tt
  as_model Memory found is first = absurd is
  as_model (Because w) found is first = sym (ap (λ x. (answer_by x op t).0) (first w is))

  -- what no stage refuses is accepted with the model's value
  pub as_accepted : refusal t k n f op ≡ None → Ok (accepted_value op t) ≡ (answer t k n f op).0
  as_accepted h = sym (ap (λ x. (answer_by x op t).0) h)

-- the first stage that refuses
pub first_stage : (a b : Option Why) (w : Why) → a ≡ Some w → or_else a b ≡ Some w
first_stage a b w h = ap (λ x. or_else x b) h

-- where the first stage refuses nothing, the second decides
pub later_stage : (a b : Option Why) → a ≡ None → or_else a b ≡ b
later_stage a b h = ap (λ x. or_else x b) h

-- ---- what a file or a directory holds

-- a read of a file that reaches so far, and whose pointers lead to data places, fails by the disk alone
reading-fails : (e : OpFault) → IsReadFault e → (e ≡ Damaged Kind → ⊥) → (e ≡ Damaged Pointer → ⊥) → e ≡ Disk
reading-fails Disk h k p = refl
reading-fails (Damaged Kind) h k p = absurd (k refl)
reading-fails (Damaged Pointer) h k p = absurd (p refl)
reading-fails _ h k p = absurd h

blocks-of-file : (x : Inode) (k : ℕ) → x.kind ≡ 1 → 1024 * k < x.size → k < map_length form_one x
blocks-of-file x k kind h =
    let q = div-add-mod' (x.size + 1023) 1024 in
    let d = mod_below (x.size + 1023) 1024 (omega arith) in
    let small : k < blocks_for x.size = omega (arith, q, d) in
    rw kind small

module _ (f : Form) (one : f ≡ form_one) (lot : LotView) (m : Map) (i h : ℕ) (bytes : List ℕ) (r : Reads f lot (own f m) i h (tree.File bytes)) where
  pub file-bytes : (form : Form) → form ≡ form_one → file_bytes (own form m i) ≡ bytes
  file-bytes form e = ap (λ x. file_bytes (own x m i)) e ∙ ap (λ g. file_bytes (own g m i)) (sym one) ∙ r.1.bytes_are

  file-reaches : (at : ℕ) → at ≤ length bytes → ReachesTo f at (inode_of m i)
  file-reaches at below =
      let size = inode-own f one lot m i h in
      record {
        kind = ap (λ (x : Inode). x.kind) (sym size) ∙ r.1.is_file;
        small = omega (arith, r.1.within, ap (λ (x : Inode). x.size) size);
        reaches = omega (arith, below, ap length r.1.bytes_are, length-file_bytes (own f m i), ap (λ (x : Inode). x.size) size);
      }

  pub read-fails : (at : ℕ) → at ≤ length bytes → (e : OpFault) → IsReadFault e → (e ≡ Damaged Kind → ReachesTo f at (inode_of m i) → ⊥)
      → (e ≡ Damaged Pointer → (k : ℕ) × (1024 * k < (inode_of m i).size) × (leads lot m (inode_of m i) k ≡ false)) → e ≡ Disk
  read-fails at below e faults kind pointer =
      reading-fails e faults (λ q. kind q (file-reaches at below))
      (λ q. let p = pointer q in
      true_false (leads lot m (inode_of m i) p.0)
      (places-lead lot m (inode_of m i) (map_length form_one (inode_of m i)) p.0 (places-own f one lot m i h (tree.File bytes) r)
      (blocks-of-file (inode_of m i) p.0 (file-reaches at below).kind p.1)) p.2)

-- ---- reads

module _ (t : Tree) (k n : ℕ) (f : Form) (p : List (List ℕ)) (at len : ℕ) where
  abbrev op : Operation
  op = Read p at len

  abbrev after : Option Why
  after = if nat_lt (length (bytes_found (walk p t))) at then Some why.BeyondEnd else None

  pub read-paths : (r : Refused) → RefusedAs r (paths_refusal f (p ∷ [])) → AsModel (Err r) (answer t k n f (Read p at len)).0
  read-paths r is =
      as_model t k n f op r (paths_refusal f (p ∷ [])) is
      (λ w h. refusal_read t k n f p at len ∙ first_stage (paths_refusal f (p ∷ [])) (or_else (file_refusal (walk p t)) after) w h)

  module _ (names : paths_refusal f (p ∷ []) ≡ None) where
    pub read-walk : (r : Refused) → RefusedAs r (file_refusal (walk p t)) → AsModel (Err r) (answer t k n f (Read p at len)).0
    read-walk r is =
        as_model t k n f op r (file_refusal (walk p t)) is
        (λ w h. refusal_read t k n f p at len ∙ later_stage (paths_refusal f (p ∷ [])) (or_else (file_refusal (walk p t)) after) names
        ∙ first_stage (file_refusal (walk p t)) after w h)

    module _ (bytes : List ℕ) (found : walk p t ≡ Found (tree.File bytes)) where
      past : refusal t k n f (Read p at len) ≡ (if nat_lt (length bytes) at then Some why.BeyondEnd else None)
      past =
          refusal_read t k n f p at len ∙ later_stage (paths_refusal f (p ∷ [])) (or_else (file_refusal (walk p t)) after) names
          ∙ ap (λ w. or_else (file_refusal w) (if nat_lt (length (bytes_found w)) at then Some why.BeyondEnd else None)) found

      pub read-beyond : length bytes < at → Err (Because why.BeyondEnd) ≡ (answer t k n f (Read p at len)).0
      read-beyond h =
          let test : nat_lt (length bytes) at ≡ true = grind (arith, nat_tests) in
          as_model t k n f op (Because why.BeyondEnd) (Some why.BeyondEnd) refl (λ w e. past ∙ ap (λ b. if b then Some why.BeyondEnd else None) test ∙ e)

      pub read-value : at ≤ length bytes → (room : List ℕ) → room ≡ take len (drop at bytes) → Ok (Bytes room) ≡ (answer t k n f (Read p at len)).0
      read-value h room is =
          let test : nat_lt (length bytes) at ≡ false = grind (arith, nat_tests) in
          ap (λ x. Ok (Bytes x)) (is ∙ ap (λ w. take len (drop at (bytes_found w))) (sym found))
          ∙ as_accepted t k n f op (past ∙ ap (λ b. if b then Some why.BeyondEnd else None) test)

-- ---- stats

module _ (t : Tree) (k n : ℕ) (f : Form) (p : List (List ℕ)) where
  pub stat-paths : (r : Refused) → RefusedAs r (paths_refusal f (p ∷ [])) → AsModel (Err r) (answer t k n f (Stat p)).0
  stat-paths r is =
      as_model t k n f (Stat p) r (paths_refusal f (p ∷ [])) is
      (λ w h. refusal_stat t k n f p ∙ first_stage (paths_refusal f (p ∷ [])) (walk_refusal (walk p t)) w h)

  module _ (names : paths_refusal f (p ∷ []) ≡ None) (w : Walk) (ends : walk p t ≡ w) where
    stat-stage : refusal t k n f (Stat p) ≡ walk_refusal w
    stat-stage = refusal_stat t k n f p ∙ later_stage (paths_refusal f (p ∷ [])) (walk_refusal (walk p t)) names ∙ ap walk_refusal ends

    pub stat-none : (r : Why) → walk_refusal w ≡ Some r → Err (Because r) ≡ (answer t k n f (Stat p)).0
    stat-none r is = as_model t k n f (Stat p) (Because r) (walk_refusal w) is (λ v h. stat-stage ∙ h)

    pub stat-value : (u : Tree) → w ≡ Found u → (value : Accepted) → value ≡ stat_value u → Ok value ≡ (answer t k n f (Stat p)).0
    stat-value u is value same =
        ap (λ x. Ok x) (same ∙ ap (λ v. stat_value (tree_found v)) (sym (ends ∙ is))) ∙ as_accepted t k n f (Stat p) (stat-stage ∙ ap walk_refusal is)

-- ---- listings

module _ (t : Tree) (k n : ℕ) (f : Form) (p : List (List ℕ)) where
  pub list-paths : (r : Refused) → RefusedAs r (paths_refusal f (p ∷ [])) → AsModel (Err r) (answer t k n f (ListDir p)).0
  list-paths r is =
      as_model t k n f (ListDir p) r (paths_refusal f (p ∷ [])) is
      (λ w h. refusal_list t k n f p ∙ first_stage (paths_refusal f (p ∷ [])) (dir_refusal (walk p t)) w h)

  module _ (names : paths_refusal f (p ∷ []) ≡ None) where
    list-stage : refusal t k n f (ListDir p) ≡ dir_refusal (walk p t)
    list-stage = refusal_list t k n f p ∙ later_stage (paths_refusal f (p ∷ [])) (dir_refusal (walk p t)) names

    pub list-walk : (r : Refused) → RefusedAs r (dir_refusal (walk p t)) → AsModel (Err r) (answer t k n f (ListDir p)).0
    list-walk r is = as_model t k n f (ListDir p) r (dir_refusal (walk p t)) is (λ w h. list-stage ∙ h)

    pub list-value : (es : Entries) → walk p t ≡ Found (tree.Dir es) → (entries : List Entry) (cubes : List CubeRow)
        → entries ≡ map listed (rows es) → cubes ≡ [] → Ok (Listed entries cubes) ≡ (answer t k n f (ListDir p)).0
    list-value es found entries cubes same none =
        (λ i. Ok (Listed (same i) (none i))) ∙ ap (λ w. Ok (list_value (tree_found w))) (sym found)
        ∙ as_accepted t k n f (ListDir p) (list-stage ∙ ap dir_refusal found)
