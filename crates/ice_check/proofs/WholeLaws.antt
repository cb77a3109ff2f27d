-- What a whole check says of the sub-super block and the tree.
use Rattle.std.proofs.Common.{◌≡◌, ℕ, suc, zero, ◌≤◌, Bool, true, false, List, length, Some, None, sym, refl, ap, ◌∙◌, subst, arith}
use Rattle.std.specs.Prelude.{replicate, not, ◌==◌, if◌then◌else◌, nat_lt, slice_index, ◌^◌}
use Rattle.std.proofs.lemmas.Bool.Decides.{nat_tests}
use Rattle.ice_base.specs.Fields.{word_at, long_at}
use Rattle.ice_base.specs.Lots.{LotView, sub_address}
use Rattle.ice_base.specs.Used.{counted}
use Rattle.ice_base.specs.declared.fault.Rule.{Rule}
use Rattle.ice_base.specs.declared.fault.Rule.TheVariants as rule
use Rattle.ice_layout.specs.Subs.{sub_rule, IsSub, sub_magic}
use Rattle.ice_layout.specs.declared.sub.SubSuper.{SubSuper}
use Rattle.tree_spec.specs.Trees.{Tree}
use Rattle.tree_spec.specs.Costs.{Form, form_one, form_of, blocks}
use Rattle.ice_reads.specs.Tables.{Map}
use Rattle.ice_map.specs.Own.{own}
use Rattle.ice_reads.specs.Recovers.{MapRecovers}
use Rattle.ice_reads.proofs.Focus.{same_Some}
use Rattle.ice_rules.specs.Rules.{Breaks, MayName, form_in}
use Rattle.ice_rules.proofs.Soundness.{named_recovers_nothing}
use Rattle.ice_steps.proofs.Lengths.{length-blocks, length-inodes}
use Rattle.ice_check.specs.Marks.{Unmarked}
use Rattle.ice_check.specs.declared.fault.CheckFault.{CheckFault}
use Rattle.ice_check.specs.declared.fault.CheckFault.TheVariants as check
use Rattle.ice_check.specs.Shown.{Named, Broke, Sums, HoldsSome, IsDisk, IsCheckFault}

-- ---- no mark

pub unmarked_all : (n : ℕ) → Unmarked (replicate n false)
unmarked_all zero k = refl
unmarked_all (suc n) zero = refl
unmarked_all (suc n) (suc k) = unmarked_all n k

-- ---- the sub-super block

none_some : {A : Type 0} (r : Rule) → None ≡ Some r → A
none_some r e = absurd (cc)

five : (a b c d e : Bool) (r : Rule)
    → (if not a then Some rule.Magic else if not b then Some rule.Version else if not c then Some rule.Slot else if not d then Some rule.Mode else if not e then Some rule.Done else None) ≡ Some r
    → IsCheckFault (check.Damaged r)
five false b c d e r h = subst (λ x. IsCheckFault (check.Damaged x)) (same_Some rule.Magic r h) tt
five true false c d e r h = subst (λ x. IsCheckFault (check.Damaged x)) (same_Some rule.Version r h) tt
five true true false d e r h = subst (λ x. IsCheckFault (check.Damaged x)) (same_Some rule.Slot r h) tt
five true true true false e r h = subst (λ x. IsCheckFault (check.Damaged x)) (same_Some rule.Mode r h) tt
five true true true true false r h = subst (λ x. IsCheckFault (check.Damaged x)) (same_Some rule.Done r h) tt
five true true true true true r h = none_some r h

pub sub_fault : (slot : ℕ) (bytes : List ℕ) (r : Rule) → sub_rule slot bytes ≡ Some r → IsCheckFault (check.Damaged r)
unfolding sub_rule
sub_fault slot bytes r h =
    five (word_at bytes 0 == sub_magic) (word_at bytes 4 == 1) (slice_index bytes 8 == slot) (slice_index bytes 9 == 0) (nat_lt (long_at bytes 16) (2 ^ 63)) r h

pub sub_named : (lot : LotView) (m : Map) (r : Rule) → sub_rule lot.slot (m sub_address) ≡ Some r → MayName (form_in m) lot m r
sub_named lot m r h = rw h refl

-- a sub-super block that breaks no rule says version 1
version_one : (a b c d e : Bool)
    → (if not a then Some rule.Magic else if not b then Some rule.Version else if not c then Some rule.Slot else if not d then Some rule.Mode else if not e then Some rule.Done else None) ≡ None
    → b ≡ true
version_one false b c d e h = absurd (cc)
version_one true true c d e h = refl
version_one true false c d e h = absurd (cc)

version-test : (slot : ℕ) (bytes : List ℕ) → sub_rule slot bytes ≡ None → (word_at bytes 4 == 1) ≡ true
unfolding sub_rule
version-test slot bytes h =
    version_one (word_at bytes 0 == sub_magic) (word_at bytes 4 == 1) (slice_index bytes 8 == slot) (slice_index bytes 9 == 0)
    (nat_lt (long_at bytes 16) (2 ^ 63)) h

module _ (lot : LotView) (few : length lot.groups ≤ 64) (m : Map) (sub : SubSuper) (is : IsSub lot.slot sub (m sub_address)) where
  one : word_at (m sub_address) 4 ≡ 1
  one = let t = version-test lot.slot (m sub_address) is.sound in grind (arith, nat_tests)

  pub form-one : form_in m ≡ form_one
  form-one = ap form_of one

  pub blocks-counted : counted false m ≡ sub.blocks
  blocks-counted = ap (λ (s : SubSuper). s.blocks) is.value

  pub nodes-counted : counted true m ≡ sub.nodes
  nodes-counted = ap (λ (s : SubSuper). s.nodes) is.value

  pub broke_named : (e : CheckFault) → Broke lot m e → Named lot m e
  broke_named check.Disk h = tt
  broke_named (check.Damaged r) h = rw is.sound (subst (λ f. Breaks f lot m r) (sym form-one) h)

  pub sums_here : HoldsSome lot m → Sums lot m (record { blocks = sub.blocks; nodes = sub.nodes; done = sub.done })
  sums_here h = record {
    tree = h.tree;
    mode = sub.mode;
    recovers = subst (λ f. MapRecovers f sub.mode lot m h.tree sub.done) (sym form-one) (record {
      sub = record { sound = is.sound; version = one; mode = ap (λ (s : SubSuper). s.mode) is.value; done = ap (λ (s : SubSuper). s.done) is.value };
      holds = h.holds;
    });
    blocks_are = sym blocks-counted ∙ h.holds.block_count ∙ length-blocks lot few m 0 0 h.tree h.holds.reads ∙ ap (λ f. blocks f h.tree) (sym form-one);
    nodes_are = sym nodes-counted ∙ h.holds.inode_count ∙ length-inodes form_one (own form_one m) 0 h.tree;
  }

-- what may be named of blocks that recover a tree
pub named_none : (lot : LotView) (m : Map) (e : CheckFault) (f : Form) (mode k : ℕ) (t : Tree) → f ≡ form_of f.version → Named lot m e
    → MapRecovers f mode lot m t k → IsDisk e
named_none lot m check.Disk f mode k t is h r = tt
named_none lot m (check.Damaged rule) f mode k t is h r = absurd (named_recovers_nothing f lot m rule mode t k is h r)
