-- What a lot recovers is one tree, in version 1; what a check and a mount find of it.
use Rattle.std.proofs.Common.{◌≡◌, ◌∙◌, ◌==◌, nat_lt, ℕ, Bool, true, false, List, slice_index, Option, Some, None, Result, Ok, Err, refl, sym, ap, subst, arith}
use Rattle.std.specs.Prelude.{if◌then◌else◌, not, unwrap_or, ◌^◌, IfOk, IfErr, IsErr}
use Rattle.std.proofs.lemmas.Bool.Decides.{nat_tests}
use Rattle.ice_base.specs.Disk.{Image}
use Rattle.ice_base.specs.Fields.{long_at, word_at}
use Rattle.ice_base.specs.Lots.{LotView, sub_address}
use Rattle.ice_base.specs.declared.fault.Rule.{Rule}
use Rattle.ice_base.specs.declared.fault.Rule.TheVariants as rule
use Rattle.tree_spec.specs.Costs.{Form, form_of, form_one}
use Rattle.tree_spec.specs.Records.{Mode, Plain, Strict}
use Rattle.tree_spec.specs.Trees.{Tree}
use Rattle.ice_layout.specs.Subs.{sub_magic, sub_of, sub_rule}
use Rattle.ice_tables.specs.Journals.{effective_of}
use Rattle.ice_reads.specs.Recovers.{MapRecovers}
use Rattle.ice_reads.proofs.Recovering.{recovers_one}
use Rattle.ice_rules.specs.Rules.{LotMayName, form_in}
use Rattle.ice_check.specs.Shown.{IsDisk, LotNamed, Sums}
use Rattle.ice_check.specs.declared.fault.CheckFault.{CheckFault}
use Rattle.ice_check.specs.declared.fault.CheckFault.TheVariants as check
use Rattle.ice_check.specs.declared.fault.Summary.{Summary}
use Rattle.ice_images.specs.Recovering.{mode_byte, Recovers, RecoversNothing}
use Rattle.ice_volume.specs.Lines.{RecoversOf}

-- ---- a sub-super block that breaks no rule has version 1 and mode 0

tests_pass : (a b c d e : Bool) (v w x y z : Rule)
    → (if not a then Some v else if not b then Some w else if not c then Some x else if not d then Some y else if not e then Some z else None) ≡ None
    → (b ≡ true) × (d ≡ true)
tests_pass true true true true e v w x y z h = (refl, refl)
tests_pass true true true false e v w x y z h = absurd (cc h)
tests_pass true true false d e v w x y z h = absurd (cc h)
tests_pass true false c d e v w x y z h = absurd (cc h)
tests_pass false b c d e v w x y z h = absurd (cc h)

sub_first : (slot : ℕ) (bytes : List ℕ) → sub_rule slot bytes ≡ None → ((sub_of bytes).version ≡ 1) × ((sub_of bytes).mode ≡ 0)
unfolding sub_rule
sub_first slot bytes sound =
    let t = tests_pass (word_at bytes 0 == sub_magic) (word_at bytes 4 == 1) (slice_index bytes 8 == slot) (slice_index bytes 9 == 0)
    (nat_lt (long_at bytes 16) (2 ^ 63)) rule.Magic rule.Version rule.Slot rule.Mode rule.Done sound in
    (let is = t.0 in grind (arith, nat_tests), let is = t.1 in grind (arith, nat_tests))

mode_zero : (m : Mode) → mode_byte m ≡ 0 → m ≡ Plain
mode_zero Plain e = refl
mode_zero Strict e = absurd (omega (arith, e))

form_first : (f : Form) → f ≡ form_of f.version → f.version ≡ 1 → f ≡ form_one
form_first f form first = form ∙ ap form_of first

-- what a lot recovers has version 1 and no strict mode
pub recovers_first : (lot : LotView) (i : Image) (f : Form) (m : Mode) (t : Tree) (k : ℕ) → Recovers lot i f m t k → (f ≡ form_one) × (m ≡ Plain)
recovers_first lot i f m t k r =
    let sub = r.recovers.sub in
    let first = sub_first lot.slot (r.blocks sub_address) sub.sound in
    (form_first f r.form (sym sub.version ∙ first.0), mode_zero m (sym sub.mode ∙ first.1))

-- two recoveries have one tree and one count
pub recovers_alike : (lot : LotView) (i : Image) (f g : Form) (m n : Mode) (t u : Tree) (k j : ℕ) → Recovers lot i f m t k
    → Recovers lot i g n u j → (f ≡ g) × (t ≡ u) × (k ≡ j)
recovers_alike lot i f g m n t u k j a b =
    let same : b.blocks ≡ a.blocks = sym (ap (λ o. unwrap_or o a.blocks) (sym a.effective ∙ b.effective)) in
    let there : MapRecovers g (mode_byte n) lot a.blocks u j = subst (λ (x : ℕ → List ℕ). MapRecovers g (mode_byte n) lot x u j) same b.recovers in
    let form : f ≡ g = (recovers_first lot i f m t k a).0 ∙ sym (recovers_first lot i g n u j b).0 in
    let here : MapRecovers f (mode_byte n) lot a.blocks u j = subst (λ x. MapRecovers x (mode_byte n) lot a.blocks u j) (sym form) there in
    let one = recovers_one f (mode_byte m) (mode_byte n) lot a.blocks t u k j a.recovers here in
    (form, one.0, one.1)

-- ---- what a check of a lot finds

-- the tree that a summary was made of
sums_of : (lot : LotView) (i : Image) (m : ℕ → List ℕ) (s : Summary) → effective_of lot i ≡ Some m → Sums lot m s → RecoversOf lot i s.blocks s.nodes s.done
sums_of lot i m s effective sums =
    let sub = sums.recovers.sub in
    let first = sub_first lot.slot (m sub_address) sub.sound in
    record {
      form = form_in m;
      mode = Plain;
      tree = sums.tree;
      recovers = record {
        form = ap form_of sub.version;
        blocks = m;
        effective = effective;
        recovers = subst (λ (n : ℕ). MapRecovers (form_in m) n lot m sums.tree s.done) (sym sub.mode ∙ first.1) sums.recovers;
      };
      cost_is = sums.blocks_are;
      nodes_are = sums.nodes_are;
    }

module _ (lot : LotView) (i : Image) (r : Result Summary CheckFault)
    (recovers : (m : ℕ → List ℕ) → effective_of lot i ≡ Some m → IfOk r (Sums lot m)) (refused : effective_of lot i ≡ None → IsErr r)
    (exact : (f : Form) (mode k : ℕ) (t : Tree) (m : ℕ → List ℕ) → f ≡ form_of f.version → effective_of lot i ≡ Some m → MapRecovers f mode lot m t k → IfErr r IsDisk)
    (named : IfErr r (LotNamed lot (effective_of lot i))) where
  -- an Ok of it shows a tree
  pub check_some : (s : Summary) → r ≡ Ok s → RecoversOf lot i s.blocks s.nodes s.done
  check_some s is = by (effective_of lot i) refl
    where
      by : (o : Option (ℕ → List ℕ)) → effective_of lot i ≡ o → RecoversOf lot i s.blocks s.nodes s.done
      by (Some m) e = sums_of lot i m s e (subst (λ q. IfOk q (Sums lot m)) is (recovers m e))
      by None e = let never : false ≡ true = subst (λ q. IsErr q) is (refused e) in absurd (cc never)

  -- damage of it is there
  pub check_none : (x : Rule) → r ≡ Err (check.Damaged x) → RecoversNothing lot i × LotMayName lot (effective_of lot i) x
  check_none x is = (
    λ f mode t k v. subst (λ q. IfErr q IsDisk) is (exact f (mode_byte mode) k t v.blocks v.form v.effective v.recovers),
    subst (λ q. IfErr q (LotNamed lot (effective_of lot i))) is named,
  )
