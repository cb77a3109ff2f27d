-- What a comparison of the bitmaps with the marks says of the whole lot.
use Rattle.std.proofs.Common.{◌≡◌, ℕ, ◌+◌, ◌*◌, ◌/◌, ◌%◌, Bool, true, false, List, length, sym, refl, ap, ◌∙◌, arith, inl, inr}
use Rattle.std.proofs.lemmas.Nat.{div-add-mod', mod_below, div_below}
use Rattle.ice_base.specs.Bits.{count_below}
use Rattle.ice_base.specs.Lots.{LotView}
use Rattle.ice_base.specs.Used.{is_data, counted}
use Rattle.ice_base.specs.declared.fault.Rule.TheVariants as rule
use Rattle.ice_base.proofs.UsedLaws.{used-bit, used-at, data_of, data_below, data_place, unreserved, group_mod}
use Rattle.tree_spec.specs.Costs.{form_one}
use Rattle.ice_reads.specs.Tables.{Map}
use Rattle.ice_rules.specs.Rules.{Breaks}
use Rattle.ice_check.specs.Marks.{marked, Agrees, Disagrees, BitsAgree, BitsDisagree, GroupDisagrees, CountsDiffer, Checked, Unmarked}
use Rattle.ice_check.specs.declared.fault.CheckFault.{CheckFault}
use Rattle.ice_check.specs.declared.fault.CheckFault.TheVariants as check
use Rattle.ice_check.specs.Shown.{Broke, IfBitmap, HoldsSome}
use Rattle.ice_check.proofs.Ends.{whole_holds, whole_broken}

module _ (lot : LotView) (m : Map) (ins bls : List Bool) where
  pub agreed : (bs ns : ℕ) → counted false m ≡ bs → counted true m ≡ ns → BitsAgree lot m ins bls
      → count_below (marked bls) (256 * length lot.groups) ≡ bs → count_below (marked ins) (64 * length lot.groups) ≡ ns → Agrees lot m ins bls
  agreed bs ns eb en a cb cn = record {
    reserved =
        record { set = λ b low place. used-bit false m b ∙ (a.each (b / 256) (div_below b 256 (length lot.groups) (omega arith) (omega (arith, low)))).reserved (b % 256) place };
    blocks = λ b data_is.
        let low = data_below lot b data_is in
        used-bit false m b ∙ (a.each (b / 256) (div_below b 256 (length lot.groups) (omega arith) (omega (arith, low)))).blocks (b % 256)
        (data_place lot b data_is) (mod_below b 256 (omega arith))
        ∙ ap (marked bls) (let d = div-add-mod' b 256 in omega arith);
    inodes = λ i low.
        used-bit true m i ∙ (a.each (i / 64) (div_below i 64 (length lot.groups) (omega arith) (omega (arith, low)))).inodes (i % 64)
        (mod_below i 64 (omega arith))
        ∙ ap (marked ins) (let d = div-add-mod' i 64 in omega arith);
    block_count = eb ∙ sym cb;
    inode_count = en ∙ sym cn;
  }

  pub disagreed : BitsDisagree lot m ins bls → Disagrees lot m ins bls rule.Bitmap
  disagreed d = by d.bad
    where
      by : GroupDisagrees (m (256 * d.group)) d.group ins bls → Disagrees lot m ins bls rule.Bitmap
      by (inl x) = inl (unreserved lot m (m (256 * d.group)) d.group x.0 refl d.below x.1 x.2)
      by (inr (inl x)) =
          let o = d.below in
          let place : (256 * d.group + x.0) % 256 ≡ x.0 = group_mod false d.group x.0 x.2 in
          let b : is_data lot (256 * d.group + x.0) ≡ true = data_of lot (256 * d.group + x.0) (omega (arith, x.2)) (omega (arith, x.1, place)) in
          inr (inl (256 * d.group + x.0, b, λ e. x.3 (sym (used-at false m d.group x.0 x.2) ∙ e)))
      by (inr (inr x)) =
          let o = d.below in
          inr (inr (64 * d.group + x.0, omega (arith, x.1), λ e. x.2 (sym (used-at true m d.group x.0 x.1) ∙ e)))

  pub miscounted : (bs ns : ℕ) → counted false m ≡ bs → counted true m ≡ ns → CountsDiffer lot bs ns ins bls → Disagrees lot m ins bls rule.Counts
  miscounted bs ns eb en (inl x) = inl (λ e. x (sym e ∙ eb))
  miscounted bs ns eb en (inr x) = inr (λ e. x (sym e ∙ en))

  module _ (in0 bl0 : List Bool) (none : Unmarked in0 × Unmarked bl0) (c : Checked form_one lot m 0 0 in0 ins bl0 bls) where
    pub holds_some : Agrees lot m ins bls → HoldsSome lot m
    holds_some a = let x = whole_holds form_one lot m in0 ins bl0 bls none c a in record { tree = x.0; holds = x.1 }

    pub bits_broke : (e : CheckFault) → IfBitmap (BitsDisagree lot m ins bls) e → Broke lot m e
    bits_broke check.Disk h = tt
    bits_broke (check.Damaged rule.Bitmap) h = whole_broken form_one lot m in0 ins bl0 bls none c rule.Bitmap (disagreed h)
    bits_broke (check.Damaged _) h = absurd h

    pub counts_broke : (bs ns : ℕ) → counted false m ≡ bs → counted true m ≡ ns → CountsDiffer lot bs ns ins bls → Breaks form_one lot m rule.Counts
    counts_broke bs ns eb en d = whole_broken form_one lot m in0 ins bl0 bls none c rule.Counts (miscounted bs ns eb en d)
