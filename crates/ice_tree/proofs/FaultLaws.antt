-- Which rule a refusal names, and that the lot breaks it.
use Rattle.std.proofs.Common.{◌≡◌, ◌≤◌, ◌<◌, ◌+◌, ℕ, subst, arith, inl, inr, Bool, true, false, List, Some, None, Result, Ok, Err, IsErrOf, refl, ap}
use Rattle.std.specs.Prelude.{◌==◌, not, ◌^◌, nat_lt, slice_index, if◌then◌else◌, IfErr, ⊤}
use Rattle.ice_base.specs.Fields.{word_at, long_at, SameBeside}
use Rattle.ice_base.specs.Used.{count_place}
use Rattle.ice_base.proofs.FieldLaws.{long-beside, word-beside}
use Rattle.ice_base.specs.Lots.{LotView, sub_address}
use Rattle.ice_base.specs.declared.fault.OpFault.{OpFault}
use Rattle.ice_base.specs.declared.fault.OpFault.TheVariants.{Disk, Damaged, NoSpace, NoNodes}
use Rattle.ice_base.specs.declared.fault.Rule.{Rule}
use Rattle.ice_base.specs.declared.fault.Rule.TheVariants as rule
use Rattle.ice_layout.specs.Subs.{sub_rule, sub_magic}
use Rattle.tree_spec.specs.declared.reply.Refusal.{Refusal}
use Rattle.tree_spec.specs.declared.reply.Refusal.TheVariants as code
use Rattle.ice_reads.proofs.Focus.{same_Some, None≢Some}
use Rattle.ice_look.specs.Broken.{IsBroken, IsBrokenBy, IsFaultBy}
use Rattle.ice_rules.specs.Rules.{rule_number}
use Rattle.tree_spec.specs.Costs.{Form}
use Rattle.ice_tree.specs.Outcomes.{IsNamedIn, sub_rules, IsCountFault}

-- what a failed call says of its fault
pub err-by : {T E : Type 0} (r : Result T E) (F G : E → Type 0) → IfErr r F → ((e : E) → r ≡ Err e → F e → G e) → IfErr r G
err-by (Ok x) F G h go = tt
err-by (Err e) F G h go = go e refl h

-- the count of operations lies beside that of blocks
pub done-beside : (old new : List ℕ) → SameBeside (count_place false) 4 old new → long_at new 16 ≡ long_at old 16
done-beside old new same = long-beside old new 24 4 16 same (inl (omega arith))

-- so does that of inodes
pub count-beside : (old new : List ℕ) → SameBeside (count_place false) 4 old new → word_at new (count_place true) ≡ word_at old (count_place true)
count-beside old new same = word-beside old new (count_place false) 4 (count_place true) same (inr (omega arith))

-- one more operation can be counted, so that the disk failed
pub count-broken : (P : Rule → Type 0) (done : ℕ) (e : OpFault) → IsCountFault e → (e ≡ Damaged rule.Done → 2 ^ 63 ≤ done + 1)
    → done + 1 < 2 ^ 63 → IsFaultBy P e
count-broken P done Disk h full room = tt
count-broken P done (Damaged rule.Done) h full room = absurd (omega (arith, full refl, room))
count-broken P done _ h full room = absurd h

-- a refusal that is handed on names the same rule, of which more holds
pub broke-too : {A B : Type 0} (P Q : Rule → Type 0) → ((x : Rule) → P x → Q x) → (r : Refusal)
    → ((n : ℕ) → IsErrOf {T = A} (Err r) (code.Damaged n) → (x : Rule) × (n ≡ rule_number x) × P x)
    → (n : ℕ) → IsErrOf {T = B} (Err r) (code.Damaged n) → (x : Rule) × (n ≡ rule_number x) × Q x
broke-too {A} {B} P Q go r found n named =
    let same : r ≡ code.Damaged n = refusal named in
    let h = found n (ap (λ y. Err y) same) in
    (h.0, h.1, go h.0 h.2)
  where
    refusal : IsErrOf {T = B} (Err r) (code.Damaged n) → r ≡ code.Damaged n
    refusal q = cc

-- the rules of the sub-super block alone
abbrev IsSubRule : Rule → Type 0
IsSubRule rule.Magic = ⊤
IsSubRule rule.Version = ⊤
IsSubRule rule.Slot = ⊤
IsSubRule rule.Mode = ⊤
IsSubRule rule.Done = ⊤
IsSubRule _ = ⊥

first-rule : (a b c d e : Bool) (r : Rule)
    → (if not a then Some rule.Magic else if not b then Some rule.Version else if not c then Some rule.Slot else if not d then Some rule.Mode else if not e then Some rule.Done else None) ≡ Some r
    → IsSubRule r
first-rule false b c d e r h = subst IsSubRule (same_Some _ _ h) tt
first-rule true false c d e r h = subst IsSubRule (same_Some _ _ h) tt
first-rule true true false d e r h = subst IsSubRule (same_Some _ _ h) tt
first-rule true true true false e r h = subst IsSubRule (same_Some _ _ h) tt
first-rule true true true true false r h = subst IsSubRule (same_Some _ _ h) tt
first-rule true true true true true r h = absurd (None≢Some _ h)

sub-names : (slot : ℕ) (bytes : List ℕ) (r : Rule) → sub_rule slot bytes ≡ Some r → IsSubRule r
unfolding sub_rule
sub-names slot bytes r h =
    first-rule (word_at bytes 0 == sub_magic) (word_at bytes 4 == 1) (slice_index bytes 8 == slot) (slice_index bytes 9 == 0)
    (nat_lt (long_at bytes 16) (2 ^ 63)) r h

-- a rule of the sub-super block is one of the first five
pub sub-named : (slot : ℕ) (bytes : List ℕ) (r : Rule) → sub_rule slot bytes ≡ Some r → IsNamedIn sub_rules (Damaged r)
sub-named slot bytes r h = by r (sub-names slot bytes r h)
  where
    by : (r : Rule) → IsSubRule r → IsNamedIn sub_rules (Damaged r)
    by rule.Magic h = refl
    by rule.Version h = refl
    by rule.Slot h = refl
    by rule.Mode h = refl
    by rule.Done h = refl
    by _ h = absurd h

no_true : false ≡ true → ⊥
no_true h = cc

module _ (form : Form) (lot : LotView) (m : ℕ → List ℕ) where
  sub-broken : (r : Rule) → sub_rule lot.slot (m sub_address) ≡ Some r → IsBroken form lot m r
  sub-broken rule.Magic h = h
  sub-broken rule.Version h = h
  sub-broken rule.Slot h = h
  sub-broken rule.Mode h = h
  sub-broken rule.Done h = h
  sub-broken rule.Counts h = absurd (sub-names lot.slot (m sub_address) rule.Counts h)
  sub-broken rule.Kind h = absurd (sub-names lot.slot (m sub_address) rule.Kind h)
  sub-broken rule.Pointer h = absurd (sub-names lot.slot (m sub_address) rule.Pointer h)
  sub-broken rule.BlockTwice h = absurd (sub-names lot.slot (m sub_address) rule.BlockTwice h)
  sub-broken rule.InodeTwice h = absurd (sub-names lot.slot (m sub_address) rule.InodeTwice h)
  sub-broken rule.Name h = absurd (sub-names lot.slot (m sub_address) rule.Name h)
  sub-broken rule.NameTwice h = absurd (sub-names lot.slot (m sub_address) rule.NameTwice h)
  sub-broken rule.Bitmap h = absurd (sub-names lot.slot (m sub_address) rule.Bitmap h)
  sub-broken rule.Depth h = absurd (sub-names lot.slot (m sub_address) rule.Depth h)
  sub-broken rule.Header h = absurd (sub-names lot.slot (m sub_address) rule.Header h)

  -- a look at the sub-super block
  pub sub-fault : (e : OpFault) → IsNamedIn sub_rules e → ((r : Rule) → e ≡ Damaged r → sub_rule lot.slot (m sub_address) ≡ Some r) → IsBrokenBy form lot m e
  sub-fault Disk h named = tt
  sub-fault (Damaged r) h named = sub-broken r (named r refl)
  sub-fault NoSpace h named = absurd (no_true h)
  sub-fault NoNodes h named = absurd (no_true h)
