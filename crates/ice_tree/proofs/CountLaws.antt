-- One more accepted operation.
use Rattle.std.proofs.Common.{◌≡◌, ◌≢◌, ◌≤◌, ◌+◌, ◌^◌, ℕ, Bool, true, false, None, sym, refl, subst, ap, arith, length, nat_eq}
use Rattle.std.specs.Prelude.{◌&&◌}
use Rattle.std.proofs.lemmas.Bool.Decides.{nat_tests}
use Rattle.ice_base.specs.Lots.{LotView, sub_address}
use Rattle.ice_base.specs.Fields.{long_at}
use Rattle.ice_base.specs.declared.fault.OpFault.{OpFault}
use Rattle.ice_base.specs.declared.fault.OpFault.TheVariants.{Disk, Damaged}
use Rattle.ice_base.specs.declared.fault.Rule.TheVariants.{Done}
use Rattle.tree_spec.specs.Why as why
use Rattle.tree_spec.specs.Trees.{Tree}
use Rattle.tree_spec.specs.Costs.{Form, form_one}
use Rattle.tree_spec.specs.Operations.{Operation, is_change}
use Rattle.tree_spec.specs.Answers.{refusal, most_done}
use Rattle.tree_spec.proofs.Refusals.{refusal-none}
use Rattle.ice_reads.specs.Tables.{Map}
use Rattle.ice_reads.specs.Recovers.{MapRecovers}
use Rattle.ice_reads.proofs.Recovering.{recovers_small}
use Rattle.ice_steps.specs.Beside.{DoneSet}
use Rattle.ice_steps.proofs.Takes.{done_set}
use Rattle.ice_tree.specs.Outcomes.{IsCountFault}

-- a count that can rise fails by the disk alone
count-fails : (e : OpFault) → IsCountFault e → (e ≡ Damaged Done → ⊥) → e ≡ Disk
count-fails Disk h k = refl
count-fails (Damaged Done) h k = absurd (k refl)
count-fails _ h k = absurd h

-- an accepted change is not the last that the number allows
not_last : (b : Bool) (k : ℕ) → b ≡ true → (b && nat_eq k most_done) ≡ false → k ≢ most_done
not_last true k h e is = grind (arith, nat_tests)
not_last false k h e is = absurd cc

module _ (f : Form) (one : f ≡ form_one) (mode : ℕ) (lot : LotView) (m : Map) (t : Tree) (k : ℕ) (r : MapRecovers f mode lot m t k) where
  -- the number rises by one
  pub counts_up : length lot.groups ≤ 64 → (m' : Map) → DoneSet m m' (long_at (m sub_address) 16 + 1) → MapRecovers f mode lot m' t (k + 1)
  counts_up few m' set =
      let up = ap (λ n. n + 1) r.sub.done in
      subst (λ (g : Form). MapRecovers g mode lot m' t (k + 1)) (sym one)
      (done_set mode lot m m' t k (k + 1) few (subst (λ (g : Form). MapRecovers g mode lot m t k) one r) (subst (λ n. DoneSet m m' n) up set))

  -- and it can
  pub count_room : (old : Tree) (n : ℕ) (g : Form) (op : Operation) → is_change op ≡ true → refusal old k n g op ≡ None → (e : OpFault)
      → IsCountFault e → (e ≡ Damaged Done → 2 ^ 63 ≤ long_at (m sub_address) 16 + 1) → e ≡ Disk
  count_room old n g op change none e is full =
      let few = recovers_small f mode lot m t k r in
      let more = not_last (is_change op) k change (refusal-none old k n g op why.Spent none) in
      let count = r.sub.done in
      count-fails e is (λ q. let h = full q in omega arith)
