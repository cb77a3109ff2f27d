-- Which rule a refusal names.
use Rattle.std.proofs.Common.{◌≡◌, ℕ, Err, IsErrOf, sym, ◌∙◌}
use Rattle.ice_base.specs.declared.fault.OpFault.{OpFault}
use Rattle.ice_base.specs.declared.fault.OpFault.TheVariants.{Disk, Damaged, NoSpace, NoNodes}
use Rattle.ice_base.specs.declared.fault.Rule.{Rule}
use Rattle.tree_spec.specs.declared.reply.Refusal.{Refusal}
use Rattle.tree_spec.specs.declared.reply.Refusal.TheVariants as code
use Rattle.ice_look.specs.Broken.{IsFaultBy}
use Rattle.ice_rules.specs.Rules.{rule_number}
use Rattle.ice_look.specs.Outcomes.{refusal_by}

-- a fault as a refusal names the fault's rule
pub fault-names : (P : Rule → Type 0) (e : OpFault) (r : Refusal) → r ≡ refusal_by e → IsFaultBy P e → {A : Type 0} (n : ℕ)
    → IsErrOf {T = A} (Err r) (code.Damaged n) → (x : Rule) × (n ≡ rule_number x) × P x
fault-names P e r is h {A} n named = by e h (sym is ∙ error named)
  where
    error : IsErrOf {T = A} (Err r) (code.Damaged n) → r ≡ code.Damaged n
    error q = cc

    same : (i j : ℕ) → code.Damaged i ≡ code.Damaged j → j ≡ i
    same i j q = cc

    no : code.Fault ≡ code.Damaged n → ⊥
    no q = cc

    by : (e : OpFault) → IsFaultBy P e → refusal_by e ≡ code.Damaged n → (x : Rule) × (n ≡ rule_number x) × P x
    by Disk h q = absurd (no q)
    by (Damaged x) h q = (x, same (rule_number x) n q, h)
    by NoSpace h q = absurd h
    by NoNodes h q = absurd h
