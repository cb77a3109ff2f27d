-- What the calls of a tree promise, as words over the keep of a cube.
use Rattle.std.proofs.Common.{◌≡◌, ◌∙◌, inl, inr, ◌≤◌, ℕ, true, false, nat_eq, nat_le, List, [], ◌∷◌, Option, Some, Result, Ok, Err, IfErr, sym, subst, arith}
use Rattle.std.specs.List.{list_all, list_any}
use Rattle.std.proofs.lemmas.Bool.{cases_Bool}
use Rattle.std.proofs.lemmas.Bool.Decides.{nat_tests}
use Rattle.tree_spec.specs.Operations.{Operation}
use Rattle.tree_spec.specs.declared.reply.Refusal.{Refusal}
use Rattle.tree_spec.specs.declared.reply.Refusal.TheVariants as code
use Rattle.ice_look.specs.Outcomes.{IsOneOf}
use Rattle.ice_cube.specs.Commands.{IsTreeRefusal}

-- What holds of one operation holds of the one that is asked for.
pub for_op : (x : Operation) (o : Option Operation) → o ≡ Some x → (P : Operation → Type 0) → P x → (op : Operation) → o ≡ Some op → P op
for_op x o is P p op e = subst P (same x op (sym is ∙ e)) p
  where
    same : (x y : Operation) → Some x ≡ Some y → x ≡ y
    same x y e = cc e

pub if_err : {T X : Type 0} {P Q : X → Type 0} (r : Result T X) → ((x : X) → P x → Q x) → IfErr r P → IfErr r Q
if_err (Ok t) more p = tt
if_err (Err x) more p = more x p

-- a number of a list has the list's bound
any_few : (xs : List ℕ) (n : ℕ) → list_all (λ x. nat_le x 14) xs ≡ true → list_any (nat_eq n) xs ≡ true → n ≤ 14
any_few [] n all any = absurd (cc any)
any_few (x ∷ xs) n all any = elim (cases_Bool (nat_le x 14)) [
  | inl low ↦ elim (cases_Bool (nat_eq n x)) [
    | inl is ↦ grind (arith, nat_tests, low, is)
    | inr isnt ↦
        let all' : list_all (λ y. nat_le y 14) xs ≡ true = rw low at all in
        let any' : list_any (nat_eq n) xs ≡ true = rw isnt at any in
        any_few xs n all' any'
  ]
  | inr high ↦ absurd (let never : false ≡ true = rw high at all in cc never)
]

-- The refusals of a call are a tree's.
pub tree_refusal : (refusals rules : List ℕ) → list_all (λ x. nat_le x 14) refusals ≡ true → (r : Refusal) → IsOneOf refusals rules r → IsTreeRefusal r
tree_refusal refusals rules few (code.Damaged n) is = omega arith
tree_refusal refusals rules few code.Fault is = omega arith
tree_refusal refusals rules few _ is = omega (arith, any_few refusals _ few is)
