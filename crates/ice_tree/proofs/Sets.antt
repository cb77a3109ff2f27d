-- Which refusals a call answers, and which rules its damage names.
use Rattle.std.proofs.Common.{◌≡◌, ℕ, nat_eq, ◌&&◌, ◌||◌, Bool, true, false, List, [], ◌∷◌, refl, sym, ap, subst, ◌∙◌, arith}
use Rattle.std.specs.List.{list_any, list_all}
use Rattle.std.proofs.lemmas.Bool.Decides.{nat_tests}
use Rattle.ice_base.specs.Faults.{IsDiskFault, IsTakeInodeFault, IsGiveFault}
use Rattle.ice_base.specs.declared.fault.OpFault.{OpFault}
use Rattle.ice_base.specs.declared.fault.OpFault.TheVariants.{Disk, Damaged, NoSpace, NoNodes}
use Rattle.ice_base.specs.declared.fault.Rule.TheVariants as rule
use Rattle.ice_map.specs.Faults.{IsGrowFault, IsCutFault}
use Rattle.tree_spec.specs.Replies.{refusal_number}
use Rattle.tree_spec.specs.declared.reply.Refusal.{Refusal}
use Rattle.tree_spec.specs.declared.reply.Refusal.TheVariants as code
use Rattle.ice_look.specs.Outcomes.{IsOneOf, refusal_by}
use Rattle.ice_tree.specs.Outcomes.{IsNamedIn, IsCountFault, change_rules}

-- each of the numbers is one of the others
abbrev pub are_among : List ℕ → List ℕ → Bool
are_among xs ys = list_all (λ x. list_any (nat_eq x) ys) xs

no_true : false ≡ true → ⊥
no_true h = cc

one-among : (xs ys : List ℕ) (n : ℕ) → are_among xs ys ≡ true → list_any (nat_eq n) xs ≡ true → list_any (nat_eq n) ys ≡ true
one-among [] ys n all h = absurd (no_true h)
one-among (x ∷ xs) ys n all h =
    elim (nat_eq n x) as (λ b. nat_eq n x ≡ b → list_any (nat_eq n) ys ≡ true) [
      | true ↦ λ e. let same : n ≡ x = grind (arith, nat_tests) in ap (λ k. list_any (nat_eq k) ys) same ∙ first (list_any (nat_eq x) ys) (are_among xs ys) all
      | false ↦ λ e. one-among xs ys n (second (list_any (nat_eq x) ys) (are_among xs ys) all) (sym (ap (λ b. or b (list_any (nat_eq n) xs)) e) ∙ h)
    ] refl
  where
    or : Bool → Bool → Bool
    or a b = a || b

    first : (a b : Bool) → (a && b) ≡ true → a ≡ true
    first true b h = refl
    first false b h = h

    second : (a b : Bool) → (a && b) ≡ true → b ≡ true
    second true b h = h
    second false b h = absurd cc

-- a refusal of a smaller set
pub set-more : (xs ys rs qs : List ℕ) → are_among xs ys ≡ true → are_among rs qs ≡ true → (r : Refusal) → IsOneOf xs rs r → IsOneOf ys qs r
set-more xs ys rs qs a b (code.Damaged n) h = one-among rs qs n b h
set-more xs ys rs qs a b code.Fault h = tt
set-more xs ys rs qs a b r h = one-among xs ys (refusal_number r) a h

-- a fault of a smaller set, as a refusal
pub fault-set : (ys rs qs : List ℕ) → are_among rs qs ≡ true → (r : Refusal) (e : OpFault) → r ≡ refusal_by e → IsNamedIn rs e → IsOneOf ys qs r
fault-set ys rs qs b r e is h = subst (IsOneOf ys qs) (sym is) (set-more [] ys rs qs refl b (refusal_by e) h)

-- no want of inodes, none of blocks
pub no-nodes : (xs rs : List ℕ) (r : Refusal) → IsOneOf (12 ∷ xs) rs r → (r ≡ code.NoNodes → ⊥) → IsOneOf xs rs r
no-nodes xs rs (code.Damaged n) h none = h
no-nodes xs rs code.Fault h none = tt
no-nodes xs rs code.NoNodes h none = absurd (none refl)
no-nodes xs rs r h none = h

-- ---- the faults of the calls below

pub disk-in : (rs : List ℕ) (e : OpFault) → IsDiskFault e → IsNamedIn rs e
disk-in rs Disk h = tt
disk-in rs _ h = absurd h

pub count-in : (e : OpFault) → IsCountFault e → IsNamedIn change_rules e
count-in Disk h = tt
count-in (Damaged rule.Done) h = refl
count-in _ h = absurd h

pub take_inode-in : (e : OpFault) → IsTakeInodeFault e → IsNamedIn change_rules e
take_inode-in Disk h = tt
take_inode-in (Damaged rule.Counts) h = refl
take_inode-in NoNodes h = refl
take_inode-in _ h = absurd h

pub give-in : (e : OpFault) → IsGiveFault e → IsNamedIn change_rules e
give-in Disk h = tt
give-in (Damaged rule.Counts) h = refl
give-in (Damaged rule.Bitmap) h = refl
give-in _ h = absurd h

pub cut-in : (e : OpFault) → IsCutFault e → IsNamedIn change_rules e
cut-in Disk h = tt
cut-in (Damaged rule.Counts) h = refl
cut-in (Damaged rule.Pointer) h = refl
cut-in (Damaged rule.Bitmap) h = refl
cut-in _ h = absurd h

pub grow-in : (e : OpFault) → IsGrowFault e → IsNamedIn change_rules e
grow-in Disk h = tt
grow-in (Damaged rule.Counts) h = refl
grow-in (Damaged rule.Pointer) h = refl
grow-in (Damaged rule.Bitmap) h = refl
grow-in NoSpace h = refl
grow-in _ h = absurd h
