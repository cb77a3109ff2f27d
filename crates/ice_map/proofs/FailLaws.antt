-- What a growth that failed may have put.
use Rattle.std.proofs.Common.{◌≡◌, ◌*◌, ◌==◌, ℕ, true, false, cond, List, [], ◌∷◌, ◌∙◌, sym, refl, ap, arith, nat_lt, Result, Ok, Err, OnErr}
use Rattle.std.proofs.lemmas.Bool.Decides.{nat_tests}
use Rattle.std.proofs.lemmas.Nat.{div-add-mod'}
use Rattle.ice_base.specs.Lots.{LotView, sub_address}
use Rattle.ice_base.specs.Spare.{has}
use Rattle.ice_base.specs.Used.{bitmap_of}
use Rattle.ice_base.specs.Views.{Puts}
use Rattle.ice_base.specs.declared.view.View as view
use Rattle.ice_map.specs.declared.codec.Inode.{Inode}
use Rattle.ice_map.specs.Maps.{growth_puts, GrowthFailed}
use Rattle.ice_map.proofs.GrowLaws.{puts-first}
use Rattle.ice_map.proofs.ListLaws.{AllHas, has-cons, has-head, has-tail, has-none}
use Rattle.ice_map.proofs.PutsLaws.{puts-then, puts-widen, puts-fail, puts-none}

-- a fact, as that of an error
pub on-err : {T E : Type 0} (r : Result T E) (P : Type 0) → P → OnErr r P
on-err (Ok x) P p = tt
on-err (Err e) P p = p

-- a list has what its parts are
has-two : (wide : List ℕ) (a b : ℕ) → has wide a ≡ true → has wide b ≡ true → AllHas wide (a ∷ b ∷ [])
has-two wide a b ha hb x h =
    let c = has-cons a x (b ∷ []) in
    let d = has-cons b x [] in
    let n = has-none x in
    elim (a == x) as (λ t. (a == x) ≡ t → has wide x ≡ true) [
      | true ↦ λ t. let e : a ≡ x = grind (arith, nat_tests) in ap (has wide) (sym e) ∙ ha
      | false ↦ λ t. elim (b == x) as (λ u. (b == x) ≡ u → has wide x ≡ true) [
        | true ↦ λ u. let e : b ≡ x = grind (arith, nat_tests) in ap (has wide) (sym e) ∙ hb
        | false ↦ λ u.
            absurd (let f : has (a ∷ b ∷ []) x ≡ false = c ∙ ap (λ t. cond t true (has (b ∷ []) x)) t ∙ d ∙ ap (λ t. cond t true (has [] x)) u ∙ n in cc)
      ] refl
    ] refl

has-more : (wide : List ℕ) (a : ℕ) (xs : List ℕ) → has wide a ≡ true → AllHas wide xs → AllHas wide (a ∷ xs)
has-more wide a xs ha all x h =
    let c = has-cons a x xs in
    elim (a == x) as (λ t. (a == x) ≡ t → has wide x ≡ true) [
      | true ↦ λ t. let e : a ≡ x = grind (arith, nat_tests) in ap (has wide) (sym e) ∙ ha
      | false ↦ λ t. all x (sym (c ∙ ap (λ t. cond t true (has xs x)) t) ∙ h)
    ] refl

second : (a b : ℕ) (xs : List ℕ) → has (a ∷ b ∷ xs) b ≡ true
second a b xs = has-tail a b (b ∷ xs) (has-head b xs)

third : (a b c : ℕ) (xs : List ℕ) → has (a ∷ b ∷ c ∷ xs) c ≡ true
third a b c xs = has-tail a c (b ∷ c ∷ xs) (second b c xs)

own_bitmap : (o : ℕ) → bitmap_of false (256 * o) ≡ 256 * o
own_bitmap o = omega (arith, div-add-mod' (256 * o) 256)

module _ {V D : Type 0} (k : view.Ghosts V D) (lot : LotView) (inode : Inode) (count : ℕ) where
  -- the bitmap block of one group, and the sub-super block
  pub failed-one : (o : ℕ) (v : V) (e : D) (w : V) (f : D) → Puts k lot false (sub_address ∷ 256 * o ∷ []) v e w f → GrowthFailed k lot inode count v e w f
  failed-one o v e w f p =
      let puts = growth_puts count (256 * o) inode.single in (
        256 * o,
        inode.single,
        (λ h. refl),
        puts-widen k lot false (sub_address ∷ 256 * o ∷ []) puts v e w f p
            (has-two puts sub_address (256 * o) (has-head sub_address _)
            (let b = second sub_address (bitmap_of false (256 * o))
            (cond (nat_lt count 12) [] (inode.single ∷ cond (count == 12) (bitmap_of false inode.single ∷ []) [])) in ap (has puts) (sym (own_bitmap o)) ∙ b)),
      )

  -- those of two groups
  pub failed-two : (a b : ℕ) (v : V) (e : D) (w : V) (f : D) → count ≡ 12
      → Puts k lot false (sub_address ∷ bitmap_of false a ∷ bitmap_of false b ∷ []) v e w f → GrowthFailed k lot inode count v e w f
  failed-two a b v e w f h p =
      let list = puts-first count a b h in (
        a,
        b,
        (λ l. absurd (omega arith)),
        rw list (puts-widen k lot false (sub_address ∷ bitmap_of false a ∷ bitmap_of false b ∷ [])
            (sub_address ∷ bitmap_of false a ∷ b ∷ bitmap_of false b ∷ []) v e w f p
            (has-more _ sub_address _ (has-head sub_address _)
            (has-two _ (bitmap_of false a) (bitmap_of false b) (second sub_address (bitmap_of false a) _)
            (has-tail sub_address (bitmap_of false b) _ (third (bitmap_of false a) b (bitmap_of false b) []))))),
      )

  pub failed-at_once : (v : V) (e : D) → GrowthFailed k lot inode count v e v e
  failed-at_once v e =
      (0, inode.single, (λ h. refl), puts-fail k lot (growth_puts count 0 inode.single) (growth_puts count 0 inode.single) v e v e (puts-none k lot (growth_puts count 0 inode.single) v e) (λ x h. h))

  -- the whole growth
  pub failed-first : (a s : ℕ) (v : V) (e : D) (w : V) (f : D) → count ≡ 12
      → Puts k lot false (sub_address ∷ bitmap_of false a ∷ s ∷ bitmap_of false s ∷ []) v e w f → GrowthFailed k lot inode count v e w f
  failed-first a s v e w f h p = let list = puts-first count a s h in (a, s, (λ l. absurd (omega arith)), rw list p)

-- one block was taken, and the take of a second failed
pub two-failed : {V D : Type 0} (k : view.Ghosts V D) (lot : LotView) (a o : ℕ) (v : V) (d : D) (w : V) (e : D) (x : V) (f : D)
    → Puts k lot true (sub_address ∷ bitmap_of false a ∷ []) v d w e → Puts k lot false (sub_address ∷ 256 * o ∷ []) w e x f
    → (a : ℕ) × (b : ℕ) × Puts k lot false (sub_address ∷ bitmap_of false a ∷ bitmap_of false b ∷ []) v d x f
two-failed k lot a o v d w e x f p q =
    let puts = sub_address ∷ bitmap_of false a ∷ bitmap_of false (256 * o) ∷ [] in (
      a,
      256 * o,
      puts-then k lot false (sub_address ∷ bitmap_of false a ∷ []) (sub_address ∷ 256 * o ∷ []) puts v d w e x f p q
          (has-two puts sub_address (bitmap_of false a) (has-head sub_address _) (second sub_address (bitmap_of false a) _))
          (has-two puts sub_address (256 * o) (has-head sub_address _)
          (ap (has puts) (sym (own_bitmap o)) ∙ third sub_address (bitmap_of false a) (bitmap_of false (256 * o)) [])),
    )

pub one-failed : {V D : Type 0} (k : view.Ghosts V D) (lot : LotView) (o : ℕ) (v : V) (d : D) (w : V) (e : D)
    → Puts k lot false (sub_address ∷ 256 * o ∷ []) v d w e
    → (a : ℕ) × (b : ℕ) × Puts k lot false (sub_address ∷ bitmap_of false a ∷ bitmap_of false b ∷ []) v d w e
one-failed k lot o v d w e p =
    let puts = sub_address ∷ bitmap_of false (256 * o) ∷ bitmap_of false (256 * o) ∷ [] in (
      256 * o,
      256 * o,
      puts-widen k lot false (sub_address ∷ 256 * o ∷ []) puts v d w e p
          (has-two puts sub_address (256 * o) (has-head sub_address _) (ap (has puts) (sym (own_bitmap o)) ∙ second sub_address (bitmap_of false (256 * o)) _)),
    )
