-- What a map may still cost.
use Rattle.std.proofs.Common.{◌≡◌, ◌≢◌, ◌≤◌, ◌<◌, ◌+◌, ◌==◌, ℕ, Bool, true, false, cond, [], ◌∷◌, ◌∙◌, sym, refl, ap, arith, ltb}
use Rattle.std.proofs.lemmas.Bool.Decides.{nat_tests}
use Rattle.ice_base.specs.Lots.{sub_address}
use Rattle.ice_base.specs.Spare.{has, lacks, Pays}
use Rattle.ice_base.specs.Used.{bitmap_of}
use Rattle.ice_base.proofs.SpareLaws.{lacks-grows, lacks_few}
use Rattle.ice_map.specs.Maps.{growth_puts}
use Rattle.ice_map.proofs.ListLaws.{AllHas, where_elim}
use Rattle.ice_map.proofs.GrowLaws.{puts-direct, puts-first, puts-single}
use Rattle.ice_map.specs.Moves.{due}

three : (h : ℕ → Bool) (a b c : ℕ) → lacks h (a ∷ b ∷ c ∷ []) ≤ lacks h (a ∷ c ∷ []) + 1
unfolding lacks
three h a b c = grind arith

three-more : (h : ℕ → Bool) (a b c : ℕ) → lacks h (a ∷ c ∷ []) ≤ lacks h (a ∷ b ∷ c ∷ [])
unfolding lacks
three-more h a b c = grind arith

four : (h : ℕ → Bool) (a b c d e : ℕ) → lacks h (a ∷ b ∷ c ∷ d ∷ []) ≤ lacks h (a ∷ e ∷ []) + 3
unfolding lacks
four h a b c d e = grind arith

four-more : (h : ℕ → Bool) (a b c d : ℕ) → lacks h (a ∷ c ∷ []) ≤ lacks h (a ∷ b ∷ c ∷ d ∷ [])
unfolding lacks
four-more h a b c d = grind arith

has-three : (a b c : ℕ) → AllHas (a ∷ b ∷ c ∷ []) (a ∷ b ∷ [])
unfolding has
has-three a b c x h = grind arith

due-low : (h : ℕ → Bool) (s c : ℕ) → c ≤ 12 → due h s c ≡ lacks h (sub_address ∷ s ∷ []) + 3
due-low h s c l = grind (arith, nat_tests)

due-high : (h : ℕ → Bool) (s c : ℕ) → 12 < c → due h s c ≡ lacks h (sub_address ∷ s ∷ []) + 0
due-high h s c l = grind (arith, nat_tests)

-- a growth pays
pub due-grow : (h0 h1 : ℕ → Bool) (r0 r1 c a s t : ℕ) → Pays h0 r0 h1 r1 true (growth_puts c a t) → (c ≢ 12 → t ≡ s)
    → r0 + due h1 t (c + 1) ≤ r1 + due h0 s c + 1
due-grow h0 h1 r0 r1 c a s t p same =
    elim (ltb c 12) as (λ u. ltb c 12 ≡ u → r0 + due h1 t (c + 1) ≤ r1 + due h0 s c + 1) [
      | true ↦ λ u.
          let l : c < 12 = grind (arith, nat_tests) in
          let e = puts-direct c a t l in
          let w = sub_address ∷ bitmap_of false a ∷ t ∷ [] in
          let q = where_elim w (growth_puts c a t) (r0 + lacks h1 w ≤ r1 + lacks h0 w + cond true 0 1) (p w)
          (λ x k. has-three sub_address (bitmap_of false a) t x (ap (λ xs. has xs x) (sym e) ∙ k)) in
          let m = three-more h1 sub_address (bitmap_of false a) t in
          let n = three h0 sub_address (bitmap_of false a) t in
          let f : lacks h0 (sub_address ∷ t ∷ []) ≡ lacks h0 (sub_address ∷ s ∷ []) = ap (λ x. lacks h0 (sub_address ∷ x ∷ [])) (same (λ e. omega arith)) in
          let d1 = due-low h1 t (c + 1) (omega arith) in
          let d0 = due-low h0 s c (omega arith) in
          omega arith
      | false ↦ λ u.
          let l : 12 ≤ c = grind (arith, nat_tests) in
          let d1 = due-high h1 t (c + 1) (omega arith) in
          elim (c == 12) as (λ v. (c == 12) ≡ v → r0 + due h1 t (c + 1) ≤ r1 + due h0 s c + 1) [
            | true ↦ λ v.
                let k : c ≡ 12 = grind (arith, nat_tests) in
                let e = puts-first c a t k in
                let w = sub_address ∷ bitmap_of false a ∷ t ∷ bitmap_of false t ∷ [] in
                let q = where_elim w (growth_puts c a t) (r0 + lacks h1 w ≤ r1 + lacks h0 w + cond true 0 1) (p w) (λ x k. ap (λ xs. has xs x) (sym e) ∙ k) in
                let m = four-more h1 sub_address (bitmap_of false a) t (bitmap_of false t) in
                let n = four h0 sub_address (bitmap_of false a) t (bitmap_of false t) s in
                let d0 = due-low h0 s c (omega arith) in
                omega arith
            | false ↦ λ v.
                let k : c ≢ 12 = grind (arith, nat_tests) in
                let e = puts-single c a t (omega arith) in
                let w = sub_address ∷ bitmap_of false a ∷ t ∷ [] in
                let q = where_elim w (growth_puts c a t) (r0 + lacks h1 w ≤ r1 + lacks h0 w + cond true 0 1) (p w) (λ x k. ap (λ xs. has xs x) (sym e) ∙ k) in
                let m = three-more h1 sub_address (bitmap_of false a) t in
                let n = three h0 sub_address (bitmap_of false a) t in
                let f : lacks h0 (sub_address ∷ t ∷ []) ≡ lacks h0 (sub_address ∷ s ∷ []) = ap (λ x. lacks h0 (sub_address ∷ x ∷ [])) (same k) in
                let d0 = due-high h0 s c (omega arith) in
                omega arith
          ] refl
    ] refl

pub due-same : (h0 h1 : ℕ → Bool) (s c d : ℕ) → h1 ≡ h0 → d ≡ c → due h1 s d ≡ due h0 s c
due-same h0 h1 s c d e f = ap (λ h. due h s d) e ∙ ap (due h0 s) f

-- held addresses cost no more
pub due-less : (h0 h1 : ℕ → Bool) (s c : ℕ) → ((a : ℕ) → h0 a ≡ true → h1 a ≡ true) → due h1 s c ≤ due h0 s c
due-less h0 h1 s c g = let l = lacks-grows h0 h1 (sub_address ∷ s ∷ []) g in omega arith

-- beside a bitmap block and a data block for each new block a map costs at most five addresses
pub due-most : (h : ℕ → Bool) (s c : ℕ) → due h s c ≤ 5
due-most h s c = let l = lacks_few h sub_address s 2 (omega arith) in grind arith

-- the most that a map may still cost
pub ruleset due_laws = (due-most)
