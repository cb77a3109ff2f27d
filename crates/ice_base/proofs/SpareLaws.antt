use Rattle.std.proofs.Common.{◌≡◌, ◌≢◌, ◌≤◌, ◌<◌, ◌+◌, ◌*◌, ℕ, zero, suc, Bool, true, false, cond, List, [], ◌∷◌, refl, arith}
use Rattle.std.proofs.lemmas.Bool.Decides.{nat_tests}
use Rattle.ice_base.specs.Spare.{lacks, has, Pays, bitmaps}

-- at most two of two addresses lack
pub lacks_few : (held : ℕ → Bool) (a b n : ℕ) → 2 ≤ n → lacks held (a ∷ b ∷ []) ≤ n
unfolding lacks
lacks_few held a b n h = grind arith

pub lacks_first : (held : ℕ → Bool) (a b : ℕ) → held a ≡ false → 1 ≤ lacks held (a ∷ b ∷ [])
unfolding lacks
lacks_first held a b h = grind arith

pub lacks_second : (held : ℕ → Bool) (a b : ℕ) → held b ≡ false → 1 ≤ lacks held (a ∷ b ∷ [])
unfolding lacks
lacks_second held a b h = grind arith

pub has_first : (a b : ℕ) → has (a ∷ b ∷ []) a ≡ true
unfolding has
has_first a b = grind (arith, nat_tests)

pub has_second : (a b : ℕ) → has (a ∷ b ∷ []) b ≡ true
unfolding has
has_second a b = grind (arith, nat_tests)

-- the room that two addresses may need
pub ruleset room_laws = (lacks_few)

-- an address that is not held lacks, and a list of two has both
pub ruleset spare_laws = (lacks_first, lacks_second, has_first, has_second)

-- what an implementation needs: no address stops being held
pub lacks-grows : (held0 held1 : ℕ → Bool) (wide : List ℕ) → ((a : ℕ) → held0 a ≡ true → held1 a ≡ true) → lacks held1 wide ≤ lacks held0 wide
unfolding lacks
lacks-grows held0 held1 [] h = grind arith
lacks-grows held0 held1 (a ∷ wide) h = let r = lacks-grows held0 held1 wide h in let g = h a in grind arith

-- a list of which one address is newly held
pub lacks-falls : (held0 held1 : ℕ → Bool) (wide : List ℕ) (at : ℕ) → ((a : ℕ) → held0 a ≡ true → held1 a ≡ true) → held0 at ≡ false
    → held1 at ≡ true → has wide at ≡ true → 1 + lacks held1 wide ≤ lacks held0 wide
unfolding lacks has
lacks-falls held0 held1 [] at h p q e = absurd cc
lacks-falls held0 held1 (a ∷ wide) at h p q e =
    let r = lacks-grows held0 held1 wide h in
    let f = lacks-falls held0 held1 wide at h p q in
    let g = h a in
    grind (arith, nat_tests)

-- what an implementation owes of a put
pub put-pays : (held0 held1 : ℕ → Bool) (room0 room1 at : ℕ) (ok : Bool) → ((a : ℕ) → held0 a ≡ true → held1 a ≡ true)
    → (ok ≡ true → held1 at ≡ true) → room0 ≤ room1 + 1 → (held0 at ≡ true → room0 ≤ room1) → Pays held0 room0 held1 room1 ok (at ∷ [])
put-pays held0 held1 room0 room1 at ok h q r k = λ wide e.
    let g = lacks-grows held0 held1 wide h in
    let f = λ (p : held0 at ≡ false) (o : ok ≡ true). lacks-falls held0 held1 wide at h p (q o) e in
    elim (held0 at) as (λ b. held0 at ≡ b → room0 + lacks held1 wide ≤ room1 + lacks held0 wide + cond ok 0 1) [
      | true ↦ λ t. let u = k t in omega arith
      | false ↦ λ t. elim ok as (λ o. ok ≡ o → room0 + lacks held1 wide ≤ room1 + lacks held0 wide + cond o 0 1) [
        | true ↦ λ o. let u = f t o in omega arith
        | false ↦ λ o. omega arith
      ] refl
    ] refl

-- two addresses of a list lack no more than the list
has-lacks : (held : ℕ → Bool) (wide : List ℕ) (a : ℕ) → has wide a ≡ true → cond (held a) 0 1 ≤ lacks held wide
unfolding lacks has
has-lacks held [] a h = absurd cc
has-lacks held (b ∷ wide) a h = let r = has-lacks held wide a in grind (arith, nat_tests)

-- no more of two addresses lack than of a list that has both
pub lacks_part : (held : ℕ → Bool) (wide : List ℕ) (a b : ℕ) → a ≢ b → has wide a ≡ true → has wide b ≡ true → lacks held (a ∷ b ∷ []) ≤ lacks held wide
unfolding lacks has
lacks_part held [] a b ne h k = absurd cc
lacks_part held (c ∷ wide) a b ne h k =
    let r = lacks_part held wide a b ne in
    let p = has-lacks held wide a in
    let q = has-lacks held wide b in
    grind (arith, nat_tests)

-- each group's bitmap block is among the bitmap blocks
pub has-bitmaps : (n o : ℕ) → o < n → has (bitmaps n) (256 * o) ≡ true
unfolding has bitmaps
has-bitmaps zero o h = absurd (omega arith)
has-bitmaps (suc n) o h = let r = has-bitmaps n o in grind (arith, nat_tests)

-- no more bitmap blocks lack than there are groups
pub lacks-bitmaps : (held : ℕ → Bool) (n : ℕ) → lacks held (bitmaps n) ≤ n
unfolding lacks bitmaps
lacks-bitmaps held zero = omega arith
lacks-bitmaps held (suc n) = let r = lacks-bitmaps held n in grind arith

pub ruleset pays_law = (put-pays)
