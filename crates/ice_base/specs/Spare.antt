-- How many further addresses a keep can hold, and which it holds.
use Rattle.std.specs.Prelude.{◌≡◌, ◌≢◌, ◌≤◌, ◌<◌, ◌+◌, ◌*◌, ℕ, zero, suc, Bool, true, false, cond, ◌==◌, List, [], ◌∷◌, length}
use Rattle.ice_base.specs.Lots.{LotView, sub_address}

-- how many addresses of a list are not held
unfoldable pub lacks : (ℕ → Bool) → List ℕ → ℕ
lacks held [] = 0
lacks held (a ∷ addresses) = cond (held a) 0 1 + lacks held addresses

-- whether a list has an address
unfoldable pub has : List ℕ → ℕ → Bool
has [] a = false
has (b ∷ addresses) a = cond (b == a) true (has addresses a)

-- the fact, where the list has each of these addresses
abbrev pub Where : List ℕ → List ℕ → Type 0 → Type 0
Where wide [] P = P
Where wide (a ∷ addresses) P = has wide a ≡ true → Where wide addresses P

-- the fact, where the address is none of these
abbrev pub Except : ℕ → List ℕ → Type 0 → Type 0
Except a [] P = P
Except a (b ∷ addresses) P = a ≢ b → Except a addresses P

-- For each list that has all the addresses that were put: those of it that became held make up for the room that was lost,
-- but for one where the call failed.
abbrev pub Pays : (ℕ → Bool) → ℕ → (ℕ → Bool) → ℕ → Bool → List ℕ → Type 0
Pays held0 room0 held1 room1 ok puts = (wide : List ℕ) → Where wide puts (room0 + lacks held1 wide ≤ room1 + lacks held0 wide + cond ok 0 1)

-- the bitmap blocks of the first n groups
unfoldable pub bitmaps : ℕ → List ℕ
bitmaps zero = []
bitmaps (suc n) = 256 * n ∷ bitmaps n

-- the sub-super block and the bitmap block of any one group fit
abbrev pub FitsAny : (ℕ → Bool) → ℕ → LotView → Type 0
FitsAny held room lot = (o : ℕ) → o < length lot.groups → lacks held (sub_address ∷ 256 * o ∷ []) ≤ room
