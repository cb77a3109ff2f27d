-- Worked examples: the bytes of a row, and where it stands.
use Rattle.std.proofs.Common.{◌≡◌, ℕ, zero, suc, ◌-◌, ◌<◌, ◌≤◌, false, List, [], ◌∷◌, ◌++◌, take, drop, Some, None, refl, arith, ◌∙◌}
use Rattle.std.specs.Prelude.{slice_index}
use Rattle.std.proofs.lemmas.List.{get_or-append_right}
use Rattle.ice_tables.specs.Tables.{Row}
use Rattle.ice_names.specs.Names.{mark_of, marked, longer_one}
use Rattle.ice_names.specs.Bytes.{IsRowBytes, row_bytes}
use Rattle.ice_names.specs.declared.mark.Mark.TheVariants.{Free, Online, Offline}
use Rattle.ice_names.proofs.ByteLaws.{zeros, zero_there}

-- the cube `/home`
abbrev home : Row
home = record { path = (0x68 ∷ 0x6f ∷ 0x6d ∷ 0x65 ∷ []) ∷ []; offline = false }

abbrev home_front : List ℕ
home_front = 1 ∷ 5 ∷ 0 ∷ 0 ∷ 0 ∷ 0 ∷ 0 ∷ 0 ∷ 0x2f ∷ 0x68 ∷ 0x6f ∷ 0x6d ∷ 0x65 ∷ []

abbrev home_row : List ℕ
home_row = home_front ++ zeros 243

home_bytes : IsRowBytes (Some home) home_row
home_bytes = record {
  long = refl;
  mark = refl;
  size = refl;
  text = refl;
  head = low;
  tail = λ k more. get_or-append_right home_front (zeros 243) 13 k 0 refl more ∙ zero_there 243 (k - 13);
}
  where
    low : (k : ℕ) → 2 ≤ k → k < 8 → slice_index home_row k ≡ 0
    low zero some less = absurd (omega (arith, some))
    low (suc zero) some less = absurd (omega (arith, some))
    low (suc (suc zero)) some less = refl
    low (suc (suc (suc zero))) some less = refl
    low (suc (suc (suc (suc zero)))) some less = refl
    low (suc (suc (suc (suc (suc zero))))) some less = refl
    low (suc (suc (suc (suc (suc (suc zero)))))) some less = refl
    low (suc (suc (suc (suc (suc (suc (suc zero))))))) some less = refl
    low (suc (suc (suc (suc (suc (suc (suc (suc k)))))))) some less = absurd (omega (arith, less))

-- the row of slot 5 is the second of block 12
row_of_5 : (m : ℕ → List ℕ) → row_bytes m 5 ≡ take 256 (drop 256 (m 12))
row_of_5 m = refl

marks_of_rows : (mark_of None ≡ Free) × (mark_of (Some home) ≡ Online) × (mark_of (marked Offline (Some home)) ≡ Offline) × (marked
    Free (Some home) ≡ None)
marks_of_rows = (refl, refl, refl, refl)

-- the first of the longest ones stays
longer_ones : (longer_one None 3 (Some 0) ≡ Some (3, 0)) × (longer_one (Some (3, 1)) 4 (Some 1) ≡ Some (3, 1)) × (longer_one
    (Some (3, 1)) 4 (Some 2) ≡ Some (4, 2))
longer_ones = (refl, refl, refl)
