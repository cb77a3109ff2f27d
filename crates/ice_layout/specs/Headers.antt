-- The gate and the header of a journal, byte by byte.
use Rattle.std.specs.Prelude.{◌≡◌, ◌≢◌, ◌<◌, ◌≤◌, ℕ, ◌+◌, ◌-◌, ◌*◌, Bool, true, not, ◌&&◌, ◌||◌, ◌==◌, nat_le, nat_lt, if◌then◌else◌, List, [], ◌∷◌, ◌++◌, length, map, take, replicate, slice_index, slice_set, Option, Some, None}
use Rattle.std.specs.List.{list_all, range_with_len}
use Rattle.std.specs.Option.{option_map}
use Rattle.ice_base.specs.Fields.{word_at}
use Rattle.ice_base.specs.Lots.{LotView, is_address, sub_address}
use Rattle.ice_base.specs.Spare.{has}
use Rattle.ice_layout.specs.Geometry.{zero_block, between}
use Rattle.ice_layout.specs.declared.header.Header.{Header}

-- ---- gates

-- a gate is open where its first byte is 1
unfoldable pub is_open : List ℕ → Bool
is_open gate = slice_index gate 0 == 1

-- what is written as a gate: 1 or 0, and zeros
abbrev pub gate_block : Bool → List ℕ
gate_block on = slice_set zero_block 0 (if on then 1 else 0)

-- ---- headers

-- the bytes `IceJ`
abbrev pub slot_magic : ℕ
slot_magic = 0x4a656349

-- the bytes `IceS`
abbrev pub system_magic : ℕ
system_magic = 0x53656349

-- a block of the cube table or of the owner table
abbrev pub is_table : ℕ → Bool
is_table k = nat_le 11 k && nat_lt k 19

-- the numbers of a list differ
abbrev pub all_differ : List ℕ → Bool
all_differ [] = true
all_differ (x ∷ xs) = not (has xs x) && all_differ xs

-- the first n targets in a header
abbrev pub targets_in : List ℕ → ℕ → List ℕ
targets_in header n = map (λ i. word_at header (16 + 4 * i)) (range_with_len 0 n)

-- a header's targets: 1 to `most` different homes
abbrev pub targets_of : ℕ → (ℕ → Bool) → List ℕ → ℕ → Option (List ℕ)
targets_of most home header n =
    if between 1 most n && (list_all home (targets_in header n) && all_differ (targets_in header n)) then Some (targets_in header n) else None

-- the targets of a lot's header, or None where it is refused: the magic, the slot in the byte at 4, the number of targets at 8
unfoldable pub slot_targets : LotView → List ℕ → Option (List ℕ)
slot_targets lot header =
    if word_at header 0 == slot_magic && slice_index header 4 == lot.slot then targets_of 240 (is_address lot) header (word_at header 8) else None

-- the targets of the header of the tables
unfoldable pub system_targets : List ℕ → Option (List ℕ)
system_targets header = if word_at header 0 == system_magic then targets_of 8 is_table header (word_at header 8) else None

-- ---- headers as values

-- 240 numbers: these targets, and zeros
abbrev pub filled : List ℕ → List ℕ
filled ts = ts ++ replicate (240 - length ts) 0

-- a header with these targets
abbrev pub header_with : List ℕ → Header
header_with ts = record { count = length ts; targets = filled ts }

-- what the bytes say as a lot's header, or None where they are refused
abbrev pub header_of : LotView → List ℕ → Option Header
header_of lot bytes = option_map (λ ts. header_with ts) (slot_targets lot bytes)

-- what the bytes say as the header of the tables, or None where they are refused
abbrev pub system_header_of : List ℕ → Option Header
system_header_of bytes = option_map (λ ts. header_with ts) (system_targets bytes)

-- what the number and the targets in a block say as a header: 1 to `most` different homes, else None
abbrev pub header_in : (most : ℕ) (home : ℕ → Bool) → List ℕ → Option Header
header_in most home bytes = option_map (λ ts. header_with ts) (targets_of most home bytes (word_at bytes 8))

-- the targets of a header
abbrev pub targets_said : Header → List ℕ
targets_said header = take header.count header.targets

-- 1 to `most` different homes
pub record AreTargets (most : ℕ) (home : ℕ → Bool) (ts : List ℕ) : Type 0 where
  pub some : 1 ≤ length ts
  pub few : length ts ≤ most
  pub homes : (i : ℕ) → i < length ts → home (slice_index ts i) ≡ true
  pub differ : (i j : ℕ) → i < j → j < length ts → slice_index ts i ≢ slice_index ts j

-- an address of a lot with as many groups as there may be
abbrev pub may_be_address : ℕ → Bool
may_be_address a = a == sub_address || nat_lt a 16384

-- what may be written: 1 to `most` different homes, and zeros after them
pub record IsProperHeader (most : ℕ) (home : ℕ → Bool) (header : Header) : Type 0 where
  pub number : between 1 most header.count ≡ true
  pub homes : list_all home (targets_said header) ≡ true
  pub differ : all_differ (targets_said header) ≡ true
  pub rest : header ≡ header_with (targets_said header)

-- the bytes of a header of n targets in which no field stands are zero; those of its mark end at `from`
pub record HeaderZeros (from n : ℕ) (bytes : List ℕ) : Type 0 where
  pub mark : (k : ℕ) → from ≤ k → k < 8 → slice_index bytes k ≡ 0
  pub count : (k : ℕ) → 12 ≤ k → k < 16 → slice_index bytes k ≡ 0
  pub targets : (k : ℕ) → 16 + 4 * n ≤ k → slice_index bytes k ≡ 0

-- the fields of a header: four bytes and one more that mark it, the number of targets and the targets; and zeros beside them
pub record HeaderFields (magic byte : ℕ) (header : Header) (bytes : List ℕ) : Type 0 where
  pub mark : word_at bytes 0 ≡ magic
  pub fifth : slice_index bytes 4 ≡ byte
  pub number : word_at bytes 8 ≡ header.count
  pub targets : (i : ℕ) → i < header.count → word_at bytes (16 + 4 * i) ≡ slice_index header.targets i
  pub zeros : HeaderZeros 5 header.count bytes
