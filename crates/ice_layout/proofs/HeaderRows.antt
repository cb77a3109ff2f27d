-- Worked examples: what bytes say as gates and headers, and what is written.
use Rattle.std.proofs.Common.{◌≡◌, ℕ, true, false, List, [], ◌∷◌, ◌++◌, refl, None, Some}
use Rattle.std.specs.Prelude.{map, replicate, slice_set}
use Rattle.std.specs.List.{range_with_len, flat_map}
use Rattle.ice_base.specs.Fields.{word_at}
use Rattle.ice_base.specs.Lots.{LotView, sub_address, is_address}
use Rattle.ice_base.specs.Spare.{has}
use Rattle.ice_layout.specs.Headers.{is_open, gate_block, slot_targets, system_targets, header_of, system_header_of, may_be_address}

-- ---- gates

gates : (is_open (1 ∷ []) ≡ true) × (is_open (0 ∷ 1 ∷ []) ≡ false) × (is_open (2 ∷ []) ≡ false) × (is_open (255 ∷ []) ≡ false)
unfolding is_open
gates = (refl, refl, refl, refl)

gates_written : (gate_block true ≡ 1 ∷ replicate 1023 0) × (gate_block false ≡ replicate 1024 0)
gates_written = (refl, refl)

-- ---- headers

-- four bytes of a small number
abbrev pub word : ℕ → List ℕ
word n = n ∷ 0 ∷ 0 ∷ 0 ∷ []

-- a lot of one group
abbrev pub lot : LotView
lot = record { slot = 1; base = 544; groups = 0 ∷ [] }

-- a header of slot 1 with this number and these targets
abbrev pub header : ℕ → List (List ℕ) → List ℕ
header count targets = 0x49 ∷ 0x63 ∷ 0x65 ∷ 0x4a ∷ 1 ∷ 0 ∷ 0 ∷ 0 ∷ (word count ++ (word 0 ++ flat_map (λ (t : List ℕ). t) targets))

-- the bytes of the address of the sub-super block
abbrev pub sub_word : List ℕ
sub_word = 0xff ∷ 0xff ∷ 0xff ∷ 0xff ∷ []

targets_of_a_lot : slot_targets lot (header 3 (word 9 ∷ sub_word ∷ word 0 ∷ word 7 ∷ [])) ≡ Some (9 ∷ sub_address ∷ 0 ∷ [])
unfolding slot_targets word_at is_address has
targets_of_a_lot = refl

headers_refused :
    (slot_targets lot (slice_set (header 1 (word 9 ∷ [])) 3 0x4b) ≡ None)
    × (slot_targets lot (slice_set (header 1 (word 9 ∷ [])) 4 0) ≡ None)
    × (slot_targets lot (header 0 []) ≡ None)
    × (slot_targets lot (header 2 (word 9 ∷ word 9 ∷ [])) ≡ None)
    × (slot_targets lot (header 1 ((0 ∷ 1 ∷ 0 ∷ 0 ∷ []) ∷ [])) ≡ None)
    × (slot_targets lot (header 241 (map (λ k. k ∷ 0 ∷ 0 ∷ 0 ∷ []) (range_with_len 0 241))) ≡ None)
unfolding slot_targets word_at is_address has
headers_refused = (refl, refl, refl, refl, refl, refl)

-- a header of the tables with this number and these targets
abbrev pub system_header : ℕ → List (List ℕ) → List ℕ
system_header count targets = 0x49 ∷ 0x63 ∷ 0x65 ∷ 0x53 ∷ (word 0 ++ (word count ++ (word 0 ++ flat_map (λ (t : List ℕ). t) targets)))

targets_of_the_tables : system_targets (system_header 2 (word 18 ∷ word 11 ∷ [])) ≡ Some (18 ∷ 11 ∷ [])
unfolding system_targets word_at has
targets_of_the_tables = refl

system_headers_refused :
    (system_targets (system_header 1 (word 10 ∷ [])) ≡ None)
    × (system_targets (system_header 1 (word 19 ∷ [])) ≡ None)
    × (system_targets (system_header 9 (map word (range_with_len 11 9))) ≡ None)
    × (system_targets (slice_set (system_header 1 (word 11 ∷ [])) 0 0) ≡ None)
unfolding system_targets word_at has
system_headers_refused = (refl, refl, refl, refl)

-- what is read: the number, the targets, and zeros after them
said_of_a_lot : header_of lot (header 2 (word 9 ∷ sub_word ∷ word 7 ∷ [])) ≡ Some (record { count = 2; targets = 9 ∷ sub_address ∷ replicate 238 0 })
unfolding slot_targets word_at is_address has
said_of_a_lot = refl

said_of_the_tables : system_header_of (system_header 2 (word 18 ∷ word 11 ∷ [])) ≡ Some (record { count = 2; targets = 18 ∷ 11 ∷ replicate 238 0 })
unfolding system_targets word_at has
said_of_the_tables = refl

addresses_that_may_be : (may_be_address sub_address ≡ true) × (may_be_address 16383 ≡ true) × (may_be_address 16384 ≡ false) × (may_be_address 0 ≡ true)
addresses_that_may_be = (refl, refl, refl, refl)
