-- Worked examples: what bytes say of rows, owners and open gates.
use Rattle.std.proofs.Common.{◌≡◌, ℕ, true, false, List, [], ◌∷◌, ◌++◌, refl, Option, None, Some}
use Rattle.std.specs.Prelude.{◌==◌, map, replicate, if◌then◌else◌}
use Rattle.std.specs.List.{range_with_len}
use Rattle.ice_base.specs.Disk.{Image, block}
use Rattle.ice_base.specs.Fields.{word_at}
use Rattle.ice_base.specs.Lots.{sub_address, is_address, place, inside}
use Rattle.ice_base.specs.Spare.{has}
use Rattle.tree_spec.specs.Names.{names_of}
use Rattle.ice_layout.specs.Headers.{is_open, slot_targets, system_targets}
use Rattle.ice_layout.proofs.HeaderRows.{word, lot, header, sub_word, system_header}
use Rattle.ice_tables.specs.Journals.{effective_of, table_blocks}
use Rattle.ice_tables.specs.Tables.{Tables, row_of, tables_in}
use Rattle.ice_tables.specs.Lots.{groups_of, lot_of}

-- ---- rows and owners

-- the blocks of the tables: slot 5 has `/home`, group 257 is the third of slot 5
abbrev tables : ℕ → List ℕ
tables k =
    if k == 12 then replicate 256 0 ++ (1 ∷ 5 ∷ 0 ∷ 0 ∷ 0 ∷ 0 ∷ 0 ∷ 0 ∷ 0x2f ∷ 0x68 ∷ 0x6f ∷ 0x6d ∷ 0x65 ∷ replicate 243 0)
    else if k == 16 then 0 ∷ 0 ∷ 0 ∷ 0 ∷ 6 ∷ 2 ∷ 0 ∷ 0 ∷ []
    else []

abbrev home : List ℕ
home = 0x68 ∷ 0x6f ∷ 0x6d ∷ 0x65 ∷ []

abbrev said : Tables
said = tables_in (record { slots = 6; groups = 258 }) tables

row_of_home : said.row 5 ≡ Some (record { path = home ∷ []; offline = false })
unfolding names_of
row_of_home = refl

rows_of_others : (said.row 4 ≡ None) × (said.row 6 ≡ None)
rows_of_others = (refl, refl)

marked_offline : row_of 2 (0x2f ∷ []) ≡ Some (record { path = []; offline = true })
marked_offline = refl

owner_of_257 : (said.holder 257 ≡ Some 5) × (said.ordinal 257 ≡ 2)
owner_of_257 = (refl, refl)

owners_of_others : (said.holder 256 ≡ None) × (said.ordinal 256 ≡ 0) × (said.holder 258 ≡ None)
owners_of_others = (refl, refl, refl)

-- ---- lots

-- slot 1 has the groups 4, 0 and 2 in this order, slot 0 has group 3, group 1 is free
abbrev shared : Tables
shared = record {
  slots = 2;
  groups = 5;
  row = λ s. None;
  holder = λ g. if g == 3 then Some 0 else if g == 1 then None else Some 1;
  ordinal = λ g. if g == 4 then 0 else if g == 0 then 1 else if g == 2 then 2 else 0;
}

groups_in_order : (groups_of shared 1 ≡ 4 ∷ 0 ∷ 2 ∷ []) × (groups_of shared 0 ≡ 3 ∷ [])
unfolding groups_of
groups_in_order = (refl, refl)

lot_of_slot_1 : lot_of shared 1 ≡ record { slot = 1; base = 544; groups = 4 ∷ 0 ∷ 2 ∷ [] }
unfolding groups_of
lot_of_slot_1 = refl

-- ---- gates

-- an image whose block k holds k alone, but for the gate and the header of slot 1 and those of the tables
abbrev image : ℕ → Image
image gate =
    map (λ k. if k == 289 then gate ∷ [] else if k == 290 then header 2
    (sub_word ∷ word 9 ∷ []) else if k == 1 then gate ∷ [] else if k == 2 then system_header 1 (word 12 ∷ []) else k ∷ []) (range_with_len 0 600)

-- the effective blocks at an address, where there are any
abbrev seen : Option (ℕ → List ℕ) → ℕ → List ℕ
seen None a = []
seen (Some m) a = m a

closed_lot : (seen (effective_of lot (image 0)) sub_address ≡ 288 ∷ []) × (seen (effective_of lot (image 0)) 9 ≡ 553 ∷ [])
    × (seen (effective_of lot (image 0)) 256 ≡ [])
unfolding effective_of is_open slot_targets word_at is_address place has inside block
closed_lot = (refl, refl, refl)

open_lot : (seen (effective_of lot (image 1)) sub_address ≡ 291 ∷ []) × (seen (effective_of lot (image 1)) 9 ≡ 292 ∷ [])
    × (seen (effective_of lot (image 1)) 10 ≡ 554 ∷ [])
unfolding effective_of is_open slot_targets word_at is_address place has inside block
open_lot = (refl, refl, refl)

-- another first byte than 1 closes the gate
closed_by_2 : seen (effective_of lot (image 2)) 9 ≡ 553 ∷ []
unfolding effective_of is_open slot_targets word_at is_address place has inside block
closed_by_2 = refl

open_tables : (seen (table_blocks (image 1)) 12 ≡ 3 ∷ []) × (seen (table_blocks (image 1)) 11 ≡ 11 ∷ [])
    × (seen (table_blocks (image 0)) 12 ≡ 12 ∷ []) × (seen (table_blocks (image 0)) 19 ≡ [])
unfolding table_blocks is_open system_targets word_at has block
open_tables = (refl, refl, refl, refl)
