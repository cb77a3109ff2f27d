-- Blocks by their addresses.
use Rattle.std.specs.Prelude.{◌≢◌, ◌≤◌, ◌<◌, ◌^◌, ◌==◌, ℕ, Bool, true, false, cond, List, [], ◌∷◌, length, slice_index_or, map}
use Rattle.ice_txn.specs.declared.set.Entry.{Entry}

-- the entries of a set, and how many there may be
pub record SetView : Type 0 where
  pub entries : List Entry
  pub most : ℕ

-- the address of entry j
unfoldable pub address : List Entry → ℕ → ℕ
address entries j = (slice_index_or entries j (record { at = 0; block = [] })).at

-- the block of entry j
unfoldable pub contents : List Entry → ℕ → List ℕ
contents entries j = (slice_index_or entries j (record { at = 0; block = [] })).block

-- the addresses, in the order of the entries
abbrev pub addresses : List Entry → List ℕ
addresses entries = map (λ (e : Entry). e.at) entries

-- whether an entry has the address
unfoldable pub holds : List Entry → ℕ → Bool
holds [] a = false
holds (e ∷ entries) a = cond (e.at == a) true (holds entries a)

-- a map of blocks with those of the set in place
unfoldable pub over : List Entry → (ℕ → List ℕ) → ℕ → List ℕ
over [] m a = m a
over (e ∷ entries) m a = cond (e.at == a) e.block (over entries m a)

-- no two entries have one address
abbrev pub Differ : List Entry → Type 0
Differ entries = (i j : ℕ) → i < j → j < length entries → address entries i ≢ address entries j

-- the addresses differ, there are no more entries than there may be, and there is memory for so many
pub record IsSet (set : SetView) (memory : ℕ) : Type 0 where
  pub differ : Differ set.entries
  pub few : length set.entries ≤ set.most
  pub small : set.most < 2 ^ 32
  pub reserved : set.most ≤ memory
