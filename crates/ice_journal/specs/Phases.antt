-- What a journal stands for, and the phases of a commit: what holds of an image between two steps, and which blocks that looks at.
use Rattle.std.specs.Prelude.{◌≡◌, ◌⊎◌, ◌<◌, ◌+◌, ℕ, true, false, List, length, Option, Some, IsSomeAnd}
use Rattle.ice_base.specs.Disk.{Image, DiskState, block}
use Rattle.ice_base.specs.Frames.{Sure}
use Rattle.ice_layout.specs.Headers.{is_open}
use Rattle.ice_tables.specs.Journals.{Places, effective}
use Rattle.ice_txn.specs.declared.set.Entry.{Entry}
use Rattle.ice_txn.specs.Sets.{addresses, contents, holds, over}
use Rattle.ice_journal.specs.Blocks.{IsBody, IsPlace, IsOther}

-- the bodies are the blocks of the entries, in their order
abbrev pub HoldBlocks : (body : ℕ) → List Entry → Image → Type 0
HoldBlocks body entries image = (j : ℕ) → j < length entries → block image (body + j) ≡ contents entries j

-- header and bodies hold the entries
pub record HoldsSet (reads : List ℕ → Option (List ℕ)) (at : Places) (entries : List Entry) (image : Image) : Type 0 where
  pub header : reads (block image at.header) ≡ Some (addresses entries)
  pub bodies : HoldBlocks at.body entries image

-- the homes are the blocks of the map
abbrev pub HomesAre : Places → (ℕ → List ℕ) → Image → Type 0
HomesAre at map image = (a : ℕ) → at.home a ≡ true → block image (at.place a) ≡ map a

-- at rest, and while header and bodies are written: the gate is closed
pub record Idle (at : Places) (map : ℕ → List ℕ) (image : Image) : Type 0 where
  pub gate : is_open (block image at.gate) ≡ false
  pub homes : HomesAre at map image

-- while the gate is written
pub record Full (reads : List ℕ → Option (List ℕ)) (at : Places) (entries : List Entry) (map : ℕ → List ℕ) (image : Image) : Type 0 where
  pub set : HoldsSet reads at entries image
  pub homes : HomesAre at map image

-- while the homes of the entries are written: the gate is open, and the other homes are the blocks of the map
pub record Open (reads : List ℕ → Option (List ℕ)) (at : Places) (entries : List Entry) (map : ℕ → List ℕ) (image : Image) : Type 0 where
  pub gate : is_open (block image at.gate) ≡ true
  pub set : HoldsSet reads at entries image
  pub homes : (a : ℕ) → at.home a ≡ true → holds entries a ≡ false → block image (at.place a) ≡ map a

-- the blocks that each of these facts looks at
abbrev pub RestsIdle : Places → ℕ → Type 0
RestsIdle at k = (k ≡ at.gate) ⊎ IsPlace at k

abbrev pub RestsFull : Places → List Entry → ℕ → Type 0
RestsFull at entries k = IsBody at (length entries) k ⊎ IsPlace at k

abbrev pub RestsOpen : Places → List Entry → ℕ → Type 0
RestsOpen at entries k = (k ≡ at.gate) ⊎ IsBody at (length entries) k ⊎ IsOther at entries k

-- the journal is at rest with the map, and what that looks at is settled
abbrev pub IsAtRest : Places → (ℕ → List ℕ) → DiskState → Type 0
IsAtRest at map s = Sure (RestsIdle at) (Idle at map) s

-- the image stands for the map at the addresses of the journal
abbrev pub StandsFor : (List ℕ → Option (List ℕ)) → Places → (ℕ → List ℕ) → Image → Type 0
StandsFor reads at map image = IsSomeAnd (effective reads at image) (λ m. (a : ℕ) → at.home a ≡ true → m a ≡ map a)

-- the image stands for the map, or for the map with the entries in place
abbrev pub BeforeOrAfter : (List ℕ → Option (List ℕ)) → Places → List Entry → (ℕ → List ℕ) → Image → Type 0
BeforeOrAfter reads at entries map image = StandsFor reads at map image ⊎ StandsFor reads at (over entries map) image

-- the gate is open, and the header names these targets
pub record IsPending (reads : List ℕ → Option (List ℕ)) (at : Places) (targets : List ℕ) (image : Image) : Type 0 where
  pub gate : is_open (block image at.gate) ≡ true
  pub header : reads (block image at.header) ≡ Some targets
