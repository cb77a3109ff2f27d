-- The blocks of a journal, and those that a commit or a replay changes.
use Rattle.std.specs.Prelude.{◌≡◌, ◌≢◌, ◌⊎◌, ◌<◌, ◌≤◌, ◌+◌, ℕ, true, false, List, length, slice_index}
use Rattle.ice_tables.specs.Journals.{Places}
use Rattle.ice_txn.specs.declared.set.Entry.{Entry}
use Rattle.ice_txn.specs.Sets.{holds}

-- one of n blocks from the first on
abbrev pub IsFrom : (first : ℕ) → ℕ → ℕ → Type 0
IsFrom first n k = (first ≤ k) × (k < first + n)

-- a header, or one of the first n bodies from one on
abbrev pub IsBodyOf : (header body : ℕ) → ℕ → ℕ → Type 0
IsBodyOf header body n k = (k ≡ header) ⊎ IsFrom body n k

-- the header, or one of the first n bodies
abbrev pub IsBody : Places → ℕ → ℕ → Type 0
IsBody at n k = IsBodyOf at.header at.body n k

-- the home of an address
abbrev pub IsPlace : Places → ℕ → Type 0
IsPlace at k = (a : ℕ) × (at.home a ≡ true) × (k ≡ at.place a)

-- the home of an address that the entries have
abbrev pub IsPut : Places → List Entry → ℕ → Type 0
IsPut at entries k = (a : ℕ) × (holds entries a ≡ true) × (k ≡ at.place a)

-- the home of another address
abbrev pub IsOther : Places → List Entry → ℕ → Type 0
IsOther at entries k = (a : ℕ) × (at.home a ≡ true) × (holds entries a ≡ false) × (k ≡ at.place a)

-- the home of one of these targets
abbrev pub IsTargetPlace : Places → List ℕ → ℕ → Type 0
IsTargetPlace at targets k = (j : ℕ) × (j < length targets) × (k ≡ at.place (slice_index targets j))

-- gate, header, bodies and homes of a journal of so many targets at most
abbrev pub JournalExtent : Places → (most : ℕ) → ℕ → Type 0
JournalExtent at most k = (k ≡ at.gate) ⊎ IsBody at most k ⊎ IsPlace at k

-- the gate, and the homes of the addresses that the entries have
abbrev pub HomeBlocks : Places → List Entry → ℕ → Type 0
HomeBlocks at entries k = (k ≡ at.gate) ⊎ IsPut at entries k

-- all these blocks lie below a number of blocks
abbrev pub LiesBelow : Places → (most : ℕ) → (blocks : ℕ) → Type 0
LiesBelow at most blocks = (k : ℕ) → JournalExtent at most k → k < blocks

-- what a commit of these entries changes
abbrev pub CommitBlocks : Places → List Entry → ℕ → Type 0
CommitBlocks at entries k = (k ≡ at.gate) ⊎ IsBody at (length entries) k ⊎ IsPut at entries k

-- what a replay of these targets changes
abbrev pub ReplayBlocks : Places → List ℕ → ℕ → Type 0
ReplayBlocks at targets k = (k ≡ at.gate) ⊎ IsTargetPlace at targets k

-- each address of the entries has a home
abbrev pub AreHomes : Places → List Entry → Type 0
AreHomes at entries = (a : ℕ) → holds entries a ≡ true → at.home a ≡ true

-- gate, header, bodies and homes are different blocks, and so are the homes of different addresses
pub record AreApart (at : Places) (most : ℕ) : Type 0 where
  pub gate_header : at.gate ≢ at.header
  pub gate_body : ¬ IsFrom at.body most at.gate
  pub header_body : ¬ IsFrom at.body most at.header
  pub home_gate : (a : ℕ) → at.home a ≡ true → at.place a ≢ at.gate
  pub home_header : (a : ℕ) → at.home a ≡ true → at.place a ≢ at.header
  pub home_body : (a : ℕ) → at.home a ≡ true → ¬ IsFrom at.body most (at.place a)
  pub home_home : (a b : ℕ) → at.home a ≡ true → at.home b ≡ true → at.place a ≡ at.place b → a ≡ b
