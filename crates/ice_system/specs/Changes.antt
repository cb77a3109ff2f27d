-- What a change of a volume's tables does to them, and to the disk.
use Rattle.std.specs.Prelude.{◌≡◌, ◌≢◌, ◌≤◌, ◌<◌, ◌⊎◌, ℕ, true, false, List, length, Option, Result, Err, OnOk, IsErrOf}
use Rattle.ice_base.specs.Disk.{Image, DiskState, block, Below, Rose}
use Rattle.ice_base.specs.Frames.{Within, CrashStep, Sure}
use Rattle.ice_layout.specs.Headers.{is_open, is_table}
use Rattle.ice_tables.specs.Tables.{Tables, Row}
use Rattle.ice_tables.specs.Lots.{IsTable, AtRest, groups_of}
use Rattle.ice_txn.specs.declared.set.Entry.{Entry}
use Rattle.ice_txn.specs.Sets.{holds, over}
use Rattle.ice_system.specs.Says.{SayTables, IsChange, EitherTables}
use Rattle.ice_system.specs.Systems.{SystemView, tables_of}
use Rattle.ice_system.specs.declared.fault.SystemFault.{SystemFault}
use Rattle.ice_system.specs.declared.fault.SystemFault.TheVariants.{Before, After}

-- one slot gets this row and these groups, and the other slots keep theirs
pub record SlotBecomes (s : ℕ) (row : Option Row) (groups : List ℕ) (t u : Tables) : Type 0 where
  pub slots : u.slots ≡ t.slots
  pub image : u.groups ≡ t.groups
  pub row_here : u.row s ≡ row
  pub groups_here : groups_of u s ≡ groups
  pub row_else : (r : ℕ) → r ≢ s → u.row r ≡ t.row r
  pub groups_else : (r : ℕ) → r ≢ s → groups_of u r ≡ groups_of t r

-- From tables t to u: each crash leaves one of the two, Ok the new ones at rest, Before the old ones at rest, and After a gate that is loose or open.
pub record MovesTables {D X : Type 0} (state : D → DiskState) (left : D → ℕ → Image → List ℕ → Type 0) (t u : Tables)
    (result : Result X SystemFault) (old new : D) : Type 0 where
  pub crash : CrashStep state left (Below 19) (EitherTables t u) old new
  pub done : OnOk result (Sure IsTable (AtRest u) (state new))
  pub before : IsErrOf result Before → Sure IsTable (AtRest t) (state new)
  pub after : IsErrOf result After → ((state new).loose 1 ≡ true) ⊎ (is_open (block (state new).now 1) ≡ true)

-- The entries change blocks that say t to blocks that say u: each table block is put as it shall be, or is so already.
pub record HasChanges (t u : Tables) (entries : List Entry) : Type 0 where
  pub old : ℕ → List ℕ
  pub new : ℕ → List ℕ
  pub before : SayTables t old
  pub after : SayTables u new
  pub changed : (m : ℕ → List ℕ) (k : ℕ) → 11 ≤ k → k < 19 → (over entries m k ≡ new k) ⊎ ((over entries m k ≡ m k) × (old k ≡ new k))
  pub homes : (a : ℕ) → holds entries a ≡ true → is_table a ≡ true
  pub few : length entries ≤ 8

-- A change of one slot, from the volume v to w. It fails Before with the volume as it was, or After, and then every later change fails so.
pub record Changes {D X : Type 0} (state : D → DiskState) (left : D → ℕ → Image → List ℕ → Type 0) (s : ℕ) (row : Option Row)
    (groups : List ℕ) (v w : SystemView) (result : Result X SystemFault) (old new : D) : Type 0 where
  pub within : Within state left IsChange old new
  pub calm : OnOk result ((state new).faults ≡ (state old).faults)
  pub ready : OnOk result ((v.failed ≡ false) × (w.failed ≡ false))
  pub done : OnOk result (SlotBecomes s row groups (tables_of v) (tables_of w))
  pub before : IsErrOf result Before → (w ≡ v) × (v.failed ≡ false) × Rose (state old).faults (state new).faults
  pub after : IsErrOf result After → (w ≡ record v { failed = true }) × ((v.failed ≡ true) ⊎ Rose (state old).faults (state new).faults)
  pub late : v.failed ≡ true → (result ≡ Err After) × (new ≡ old)
  pub moves : v.failed ≡ false → Sure IsTable (AtRest (tables_of v)) (state old)
      → (u : Tables) × SlotBecomes s row groups (tables_of v) u × OnOk result (tables_of w ≡ u) × MovesTables state left (tables_of v) u result old new
