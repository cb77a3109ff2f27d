-- What a disk holds, what a crash may leave of it, and what one call changes.
use Rattle.std.specs.Prelude.{◌≡◌, ◌+◌, ◌-◌, ◌≤◌, ◌<◌, ◌^◌, min, ℕ, Bool, true, false, if◌then◌else◌, List, [], length, slice_index_or, Result, OnErr, IsErrOf}

-- an image: the list of the blocks
abbrev pub Image : Type 0
Image = List (List ℕ)

-- the block at a number
unfoldable pub block : Image → ℕ → List ℕ
block image k = slice_index_or image k []

-- the bytes given out and left to take, and how often giving and taking failed
pub record Streams : Type 0 where
  pub aside : List ℕ
  pub intake : List ℕ
  pub source_faults : ℕ
  pub sink_faults : ℕ

-- What a disk holds at one moment. `now` is how its blocks read, `loose` the set of blocks written since the last good barrier.
-- Where `tells` is false, `now`, `loose`, `clock`, `barriers` and `writes` mean nothing.
pub record DiskState : Type 0 where
  pub size : ℕ
  pub faults : ℕ
  pub streams : Streams
  pub tells : Bool
  pub now : Image
  pub loose : ℕ → Bool
  pub clock : ℕ
  pub barriers : ℕ
  pub writes : ℕ

-- what a disk tells that tells nothing of its content: its size, and how often its calls, taking and giving failed
abbrev pub untold : (size faults source_faults sink_faults : ℕ) → DiskState
untold size faults source_faults sink_faults = record {
  size = size;
  faults = faults;
  streams = record { aside = []; intake = []; source_faults = source_faults; sink_faults = sink_faults };
  tells = false;
  now = [];
  loose = λ k. false;
  clock = 0;
  barriers = 0;
  writes = 0;
}

-- the count rose by n at least, or stands at its last value
abbrev pub RoseBy : ℕ → ℕ → ℕ → Type 0
RoseBy n before now = min (before + n) (2 ^ 64 - 1) ≤ now

-- the count is greater now, or stands at its last value
abbrev pub Rose : ℕ → ℕ → Type 0
Rose before now = RoseBy 1 before now

-- an image that agrees with what reads give, on these blocks where they are settled
pub record AgreesOn (on : ℕ → Type 0) (s : DiskState) (image : Image) : Type 0 where
  pub count : length image ≡ s.size
  pub same : (k : ℕ) → on k → s.loose k ≡ false → block image k ≡ block s.now k

-- all blocks
abbrev pub Everywhere : ℕ → Type 0
Everywhere k = Unit {0}

-- no block
abbrev pub Nowhere : ℕ → Type 0
Nowhere k = ⊥

-- the other blocks
abbrev pub Outside : (ℕ → Type 0) → ℕ → Type 0
Outside S k = ¬ S k

-- the blocks of the first set that are not of the second
abbrev pub Minus : (ℕ → Type 0) → (ℕ → Type 0) → ℕ → Type 0
Minus E S k = E k × ¬ S k

-- the blocks below a number
abbrev pub Below : ℕ → ℕ → Type 0
Below n k = k < n

-- an Err comes only where the count of disk faults rose
pub record HasCause {T E : Type 0} (old new : DiskState) (result : Result T E) : Type 0 where
  pub failed : OnErr result (Rose old.faults new.faults)

-- this fault is answered only where the count of disk faults rose
abbrev pub Caused : {T E D : Type 0} → (D → DiskState) → E → Result T E → D → D → Type 0
Caused state fault result d e = IsErrOf result fault → Rose (state d).faults (state e).faults

-- what a write counts and makes loose, good or bad
pub record WriteCounts (at : ℕ) (good : Bool) (old new : DiskState) : Type 0 where
  pub clock : Rose old.clock new.clock
  pub barriers : new.barriers ≡ old.barriers
  pub writes : new.writes ≡ (if good then old.writes + 1 else old.writes)
  pub loose_here : new.loose at ≡ true
  pub loose_else : (k : ℕ) → ¬ (k ≡ at) → new.loose k ≡ old.loose k

-- what a barrier counts, and that a good one settles every block
pub record BarrierCounts (good : Bool) (old new : DiskState) : Type 0 where
  pub clock : Rose old.clock new.clock
  pub barriers : new.barriers ≡ (if good then old.barriers + 1 else old.barriers)
  pub writes : new.writes ≡ old.writes
  pub loose : (k : ℕ) → new.loose k ≡ (if good then false else old.loose k)

-- what a read counts
pub record ReadCounts (old new : DiskState) : Type 0 where
  pub clock : Rose old.clock new.clock
  pub barriers : new.barriers ≡ old.barriers
  pub writes : new.writes ≡ old.writes
  pub loose : (k : ℕ) → new.loose k ≡ old.loose k
