-- What calls change, what their crashes leave, and what outlasts them.
use Rattle.std.specs.Prelude.{◌≡◌, ◌⊎◌, ◌≤◌, ℕ, true, false, List, Result, OnOk}
use Rattle.ice_base.specs.Disk.{Image, DiskState, block, AgreesOn, Outside}

-- From old to new only blocks of S were changed or made loose, and each crash since leaves the rest as it was.
pub record Within {D : Type 0} (state : D → DiskState) (left : D → ℕ → Image → List ℕ → Type 0) (S : ℕ → Type 0) (old new : D) : Type 0 where
  pub size : (state new).size ≡ (state old).size
  pub tells : (state new).tells ≡ (state old).tells
  pub streams : (state new).streams ≡ (state old).streams
  pub faults : (state old).faults ≤ (state new).faults
  pub clock : (state old).clock ≤ (state new).clock
  pub barriers : (state old).barriers ≤ (state new).barriers
  pub writes : (state old).writes ≤ (state new).writes
  pub same : (k : ℕ) → ¬ S k → block (state new).now k ≡ block (state old).now k
  pub settled : (k : ℕ) → ¬ S k → (state old).loose k ≡ false → (state new).loose k ≡ false
  pub left_new : (t : ℕ) (image : Image) (out : List ℕ) → left new t image out
      → left old t image out ⊎ (AgreesOn (Outside S) (state old) image × (out ≡ (state old).streams.aside))
  pub left_old : (t : ℕ) (image : Image) (out : List ℕ) → left old t image out → left new t image out

-- Every crash at a moment since old leaves an image and an output that have P.
pub record LeavesOnly {D : Type 0} (left : D → ℕ → Image → List ℕ → Type 0) (old new : D) (P : Image → List ℕ → Type 0) : Type 0 where
  pub each : (t : ℕ) (image : Image) (out : List ℕ) → left new t image out → left old t image out ⊎ P image out

-- the image has Q, and the output is this
abbrev pub With : List ℕ → (Image → Type 0) → Image → List ℕ → Type 0
With aside Q image out = Q image × (out ≡ aside)

-- at this moment every image that a crash leaves, as far as these blocks go, has P
abbrev pub Every : (ℕ → Type 0) → DiskState → (Image → Type 0) → Type 0
Every on s P = (image : Image) → AgreesOn on s image → P image

-- every block of these is settled, on a disk that tells
pub record Settled (on : ℕ → Type 0) (s : DiskState) : Type 0 where
  pub told : s.tells ≡ true
  pub settled : (k : ℕ) → on k → s.loose k ≡ false

-- P looks at these blocks alone: it holds of an image whenever it holds of one with the same blocks there
abbrev pub RestsOn : (ℕ → Type 0) → (Image → Type 0) → Type 0
RestsOn R P = (i j : Image) → ((k : ℕ) → R k → block j k ≡ block i k) → P i → P j

-- what reads give has P, and no crash changes the blocks that P looks at
pub record Sure (on : ℕ → Type 0) (P : Image → Type 0) (s : DiskState) : Type 0 where
  pub settled : Settled on s
  pub now : P s.now

-- on these blocks reads give the same, and what was settled is settled
pub record Kept (on : ℕ → Type 0) (old new : DiskState) : Type 0 where
  pub size : new.size ≡ old.size
  pub tells : new.tells ≡ old.tells
  pub same : (k : ℕ) → on k → block new.now k ≡ block old.now k
  pub settled : (k : ℕ) → on k → old.loose k ≡ false → new.loose k ≡ false

-- All crashes within a step leave what has P, and so does a crash after it.
pub record CrashStep {D : Type 0} (state : D → DiskState) (left : D → ℕ → Image → List ℕ → Type 0) (on : ℕ → Type 0) (P : Image → Type 0)
    (old new : D) : Type 0 where
  pub leaves : LeavesOnly left old new (With (state old).streams.aside P)
  pub after : Every on (state new) P

-- One step from a state that has `before` with the blocks `from` settled: each crash leaves what has P,
-- and an Ok leaves what has `after` with the blocks `on` settled.
pub record MovesFrom {D T X : Type 0} (state : D → DiskState) (left : D → ℕ → Image → List ℕ → Type 0) (from on : ℕ → Type 0)
    (result : Result T X) (before P after : Image → Type 0) (old new : D) : Type 0 where
  pub crash : Settled from (state old) → before (state old).now → CrashStep state left on P old new
  pub done : Settled from (state old) → before (state old).now → OnOk result (Settled on (state new) × after (state new).now)

-- one step between settled states
abbrev pub Moves : {D T X : Type 0} (state : D → DiskState) (left : D → ℕ → Image → List ℕ → Type 0) (on : ℕ → Type 0)
    (result : Result T X) (before P after : Image → Type 0) (old new : D)
    → Type 0
Moves state left on result before P after old new = MovesFrom state left on on result before P after old new
