-- What a take and a give do.
use Rattle.std.specs.Prelude.{◌≡◌, ◌⊎◌, ◌≤◌, ◌<◌, ℕ, Bool, true, false, List, [], ◌++◌, length, take, drop, Result, Ok, Err, IfOk, OnErr}
use Rattle.ice_base.specs.Disk.{Image, DiskState, Streams, AgreesOn, Everywhere, Rose}

-- the disk is as it was
pub record SameDisk (old new : DiskState) : Type 0 where
  pub size : new.size ≡ old.size
  pub tells : new.tells ≡ old.tells
  pub faults : new.faults ≡ old.faults
  pub clock : old.clock ≤ new.clock
  pub barriers : new.barriers ≡ old.barriers
  pub writes : new.writes ≡ old.writes
  pub now : new.now ≡ old.now
  pub loose : (k : ℕ) → new.loose k ≡ old.loose k

-- Each crash in the call leaves a disk as before it, and one of these outputs.
pub record Leaves {D : Type 0} (state : D → DiskState) (left : D → ℕ → Image → List ℕ → Type 0) (outs : List ℕ → Type 0) (old new : D) : Type 0 where
  pub left_new : (t : ℕ) (image : Image) (out : List ℕ) → left new t image out
      → left old t image out ⊎ (AgreesOn Everywhere (state old) image × outs out)
  pub left_old : (t : ℕ) (image : Image) (out : List ℕ) → left old t image out → left new t image out

-- the first n bytes that were left to take are now the first n of `into`; none means that none was left
pub record TookFirst (n : ℕ) (into before after : List ℕ) : Type 0 where
  pub enough : n ≤ length before
  pub bytes : take n into ≡ take n before
  pub rest : after ≡ drop n before
  pub ended : n ≡ 0 → before ≡ []

-- a take gives nothing, and moves bytes only at Ok
pub record Takes {E : Type 0} (tells : Bool) (old new : Streams) (into : List ℕ) (result : Result ℕ E) : Type 0 where
  pub aside : new.aside ≡ old.aside
  pub sink_faults : new.sink_faults ≡ old.sink_faults
  pub faults : old.source_faults ≤ new.source_faults
  pub rose : OnErr result (Rose old.source_faults new.source_faults)
  pub count : IfOk result (λ n. n ≤ length into)
  pub bytes : tells ≡ true → IfOk result (λ n. TookFirst n into old.intake new.intake)
  pub none : OnErr result (new.intake ≡ old.intake)
  pub silent : tells ≡ false → new.intake ≡ old.intake

-- some first bytes, at most n of them, were given after what was given before
abbrev pub FirstOf : List ℕ → List ℕ → ℕ → List ℕ → Type 0
FirstOf aside bytes n out = (m : ℕ) × (m ≤ n) × (out ≡ aside ++ take m bytes)

-- some first bytes, but not all of them
abbrev pub CutOf : List ℕ → List ℕ → List ℕ → Type 0
CutOf aside bytes out = (m : ℕ) × (m < length bytes) × (out ≡ aside ++ take m bytes)

-- giving changes neither what is left to take nor its count of faults
pub record GaveOnly (old new : Streams) : Type 0 where
  pub intake : new.intake ≡ old.intake
  pub source_faults : new.source_faults ≡ old.source_faults
  pub faults : old.sink_faults ≤ new.sink_faults

-- how many a give moved
abbrev pub moved_count : {E : Type 0} → Result ℕ E → ℕ
moved_count (Ok n) = n
moved_count (Err e) = 0

-- a give moves at least one byte at Ok, and none at Err
pub record Gives {E : Type 0} (tells : Bool) (old new : Streams) (bytes : List ℕ) (result : Result ℕ E) : Type 0 where
  pub only : GaveOnly old new
  pub rose : OnErr result (Rose old.sink_faults new.sink_faults)
  pub some : IfOk result (λ n. 0 < n)
  pub count : moved_count result ≤ length bytes
  pub aside : tells ≡ true → new.aside ≡ old.aside ++ take (moved_count result) bytes
  pub silent : tells ≡ false → new.aside ≡ old.aside
