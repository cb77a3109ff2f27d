-- What a host in memory holds, what it remembers of its past, and what a crash may leave of it.
use Rattle.std.specs.Prelude.{◌≡◌, ◌⊎◌, ◌+◌, ◌-◌, ◌≤◌, ◌<◌, ◌^◌, min, ℕ, Bool, true, false, if◌then◌else◌, ◌==◌, nat_lt, List, [], ◌∷◌, length, slice_set, slice_index_or, take, Contains, Result, IsErr}
use Rattle.std.proofs.Common.{inl, inr, sym, ◌∙◌, ap, arith}
use Rattle.std.proofs.lemmas.Bool.{false≢true, cases_Bool}
use Rattle.std.proofs.lemmas.List.{take_all}
use Rattle.ice_base.specs.Disk.{Image, DiskState, block}
use Rattle.disk_mem.specs.declared.step.Step.{Step}
use Rattle.disk_mem.specs.declared.step.Step.TheVariants.{Write, Failed, Barrier, Give}

-- what a host held at one moment: how its blocks read, how they read at the last good barrier, which were loose, and how many bytes had been given
pub record Moment : Type 0 where
  pub now : Image
  pub settled : Image
  pub loose : ℕ → Bool
  pub given : ℕ

-- the number of the call that made the step
abbrev pub call_number : Step → ℕ
call_number (Write n at bytes) = n
call_number (Failed n at) = n
call_number (Barrier n) = n
call_number (Give n until) = n

-- the block is loose too
abbrev pub loosened : (ℕ → Bool) → ℕ → ℕ → Bool
loosened loose at k = if k == at then true else loose k

-- what a step changes
abbrev pub applied : Moment → Step → Moment
applied m (Write n at bytes) = record { now = slice_set m.now at bytes; settled = m.settled; loose = loosened m.loose at; given = m.given }
applied m (Failed n at) = record { now = m.now; settled = m.settled; loose = loosened m.loose at; given = m.given }
applied m (Barrier n) = record { now = m.now; settled = m.now; loose = λ k. false; given = m.given }
applied m (Give n until) = record { now = m.now; settled = m.settled; loose = m.loose; given = until }

-- the start: all settled, nothing given
abbrev pub fresh_state : Image → Moment
fresh_state image = record { now = image; settled = image; loose = λ k. false; given = 0 }

-- the moment that these steps lead to, as far as the first t calls made them
abbrev pub after : ℕ → Moment → List Step → Moment
after t m [] = m
after t m (s ∷ steps) = after t (if nat_lt (call_number s) t then applied m s else m) steps

-- the moment after the first t calls
abbrev pub past_of : Image → List Step → ℕ → Moment
past_of first steps t = after t (fresh_state first) steps

-- What a host in memory holds. `past` is the moment after so many calls, whole up to `remembered`;
-- `room` and `room_bytes` are how many calls and given bytes need no more memory for their records.
pub record Memory : Type 0 where
  pub blocks : Image
  pub loose : ℕ → Bool
  pub past : ℕ → Moment
  pub remembered : ℕ
  pub output : List ℕ
  pub intake : List ℕ
  pub piece : ℕ
  pub failing : List ℕ
  pub room : ℕ
  pub room_bytes : ℕ
  pub calls : ℕ
  pub reads : ℕ
  pub writes : ℕ
  pub barriers : ℕ
  pub disk_faults : ℕ
  pub source_faults : ℕ
  pub sink_faults : ℕ

-- what it tells as a disk and as a host
abbrev pub told : Memory → DiskState
told m = record {
  size = length m.blocks;
  faults = m.disk_faults;
  streams = record { aside = m.output; intake = m.intake; source_faults = m.source_faults; sink_faults = m.sink_faults };
  tells = true;
  now = m.blocks;
  loose = m.loose;
  clock = m.calls;
  barriers = m.barriers;
  writes = m.writes;
}

-- An image and an output that a crash at this moment, or in the call that leads to the next one, may leave: some of the bytes
-- that the call gives may have been given.
pub record IsLeft (output : List ℕ) (m next : Moment) (image : Image) (out : List ℕ) : Type 0 where
  pub count : length image ≡ length m.now
  pub same : (k : ℕ) → m.loose k ≡ false → block image k ≡ block m.now k
  pub more : ℕ
  pub few : more ≤ next.given - m.given
  pub given : out ≡ take (m.given + more) output

-- a crash at one of the moments from t up to now, or in a call between them, may leave them
pub record LeftSince (past : ℕ → Moment) (calls : ℕ) (output : List ℕ) (t : ℕ) (image : Image) (out : List ℕ) : Type 0 where
  pub moment : ℕ
  pub from : t ≤ moment
  pub until : moment ≤ calls
  pub is : IsLeft output (past moment) (past (moment + 1)) image out

-- a crash at a moment not before t may leave them
abbrev pub LeftInMemory : Memory → ℕ → Image → List ℕ → Type 0
LeftInMemory m t image out = LeftSince m.past m.calls m.output t image out

-- the present, as it follows from the past
pub record Linked (past : ℕ → Moment) (calls remembered : ℕ) (blocks : Image) (flags : List Bool) (output : List ℕ) : Type 0 where
  pub count : (u : ℕ) → length (past u).now ≡ length blocks
  pub reach : (u : ℕ) → (past u).given ≤ length output
  pub now : (u : ℕ) → calls ≤ u → (past u).now ≡ blocks
  pub given : (u : ℕ) → calls ≤ u → (past u).given ≡ length output
  pub still : (u : ℕ) → calls ≤ u → (past u).settled ≡ (past calls).settled
  pub loose : (u k : ℕ) → calls ≤ u → (past u).loose k ≡ true → slice_index_or flags k false ≡ true
  pub exact : calls ≤ remembered → calls + 1 < 2 ^ 64 → (u k : ℕ) → calls ≤ u → slice_index_or flags k false ≡ true → (past u).loose k ≡ true
  pub marks : length flags ≡ length blocks

-- the next count, which ends at its last value
abbrev pub next : ℕ → ℕ
next n = min (n + 1) (2 ^ 64 - 1)

-- the next call was given to `fail_at`, or has the last number of all
abbrev pub Planned : Memory → Type 0
Planned m = Contains m.failing m.calls ⊎ (m.calls ≡ 2 ^ 64 - 1)

-- a planned call fails, and where its record fits no other does
pub record Obeys {T E : Type 0} (planned fits : Type 0) (result : Result T E) : Type 0 where
  pub fails : planned → IsErr result
  pub only : fits → IsErr result → planned

-- the moments of the calls so far stay
abbrev pub KeepsPast : Memory → Memory → Type 0
KeepsPast old new = (t : ℕ) → t ≤ old.calls → new.past t ≡ old.past t

-- The moment after the calls so far is what the host holds. Its loose blocks are so where it is remembered whole.
pub record Present (m : Memory) : Type 0 where
  pub now : (m.past m.calls).now ≡ m.blocks
  pub given : (m.past m.calls).given ≡ length m.output
  pub loose : m.calls ≤ m.remembered → m.calls + 1 < 2 ^ 64 → (k : ℕ) → (m.past m.calls).loose k ≡ m.loose k

-- how the blocks read at the last good barrier, or at the start
abbrev pub settled_of : Memory → Image
settled_of m = (m.past m.calls).settled

-- one call more, and the settings as they were
pub record Ticks (old new : Memory) : Type 0 where
  pub calls : new.calls ≡ next old.calls
  pub reads : new.reads ≡ old.reads
  pub piece : new.piece ≡ old.piece
  pub failing : new.failing ≡ old.failing

-- at most one record and so many bytes of the reserved space are used up
pub record Spends (bytes : ℕ) (old new : Memory) : Type 0 where
  pub calls : old.room ≤ new.room + 1
  pub bytes_left : old.room_bytes ≤ new.room_bytes + bytes

-- these blocks, all settled, and nothing else: no script, no failing call, no reserved space, pieces of at most 4,096 bytes
pub record IsNew (image : Image) (m : Memory) : Type 0 where
  pub blocks : m.blocks ≡ image
  pub loose : (k : ℕ) → m.loose k ≡ false
  pub past : (t : ℕ) → m.past t ≡ fresh_state image
  pub remembered : m.remembered ≡ 2 ^ 64 - 1
  pub output : m.output ≡ []
  pub intake : m.intake ≡ []
  pub piece : m.piece ≡ 4096
  pub failing : m.failing ≡ []
  pub room : m.room ≡ 0
  pub room_bytes : m.room_bytes ≡ 0
  pub calls : m.calls ≡ 0
  pub reads : m.reads ≡ 0
  pub writes : m.writes ≡ 0
  pub barriers : m.barriers ≡ 0
  pub disk_faults : m.disk_faults ≡ 0
  pub source_faults : m.source_faults ≡ 0
  pub sink_faults : m.sink_faults ≡ 0

pub take_whole : (xs : List ℕ) (n : ℕ) → n ≡ length xs → take n xs ≡ xs
take_whole xs n is = grind (arith, take_all)

pub settled_flag : (flags : List Bool) (loose : ℕ → Bool) (k : ℕ) → (loose k ≡ true → slice_index_or flags k false ≡ true)
    → slice_index_or flags k false ≡ false → loose k ≡ false
settled_flag flags loose k tells is = elim (cases_Bool (loose k)) [
  | inl set ↦ absurd (false≢true (sym is ∙ tells set))
  | inr clear ↦ clear
]

-- where no call gave more, all that was given is left
pub all_given : (output : List ℕ) (m next : Moment) (image : Image) (out : List ℕ) → m.given ≡ length output → next.given ≡ length output
    → IsLeft output m next image out → out ≡ output
all_given output m next image out a b is = is.given ∙ take_whole output _ (omega (arith, is.few, a, b))

-- what a crash leaves of a moment that is not over agrees with the present
pub agrees : (past : ℕ → Moment) (calls remembered : ℕ) (blocks : Image) (flags : List Bool) (output : List ℕ)
    → Linked past calls remembered blocks flags output
    → (u : ℕ) → calls ≤ u → (image : Image) (out : List ℕ) → IsLeft output (past u) (past (u + 1)) image out
    → (length image ≡ length blocks) × ((k : ℕ) → slice_index_or flags k false ≡ false → block image k ≡ block blocks k) × (out ≡ output)
agrees past calls remembered blocks flags output linked u le image out is = (
  is.count ∙ linked.count u,
  λ k flag. is.same k (settled_flag flags (past u).loose k (linked.loose u k le) flag) ∙ ap (λ (x : Image). block x k) (linked.now u le),
  all_given output (past u) (past (u + 1)) image out (linked.given u le) (linked.given (u + 1) (omega arith)) is,
)

pub holds_now : (past : ℕ → Moment) (calls remembered : ℕ) (blocks : Image) (flags : List Bool) (output : List ℕ)
    → Linked past calls remembered blocks flags output
    → (image : Image) (out : List ℕ) → LeftSince past calls output calls image out
    → (length image ≡ length blocks) × ((k : ℕ) → slice_index_or flags k false ≡ false → block image k ≡ block blocks k) × (out ≡ output)
holds_now past calls remembered blocks flags output linked image out left =
    agrees past calls remembered blocks flags output linked left.moment left.from image out left.is

pub may_leave_now : (past : ℕ → Moment) (calls remembered : ℕ) (blocks : Image) (flags : List Bool) (output : List ℕ)
    → Linked past calls remembered blocks flags output
    → (t : ℕ) → t ≤ calls → LeftSince past calls output t blocks output
may_leave_now past calls remembered blocks flags output linked t le = record {
  moment = calls;
  from = le;
  until = omega arith;
  is = record {
    count = sym (linked.count calls);
    same = λ k is. ap (λ (x : Image). block x k) (sym (linked.now calls (omega arith)));
    more = 0;
    few = omega arith;
    given = sym (take_whole output _ (omega (arith, linked.given calls (omega arith))));
  };
}
