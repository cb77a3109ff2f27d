-- What opening the tables of a disk answers, from the superblock to the tables.
use Rattle.std.proofs.Common.{◌≡◌, ◌≢◌, ◌∙◌, ◌≤◌, ◌<◌, ◌+◌, ◌==◌, inl, inr, ⊎_elim, ℕ, Bool, true, false, List, length, slice_set, Option, Some, None, Result, Ok, Err, IfOk, IfErr, IsErr, refl, sym, ap, subst, arith, get_or-set_other, get_or-set_same}
use Rattle.std.specs.Prelude.{◌⊎◌, not, IsErrAnd, nat_lt, if◌then◌else◌, IsSome}
use Rattle.std.proofs.lemmas.List.{length-set}
use Rattle.std.proofs.lemmas.Bool.Decides.{nat_tests}
use Rattle.ice_base.specs.Disk.{Image, DiskState, Below, Everywhere, Nowhere, block}
use Rattle.ice_base.specs.Frames.{Within, CrashStep, Every, Settled}
use Rattle.ice_base.specs.Fields.{word_at}
use Rattle.ice_base.proofs.Frame.{step_apart, step_then}
use Rattle.ice_layout.specs.Geometry.{total_blocks, zero_from, between}
use Rattle.ice_layout.specs.Headers.{is_open}
use Rattle.ice_layout.specs.Supers.{super_fault, super_magic, super_of, is_geometry, IsSuper}
use Rattle.ice_layout.specs.declared.superblock.Super.{Super}
use Rattle.ice_layout.specs.declared.superblock.LayoutFault.{LayoutFault}
use Rattle.ice_layout.specs.declared.superblock.LayoutFault.TheVariants.{Magic, Version, Slots, Groups, Total, Zero, Names, Owners, Header as HeaderFault}
use Rattle.ice_tables.specs.Journals.{in_tables, table_blocks}
use Rattle.ice_tables.specs.Tables.{Tables, Row, HasTables, FirstFault, AreNames, AreOwners, tables_in, row_in, holder_in, ordinal_in, blocks_from}
use Rattle.ice_tables.proofs.JournalLaws.{table_blocks_homes}
use Rattle.ice_names.specs.Names.{NamesView, row_at}
use Rattle.ice_owner.specs.Owners.{OwnersView, AreLots, OwnerTables, holder, ordinal, is_live}
use Rattle.ice_owner.proofs.Laws.{rows_have_groups, groups_have_rows}
use Rattle.ice_system.specs.Systems.{SystemView, AreTables, tables_of, tables_with}
use Rattle.ice_system.specs.Attaching.{Accepts, AreFour, Attaches, Finishes, IsReplayed, RefusesBlocks, RefusesDisk, RefusesJournal, RefusesTables, TooSmall}
use Rattle.ice_system.specs.declared.fault.TablesFault.{TablesFault}
use Rattle.ice_system.specs.declared.fault.TablesFault.TheVariants.{Small, Layout, Disk, Memory}
use Rattle.ice_system.proofs.Mixing.{rows_same, names_same, holders_same, ordinals_same, owners_same}
use Rattle.ice_system.proofs.Crashes.{tables_same, still_has}
use Rattle.ice_system.proofs.Views.{has_owners}
use Rattle.ice_system.proofs.Finishing.{no-replay-0, still_settled, still_block, still_blocks, still_tables, still_crash}

-- ---- the superblock

-- the tests of a superblock, in their order
by_tests : (P : Option LayoutFault → Type 0) (a b c d e f : Bool) → P (Some Magic) → P (Some Version) → P (Some Slots) → P (Some Groups)
    → P (Some Total) → P (Some Zero) → (c ≡ true → d ≡ true → P None)
    → P (if not a then Some Magic else if not b then Some Version else if not c then Some Slots
    else if not d then Some Groups else if not e then Some Total else if not f then Some Zero else None)
by_tests P true true true true true true m v s g t z none = none refl refl
by_tests P true true true true true false m v s g t z none = z
by_tests P true true true true false f m v s g t z none = t
by_tests P true true true false e f m v s g t z none = g
by_tests P true true false d e f m v s g t z none = s
by_tests P true false c d e f m v s g t z none = v
by_tests P false b c d e f m v s g t z none = m

by_fault : (P : Option LayoutFault → Type 0) (bytes : List ℕ) → P (Some Magic) → P (Some Version) → P (Some Slots) → P (Some Groups)
    → P (Some Total) → P (Some Zero)
    → (between 1 16 (word_at bytes 8) ≡ true → between 1 1024 (word_at bytes 12) ≡ true → P None) → P (super_fault bytes)
unfolding super_fault
by_fault P bytes = by_tests P (word_at bytes 0 == super_magic) (word_at bytes 4 == 1) (between 1 16 (word_at bytes 8)) (between 1 1024 (word_at bytes 12))
    (word_at bytes 16 == total_blocks (word_at bytes 8) (word_at bytes 12)) (zero_from 20 bytes)

-- a superblock that is accepted names a geometry
pub geometry_of : (sup : Super) (bytes : List ℕ) → IsSuper sup bytes → is_geometry sup ≡ true
geometry_of sup bytes is = subst (λ (s : Super). is_geometry s ≡ true) is.value
    (by_fault (λ o. o ≡ None → is_geometry (super_of bytes) ≡ true) bytes (λ e. absurd (cc e)) (λ e. absurd (cc e)) (λ e. absurd (cc e))
    (λ e. absurd (cc e)) (λ e. absurd (cc e)) (λ e. absurd (cc e))
    (λ slots groups e. rw (slots, groups) refl) is.accepted)

same_fault : (f g : LayoutFault) → Some f ≡ Some g → f ≡ g
same_fault f g e = cc e

-- its fault is the first of the image
pub super_first : (image : Image) (f : LayoutFault) → super_fault (block image 0) ≡ Some f → FirstFault image f
super_first image f is = by_fault (λ o. o ≡ Some f → FirstFault image f) (block image 0)
    (one Magic (λ x. x)) (one Version (λ x. x)) (one Slots (λ x. x)) (one Groups (λ x. x)) (one Total (λ x. x)) (one Zero (λ x. x))
    (λ slots groups e. absurd (cc e)) is
  where
    one : (g : LayoutFault) → (super_fault (block image 0) ≡ Some g → FirstFault image g) → Some g ≡ Some f → FirstFault image f
    one g first e = let same = same_fault g f e in subst (λ (h : LayoutFault). FirstFault image h) same (first (is ∙ sym e))

pub super_refused : (size : ℕ) (image : Image) (f : LayoutFault) → super_fault (block image 0) ≡ Some f → FirstFault image f × ¬ TooSmall size image
super_refused size image f is = (super_first image f is, λ small. let never : None ≡ Some f = sym small.0 ∙ is in cc never)

-- a geometry has 1 to 16 slots and 1 to 1,024 groups
pub geometry_size : (sup : Super) → is_geometry sup ≡ true → (1 ≤ sup.slots) × (sup.slots ≤ 16) × (1 ≤ sup.groups) × (sup.groups ≤ 1024)
geometry_size sup is = by (between 1 16 sup.slots) refl is
  where
    by : (b : Bool) → between 1 16 sup.slots ≡ b → (if b then between 1 1024 sup.groups else false) ≡ true
        → (1 ≤ sup.slots) × (sup.slots ≤ 16) × (1 ≤ sup.groups) × (sup.groups ≤ 1024)
    by true slots groups = (grind (arith, nat_tests), grind (arith, nat_tests), grind (arith, nat_tests), grind (arith, nat_tests))
    by false slots groups = absurd (cc groups)

-- ---- slots that have cubes

-- the slots below s are marked as the rows say, and no other is
pub record IsLiveTo (names : NamesView) (live : List Bool) (s : ℕ) : Type 0 where
  pub room : length live ≡ 16
  pub has : (r : ℕ) → r < s → is_live live r ≡ true → IsSome (row_at names r)
  pub all : (r : ℕ) → r < s → IsSome (row_at names r) → is_live live r ≡ true
  pub rest : (r : ℕ) → s ≤ r → is_live live r ≡ false

same_or_less : (r s : ℕ) → r < s + 1 → (r ≡ s) ⊎ (r < s)
same_or_less r s less = by (nat_lt r s) refl
  where
    by : (b : Bool) → nat_lt r s ≡ b → (r ≡ s) ⊎ (r < s)
    by true is = inr (grind (arith, nat_tests))
    by false is = inl (let high : s ≤ r = grind (arith, nat_tests) in omega (arith, high, less))

pub live_more : (names : NamesView) (live : List Bool) (s : ℕ) (b : Bool) → IsLiveTo names live s → s < 16 → (b ≡ true → IsSome (row_at names s))
    → (IsSome (row_at names s) → b ≡ true)
    → IsLiveTo names (slice_set live s b) (s + 1)
live_more names live s b is low some true_here =
    let here : is_live (slice_set live s b) s ≡ b = get_or-set_same live s b false (omega (arith, low, is.room)) in
    let other : (r : ℕ) → r ≢ s → is_live (slice_set live s b) r ≡ is_live live r = λ r apart. get_or-set_other live s r b false apart in
    record {
      room = length-set live s b ∙ is.room;
      has = λ r less at. ⊎_elim
          (λ same. subst (λ (k : ℕ). IsSome (row_at names k)) (sym same) (some (sym here ∙ ap (is_live (slice_set live s b)) (sym same) ∙ at)))
          (λ before. is.has r before (sym (other r (omega (arith, before))) ∙ at)) (same_or_less r s less);
      all = λ r less row. ⊎_elim
          (λ same. ap (is_live (slice_set live s b)) same ∙ here ∙ true_here (subst (λ (k : ℕ). IsSome (row_at names k)) same row))
          (λ before. other r (omega (arith, before)) ∙ is.all r before row) (same_or_less r s less);
      rest = λ r high. other r (omega (arith, high)) ∙ is.rest r (omega (arith, high));
    }

none_some : (o : Option Row) → o ≡ None → IsSome o → ⊥
none_some None is some = cc some
none_some (Some row) is some = cc is

-- ---- the blocks of the tables

module _ (sup : Super) (geometry : is_geometry sup ≡ true) (rows owners : List (List ℕ)) (names : NamesView)
    (accepted : AreNames sup.slots (blocks_from 11 rows))
    (reads : (s : ℕ) → row_at names s ≡ row_in sup.slots (blocks_from 11 rows) s) (live : List Bool)
    (has : (s : ℕ) → is_live live s ≡ true → IsSome (row_at names s)) (all : (s : ℕ) → IsSome (row_at names s) → is_live live s ≡ true) where
  few_slots : sup.slots ≤ 16
  few_slots = (geometry_size sup geometry).1

  few_groups : sup.groups ≤ 1024
  few_groups = (geometry_size sup geometry).3

  row_is : (m : ℕ → List ℕ) → AreFour 11 rows m → (s : ℕ) → row_at names s ≡ row_in sup.slots m s
  row_is m four s = reads s ∙ sym (rows_same sup.slots few_slots (blocks_from 11 rows) m four s)

  -- blocks whose owners are refused are refused
  pub owners_refused : (m : ℕ → List ℕ) → AreFour 11 rows m → AreFour 15 owners m
      → ((t : Tables) → OwnerTables sup.groups live (blocks_from 15 owners) t → ¬ AreOwners t (blocks_from 15 owners)) → RefusesBlocks Owners sup m
  owners_refused m four five refused = (
    names_same sup.slots few_slots (blocks_from 11 rows) m four accepted,
    λ are.
        refused (tables_in sup m) (record {
          groups = refl;
          holder = λ g. holders_same (blocks_from 15 owners) m five sup.groups g few_groups;
          ordinal = λ g. ordinals_same (blocks_from 15 owners) m five sup.groups g few_groups;
          has_row = λ s at. subst (λ (o : Option Row). IsSome o) (row_is m four s) (has s at);
          row_live = λ s some. all s (subst (λ (o : Option Row). IsSome o) (sym (row_is m four s)) some);
        }) (owners_same m (blocks_from 15 owners) (λ k low high. sym (five k low high)) (tables_in sup m) are),
  )

  module _ (lots : OwnersView) (are : AreLots lots) (groups : lots.groups ≡ sup.groups)
      (holders : (g : ℕ) → holder_in sup.groups (blocks_from 15 owners) g ≡ holder lots g)
      (ordinals : (g : ℕ) → ordinal_in sup.groups (blocks_from 15 owners) g ≡ ordinal lots g)
      (takes : (t : Tables) → OwnerTables sup.groups live (blocks_from 15 owners) t → AreOwners t (blocks_from 15 owners)) where
    taken_owners : AreOwners (tables_with names lots) (blocks_from 15 owners)
    taken_owners = takes (tables_with names lots) (record {
      groups = groups;
      holder = λ g. sym (holders g);
      ordinal = λ g. sym (ordinals g);
      has_row = has;
      row_live = all;
    })

    -- rows and groups that were read are tables,
    pub are_tables : AreTables names lots
    are_tables = record {
      live = λ s some. rows_have_groups lots (tables_with names lots) (blocks_from 15 owners) are (has_owners names lots) taken_owners s some;
      taken = λ s some. groups_have_rows lots (tables_with names lots) (blocks_from 15 owners) are (has_owners names lots) taken_owners s some;
    }

    -- and those that the blocks say
    pub tables_accepted : names.slots ≡ sup.slots → (m : ℕ → List ℕ) → AreFour 11 rows m → AreFour 15 owners m → Accepts sup m (tables_with names lots)
    tables_accepted slots m four five = record {
      says = tables_same (tables_with names lots) (tables_in sup m) slots groups (row_is m four)
          (λ g. sym (holders g) ∙ sym (holders_same (blocks_from 15 owners) m five sup.groups g few_groups))
          (λ g. sym (ordinals g) ∙ sym (ordinals_same (blocks_from 15 owners) m five sup.groups g few_groups));
      names = subst (λ (n : ℕ). AreNames n m) (sym slots) (names_same sup.slots few_slots (blocks_from 11 rows) m four accepted);
      owners = owners_same (blocks_from 15 owners) m five (tables_with names lots) taken_owners;
    }

-- ---- between two moments

-- an image with the same superblock and the same effective tables has the same first fault
fault_moved : (i j : Image) → block j 0 ≡ block i 0 → table_blocks j ≡ table_blocks i → (f : LayoutFault) → FirstFault i f → FirstFault j f
fault_moved i j first tables Magic is = ap super_fault first ∙ is
fault_moved i j first tables Version is = ap super_fault first ∙ is
fault_moved i j first tables Slots is = ap super_fault first ∙ is
fault_moved i j first tables Groups is = ap super_fault first ∙ is
fault_moved i j first tables Total is = ap super_fault first ∙ is
fault_moved i j first tables Zero is = ap super_fault first ∙ is
fault_moved i j first tables HeaderFault is = (ap super_fault first ∙ is.0, tables ∙ is.1)
fault_moved i j first tables Names is = (
  ap super_fault first ∙ is.0,
  record {
    blocks = (is.1).blocks;
    effective = tables ∙ (is.1).effective;
    names = subst (λ (bytes : List ℕ). ¬ AreNames (super_of bytes).slots (is.1).blocks) (sym first) (is.1).names;
  },
)
fault_moved i j first tables Owners is = (
  ap super_fault first ∙ is.0,
  record {
    blocks = (is.1).blocks;
    effective = tables ∙ (is.1).effective;
    names = subst (λ (bytes : List ℕ). AreNames (super_of bytes).slots (is.1).blocks) (sym first) (is.1).names;
    owners = subst (λ (bytes : List ℕ). ¬ AreOwners (tables_in (super_of bytes) (is.1).blocks) (is.1).blocks) (sym first) (is.1).owners;
  },
)

small_moved : (size other : ℕ) (i j : Image) → block j 0 ≡ block i 0 → other ≡ size → TooSmall size i → TooSmall other j
small_moved size other i j first same small =
    let here : (super_fault (block j 0) ≡ None) × (size < total_blocks (super_of (block j 0)).slots (super_of (block j 0)).groups) =
    subst (λ (bytes : List ℕ). (super_fault bytes ≡ None) × (size < total_blocks (super_of bytes).slots (super_of bytes).groups)) (sym first) small in
    (here.0, omega (arith, here.1, same))

not_small : (size : ℕ) (image : Image) (sup : Super) → IsSuper sup (block image 0) → total_blocks sup.slots sup.groups ≤ size → ¬ TooSmall size image
not_small size image sup is room small =
    let less = subst (λ (s : Super). size < total_blocks s.slots s.groups) is.value small.1 in omega (arith, less, room)

-- blocks that are refused are the first fault
blocks_first : (sup : Super) (image : Image) (m : ℕ → List ℕ) → IsSuper sup (block image 0) → table_blocks image ≡ Some m → (f : LayoutFault)
    → RefusesBlocks f sup m → FirstFault image f
blocks_first sup image m is shown Names bad = (
  is.accepted,
  record {
    blocks = m;
    effective = shown;
    names = subst (λ (s : Super). ¬ AreNames s.slots m) (sym is.value) bad;
  },
)
blocks_first sup image m is shown Owners bad = (
  is.accepted,
  record {
    blocks = m;
    effective = shown;
    names = subst (λ (s : Super). AreNames s.slots m) (sym is.value) bad.0;
    owners = subst (λ (s : Super). ¬ AreOwners (tables_in s m) m) (sym is.value) bad.1;
  },
)
blocks_first sup image m is shown Magic bad = absurd bad
blocks_first sup image m is shown Version bad = absurd bad
blocks_first sup image m is shown Slots bad = absurd bad
blocks_first sup image m is shown Groups bad = absurd bad
blocks_first sup image m is shown Total bad = absurd bad
blocks_first sup image m is shown Zero bad = absurd bad
blocks_first sup image m is shown HeaderFault bad = absurd bad

module _ {D : Type 0} (state : D → DiskState) (left : D → ℕ → Image → List ℕ → Type 0) (a b : D) (w : Within state left Nowhere a b) where
  -- Calls that write nothing leave the reasons,
  pub refuses_back : (f : TablesFault) (s : DiskState) → (state b).faults ≡ (state a).faults → RefusesDisk f (state b) s → RefusesDisk f (state a) s
  refuses_back Small s calm refused = ⊎_elim
      (λ none. inl (sym w.size ∙ none))
      (λ small. inr (λ told. small_moved (state b).size (state a).size (state b).now (state a).now (sym (still_block state left a b w 0))
      (sym w.size) (small (w.tells ∙ told))))
      refused
  refuses_back (Layout f) s calm refused = λ told.
      let why = refused (w.tells ∙ told) in (
        fault_moved (state b).now (state a).now (sym (still_block state left a b w 0)) (sym (still_blocks state left a b w)) f why.0,
        λ small. why.1 (small_moved (state a).size (state b).size (state a).now (state b).now (still_block state left a b w 0) w.size small),
      )
  refuses_back Disk s calm refused = omega (arith, refused, calm)
  refuses_back Memory s calm refused = tt

  -- and so does a journal that isn't finished,
  pub refuses_journal : (sup : Super) → ((state a).tells ≡ true → IsSuper sup (block (state a).now 0)) → total_blocks sup.slots sup.groups ≤ (state a).size
      → (f : TablesFault) (s : DiskState) → (state b).faults ≡ (state a).faults → RefusesJournal f (state b) s → RefusesDisk f (state a) s
  refuses_journal sup is room Small s calm refused = absurd refused
  refuses_journal sup is room (Layout f) s calm refused = λ told. (
    subst (λ (h : LayoutFault). FirstFault (state a).now h) (sym refused.0) (
      (is told).accepted,
      sym (still_blocks state left a b w) ∙ refused.1 (w.tells ∙ told),
    ),
    not_small (state a).size (state a).now sup (is told) room,
  )
  refuses_journal sup is room Disk s calm refused = omega (arith, refused, calm)
  refuses_journal sup is room Memory s calm refused = absurd refused

  -- what was opened,
  pub attaches_back : (v : SystemView) (s : DiskState) → Attaches v (state b) s → Attaches v (state a) s
  attaches_back v s is = record {
    has = still_has (tables_of v) (state b).now (state a).now (sym (still_block state left a b w 0)) (sym (still_blocks state left a b w)) is.has;
    settled = is.settled;
    rest = is.rest;
  }

  -- and the tables at each crash.
  pub barrier_crash : (t : Tables) → Every (Below 19) (state a) (λ i. HasTables i t) → CrashStep state left (Below 19) (λ i. HasTables i t) a b
  barrier_crash t every = step_apart state left (Below 19) Nowhere (λ i. HasTables i t) a b (λ k here n. n) w every

  pub then_crash : (t : Tables) (c : D) → Every (Below 19) (state a) (λ i. HasTables i t) → length (state b).now ≡ (state b).size
      → (HasTables (state b).now t → CrashStep state left (Below 19) (λ i. HasTables i t) b c) → CrashStep state left (Below 19) (λ i. HasTables i t) a c
  then_crash t c every whole next =
      let first = barrier_crash t every in
      step_then state left (Below 19) (λ i. HasTables i t) a b c w.streams first (next (first.after (state b).now
      (record { count = whole; same = λ k here settled. refl })))

module _ {D : Type 0} (state : D → DiskState) (left : D → ℕ → Image → List ℕ → Type 0)
    (a b c : D) (w : Within state left Nowhere a b) (t : Tables) (settled : Settled Everywhere (state a))
    (has : HasTables (state a).now t) (crash : HasTables (state b).now t → CrashStep state left (Below 19) (λ i. HasTables i t) b c) where
  -- Once the superblock was read and the journal finished, each crash leaves the tables,
  pub finish_crash : CrashStep state left (Below 19) (λ i. HasTables i t) a c
  finish_crash = step_then state left (Below 19) (λ i. HasTables i t) a b c w.streams (still_crash state left a b w t settled has)
      (crash (still_tables state left a b w t has))

  -- and so does a read of the tables.
  pub read_crash : (d : D) → (state c).streams ≡ (state a).streams → Within state left Nowhere c d → CrashStep state left (Below 19) (λ i. HasTables i t) a d
  read_crash d streams v = step_then state left (Below 19) (λ i. HasTables i t) a c d streams finish_crash
      (step_apart state left (Below 19) Nowhere (λ i. HasTables i t) c d (λ k here n. n) v finish_crash.after)

module _ {D : Type 0} (state : D → DiskState) (left : D → ℕ → Image → List ℕ → Type 0)
    (a b c : D) (w : Within state left Nowhere a b) (r : Within state left IsReplayed b c)
    (sup : Super) (is : (state a).tells ≡ true → IsSuper sup (block (state a).now 0)) (finish : (state b).tells ≡ true → Finishes (state b) (state c)) where
  shown : (state a).tells ≡ true → table_blocks (state a).now ≡ Some (in_tables (block (state c).now))
  shown told = let f = finish (w.tells ∙ told) in sym (still_blocks state left a b w) ∙ sym f.same ∙ table_blocks_homes (state c).now f.closed

  -- Tables that are not read after that are the first fault,
  pub refuses_tables : total_blocks sup.slots sup.groups ≤ (state a).size → (f : TablesFault) (s : DiskState) → (state c).faults ≡ (state a).faults
      → RefusesTables f sup (in_tables (block (state c).now)) (state c) s → RefusesDisk f (state a) s
  refuses_tables room Small s calm refused = absurd refused
  refuses_tables room (Layout f) s calm refused = λ told. (
    blocks_first sup (state a).now (in_tables (block (state c).now)) (is told) (shown told) f (refused (r.tells ∙ w.tells ∙ told)),
    not_small (state a).size (state a).now sup (is told) room,
  )
  refuses_tables room Disk s calm refused = omega (arith, refused, calm)
  refuses_tables room Memory s calm refused = absurd refused

  -- and those that are read are the image's, at rest.
  pub attaches : (d : D) → Within state left Nowhere c d → (v : SystemView) → (state a).tells ≡ true
      → Accepts sup (in_tables (block (state c).now)) (tables_of v) → Attaches v (state a) (state d)
  attaches d v view told accepts = record {
    has = had;
    settled = after;
    rest = record {
      settled = record { told = after.told; settled = λ k here. after.settled k tt };
      now = record {
        closed = ap is_open (still_block state left c d v 1) ∙ f.closed;
        has = still_has (tables_of view) (state a).now (state d).now (still_block state left c d v 0 ∙ r.same 0 no-replay-0 ∙ still_block state left a b w 0)
            (still_blocks state left c d v ∙ f.same ∙ still_blocks state left a b w) had;
      };
    };
  }
    where
      f : Finishes (state b) (state c)
      f = finish (w.tells ∙ told)

      after : Settled Everywhere (state d)
      after = still_settled state left c d v f.settled

      had : HasTables (state a).now (tables_of view)
      had = record {
        superblock = (is told).accepted;
        blocks = in_tables (block (state c).now);
        effective = shown told;
        says = accepts.says ∙ ap (λ (s : Super). tables_in s (in_tables (block (state c).now))) (sym (is told).value);
        names = accepts.names;
        owners = accepts.owners;
      }

-- ---- answers

-- a fault that is handed on
pub handed : {T : Type 0} (r : Result T TablesFault) (e : TablesFault) (P : TablesFault → Type 0) → IsErr r × IsErrAnd r (λ x. x ≡ e) → P e → IfErr r P
handed (Ok x) e P is here = tt
handed (Err x) e P is here = subst P (sym is.1) here

pub err_more : {T : Type 0} (r : Result T TablesFault) (P Q : TablesFault → Type 0) → ((e : TablesFault) → P e → Q e) → IfErr r P → IfErr r Q
err_more (Ok x) P Q more is = tt
err_more (Err e) P Q more is = more e is

pub ok_more : {T : Type 0} (r : Result T TablesFault) (P Q : T → Type 0) → ((x : T) → P x → Q x) → IfOk r P → IfOk r Q
ok_more (Ok x) P Q more is = more x is
ok_more (Err e) P Q more is = tt
