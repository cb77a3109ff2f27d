-- A volume that is opened: it stands for each world that the image opens.
use Rattle.std.proofs.Common.{◌≡◌, ◌∙◌, ◌⊎◌, inl, inr, ⊎_elim, ◌≤◌, ℕ, true, false, List, length, Option, Some, None, refl, sym, ap, subst, arith}
use Rattle.ice_base.specs.Disk.{Image, DiskState, Below, block}
use Rattle.ice_base.specs.Frames.{Within, LeavesOnly, With, Every, CrashStep}
use Rattle.ice_base.specs.Lots.{LotView, extent}
use Rattle.tree_spec.specs.Records.{Cube, Content, Sound, Broken, Unread}
use Rattle.tree_spec.specs.World.{World}
use Rattle.ice_layout.specs.Supers.{super_of}
use Rattle.ice_layout.specs.declared.superblock.LayoutFault.{LayoutFault}
use Rattle.ice_tables.specs.Tables.{Tables, HasTables, FirstFault}
use Rattle.ice_tables.specs.Lots.{total, lot_of}
use Rattle.ice_tables.proofs.TableLaws.{tables_one, tables_rest}
use Rattle.ice_tables.proofs.FaultLaws.{with_tables}
use Rattle.ice_tables.proofs.LotSites.{lot_high}
use Rattle.ice_images.specs.Fitting.{ShowCubes, Has, Fits}
use Rattle.ice_images.specs.Opening.{OpensContent, OpensCube}
use Rattle.ice_images.proofs.FittingLaws.{has_rests}
use Rattle.ice_images.proofs.OpeningLaws.{opens_fits, named_rests}
use Rattle.ice_system.specs.Attaching.{IsReplayed, Attaches, RefusesDisk, TooSmall}
use Rattle.ice_system.specs.Systems.{tables_of}
use Rattle.ice_system.specs.declared.fault.TablesFault.{TablesFault}
use Rattle.ice_system.specs.declared.fault.TablesFault.TheVariants.{Disk, Layout, Memory, Small}
use Rattle.ice_volume.specs.Cells.{Carries, EachHas, IsKnown}
use Rattle.ice_volume.specs.Sessions.{AllClosed, IsOfHost, Starts}
use Rattle.ice_volume.specs.Volumes.{VolumeView, StandsFor}
use Rattle.ice_volume.specs.declared.cell.Cell.TheVariants.{Closed}
use Rattle.ice_volume.proofs.StandLaws.{recovers_rests}

high_settled : (t : Tables) (x k : ℕ) → extent (lot_of t x) k → ¬ IsReplayed k
high_settled t x k own low = let high = lot_high t x k own in ⊎_elim (λ gate. absurd (omega (arith, high, gate))) (λ table. omega (arith, high, table.1)) low

-- what an image opens of a cube is known in an image with the same lot
known_opened : (lot : LotView) (i j : Image) (c : Cube) (x : Content) → ((k : ℕ) → extent lot k → block j k ≡ block i k)
    → OpensContent lot i c x → IsKnown lot j c x
known_opened lot i j c (Sound h) same o = tt
known_opened lot i j c (Broken rules) same o = record {
  nothing = λ f mode t k r. o.nothing f mode t k (recovers_rests lot f mode t k j i (λ b own. sym (same b own)) r);
  named = named_rests lot rules i j same o.named;
  form = o.form;
  mode = o.mode;
}
known_opened lot i j c Unread same o = absurd o

carries_opened : (lot : LotView) (i : Image) (s : DiskState) (c : Option Cube) → ((k : ℕ) → extent lot k → block s.now k ≡ block i k)
    → OpensCube lot i c → EachHas lot s c → Carries Closed lot s c
carries_opened lot i s None same o each = tt
carries_opened lot i s (Some c) same o each = record { each = each; known = known_opened lot i s.now c c.content same o.1; is = o.0 }

module _ (s : DiskState) (w : World) (whole : s.tells ≡ true → length s.now ≡ s.size) (starts : Starts s w) where
  abbrev pub found : Fits w s.now
  found = opens_fits s.now w starts.opens

  told_at_start : s.tells ≡ true
  told_at_start = starts.settled.told

  pub room_there : total found.tables ≤ s.size
  room_there = subst (λ n. total found.tables ≤ n) (whole told_at_start) found.room

  low_at_start : Every (Below 19) s (λ i. HasTables i found.tables)
  low_at_start i agrees = tables_rest found.tables s.now i (λ k low. agrees.same k low (starts.settled.settled k tt)) found.has

  -- the disk has blocks, and as many as the superblock says
  not_short : (s.size ≡ 0) ⊎ (s.tells ≡ true → TooSmall s.size s.now) → ⊥
  not_short short = ⊎_elim
      (λ none. omega (arith, room_there, none))
      (λ small.
      let q = small told_at_start in
      let slots : found.tables.slots ≡ (super_of (block s.now 0)).slots = ap (λ (t : Tables). t.slots) found.has.says in
      let groups : found.tables.groups ≡ (super_of (block s.now 0)).groups = ap (λ (t : Tables). t.groups) found.has.says in
      omega (arith, room_there, q.1, slots, groups))
      short

  -- its tables are not refused
  not_refused : (f : LayoutFault) → (s.tells ≡ true → FirstFault s.now f × (TooSmall s.size s.now → ⊥)) → ⊥
  not_refused f refused = with_tables s.now found.tables f found.has (refused told_at_start).0

  -- only the disk and memory refuse it
  pub host_refuses : (new : DiskState) (fault : TablesFault) → RefusesDisk fault s new → IsOfHost fault
  host_refuses new Small refuses = absurd (not_short refuses)
  host_refuses new (Layout f) refuses = absurd (not_refused f refuses)
  host_refuses new Disk refuses = inl refl
  host_refuses new Memory refuses = inr refl

module _ {D : Type 0} (state : D → DiskState) (left : D → ℕ → Image → List ℕ → Type 0) (w : World) (a b : D)
    (whole : (state a).tells ≡ true → length (state a).now ≡ (state a).size) (starts : Starts (state a) w)
    (within : Within state left IsReplayed a b) where
  abbrev there : Fits w (state a).now
  there = opens_fits (state a).now w starts.opens

  -- the volume stands for the world
  pub attach_stands : (v : VolumeView) → Attaches v.system (state a) (state b) → v.system.failed ≡ false → AllClosed v.cells → StandsFor v (state b) w
  attach_stands v holds live closed =
      let t = tables_of v.system in
      let is : there.tables ≡ t = tables_one (state a).now there.tables t there.has holds.has in
      let opened : starts.opens.tables ≡ t = tables_one (state a).now starts.opens.tables t starts.opens.has holds.has in
      let kept : (x k : ℕ) → extent (lot_of t x) k
      → block (state b).now k ≡ block (state a).now k = λ x k own. within.same k (high_settled t x k own) in record {
        live = live;
        tables = holds.rest;
        room = subst (λ n. total t ≤ n) (sym within.size) (subst (λ (u : Tables). total u ≤ (state a).size) is (room_there (state a) w whole starts));
        shows = subst (λ (u : Tables). ShowCubes u w) is there.shows;
        cubes = λ x. subst (λ cell. Carries cell (lot_of t x) (state b) (w.cube x)) (sym (closed x))
            (carries_opened (lot_of t x) (state a).now (state b) (w.cube x) (kept x)
            (subst (λ (u : Tables). OpensCube (lot_of u x) (state a).now (w.cube x)) opened (starts.opens.cubes x))
            (λ i agrees. has_rests (lot_of t x) (w.cube x) (state a).now i
            (λ k own. agrees.same k own (holds.settled.settled k tt) ∙ kept x k own)
            (subst (λ (u : Tables). Has (lot_of u x) (state a).now (w.cube x)) is (there.cubes x tt))));
      }

  -- each crash while the tables are attached leaves an image that fits the world
  pub attach_leaves : ((t : Tables) → (state a).tells ≡ true
      → Every (Below 19) (state a) (λ i. HasTables i t) → CrashStep state left (Below 19) (λ i. HasTables i t) a b)
      → LeavesOnly left a b (With (state a).streams.aside (Fits w))
  attach_leaves crash =
      let step = crash there.tables starts.settled.told (low_at_start (state a) w whole starts) in record {
        each = λ m i out l. ⊎_elim (λ before. inl before) (λ here. ⊎_elim (λ before. inl before) (λ low. inr (
          record {
            tables = there.tables;
            has = low.0;
            room = subst (λ n. total there.tables ≤ n) (sym here.0.count) (room_there (state a) w whole starts);
            shows = there.shows;
            cubes = λ x on. has_rests (lot_of there.tables x) (w.cube x) (state a).now i
                (λ k own. here.0.same k (high_settled there.tables x k own) (starts.settled.settled k tt)) (there.cubes x on);
          },
          low.1,
        )) (step.leaves.each m i out l)) (within.left_new m i out l);
      }
