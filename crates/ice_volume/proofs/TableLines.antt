-- The lines that change the tables, from what the calls that they make promise.
use Rattle.std.proofs.Common.{◌≡◌, ◌≢◌, ◌∙◌, inl, inr, ◌<◌, ℕ, true, List, [], length, Option, Some, None, Result, Ok, Err, OnOk, OnErr, refl, sym, ap}
use Rattle.std.specs.Prelude.{◌⊎◌, ⊤}
use Rattle.ice_base.specs.Disk.{Image, DiskState}
use Rattle.ice_base.specs.Frames.{Kept, Within}
use Rattle.ice_base.specs.FrameLaws.{within_refl}
use Rattle.ice_base.specs.Lots.{extent}
use Rattle.ice_base.proofs.Kept.{kept_within}
use Rattle.tree_spec.specs.Held.{RoomContent}
use Rattle.tree_spec.specs.Lines.{Asks, Delete, Offline, Online}
use Rattle.tree_spec.specs.Own as order
use Rattle.tree_spec.specs.Records.{is_mountable}
use Rattle.tree_spec.specs.declared.reply.Refusal.TheVariants as code
use Rattle.tree_spec.specs.declared.reply.StateWord.{StateWord}
use Rattle.tree_spec.specs.declared.reply.StateWord.TheVariants as word
use Rattle.ice_tables.specs.Tables.{Tables, Row}
use Rattle.ice_tables.specs.Lots.{groups_of, lot_of}
use Rattle.ice_names.specs.Names.{NoneHas, marked, path_at, row_at}
use Rattle.ice_names.specs.declared.mark.Mark.TheVariants as mark
use Rattle.ice_system.specs.Changes.{Changes, SlotBecomes}
use Rattle.ice_system.specs.Says.{IsChange}
use Rattle.ice_system.specs.Systems.{SystemView, tables_of}
use Rattle.ice_system.specs.declared.fault.SystemFault.{SystemFault}
use Rattle.ice_system.specs.declared.fault.SystemFault.TheVariants.{Before, After}
use Rattle.ice_volume.specs.Cells.{IsSession, cell_at, cell_state}
use Rattle.ice_volume.specs.Volumes.{AreSessions, VolumeView}
use Rattle.ice_volume.specs.Lines.{AnswersLine}
use Rattle.ice_volume.specs.Rows.{is_marked}
use Rattle.ice_volume.specs.Told.{CellBecomes, told_of}
use Rattle.ice_volume.specs.declared.cell.Cell.{Cell}
use Rattle.ice_volume.specs.declared.cell.Cell.TheVariants.{Closed}
use Rattle.ice_volume.proofs.Changing.{OrderMayWrite, changed, low_apart, none_early, none_spare, sessions_become, sessions_same, unchanged}
use Rattle.ice_volume.proofs.TableOrders.{delete_finds, deletes, goes_offline, goes_online, offline_closed, offline_finds, online_finds, refused, stays_mounted, stays_offline, stays_online}

-- what holds, holds where a result is Ok, and where it is Err
pub where_ok : {T E : Type 0} (r : Result T E) {P : Type 0} → P → OnOk r P
where_ok (Ok x) {P} holds = holds
where_ok (Err e) {P} holds = tt

where_err : {T E : Type 0} (r : Result T E) {P : Type 0} → P → OnErr r P
where_err (Ok x) {P} holds = tt
where_err (Err e) {P} holds = holds

pub always : {T E : Type 0} (r : Result T E) → OnOk r ⊤
always r = where_ok r tt

-- orders that write no block but those of the tables
tables_alone : (k : ℕ) → IsChange k ⊎ ⊥ → IsChange k
tables_alone k (inl here) = here
tables_alone k (inr none) = absurd none

delete_may : (t : Tables) (x : ℕ) → OrderMayWrite t x order.Delete (λ k. ⊥)
delete_may t x = record { done = λ k here. tables_alone k here; faulty = λ k here. tables_alone k here }

offline_may : (t : Tables) (x : ℕ) → OrderMayWrite t x order.SetOffline (λ k. ⊥)
offline_may t x = record { done = λ k here. tables_alone k here; faulty = λ k here. tables_alone k here }

online_may : (t : Tables) (x : ℕ) → OrderMayWrite t x order.SetOnline (λ k. ⊥)
online_may t x = record { done = λ k here. tables_alone k here; faulty = λ k here. tables_alone k here }

-- a lot is kept where the tables change
pub lot_kept : {D : Type 0} (state : D → DiskState) (left : D → ℕ → Image → List ℕ → Type 0) (t : Tables) (x : ℕ) (a b : D)
    → Within state left IsChange a b → Kept (extent (lot_of t x)) (state a) (state b)
lot_kept state left t x a b within = kept_within state left (extent (lot_of t x)) IsChange a b (λ k own low. low_apart t x k own low) within

module _ {D A : Type 0} (state : D → DiskState) (left : D → ℕ → Image → List ℕ → Type 0) (v z : VolumeView) (p : List (List ℕ)) (room : RoomContent) where
  module _ (a b : D) (x : ℕ) (less : x < v.system.names.slots) (at : path_at v.system.names x ≡ Some p) (r : Result A SystemFault) where
    -- a cube is deleted
    pub delete_answers : Changes state left x None [] v.system z.system r a b → OnOk r (CellBecomes x Closed v.cells z.cells)
        → OnErr r (z.cells ≡ v.cells) → AnswersLine state left (Asks (Delete p)) v z room (told_of r) a b
    delete_answers ch cells same =
        changed state left x None [] Closed ⊤ (Asks (Delete p)) order.Delete tt delete_finds room v z (λ k. ⊥) a a b (within_refl state left (λ k. ⊥) a)
        (λ w stands. deletes v (state a) w stands p x less at (state b)) (λ w stands. none_spare v w) (none_early v)
        (λ w stands. delete_may (tables_of v.system) x) r ch cells same (always r)

    module _ (s : StateWord) (is : s ≡ cell_state (cell_at v.cells x) (is_marked (row_at v.system.names x))) where
      -- a cube that is neither offline nor mounted is set offline
      pub offline_answers : is_mountable s ≡ true
          → Changes state left x (marked mark.Offline (row_at v.system.names x)) (groups_of (tables_of v.system) x) v.system z.system r a b
          → OnOk r (CellBecomes x Closed v.cells z.cells) → OnErr r (z.cells ≡ v.cells) → AnswersLine state left (Asks (Offline p)) v z room (told_of r) a b
      offline_answers able ch cells same =
          changed state left x (marked mark.Offline (row_at v.system.names x)) (groups_of (tables_of v.system) x) Closed ⊤
          (Asks (Offline p)) order.SetOffline tt offline_finds room v z (λ k. ⊥) a a b
          (within_refl state left (λ k. ⊥) a)
          (λ w stands. goes_offline v (state a) w stands p x less at s is able (state b) (lot_kept state left (tables_of v.system) x a b ch.within))
          (λ w stands. none_spare v w) (none_early v) (λ w stands. offline_may (tables_of v.system) x) r ch cells same (always r)

      -- a cube that is offline is set online
      pub online_answers : s ≡ word.Offline
          → Changes state left x (marked mark.Online (row_at v.system.names x)) (groups_of (tables_of v.system) x) v.system z.system r a b
          → z.cells ≡ v.cells → AnswersLine state left (Asks (Online p)) v z room (told_of r) a b
      online_answers off ch cells =
          changed state left x (marked mark.Online (row_at v.system.names x)) (groups_of (tables_of v.system) x) Closed ⊤
          (Asks (Online p)) order.SetOnline tt online_finds room v z (λ k. ⊥) a a b
          (within_refl state left (λ k. ⊥) a)
          (λ w stands. goes_online v (state a) w stands p x less at s is off (state b) (lot_kept state left (tables_of v.system) x a b ch.within))
          (λ w stands. none_spare v w) (none_early v) (λ w stands. online_may (tables_of v.system) x) r ch (where_ok r kept) (where_err r cells) (always r)
        where
          kept : CellBecomes x Closed v.cells z.cells
          kept = record {
            here = ap (λ (cs : List Cell). cell_at cs x) cells ∙ offline_closed (cell_at v.cells x) (is_marked (row_at v.system.names x)) (sym is ∙ off);
            others = λ y other. ap (λ (cs : List Cell). cell_at cs y) cells;
          }

-- ---- refusals

module _ {D X : Type 0} (state : D → DiskState) (left : D → ℕ → Image → List ℕ → Type 0) (v : VolumeView) (p : List (List ℕ)) (room : RoomContent) (a : D) where
  -- no cube has the path
  pub delete_none : NoneHas v.system.names p → AnswersLine {X = X} state left (Asks (Delete p)) v v room (Ok (Err code.NoCube)) a a
  delete_none none =
      unchanged state left (Asks (Delete p)) v room (Err code.NoCube) a refl tt
      (λ w stands. refused v (state a) w stands p none order.Delete (Asks (Delete p)) refl)

  pub offline_none : NoneHas v.system.names p → AnswersLine {X = X} state left (Asks (Offline p)) v v room (Ok (Err code.NoCube)) a a
  offline_none none =
      unchanged state left (Asks (Offline p)) v room (Err code.NoCube) a refl tt
      (λ w stands. refused v (state a) w stands p none order.SetOffline (Asks (Offline p)) refl)

  pub online_none : NoneHas v.system.names p → AnswersLine {X = X} state left (Asks (Online p)) v v room (Ok (Err code.NoCube)) a a
  online_none none =
      unchanged state left (Asks (Online p)) v room (Err code.NoCube) a refl tt
      (λ w stands. refused v (state a) w stands p none order.SetOnline (Asks (Online p)) refl)

  module _ (x : ℕ) (less : x < v.system.names.slots) (at : path_at v.system.names x ≡ Some p) (s : StateWord)
      (is : s ≡ cell_state (cell_at v.cells x) (is_marked (row_at v.system.names x))) where
    -- a cube that is offline, or mounted, is not set offline
    pub offline_stays : s ≡ word.Offline → AnswersLine {X = X} state left (Asks (Offline p)) v v room (Ok (Err code.State)) a a
    offline_stays off =
        unchanged state left (Asks (Offline p)) v room (Err code.State) a refl tt (λ w stands. stays_offline v (state a) w stands p x less at s is off)

    pub mounted_stays : s ≡ word.Mounted → AnswersLine {X = X} state left (Asks (Offline p)) v v room (Ok (Err code.Mounted)) a a
    mounted_stays on =
        unchanged state left (Asks (Offline p)) v room (Err code.Mounted) a refl tt (λ w stands. stays_mounted v (state a) w stands p x less at s is on)

    -- nor one online that isn't offline
    pub online_stays : s ≢ word.Offline → AnswersLine {X = X} state left (Asks (Online p)) v v room (Ok (Err code.State)) a a
    online_stays other =
        unchanged state left (Asks (Online p)) v room (Err code.State) a refl tt (λ w stands. stays_online v (state a) w stands p x less at s is other)

-- ---- sessions

-- the sessions after a change of the tables, where the cell of its slot is one of the slot then
pub sessions_after : {D A : Type 0} (state : D → DiskState) (left : D → ℕ → Image → List ℕ
    → Type 0) (v z : VolumeView) (x : ℕ) (row : Option Row) (groups : List ℕ) (cell : Cell) (a b : D) (r : Result A SystemFault)
    → AreSessions v → Changes state left x row groups v.system z.system r a b → OnOk r (CellBecomes x cell v.cells z.cells)
    → OnErr r (z.cells ≡ v.cells) → length z.cells ≡ 16
    → OnOk r (SlotBecomes x row groups (tables_of v.system) (tables_of z.system) → IsSession (tables_of z.system) x cell) → AreSessions z
sessions_after state left v z x row groups cell a b (Ok y) are ch cells same count is =
    sessions_become v z x row groups cell are ch.done cells count (is ch.done)
sessions_after state left v z x row groups cell a b (Err Before) are ch cells same count is =
    sessions_same v z (ap (λ (s : SystemView). tables_of s) (ch.before refl).0) same are
sessions_after state left v z x row groups cell a b (Err After) are ch cells same count is =
    sessions_same v z (ap (λ (s : SystemView). tables_of s) (ch.after refl).0) same are
