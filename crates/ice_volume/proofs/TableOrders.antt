-- The orders to a cube that change its row, and the refusals of them.
use Rattle.std.proofs.Common.{◌≡◌, ◌≢◌, ◌∙◌, inl, inr, ◌<◌, ℕ, Bool, true, false, List, [], Option, Some, None, option_map, Ok, Err, refl, sym, ap, subst}
use Rattle.std.specs.Prelude.{⊤, IsSome}
use Rattle.ice_base.specs.Disk.{DiskState, Image}
use Rattle.ice_base.specs.Frames.{Kept}
use Rattle.ice_base.specs.Lots.{LotView, extent}
use Rattle.tree_spec.specs.Lines.{Line, Asks, Delete, Offline, Online}
use Rattle.tree_spec.specs.Why as why
use Rattle.tree_spec.specs.Records.{Cube, Content, Sound, Broken, Unread, with_state, is_offline, is_mountable}
use Rattle.tree_spec.specs.Replies.{Response, Because}
use Rattle.tree_spec.specs.Replies as reply
use Rattle.tree_spec.specs.Own as order
use Rattle.tree_spec.specs.Own.{Own, No, Yes, on_offline, on_online}
use Rattle.tree_spec.specs.World.{World, Aim, At, aim, Goes, to_cube, slot_with_path, with_slot}
use Rattle.tree_spec.specs.declared.reply.StateWord.{StateWord}
use Rattle.tree_spec.specs.declared.reply.StateWord.TheVariants as word
use Rattle.ice_tables.specs.Tables.{Row}
use Rattle.ice_tables.specs.Lots.{groups_of, lot_of}
use Rattle.ice_images.specs.Fitting.{Entry, cube_entry}
use Rattle.ice_images.specs.Opening.{closed_state}
use Rattle.ice_names.specs.Names.{row_at, path_at, NoneHas, marked}
use Rattle.ice_names.specs.declared.mark.Mark.TheVariants as mark
use Rattle.ice_cube.specs.Commands.{open_state}
use Rattle.ice_system.specs.Systems.{tables_of}
use Rattle.ice_volume.specs.Cells.{cell_at, cell_state, IsKnown, Carries}
use Rattle.ice_volume.specs.Volumes.{VolumeView, StandsFor}
use Rattle.ice_volume.specs.Lines.{Answers, LineFound}
use Rattle.ice_volume.specs.Rows.{is_marked}
use Rattle.ice_volume.specs.declared.cell.Cell.{Cell}
use Rattle.ice_volume.specs.declared.cell.Cell.TheVariants.{Closed, Stopped, Open}
use Rattle.ice_volume.proofs.Lookups.{row_path, slot_found, slot_none, carried_state}
use Rattle.ice_volume.proofs.Changing.{Becomes, FindsNothing, entry_with, put_again, carries_where}
use Rattle.ice_volume.proofs.Slots.{carries_has, carries_known}

cube_of : (o : Option Cube) (p : List (List ℕ)) → option_map (λ (c : Cube). c.path) o ≡ Some p → (c : Cube) × (o ≡ Some c)
cube_of None p is = absurd (cc is)
cube_of (Some c) p is = (c, refl)

-- the mark of the row of a cube, and what the row shows under another mark
marked_so : (gs : List ℕ) (o : Option Row) (c : Cube) → entry_with gs o ≡ Some (cube_entry c) → is_marked o ≡ is_offline c.state
marked_so gs None c e = absurd (cc e)
marked_so gs (Some r) c e = ap (off r.offline) e
  where
    off : Bool → Option Entry → Bool
    off b None = b
    off b (Some y) = y.offline

shown_offline : (gs : List ℕ) (o : Option Row) (c : Cube) → entry_with gs o ≡ Some (cube_entry c)
    → entry_with gs (marked mark.Offline o) ≡ Some (cube_entry (with_state word.Offline c))
shown_offline gs None c e = absurd (cc e)
shown_offline gs (Some r) c e = ap (option_map (λ (y : Entry). record y { offline = true })) e

shown_online : (gs : List ℕ) (o : Option Row) (c : Cube) → entry_with gs o ≡ Some (cube_entry c)
    → entry_with gs (marked mark.Online o) ≡ Some (cube_entry (with_state word.Unmounted c))
shown_online gs None c e = absurd (cc e)
shown_online gs (Some r) c e = ap (option_map (λ (y : Entry). record y { offline = false })) e

-- a row that shows a cube is one
row_some : (gs : List ℕ) (o : Option Row) (c : Cube) → entry_with gs o ≡ Some (cube_entry c) → IsSome o
row_some gs None c e = absurd (cc e)
row_some gs (Some r) c e = refl

-- a slot of a path has a row
pub path_some : (o : Option Row) (p : List (List ℕ)) → option_map (λ (r : Row). r.path) o ≡ Some p → IsSome o
path_some None p e = absurd (cc e)
path_some (Some r) p e = refl

-- ---- states

-- a cube that is neither offline nor mounted can be mounted
pub other_state : (s : StateWord) → s ≢ word.Offline → s ≢ word.Mounted → is_mountable s ≡ true
other_state word.Mounted off on = absurd (on refl)
other_state word.Unmounted off on = refl
other_state word.Stopped off on = refl
other_state word.Offline off on = absurd (off refl)

-- no session has a cube that is offline
pub offline_closed : (cell : Cell) (b : Bool) → cell_state cell b ≡ word.Offline → cell ≡ Closed
offline_closed Closed b is = refl
offline_closed Stopped b is = absurd (cc is)
offline_closed (Open e) b is = absurd (never e.stopped is)
  where
    never : (b : Bool) → open_state b ≡ word.Offline → ⊥
    never true is = absurd (cc is)
    never false is = absurd (cc is)

set_offline : (c : Cube) (s : StateWord) → c.state ≡ s → is_mountable s ≡ true
    → Own (Some c) order.SetOffline (Ok reply.Plain) (Some (with_state word.Offline c))
set_offline c word.Mounted is able = absurd (cc able)
set_offline c word.Unmounted is able = inl (Yes reply.Plain (Some (with_state word.Offline c)), sym (ap (on_offline c) is), (refl, refl))
set_offline c word.Stopped is able = inl (Yes reply.Plain (Some (with_state word.Offline c)), sym (ap (on_offline c) is), (refl, refl))
set_offline c word.Offline is able = absurd (cc able)

offline_fault : (c : Cube) (s : StateWord) → c.state ≡ s → is_mountable s ≡ true → Own (Some c) order.SetOffline (Err reply.Fault) (Some c)
offline_fault c s is able = inr (inl (ap is_mountable is ∙ able, refl, refl))

is_set_already : (c : Cube) → c.state ≡ word.Offline → Own (Some c) order.SetOffline (Err (Because why.State)) (Some c)
is_set_already c is = inl (No why.State, sym (ap (on_offline c) is), (refl, refl))

is_mounted_now : (c : Cube) → c.state ≡ word.Mounted → Own (Some c) order.SetOffline (Err (Because why.Mounted)) (Some c)
is_mounted_now c is = inl (No why.Mounted, sym (ap (on_offline c) is), (refl, refl))

set_online : (c : Cube) → c.state ≡ word.Offline → Own (Some c) order.SetOnline (Ok reply.Plain) (Some (with_state word.Unmounted c))
set_online c is = inl (Yes reply.Plain (Some (with_state word.Unmounted c)), sym (ap (on_online c) is), (refl, refl))

online_fault : (c : Cube) → c.state ≡ word.Offline → Own (Some c) order.SetOnline (Err reply.Fault) (Some c)
online_fault c is = inr (inl (ap is_offline is, refl, refl))

is_not_set : (c : Cube) (s : StateWord) → c.state ≡ s → s ≢ word.Offline → Own (Some c) order.SetOnline (Err (Because why.State)) (Some c)
is_not_set c word.Mounted is other = inl (No why.State, sym (ap (on_online c) is), (refl, refl))
is_not_set c word.Unmounted is other = inl (No why.State, sym (ap (on_online c) is), (refl, refl))
is_not_set c word.Stopped is other = inl (No why.State, sym (ap (on_online c) is), (refl, refl))
is_not_set c word.Offline is other = absurd (other refl)

-- ---- a closed cube in another state

known_as : (lot : LotView) (i : Image) (c d : Cube) (x : Content) → d.form ≡ c.form → d.mode ≡ c.mode → IsKnown lot i c x → IsKnown lot i d x
known_as lot i c d (Sound h) form mode known = tt
known_as lot i c d (Broken rules) form mode known = record { nothing = known.nothing; named = known.named; form = form ∙ known.form; mode = mode ∙ known.mode }
known_as lot i c d Unread form mode known = (form ∙ known.0, mode ∙ known.1)

-- whatever cell carried a record, a closed one carries it in the state of one that no session has
closed_carries : (cell : Cell) (lot : LotView) (s : DiskState) (c : Cube) (b : Bool) → is_offline (closed_state b) ≡ b
    → Carries cell lot s (Some c) → Carries Closed lot s (Some (with_state (closed_state b) c))
closed_carries cell lot s c b same is = record {
  each = carries_has cell lot s (Some c) is;
  known = known_as lot s.now c (with_state (closed_state b) c) c.content refl refl (carries_known cell lot s c is);
  is = ap closed_state (sym same);
}

-- ---- the orders

-- these orders find nothing
pub delete_finds : FindsNothing order.Delete
delete_finds lot i r c d = tt

pub offline_finds : FindsNothing order.SetOffline
offline_finds lot i r c d = tt

pub online_finds : FindsNothing order.SetOnline
online_finds lot i r c d = tt

module _ (v : VolumeView) (s : DiskState) (w : World) (stands : StandsFor v s w) (p : List (List ℕ)) where
  -- no cube has the path
  pub refused : NoneHas v.system.names p → (o : order.Order) (line : Line) → aim w line ≡ to_cube (slot_with_path w p) o
      → Answers v v s s line w (Err (Because why.NoCube))
  refused none o line is =
      let aims = is ∙ ap (λ (q : Option ℕ). to_cube q o) (slot_none v s w stands p none) in record {
        then = w;
        step = subst (λ (z : Aim). Goes w z (Err (Because why.NoCube)) w) (sym aims) (refl, refl);
        stands = stands;
        found = subst (λ (z : Aim). LineFound (tables_of v.system) s.now z (Err (Because why.NoCube)) w w) (sym aims) tt;
        lots = λ y broken still. refl;
      }

  module _ (x : ℕ) (less : x < v.system.names.slots) (at : path_at v.system.names x ≡ Some p) where
    aims_at : (o : order.Order) (line : Line) → aim w line ≡ to_cube (slot_with_path w p) o → aim w line ≡ At x o
    aims_at o line is = is ∙ ap (λ (q : Option ℕ). to_cube q o) (slot_found v s w stands p x less at)

    -- the slot of the path has a cube
    pub here : (c : Cube) × (w.cube x ≡ Some c)
    here = cube_of (w.cube x) p (sym (row_path v s w stands x) ∙ at)

    pub entry_here : entry_with (groups_of (tables_of v.system) x) (row_at v.system.names x) ≡ Some (cube_entry here.0)
    entry_here = stands.shows.entries x ∙ ap (option_map cube_entry) here.1

    pub carries_here : Carries (cell_at v.cells x) (lot_of (tables_of v.system) x) s (Some here.0)
    carries_here = subst (λ c. Carries (cell_at v.cells x) (lot_of (tables_of v.system) x) s c) here.1 (stands.cubes x)

    state_here : here.0.state ≡ cell_state (cell_at v.cells x) (is_marked (row_at v.system.names x))
    state_here =
        carried_state (cell_at v.cells x) (lot_of (tables_of v.system) x) s here.0 carries_here
        ∙ ap (λ b. cell_state (cell_at v.cells x) b) (sym (marked_so (groups_of (tables_of v.system) x) (row_at v.system.names x) here.0 entry_here))

    own_here : (o : order.Order) (r : Response) (d : Option Cube) → Own (Some here.0) o r d → Own (w.cube x) o r d
    own_here o r d own = subst (λ c. Own c o r d) (sym here.1) own

    own_back : (o : order.Order) (r : Response) → Own (Some here.0) o r (Some here.0) → Own (w.cube x) o r (w.cube x)
    own_back o r own = subst (λ c. Own c o r c) (sym here.1) own

    -- the refusal of an order leaves the record
    refuses : (o : order.Order) (line : Line) (y : why.Why) → FindsNothing o → aim w line ≡ to_cube (slot_with_path w p) o
        → Own (Some here.0) o (Err (Because y)) (Some here.0) → Answers v v s s line w (Err (Because y))
    refuses o line y finds is own = record {
      then = with_slot w x (w.cube x);
      step =
          subst (λ (z : Aim). Goes w z (Err (Because y)) (with_slot w x (w.cube x))) (sym (aims_at o line is))
          (w.cube x, own_back o (Err (Because y)) own, refl);
      stands = put_again v s w x stands;
      found = subst (λ (z : Aim). LineFound (tables_of v.system) s.now z (Err (Because y)) w (with_slot w x (w.cube x))) (sym (aims_at o line is))
          (finds (lot_of (tables_of v.system) x) s.now (Err (Because y)) (w.cube x) ((with_slot w x (w.cube x)).cube x));
      lots = λ y broken still. refl;
    }

    -- a cube is deleted
    pub deletes : (t : DiskState) → Becomes v x None [] Closed ⊤ (Asks (Delete p)) order.Delete s t w
    deletes t = record {
      aims = aims_at order.Delete (Asks (Delete p)) refl;
      then = None;
      says = own_here order.Delete (Ok reply.Plain) None (inl (Yes reply.Plain None, refl, (refl, refl)));
      faulty = own_back order.Delete (Err reply.Fault) (inr (inl (refl, refl, refl)));
      shows = refl;
      each = λ i agrees. tt;
      carries = λ done. tt;
      same = λ broken still. absurd still;
    }

    -- a closed cell carries the record of a cube that was set offline
    pub offline_carries : Carries Closed (lot_of (tables_of v.system) x) s (Some (with_state word.Offline here.0))
    offline_carries = closed_carries (cell_at v.cells x) (lot_of (tables_of v.system) x) s here.0 true refl carries_here

    -- and of one that was set online
    pub online_carries : Carries Closed (lot_of (tables_of v.system) x) s (Some (with_state word.Unmounted here.0))
    online_carries = closed_carries (cell_at v.cells x) (lot_of (tables_of v.system) x) s here.0 false refl carries_here

    module _ (state : StateWord) (is : state ≡ cell_state (cell_at v.cells x) (is_marked (row_at v.system.names x))) where
      -- a cube that is neither mounted nor offline is set offline
      pub goes_offline : is_mountable state ≡ true → (t : DiskState) → Kept (extent (lot_of (tables_of v.system) x)) s t
          → Becomes v x (marked mark.Offline (row_at v.system.names x)) (groups_of (tables_of v.system) x) Closed ⊤ (Asks (Offline p)) order.SetOffline s t w
      goes_offline able t kept = record {
        aims = aims_at order.SetOffline (Asks (Offline p)) refl;
        then = Some (with_state word.Offline here.0);
        says = own_here order.SetOffline (Ok reply.Plain) (Some (with_state word.Offline here.0)) (set_offline here.0 state (state_here ∙ sym is) able);
        faulty = own_back order.SetOffline (Err reply.Fault) (offline_fault here.0 state (state_here ∙ sym is) able);
        shows = shown_offline (groups_of (tables_of v.system) x) (row_at v.system.names x) here.0 entry_here;
        each = carries_has (cell_at v.cells x) (lot_of (tables_of v.system) x) s (Some here.0) carries_here;
        carries = λ done. carries_where Closed (lot_of (tables_of v.system) x) s t (Some (with_state word.Offline here.0)) (λ live. kept) offline_carries;
        same = λ broken still. refl;
      }

      -- one that is offline stays so
      pub stays_offline : state ≡ word.Offline → Answers v v s s (Asks (Offline p)) w (Err (Because why.State))
      stays_offline off = refuses order.SetOffline (Asks (Offline p)) why.State offline_finds refl (is_set_already here.0 (state_here ∙ sym is ∙ off))

      -- one that is mounted stays so
      pub stays_mounted : state ≡ word.Mounted → Answers v v s s (Asks (Offline p)) w (Err (Because why.Mounted))
      stays_mounted on = refuses order.SetOffline (Asks (Offline p)) why.Mounted offline_finds refl (is_mounted_now here.0 (state_here ∙ sym is ∙ on))

      -- a cube that is offline is set online
      pub goes_online : state ≡ word.Offline → (t : DiskState) → Kept (extent (lot_of (tables_of v.system) x)) s t
          → Becomes v x (marked mark.Online (row_at v.system.names x)) (groups_of (tables_of v.system) x) Closed ⊤ (Asks (Online p)) order.SetOnline s t w
      goes_online off t kept = record {
        aims = aims_at order.SetOnline (Asks (Online p)) refl;
        then = Some (with_state word.Unmounted here.0);
        says = own_here order.SetOnline (Ok reply.Plain) (Some (with_state word.Unmounted here.0)) (set_online here.0 (state_here ∙ sym is ∙ off));
        faulty = own_back order.SetOnline (Err reply.Fault) (online_fault here.0 (state_here ∙ sym is ∙ off));
        shows = shown_online (groups_of (tables_of v.system) x) (row_at v.system.names x) here.0 entry_here;
        each = carries_has (cell_at v.cells x) (lot_of (tables_of v.system) x) s (Some here.0) carries_here;
        carries = λ done. carries_where Closed (lot_of (tables_of v.system) x) s t (Some (with_state word.Unmounted here.0)) (λ live. kept) online_carries;
        same = λ broken still. refl;
      }

      -- one that isn't stays so
      pub stays_online : state ≢ word.Offline → Answers v v s s (Asks (Online p)) w (Err (Because why.State))
      stays_online other = refuses order.SetOnline (Asks (Online p)) why.State online_finds refl (is_not_set here.0 state (state_here ∙ sym is) other)
