-- The cube that a line of one path is meant for, and the refusals before it is asked.
use Rattle.std.proofs.Common.{◌≡◌, ◌∙◌, ◌<◌, ℕ, Bool, List, length, Option, Some, None, option_map, Ok, Err, refl, sym, ap, subst, arith}
use Rattle.std.specs.Prelude.{IsSome}
use Rattle.ice_base.specs.Disk.{Image, DiskState}
use Rattle.tree_spec.specs.Held.{RoomContent}
use Rattle.tree_spec.specs.Lines.{Line}
use Rattle.tree_spec.specs.Own.{Order}
use Rattle.tree_spec.specs.Records.{Cube, is_offline}
use Rattle.tree_spec.specs.Replies.{Response, Because, meant, refused_of}
use Rattle.tree_spec.specs.Replies as reply
use Rattle.tree_spec.specs.Why as why
use Rattle.tree_spec.specs.Why.{Why}
use Rattle.tree_spec.specs.World.{World, Aim, Refuse, At, aim, Goes, to_cube, slot_with_path}
use Rattle.tree_spec.specs.declared.reply.Refusal.{Refusal}
use Rattle.tree_spec.specs.declared.reply.Refusal.TheVariants as code
use Rattle.ice_base.specs.Lots.{LotView}
use Rattle.ice_tables.specs.Tables.{Row}
use Rattle.ice_tables.proofs.Groups.{groups_some}
use Rattle.ice_tables.specs.Lots.{groups_of, lot_of}
use Rattle.ice_images.specs.Fitting.{Entry, cube_entry}
use Rattle.ice_names.specs.Names.{row_at, path_at, NoneHas}
use Rattle.ice_system.specs.Systems.{tables_of}
use Rattle.ice_volume.specs.Lines.{AnswersLine, Answers, LineFound, fault_in}
use Rattle.ice_volume.specs.Rows.{is_marked}
use Rattle.ice_volume.specs.Volumes.{VolumeView, StandsFor}
use Rattle.ice_volume.proofs.Lookups.{row_path, slot_found, slot_none}
use Rattle.ice_volume.proofs.Slots.{IsMeant, refused_line}

-- ---- the cube of a path

cube_of : (o : Option Cube) (p : List (List ℕ)) → option_map (λ (c : Cube). c.path) o ≡ Some p → (c : Cube) × (o ≡ Some c)
cube_of None p is = absurd (cc is)
cube_of (Some c) p is = (c, refl)

abbrev entry_with : List ℕ → Option Row → Option Entry
entry_with groups o = option_map (λ (r : Row). record { path = r.path; groups = length groups; offline = r.offline }) o

-- what the row of a cube shows of it
shown : (gs : List ℕ) (o : Option Row) (c : Cube) → entry_with gs o ≡ Some (cube_entry c) → (is_marked o ≡ is_offline c.state) × (length gs ≡ c.groups)
shown gs None c e = absurd (cc e)
shown gs (Some r) c e = (ap (off r.offline) e, ap (many (length gs)) e)
  where
    off : Bool → Option Entry → Bool
    off b None = b
    off b (Some y) = y.offline

    many : ℕ → Option Entry → ℕ
    many n None = n
    many n (Some y) = y.groups

module _ (v : VolumeView) (s : DiskState) (u : World) (stands : StandsFor v s u) where
  -- the cube of a slot as the tables show it
  pub meant_slot : (x : ℕ) (c : Cube) (line : Line) (o : Order) (offline : Bool) → u.cube x ≡ Some c
      → is_marked (row_at v.system.names x) ≡ offline → aim u line ≡ At x o → IsMeant v x line o offline u
  meant_slot x c line o offline is mark aims =
      let entry = shown (groups_of (tables_of v.system) x) (row_at v.system.names x) c (stands.shows.entries x ∙ ap (option_map cube_entry) is) in
      record { aims = aims; cube = c; is = is; mark = sym entry.0 ∙ mark; groups = sym entry.1 }

  module _ (p : List (List ℕ)) where
    module _ (x : ℕ) (less : x < v.system.names.slots) (at : path_at v.system.names x ≡ Some p) where
      here : (c : Cube) × (u.cube x ≡ Some c)
      here = cube_of (u.cube x) p (sym (row_path v s u stands x) ∙ at)

      -- a line to the cube of a path that was found
      pub meant_path : (line : Line) (o : Order) (offline : Bool) → aim u line ≡ to_cube (slot_with_path u p) o
          → is_marked (row_at v.system.names x) ≡ offline → IsMeant v x line o offline u
      meant_path line o offline is mark =
          meant_slot x here.0 line o offline here.1 mark (is ∙ ap (λ (q : Option ℕ). to_cube q o) (slot_found v s u stands p x less at))

      -- its slot is not free
      pub not_free : u.cube x ≡ None → ⊥
      not_free none = cc (sym none ∙ here.1)

    -- a line to the cube of a path that was not found
    pub aims_none : (line : Line) (o : Order) → aim u line ≡ to_cube (slot_with_path u p) o → NoneHas v.system.names p → aim u line ≡ Refuse why.NoCube
    aims_none line o is none = is ∙ ap (λ (q : Option ℕ). to_cube q o) (slot_none v s u stands p none)

  refused_answers : (line : Line) (r : Refusal) (room : RoomContent) (y : Why) → refused_of r ≡ Because y → aim u line ≡ Refuse y
      → Answers v v s s line u (meant (Err r) room)
  refused_answers line r room y because aims = record {
    then = u;
    step = subst (λ (z : Aim). Goes u z (Err (refused_of r)) u) (sym aims) (ap (λ (q : reply.Refused). Err q) because, refl);
    stands = stands;
    found = subst (λ (z : Aim). LineFound (tables_of v.system) s.now z (Err (refused_of r)) u u) (sym aims) tt;
    lots = λ x broken still. refl;
  }

  -- a slot without a group is free
  pub free_slot : (x : ℕ) (l : LotView) → l ≡ lot_of (tables_of v.system) x → length l.groups ≡ 0 → u.cube x ≡ None
  free_slot x l is none = by (row_at v.system.names x) (u.cube x) refl (stands.shows.entries x)
    where
      empty : length (groups_of (tables_of v.system) x) ≡ 0
      empty = sym (ap (λ (y : LotView). length y.groups) is) ∙ none

      by : (o : Option Row) (d : Option Cube) → row_at v.system.names x ≡ o
          → entry_with (groups_of (tables_of v.system) x) o ≡ option_map cube_entry d → d ≡ None
      by None None row e = refl
      by None (Some c) row e = absurd (cc e)
      by (Some r) d row e =
          let has = stands.tables.now.has in
          let held = has.owners.groups x (subst (λ (o : Option Row). IsSome o) (sym row) refl) in
          let some = groups_some s.now (tables_of v.system) x held.0 has held.1 in
          absurd (omega (arith, some, empty))

-- ---- lines that are refused before a cube is asked

module _ {D X : Type 0} (state : D → DiskState) (left : D → ℕ → Image → List ℕ → Type 0) (line : Line) (v : VolumeView) (room : RoomContent) (a : D) where
  -- a refusal of what the line is meant for
  pub refusal_line : (r : Refusal) → fault_in (Err (refused_of r)) ≡ 0
      → ((u : World) → StandsFor v (state a) u → (y : Why) × (refused_of r ≡ Because y) × (aim u line ≡ Refuse y))
      → AnswersLine {X = X} state left line v v room (Ok (Err r)) a a
  refusal_line r none refuses = refused_line state left line v room r a none
      (λ u stands. let y = refuses u stands in refused_answers v (state a) u stands line r room y.0 y.1 y.2)

  -- no cube has the path
  pub none_line : (p : List (List ℕ)) (o : Order) → ((u : World) → aim u line ≡ to_cube (slot_with_path u p) o) → NoneHas v.system.names p
      → AnswersLine {X = X} state left line v v room (Ok (Err code.NoCube)) a a
  none_line p o is none = refusal_line code.NoCube refl (λ u stands. (why.NoCube, refl, aims_none v (state a) u stands p line o (is u) none))

  -- a slot whose cube is known is not free
  pub free_line : (x : ℕ) (p : List (List ℕ)) → x < v.system.names.slots → path_at v.system.names x ≡ Some p
      → ((s : DiskState) (u : World) → StandsFor v s u → u.cube x ≡ None) → AnswersLine {X = X} state left line v v room (Ok (Err code.NoCube)) a a
  free_line x p less at free =
      refused_line state left line v room code.NoCube a refl (λ u stands. absurd (not_free v (state a) u stands p x less at (free (state a) u stands)))
