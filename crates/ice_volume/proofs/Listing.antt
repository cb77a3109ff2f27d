-- The line that lists the cubes.
use Rattle.std.proofs.Common.{◌≡◌, ◌∙◌, inl, ℕ, List, [], length, Ok, refl, ap, arith}
use Rattle.ice_base.specs.Disk.{Image, DiskState, Outside}
use Rattle.ice_base.specs.FrameLaws.{within_refl}
use Rattle.tree_spec.specs.Held.{RoomContent}
use Rattle.tree_spec.specs.Lines.{Asks, Cubes}
use Rattle.tree_spec.specs.Replies.{meant}
use Rattle.tree_spec.specs.Replies as reply
use Rattle.tree_spec.specs.World.{World, aim}
use Rattle.tree_spec.specs.declared.reply.Entry.{Entry}
use Rattle.tree_spec.specs.declared.reply.CubeRow.{CubeRow}
use Rattle.tree_spec.specs.declared.reply.Value.TheVariants.{Listed}
use Rattle.ice_system.specs.Systems.{tables_of}
use Rattle.ice_volume.specs.Lines.{Answers, AnswersLine, IsOfBroken, LineWrites}
use Rattle.ice_volume.specs.Rows.{shown_rows}
use Rattle.ice_volume.specs.Volumes.{VolumeView, StandsFor, IsWritable}
use Rattle.ice_volume.proofs.Lookups.{rows_shown}

module _ (v : VolumeView) (room : RoomContent) (n : ℕ) (s : DiskState) (none : room.entries ≡ []) (rows : room.rows ≡ shown_rows v v.system.names.slots) where
  lists : (u : World) → StandsFor v s u → Answers v v s s (Asks Cubes) u (meant (Ok (Listed n)) room)
  lists u stands = record {
    then = u;
    step =
        (ap (λ (es : List Entry). Ok (reply.Listed es room.rows)) none ∙ ap (λ (rs : List CubeRow). Ok (reply.Listed [] rs)) (rows ∙ rows_shown v s u stands), refl);
    stands = stands;
    found = tt;
    lots = λ x broken still. refl;
  }

-- The list of the cubes is answered without a call of the disk.
pub listed_line : {D X : Type 0} (state : D → DiskState) (left : D → ℕ → Image → List ℕ → Type 0) (v : VolumeView) (room : RoomContent) (n : ℕ) (a : D)
    → room.entries ≡ [] → room.rows ≡ shown_rows v v.system.names.slots → n ≡ length room.rows
    → AnswersLine {X = X} state left (Asks Cubes) v v room (Ok (Ok (Listed n))) a a
listed_line state left v room n a none rows count = record {
  within = within_refl state left (IsWritable v) a;
  size = refl;
  cause = tt;
  live = refl;
  faults = omega arith;
  tallies = omega (arith, count, ap length none);
  leaves = λ u stands. record { each = λ m i out l. inl l };
  goes = lists v room n (state a) none rows;
  frame = λ u stands. within_refl state left (LineWrites (tables_of v.system) (aim u (Asks Cubes)) (meant (Ok (Listed n)) room)) a;
  spares = λ u stands. within_refl state left (Outside (IsOfBroken (tables_of v.system) u)) a;
  stops = λ u stands. tt;
}
