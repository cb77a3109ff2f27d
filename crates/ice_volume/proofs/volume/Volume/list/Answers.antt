use Rattle.std.proofs.Common.{◌∙◌, Option, List, [], ◌∷◌, ◌++◌, length, refl, sym, ap, arith}
use Rattle.tree_spec.specs.Held.{RoomContent}
use Rattle.tree_spec.specs.declared.reply.CubeRow.{CubeRow}
use Rattle.ice_volume.specs.Rows.{shown_rows, at_most_one}
use Rattle.ice_volume.proofs.Lookups.{shown_none, shown_more, shown_few, append_none}
use Rattle.ice_volume.proofs.volume.Volume.list.Goals as goal
use Rattle.ice_volume.proofs.volume.Volume.list.Goals.{in-Some, in_default}

pub loop-slot-init : goal.loop-slot-init
loop-slot-init c = record { rows = c.requires ∙ sym (shown_none c.args.self.now); entries = refl }

pub add_row-requires : goal.add_row-requires
add_row-requires c = omega (arith, ap length c.loop-slot.invariant.rows, shown_few c.args.self.now c.loop-slot.slot, c.slots-slot-end.ensures.value, c.slots-slot-end.ensures.sound.few, c.loop-slot-test.true)

pub loop-slot-preserved : goal.loop-slot-preserved
loop-slot-preserved c =
    let v = c.args.self.now in let n = c.loop-slot.slot in
    elim c.match-row.branch [
      | in-Some w ↦ record {
        rows = ap (λ (x : RoomContent). x.rows) w.room-is ∙ w.add_row.ensures.rows ∙ ap (λ (xs : List CubeRow). xs ++ w.in-Some.row ∷ []) c.loop-slot.invariant.rows
            ∙ ap (λ (o : Option CubeRow). shown_rows v n ++ at_most_one o) (sym w.in-Some.is ∙ c.row.ensures) ∙ sym (shown_more v n);
        entries = ap (λ (x : RoomContent). x.entries) w.room-is ∙ w.add_row.ensures.entries ∙ c.loop-slot.invariant.entries;
      }
      | in_default w ↦ record {
        rows = ap (λ (x : RoomContent). x.rows) w.room-is ∙ c.loop-slot.invariant.rows ∙ sym (append_none (shown_rows v n))
            ∙ ap (λ (o : Option CubeRow). shown_rows v n ++ at_most_one o) (sym w.in_default.is ∙ c.row.ensures) ∙ sym (shown_more v n);
        entries = ap (λ (x : RoomContent). x.entries) w.room-is ∙ c.loop-slot.invariant.entries;
      }
    ]
