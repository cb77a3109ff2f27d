use Rattle.std.proofs.Common.{refl}
use Rattle.ice_system.proofs.Opening.{are_tables, tables_accepted, owners_refused}
use Rattle.ice_system.proofs.attach.decode.Goals as goal

pub invariant_of-result : goal.invariant_of-result
invariant_of-result c =
    let read = c.in-Some.ensures in let own = c.in-Some-read.ensures in (
      are_tables c.args.sup c.requires.geometry c.args.rows.now c.args.owners.now c.in-Some.names read.accepted read.rows c.live_slots-live.result
          c.live_slots-live.ensures.has c.live_slots-live.ensures.all
          c.in-Some-read.owners own.lots own.groups own.holders own.ordinals own.accepted,
      c.requires.set,
    )

pub returns-in-None-read-clause-refused : goal.returns-in-None-read-clause-refused
returns-in-None-read-clause-refused c = λ m four five.
    let read = c.in-Some.ensures in
    owners_refused c.args.sup c.requires.geometry c.args.rows.now c.args.owners.now c.in-Some.names read.accepted read.rows c.live_slots-live.result
    c.live_slots-live.ensures.has c.live_slots-live.ensures.all
    m four five (λ t told. c.in-None-read.ensures.refused t told refl)

pub returns-in-Some-read-clause-accepted : goal.returns-in-Some-read-clause-accepted
returns-in-Some-read-clause-accepted c = λ m four five.
    let read = c.in-Some.ensures in let own = c.in-Some-read.ensures in
    tables_accepted c.args.sup c.requires.geometry c.args.rows.now c.args.owners.now c.in-Some.names read.accepted read.rows c.live_slots-live.result
    c.live_slots-live.ensures.has c.live_slots-live.ensures.all
    c.in-Some-read.owners own.lots own.groups own.holders own.ordinals own.accepted read.slots m four five
