use Rattle.std.proofs.Common.{List, subst}
use Rattle.ice_tables.specs.Tables.{blocks_from}
use Rattle.ice_txn.specs.declared.set.Entry.{Entry}
use Rattle.ice_system.specs.Systems.{tables_with}
use Rattle.ice_system.proofs.Gathering.{Put, gathered}
use Rattle.ice_system.proofs.Views.{joined_says}
use Rattle.ice_system.proofs.gather.gather.Goals as goal

-- src/gather.rt:38:1
pub returns-clause-changes : goal.returns-clause-changes
returns-clause-changes c =
    let rows : Put 11 c.write.new.into c.write-2.new.into c.clear.new.self.entries c.put_changed.new.set.entries = record {
      here = c.put_changed.ensures.here;
      elsewhere = c.put_changed.ensures.elsewhere;
      addresses = c.put_changed.ensures.holds;
      count = c.put_changed.ensures.count;
    } in
    let owners : Put 15 c.write-3.new.into c.write-4.new.into c.put_changed.new.set.entries c.put_changed-2.new.set.entries = record {
      here = c.put_changed-2.ensures.here;
      elsewhere = c.put_changed-2.ensures.elsewhere;
      addresses = c.put_changed-2.ensures.holds;
      count = c.put_changed-2.ensures.count;
    } in
    gathered c.write.new.into c.write-2.new.into c.write-3.new.into c.write-4.new.into c.put_changed.new.set.entries c.put_changed-2.new.set.entries
    (subst (λ (es : List Entry). Put 11 c.write.new.into c.write-2.new.into es c.put_changed.new.set.entries) c.clear.ensures.entries rows) owners
    (tables_with c.args.old_names.now c.args.old_owners.now) (tables_with c.args.names.now c.args.owners.now)
    (joined_says c.args.old_names.now c.args.old_owners.now (blocks_from 11 c.write.new.into) (blocks_from 15 c.write-3.new.into)
    c.write.ensures.sound.few c.write-3.ensures.lots c.requires.old c.write.ensures.accepted c.write.ensures.rows
    c.write-3.ensures.holders c.write-3.ensures.ordinals c.write-3.ensures.past)
    (joined_says c.args.names.now c.args.owners.now (blocks_from 11 c.write-2.new.into) (blocks_from 15 c.write-4.new.into)
    c.write-2.ensures.sound.few c.write-4.ensures.lots c.requires.tables c.write-2.ensures.accepted c.write-2.ensures.rows
    c.write-4.ensures.holders c.write-4.ensures.ordinals c.write-4.ensures.past)
