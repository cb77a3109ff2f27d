use Rattle.std.proofs.Common.{arith}
use Rattle.ice_base.specs.Disk.{block}
use Rattle.ice_base.specs.FrameLaws.{within_more}
use Rattle.ice_tables.specs.Journals.{system_places}
use Rattle.ice_journal.specs.Blocks.{CommitBlocks}
use Rattle.ice_system.specs.Says.{IsChange}
use Rattle.ice_system.proofs.Moving.{commit_change, rest_idle}
use Rattle.ice_system.proofs.Committing.{moves_none, moves_ok, moves_before, moves_after}
use Rattle.ice_system.proofs.change.commit_set.Goals as goal

-- src/change.rt:36:9
pub returns-then-len-eq0-clause-moves : goal.returns-then-len-eq0-clause-moves
returns-then-len-eq0-clause-moves g c t u change slots groups sure =
    moves_none g.D.Disk.state g.D.Disk.left t u c.args.set.now.entries slots groups change tt c.args.disk.now (omega (arith, c.if-len-eq0.true, c.len.ensures.len)) sure

-- src/change.rt:25:1
pub returns-in-Ok-clause-moves : goal.returns-in-Ok-clause-moves
returns-in-Ok-clause-moves g c t u change slots groups sure =
    let idle = rest_idle t (g.D.Disk.state c.args.disk.now) sure in
    let map = block (g.D.Disk.state c.args.disk.now).now in
    let w = within_more g.D.Disk.state g.D.Disk.left (CommitBlocks system_places c.args.set.now.entries) IsChange c.args.disk.now c.commit.new.disk
    (commit_change c.args.set.now.entries c.requires.few c.requires.homes) c.commit.ensures.within in
    moves_ok g.D.Disk.state g.D.Disk.left t u c.args.set.now.entries slots groups change c.args.disk.now c.commit.new.disk sure w (c.commit.ensures.crash map idle) tt (c.in-Ok.ensures.done map idle)

-- src/change.rt:25:1
pub returns-in-Err-Before-clause-moves : goal.returns-in-Err-Before-clause-moves
returns-in-Err-Before-clause-moves g c t u change slots groups sure =
    let idle = rest_idle t (g.D.Disk.state c.args.disk.now) sure in
    let map = block (g.D.Disk.state c.args.disk.now).now in
    let w = within_more g.D.Disk.state g.D.Disk.left (CommitBlocks system_places c.args.set.now.entries) IsChange c.args.disk.now c.commit.new.disk
    (commit_change c.args.set.now.entries c.requires.few c.requires.homes) c.commit.ensures.within in
    moves_before g.D.Disk.state g.D.Disk.left t u c.args.set.now.entries slots groups change c.args.disk.now c.commit.new.disk sure w (c.commit.ensures.crash map idle) (c.commit.ensures.before map idle (cc c.in-Err-Before.field-0-is))

-- src/change.rt:25:1
pub returns-in-Err-After-clause-moves : goal.returns-in-Err-After-clause-moves
returns-in-Err-After-clause-moves g c t u change slots groups sure =
    let idle = rest_idle t (g.D.Disk.state c.args.disk.now) sure in
    let map = block (g.D.Disk.state c.args.disk.now).now in
    let w = within_more g.D.Disk.state g.D.Disk.left (CommitBlocks system_places c.args.set.now.entries) IsChange c.args.disk.now c.commit.new.disk
    (commit_change c.args.set.now.entries c.requires.few c.requires.homes) c.commit.ensures.within in
    moves_after g.D.Disk.state g.D.Disk.left t u c.args.set.now.entries slots groups change c.args.disk.now c.commit.new.disk sure w (c.commit.ensures.crash map idle) (c.commit.ensures.late sure.settled.told (cc c.in-Err-After.field-0-is))
