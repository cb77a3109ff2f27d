use Rattle.ice_keep.specs.Journaled.{held_refl}
use Rattle.keep_tests.proofs.calls.dir_in.Goals as goal

-- what is steady over the keep says that it holds addresses of the lot alone
pub returns : goal.returns
returns g c =
    let still = held_refl g.D.Disk.state g.D.Disk.left c.args.lot.now c.args.keep.now c.args.disk.now in
    record { homes = (c.mkdir.ensures.spent.steady c.args.keep.now c.args.disk.now still).homes c.requires.homes }
