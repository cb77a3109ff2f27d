use Rattle.ice_keep.proofs.JournaledLaws.{none_homes}
use Rattle.ice_cube.proofs.cube.Cube.begin.Goals as goal

pub invariant_of-result : goal.invariant_of-result
invariant_of-result c = none_homes c.args.lot c.args.keep.entries c.requires
