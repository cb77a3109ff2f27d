use Rattle.ice_cube.proofs.CubeLaws.{holds_cut}
use Rattle.ice_cube.proofs.laws.mounted_cube_holds_cut.Goals as goal

pub returns : goal.returns
returns c = λ f mode h j v s few holds. holds_cut f mode h j v s few holds
