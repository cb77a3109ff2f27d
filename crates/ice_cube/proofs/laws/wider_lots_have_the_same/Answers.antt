use Rattle.ice_cube.proofs.WideLots.{wider_has}
use Rattle.ice_cube.proofs.laws.wider_lots_have_the_same.Goals as goal

pub returns : goal.returns
returns c = λ old lot f mode h s w new every. wider_has old lot f mode h s w new every
