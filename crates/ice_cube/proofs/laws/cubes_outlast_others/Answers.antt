use Rattle.ice_cube.proofs.CubeLaws.{holds_kept, history_rests}
use Rattle.ice_cube.proofs.laws.cubes_outlast_others.Goals as goal

pub returns-clause-holds : goal.returns-clause-holds
returns-clause-holds c = λ f mode h v s t kept holds. holds_kept f mode h v s t kept holds

pub returns-clause-rests : goal.returns-clause-rests
returns-clause-rests c = λ lot f mode h. history_rests lot f mode h
