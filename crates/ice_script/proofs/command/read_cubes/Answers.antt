use Rattle.std.proofs.Common.{ap, ◌∙◌}
use Rattle.ice_script.specs.Grammar.{cubes_of}
use Rattle.ice_script.specs.Reading.{tokens_behind, refusal_in}
use Rattle.ice_script.proofs.Tokens.{cubes_more}
use Rattle.ice_script.proofs.command.read_cubes.Goals as goal

pub returns-in-Some : goal.returns-in-Some
returns-in-Some c = ap (λ rest. refusal_in (cubes_of (tokens_behind rest))) c.in-Some.is ∙ ap refusal_in (cubes_more c.in-Some.field-0.now)
