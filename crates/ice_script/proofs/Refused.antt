-- How a line is refused.
use Rattle.std.proofs.Common.{◌≡◌, refl, sym, ap}
use Rattle.std.specs.Prelude.{Some, unwrap_or}
use Rattle.tree_spec.specs.Lines.{Line, Bad, Asks}
use Rattle.tree_spec.specs.Replies.{Fault, refused_of}
use Rattle.tree_spec.specs.declared.reply.Refusal.{Refusal}
use Rattle.ice_script.specs.Reading.{IsRefusedAs, refusal_in}

-- a line with this refusal is bad for its reason
pub refused_as : (line : Line) (e : Refusal) → refusal_in line ≡ Some (refused_of e) → IsRefusedAs line e
refused_as (Bad why) e h = (why, refl, sym (ap (λ o. unwrap_or o Fault) h))
refused_as (Asks request) e h = cc
