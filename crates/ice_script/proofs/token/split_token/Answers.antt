use Rattle.std.proofs.Common.{◌≡◌, ◌-◌, ◌+◌, take, length, drop, arith, sym}
use Rattle.std.proofs.lemmas.Grind.{common_steps}
use Rattle.ice_script.proofs.Tokens.{tokens_at, tokens_none}
use Rattle.ice_script.proofs.token.split_token.Goals as goal

pub returns-in-Some-clause-tokens : goal.returns-in-Some-clause-tokens
returns-in-Some-clause-tokens c =
    let e : take (length c.args.text.now - (c.in-Some.end + 1)) (drop (c.in-Some.end + 1) c.args.text.now) ≡ drop (c.in-Some.end + 1) c.args.text.now = grind (arith, common_steps) in
    rw e (tokens_at c.args.text.now c.in-Some.end (sym c.in-Some.ensures.first))

pub returns-in-None-clause-tokens : goal.returns-in-None-clause-tokens
returns-in-None-clause-tokens c = tokens_none c.args.text.now (sym c.in-None.ensures.first)
