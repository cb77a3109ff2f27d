use Rattle.std.proofs.Common.{◌≡◌, ◌≤◌, ◌^◌, ◌+◌, take, true}
use Rattle.std.specs.List.{list_all}
use Rattle.std.specs.Char.{is_ascii_digit}
use Rattle.ice_script.specs.Grammar.{value_of}
use Rattle.ice_text.proofs.closing.read_count.Given as goal

abbrev pub invariant-loop-digit : goal.invariant-loop-digit
invariant-loop-digit l =
    (l.value + 1 ≤ 10 ^ l.digit-index)
    × (list_all is_ascii_digit (take l.digit-index l.token) ≡ true)
    × (l.value ≡ value_of (take l.digit-index l.token))
