use Rattle.std.proofs.Common.{◌≡◌, false}
use Rattle.text_tests.proofs.lines.gather.Given as goal

abbrev pub invariant-loop-byte : goal.invariant-loop-byte
invariant-loop-byte l = l.reader.ended ≡ false
