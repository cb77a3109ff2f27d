use Rattle.std.proofs.Common.{◌≡◌, false}
use Rattle.crash_sessions.proofs.text.reader_of.Given as goal

-- no line feed came yet
abbrev pub invariant-loop-byte : goal.invariant-loop-byte
invariant-loop-byte l = l.reader.ended ≡ false
