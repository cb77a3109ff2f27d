use Rattle.std.proofs.Common.{◌<◌, length}
use Rattle.std.specs.Io.KnownBytes.{Keeps}
use Rattle.disk_file.proofs.streams.take_piece.Given as goal

abbrev pub invariant-loop : goal.invariant-loop
invariant-loop g l = record { kept : Keeps (g.R.Read.remaining l.initial.input) (g.R.Read.remaining l.input); room : 0 < length l.into }
