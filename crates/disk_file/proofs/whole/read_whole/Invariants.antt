use Rattle.std.proofs.Common.{◌≡◌, ◌≤◌, ◌<◌, ◌+◌, ◌*◌, ℕ, true, length, get_or}
use Rattle.disk_file.proofs.whole.read_whole.Given as goal

abbrev pub invariant-loop : goal.invariant-loop
invariant-loop g l = record {
  few : l.done ≤ 1024;
  read : g.F.Places.tells l.initial.file ≡ true → (j : ℕ) → j < l.done → get_or l.into j 0 ≡ g.F.Places.byte l.initial.file (1024 * l.at + j);
  same : (k : ℕ) → g.F.Places.byte l.file k ≡ g.F.Places.byte l.initial.file k;
  still : g.F.Places.tells l.file ≡ g.F.Places.tells l.initial.file;
}
