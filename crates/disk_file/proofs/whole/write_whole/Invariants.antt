use Rattle.std.proofs.Common.{◌≡◌, ◌⊎◌, ◌≤◌, ◌<◌, ◌+◌, ◌*◌, ℕ, true, length, get_or}
use Rattle.disk_file.proofs.whole.write_whole.Given as goal

abbrev pub invariant-loop : goal.invariant-loop
invariant-loop g l = record {
  few : l.done ≤ 1024;
  written : g.F.Places.tells l.initial.file ≡ true → (j : ℕ) → j < l.done → g.F.Places.byte l.file (1024 * l.at + j) ≡ get_or l.from j 0;
  others : g.F.Places.tells l.initial.file ≡ true → (k : ℕ) → (k < 1024 * l.at) ⊎ (1024 * l.at + 1024 ≤ k) → g.F.Places.byte l.file k ≡ g.F.Places.byte l.initial.file k;
  still : g.F.Places.tells l.file ≡ g.F.Places.tells l.initial.file;
}
