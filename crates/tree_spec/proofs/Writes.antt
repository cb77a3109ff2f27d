-- The bytes of a file after a write.
use Rattle.std.proofs.Common.{◌≡◌, ℕ, ◌+◌, ◌≤◌, List, ◌++◌, length, take, drop, arith}
use Rattle.std.specs.Prelude.{max}
use Rattle.std.proofs.lemmas.List.{length-take, length-drop, length-append}
use Rattle.tree_spec.specs.Answers.{written}

-- a write from within the file or its end makes it as long as it was, or up to the last byte written
pub length-written : (old : List ℕ) (off : ℕ) (new : List ℕ) → off ≤ length old → length (written old off new) ≡ max (length old) (off + length new)
length-written old off new h =
    omega (arith, length-append (take off old ++ new) (drop (off + length new) old), length-append (take off old) new, length-take off old, length-drop (off + length new) old)
