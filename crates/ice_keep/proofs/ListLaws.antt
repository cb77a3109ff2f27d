-- Putting one block into a set.
use Rattle.std.proofs.Common.{◌≡◌, ◌≢◌, ℕ, ◌+◌, ◌-◌, ◌≤◌, ◌==◌, Bool, true, false, cond, List, arith}
use Rattle.std.proofs.lemmas.Bool.Decides.{nat_tests}

-- one block put in place
pub put_here : (m n : ℕ → List ℕ) (at : ℕ) (x : List ℕ) → n at ≡ cond (at == at) x (m at) → n at ≡ x
put_here m n at x e = grind (arith, nat_tests)

pub put_else : (m n : ℕ → List ℕ) (at a : ℕ) (x : List ℕ) → a ≢ at → n a ≡ cond (at == a) x (m a) → n a ≡ m a
put_else m n at a x ne e = grind (arith, nat_tests)

pub put_grows : (old new : ℕ → Bool) (at : ℕ) → ((a : ℕ) → new a ≡ cond (at == a) true (old a)) → (a : ℕ) → old a ≡ true → new a ≡ true
put_grows old new at h a e = let f = h a in grind (arith, nat_tests)

pub put_holds : (old new : ℕ → Bool) (at : ℕ) → ((a : ℕ) → new a ≡ cond (at == a) true (old a)) → new at ≡ true
put_holds old new at h = let f = h at in grind (arith, nat_tests)

-- of the room at most one is spent, and none where the address was held
pub put_falls : (most0 most1 m n : ℕ) (b : Bool) → most1 ≡ most0 → n ≡ m + cond b 0 1 → most0 - m ≤ most1 - n + 1
put_falls most0 most1 m n true t e = omega arith
put_falls most0 most1 m n false t e = omega arith

pub put_stays : (most0 most1 m n : ℕ) (b : Bool) → most1 ≡ most0 → n ≡ m + cond b 0 1 → b ≡ true → most0 - m ≤ most1 - n
put_stays most0 most1 m n true t e h = omega arith
put_stays most0 most1 m n false t e h = absurd cc
