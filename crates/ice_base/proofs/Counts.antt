-- Counts that rise.
use Rattle.std.proofs.Common.{ℕ, ◌+◌, ◌≤◌, arith}
use Rattle.ice_base.specs.Disk.{RoseBy}

-- rises add up
pub rose_more : (n m a b c : ℕ) → RoseBy n a b → RoseBy m b c → RoseBy (n + m) a c
rose_more n m a b c p q = omega (arith, p, q)

-- a rise stays a rise
pub rose_later : (n a b c : ℕ) → RoseBy n a b → b ≤ c → RoseBy n a c
rose_later n a b c p q = omega (arith, p, q)

pub rose_after : (n a b c : ℕ) → a ≤ b → RoseBy n b c → RoseBy n a c
rose_after n a b c p q = omega (arith, p, q)
