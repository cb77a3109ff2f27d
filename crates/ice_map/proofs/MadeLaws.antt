-- A well-made map has none of the damages that a call may name.
use Rattle.std.proofs.Common.{ℕ, List, ⊎_elim, arith}
use Rattle.ice_base.specs.Lots.{LotView}
use Rattle.ice_map.specs.declared.codec.Inode.{Inode}
use Rattle.ice_map.specs.Maps.{uses, FreeOrTwice, HasTwice, Misleads}
use Rattle.ice_map.proofs.UsesLaws.{misled-uses}
use Rattle.ice_map.specs.Own.{MadeOf, Confuses}

-- a map that misleads is not well made
pub misled-unmade : (lot : LotView) (m : ℕ → List ℕ) (x : Inode) (c : ℕ) → Misleads lot m x c → ¬ MadeOf lot m x c
misled-unmade lot m x c l made =
    let p = misled-uses lot m x c l in
    let q = p.2 in
    let d = (made.holds p.0 p.1).0 in
    absurd cc

pub twice-unmade : (lot : LotView) (m : ℕ → List ℕ) (x : Inode) (c : ℕ) → HasTwice (uses m x c) → ¬ MadeOf lot m x c
twice-unmade lot m x c t made = let o = made.once t.0 in let l = t.1 in omega arith

-- a map that misleads or uses a block twice is not well made
pub confused-unmade : (lot : LotView) (m : ℕ → List ℕ) (x : Inode) (c : ℕ) → Confuses lot m x c → ¬ MadeOf lot m x c
confused-unmade lot m x c f made = ⊎_elim (λ p. misled-unmade lot m x c p made) (λ p. twice-unmade lot m x c p made) f

-- a map that uses a block that is free, or a block twice, is not well made
pub free-unmade : (lot : LotView) (m : ℕ → List ℕ) (x : Inode) (c : ℕ) → FreeOrTwice m (uses m x c) → ¬ MadeOf lot m x c
free-unmade lot m x c f made = ⊎_elim (λ p. let u = (made.holds f.block f.among).1 in absurd cc) (λ p. let o = made.once f.block in absurd (omega arith)) f.why
