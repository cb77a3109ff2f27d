-- Sizes of the form of a cube.
use Rattle.std.proofs.Common.{◌≡◌, ℕ, refl}
use Rattle.tree_spec.specs.Costs.{form_of}

-- the longest file of version 1
pub longest-one : (version : ℕ) → version ≡ 1 → (form_of version).longest_file ≡ 274432
longest-one version e = rw e refl

-- the longest file
pub ruleset size_laws = (longest-one)
