-- The bytes of an entry in a cube of the form.
use Rattle.std.proofs.Common.{◌≡◌, ℕ, refl, sym, ◌∙◌}
use Rattle.ice_map.specs.Own.{entry_size}
use Rattle.tree_spec.specs.Costs.{form_of}

-- those of version 1
pub entry-one : (version : ℕ) → version ≡ 1 → entry_size (form_of version) ≡ 64
entry-one version e = rw e refl

-- and so those of a number that is 64
pub sized : (version entry : ℕ) → version ≡ 1 → entry ≡ 64 → entry_size (form_of version) ≡ entry
sized version entry e l = entry-one version e ∙ sym l

pub ruleset size_laws = (entry-one)
