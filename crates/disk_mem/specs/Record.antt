-- What is remembered of a failed write.
use Rattle.std.specs.Prelude.{◌≡◌, ◌⊎◌, ℕ, min, List, [], ◌∷◌, ◌++◌}
use Rattle.disk_mem.specs.declared.step.Step.{Step}
use Rattle.disk_mem.specs.declared.step.Step.TheVariants.{Failed}

-- the failed write is remembered, or the moments after it are not whole
abbrev pub FailedNoted : ℕ → ℕ → List Step → List Step → ℕ → ℕ → Type 0
FailedNoted number at old new before now = ((new ≡ old ++ Failed number at ∷ []) × (now ≡ before)) ⊎ ((new ≡ old) × (now ≡ min number before))
