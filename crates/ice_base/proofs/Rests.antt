-- A first step that rests on fewer blocks than it ends with: a journal at rest, with old bodies that were never settled.
use Rattle.std.proofs.Common.{Result, Ok, OnOk, ◌≡◌, ℕ, List, subst}
use Rattle.ice_base.specs.Disk.{Image, DiskState, Nowhere}
use Rattle.ice_base.specs.Frames.{Within, RestsOn, CrashStep, Settled, Moves, MovesFrom}
use Rattle.ice_base.proofs.Frame.{agrees_fewer, step_then, step_more, step_barrier}

module _ {D : Type 0} (state : D → DiskState) (left : D → ℕ → Image → List ℕ → Type 0) where
  step_wider : (R E : ℕ → Type 0) (P : Image → Type 0) (a b : D) → ((k : ℕ) → R k → E k) → CrashStep state left R P a b → CrashStep state left E P a b
  step_wider R E P a b inside step = record { leaves = step.leaves; after = λ i agrees. step.after i (agrees_fewer E R (state b) i inside agrees) }

  -- writes outside what the fact rests on, and a barrier
  pub from_barrier : {T X : Type 0} (E S R : ℕ → Type 0) (P after : Image → Type 0) (a b c : D) (r : Result T X) → RestsOn R P
      → ((k : ℕ) → R k → E k) → ((k : ℕ) → R k → ¬ S k)
      → Within state left S a b → Within state left Nowhere b c
      → (Settled R (state a) → P (state a).now → OnOk r (Settled E (state c) × after (state c).now)) → MovesFrom state left R E r P P after a c
  from_barrier {T} {X} E S R P after a b c r rests inside outside w v done = record {
    crash = λ settled p. step_wider R E P a c inside (step_barrier state left R S R P a b c rests (λ k k_in. k_in) outside w v settled p);
    done = done;
  }

  -- and then a step as before
  pub from_then : {T X U Y : Type 0} (R E S : ℕ → Type 0) (P Q before mid after : Image → Type 0) (a b c : D) (r : Result T X) (x : T) (q : Result U Y)
      → Within state left S a b
      → r ≡ Ok x → ((i : Image) → Q i → P i) → MovesFrom state left R E r before P mid a b → Moves state left E q mid Q after b c
      → MovesFrom state left R E q before P after a c
  from_then R E S P Q before mid after a b c r x q w is sub v u =
      let here : Settled R (state a) → before (state a).now
      → Settled E (state b) × mid (state b).now = λ settled p. subst (λ y. OnOk y (Settled E (state b) × mid (state b).now)) is (v.done settled p) in record {
        crash = λ settled p. let at = here settled p in
            step_then state left E P a b c w.streams (v.crash settled p) (step_more state left E Q P b c sub (u.crash at.0 at.1));
        done = λ settled p. let at = here settled p in u.done at.0 at.1;
      }
