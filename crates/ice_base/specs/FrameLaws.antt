-- A frame is reflexive, grows, and composes.
use Rattle.std.proofs.Common.{ℕ, List, refl, ◌∙◌, ap, inl, inr, ⊎_elim, arith}
use Rattle.ice_base.specs.Disk.{Image, DiskState, Streams}
use Rattle.ice_base.specs.Frames.{Within}

module _ {D : Type 0} (state : D → DiskState) (left : D → ℕ → Image → List ℕ → Type 0) where
  pub within_refl : (S : ℕ → Type 0) (d : D) → Within state left S d d
  within_refl S d = record {
    size = refl;
    tells = refl;
    streams = refl;
    faults = omega arith;
    clock = omega arith;
    barriers = omega arith;
    writes = omega arith;
    same = λ k not. refl;
    settled = λ k not s. s;
    left_new = λ t i o l. inl l;
    left_old = λ t i o l. l;
  }

  pub within_more : (S T : ℕ → Type 0) (a b : D) → ((k : ℕ) → S k → T k) → Within state left S a b → Within state left T a b
  within_more S T a b sub w = record {
    size = w.size;
    tells = w.tells;
    streams = w.streams;
    faults = w.faults;
    clock = w.clock;
    barriers = w.barriers;
    writes = w.writes;
    same = λ k not. w.same k (λ s. not (sub k s));
    settled = λ k not. w.settled k (λ s. not (sub k s));
    left_new = λ t i o l. ⊎_elim (λ before. inl before)
        (λ here. inr (record { count = here.0.count; same = λ k not. here.0.same k (λ s. not (sub k s)) }, here.1)) (w.left_new t i o l);
    left_old = w.left_old;
  }

  pub within_then : (S : ℕ → Type 0) (a b c : D) → Within state left S a b → Within state left S b c → Within state left S a c
  within_then S a b c v w = record {
    size = w.size ∙ v.size;
    tells = w.tells ∙ v.tells;
    streams = w.streams ∙ v.streams;
    faults = omega (arith, v.faults, w.faults);
    clock = omega (arith, v.clock, w.clock);
    barriers = omega (arith, v.barriers, w.barriers);
    writes = omega (arith, v.writes, w.writes);
    same = λ k not. w.same k not ∙ v.same k not;
    settled = λ k not s. w.settled k not (v.settled k not s);
    left_new = λ t i o l. ⊎_elim (λ before. v.left_new t i o before)
        (λ here. inr (
          record { count = here.0.count ∙ v.size; same = λ k not s. here.0.same k not (v.settled k not s) ∙ v.same k not },
          here.1 ∙ ap (λ (x : Streams). x.aside) v.streams,
        )) (w.left_new t i o l);
    left_old = λ t i o l. w.left_old t i o (v.left_old t i o l);
  }

  pub within_next : {S T : ℕ → Type 0} {a b c : D} → Within state left S a b → Within state left T b c → ((k : ℕ) → T k → S k) → Within state left S a c
  within_next {S} {T} {a} {b} {c} v w sub = within_then S a b c v (within_more T S b c sub w)
