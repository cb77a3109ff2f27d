-- One give after another.
use Rattle.std.proofs.Common.{◌≡◌, inl, inr, ⊎_elim, ℕ, ◌+◌, List, ◌++◌, take, drop, refl, sym, ◌∙◌, ap, arith, append_assoc}
use Rattle.std.proofs.Math.Seq.{take-add}
use Rattle.ice_base.specs.Disk.{Image, DiskState, Streams, block, AgreesOn, Everywhere}
use Rattle.ice_base.specs.Host.{SameDisk, Leaves, GaveOnly, FirstOf}

take_more_of : (xs : List ℕ) (n m : ℕ) → take n xs ++ take m (drop n xs) ≡ take (n + m) xs
take_more_of xs n m = sym (take-add n m xs)

-- a disk that is as it was twice over is as it was
pub same_then : (a b c : DiskState) → SameDisk a b → SameDisk b c → SameDisk a c
same_then a b c v w = record {
  size = w.size ∙ v.size;
  tells = w.tells ∙ v.tells;
  faults = w.faults ∙ v.faults;
  clock = omega (arith, v.clock, w.clock);
  barriers = w.barriers ∙ v.barriers;
  writes = w.writes ∙ v.writes;
  now = w.now ∙ v.now;
  loose = λ k. w.loose k ∙ v.loose k;
}

-- a disk is as it is
pub same_refl : (s : DiskState) → SameDisk s s
same_refl s = record { size = refl; tells = refl; faults = refl; clock = omega arith; barriers = refl; writes = refl; now = refl; loose = λ k. refl }

-- two gives, one after the other, only gave
pub gave_then : (a b c : Streams) → GaveOnly a b → GaveOnly b c → GaveOnly a c
gave_then a b c v w = record { intake = w.intake ∙ v.intake; source_faults = w.source_faults ∙ v.source_faults; faults = omega (arith, v.faults, w.faults) }

pub agrees_same : (s m : DiskState) (image : Image) → SameDisk s m → AgreesOn Everywhere m image → AgreesOn Everywhere s image
agrees_same s m image same agrees = record {
  count = agrees.count ∙ same.size;
  same = λ k inside settled. agrees.same k inside (same.loose k ∙ settled) ∙ ap (λ (x : Image). block x k) same.now;
}

module _ {D : Type 0} (state : D → DiskState) (left : D → ℕ → Image → List ℕ → Type 0) where
  pub leaves_none : (outs : List ℕ → Type 0) (s : D) → Leaves state left outs s s
  leaves_none outs s = record { left_new = λ t i o l. inl l; left_old = λ t i o l. l }

  pub leaves_outs : (P Q : List ℕ → Type 0) (s m : D) → ((o : List ℕ) → P o → Q o) → Leaves state left P s m → Leaves state left Q s m
  leaves_outs P Q s m sub v = record { left_new = λ t i o l. ⊎_elim (λ b. inl b) (λ h. inr (h.0, sub o h.1)) (v.left_new t i o l); left_old = v.left_old }

  pub leaves_next : (P : List ℕ → Type 0) (s m n : D) → SameDisk (state s) (state m) → Leaves state left P s m → Leaves state left P m n
      → Leaves state left P s n
  leaves_next P s m n same v w = record {
    left_new = λ t i o l. ⊎_elim (λ b. v.left_new t i o b) (λ h. inr (agrees_same (state s) (state m) i same h.0, h.1)) (w.left_new t i o l);
    left_old = λ t i o l. w.left_old t i o (v.left_old t i o l);
  }

  pub leaves_give : (aside bytes : List ℕ) (at n : ℕ) (s m e : D) → SameDisk (state s) (state m) → (state m).streams.aside ≡ aside ++ take at bytes
      → Leaves state left (FirstOf aside bytes at) s m → Leaves state left (FirstOf (state m).streams.aside (drop at bytes) n) m e
      → Leaves state left (FirstOf aside bytes (at + n)) s e
  leaves_give aside bytes at n s m e same is v w = leaves_next (FirstOf aside bytes (at + n)) s m e same
      (leaves_outs (FirstOf aside bytes at) (FirstOf aside bytes (at + n)) s m (λ o f. (f.0, omega (arith, f.1), f.2)) v)
      (leaves_outs (FirstOf (state m).streams.aside (drop at bytes) n) (FirstOf aside bytes (at + n)) m e
      (λ o f. (at + f.0, omega (arith, f.1), f.2 ∙ ap (λ (x : List ℕ). x ++ take f.0 (drop at bytes)) is ∙ append_assoc aside (take at bytes) (take f.0 (drop at bytes)) ∙ ap (λ (x : List ℕ). aside ++ x) (take_more_of bytes at f.0))) w)

pub aside_give : (aside now new bytes : List ℕ) (at n : ℕ) → now ≡ aside ++ take at bytes → new ≡ now ++ take n (drop at bytes)
    → new ≡ aside ++ take (at + n) bytes
aside_give aside now new bytes at n is more =
    more ∙ ap (λ (x : List ℕ). x ++ take n (drop at bytes)) is ∙ append_assoc aside (take at bytes) (take n (drop at bytes))
    ∙ ap (λ (x : List ℕ). aside ++ x) (take_more_of bytes at n)
