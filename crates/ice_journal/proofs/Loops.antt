-- One block written after another.
use Rattle.std.proofs.Common.{◌≡◌, ◌⊎◌, inl, inr, ℕ, ◌+◌, ◌<◌, true, List, sym, ◌∙◌, subst, arith}
use Rattle.ice_base.specs.Counts.{Made}
use Rattle.ice_base.specs.Disk.{Image, block, DiskState}
use Rattle.ice_base.specs.Frames.{Within}
use Rattle.ice_base.specs.FrameLaws.{within_then, within_more}

-- the first k of the blocks stand at their places, and nothing else changed
pub record Wrote {D : Type 0} (state : D → DiskState) (left : D → ℕ → Image → List ℕ → Type 0) (S : ℕ → Type 0) (place : ℕ → ℕ)
    (content : ℕ → List ℕ) (k : ℕ) (old new : D) : Type 0 where
  pub frame : Within state left S old new
  pub calm : (state new).faults ≡ (state old).faults
  pub bytes : (state old).tells ≡ true → (j : ℕ) → j < k → block (state new).now (place j) ≡ content j
  pub counts : (state old).tells ≡ true → Made k 0 true (state old) (state new)

last : (j k : ℕ) → j < k + 1 → (j < k) ⊎ (j ≡ k)
last j k h = grind arith

module _ {D : Type 0} (state : D → DiskState) (left : D → ℕ → Image → List ℕ → Type 0) (S : ℕ → Type 0) (place : ℕ → ℕ)
    (content : ℕ → List ℕ) (k : ℕ) (a b c : D) where
  -- a write that may have failed changed no more than this place
  pub wrote_within : (at : ℕ) → S at → Wrote state left S place content k a b → Within state left (λ x. x ≡ at) b c → Within state left S a c
  wrote_within at inside w v = within_then state left S a b c w.frame (within_more state left (λ x. x ≡ at) S b c (λ x e. subst S (sym e) inside) v)

  -- one more, at another place than those before
  pub wrote_more : (at : ℕ) → at ≡ place k → S at → Wrote state left S place content k a b → Within state left (λ x. x ≡ at) b c
      → (state c).faults ≡ (state b).faults
      → ((state b).tells ≡ true → block (state c).now at ≡ content k) → ((state b).tells ≡ true → Made 1 0 true (state b) (state c))
      → ((j : ℕ) → j < k → ¬ (place j ≡ place k)) → Wrote state left S place content (k + 1) a c
  wrote_more at is inside w v calm here made differ = record {
    frame = wrote_within at inside w v;
    calm = calm ∙ w.calm;
    bytes = λ told j less. go told j (last j k less);
    counts = λ told. let m = made (w.frame.tells ∙ told) in let n = w.counts told in record {
      most_writes = omega (arith, m.most_writes, n.most_writes);
      most_barriers = omega (arith, m.most_barriers, n.most_barriers);
      all_writes = λ t. omega (arith, m.all_writes t, n.all_writes t);
      all_barriers = λ t. omega (arith, m.all_barriers t, n.all_barriers t);
    };
  }
    where
      go : (state a).tells ≡ true → (j : ℕ) → (j < k) ⊎ (j ≡ k) → block (state c).now (place j) ≡ content j
      go told j (inl less) = v.same (place j) (λ e. differ j less (e ∙ is)) ∙ w.bytes told j less
      go told j (inr same) = subst (λ (x : ℕ). block (state c).now (place x) ≡ content x) (sym same)
          (subst (λ (x : ℕ). block (state c).now x ≡ content k) is (here (w.frame.tells ∙ told)))
