-- What outlasts calls, and what their crashes leave.
use Rattle.std.proofs.Common.{Result, Ok, Err, OnOk, is_ok, IsErr, ◌≡◌, inl, inr, ⊎_elim, ℕ, true, List, sym, ◌∙◌, ap, subst}
use Rattle.ice_base.specs.Disk.{Image, DiskState, Streams, AgreesOn, Everywhere, Nowhere, Minus, BarrierCounts}
use Rattle.ice_base.specs.Frames.{Within, Every, LeavesOnly, With, RestsOn, CrashStep, Settled, Moves, Sure}

-- fewer blocks to agree on
pub agrees_fewer : (A B : ℕ → Type 0) (s : DiskState) (image : Image) → ((k : ℕ) → B k → A k) → AgreesOn A s image → AgreesOn B s image
agrees_fewer A B s image sub agrees = record { count = agrees.count; same = λ k b settled. agrees.same k (sub k b) settled }

module _ {D : Type 0} (state : D → DiskState) (left : D → ℕ → Image → List ℕ → Type 0) where
  -- what agrees with the new state on E agreed with the old one, outside what was changed
  pub agrees_back : (E S : ℕ → Type 0) (a b : D) (image : Image) → Within state left S a b → AgreesOn E (state b) image → AgreesOn (Minus E S) (state a) image
  agrees_back E S a b image w agrees = record {
    count = agrees.count ∙ w.size;
    same = λ k inside s. agrees.same k inside.0 (w.settled k inside.1 s) ∙ w.same k inside.1;
  }

  -- a fact that does not rest on the blocks of S outlasts calls within S
  pub every_after : (E S : ℕ → Type 0) (a b : D) (P : Image → Type 0) → Within state left S a b → Every (Minus E S) (state a) P → Every E (state b) P
  every_after E S a b P w every image agrees = every image (agrees_back E S a b image w agrees)

  -- others write elsewhere, and make barriers
  pub every_apart : (E S : ℕ → Type 0) (a b : D) (P : Image → Type 0) → ((k : ℕ) → E k → S k → ⊥) → Within state left S a b
      → Every E (state a) P → Every E (state b) P
  every_apart E S a b P apart w every image agrees = every image (record {
    count = agrees.count ∙ w.size;
    same = λ k inside s. agrees.same k inside (w.settled k (apart k inside) s) ∙ w.same k (apart k inside);
  })

  -- and every crash within these calls leaves what has it
  pub leaves_within : (E S : ℕ → Type 0) (a b : D) (P : Image → Type 0) → Within state left S a b → Every (Minus E S) (state a) P
      → LeavesOnly left a b (With (state a).streams.aside P)
  leaves_within E S a b P w every = record {
    each = λ t i o l. ⊎_elim (λ before. inl before)
        (λ here. inr (every i (record { count = here.0.count; same = λ k inside. here.0.same k inside.1 }), here.1)) (w.left_new t i o l);
  }

  -- each crash within calls that change none of these blocks leaves what has P, where each crash before them did
  pub leaves_apart : (E S : ℕ → Type 0) (a b : D) (P : Image → Type 0) → ((k : ℕ) → E k → S k → ⊥) → Within state left S a b → Every E (state a) P
      → LeavesOnly left a b (With (state a).streams.aside P)
  leaves_apart E S a b P apart w every = record {
    each = λ t i o l. ⊎_elim (λ before. inl before)
        (λ here. inr (every i (record { count = here.0.count; same = λ k inside. here.0.same k (apart k inside) }), here.1)) (w.left_new t i o l);
  }

  -- from a moment to itself no crash leaves anything new
  pub leaves_refl : (P : Image → List ℕ → Type 0) (d : D) → LeavesOnly left d d P
  leaves_refl P d = record { each = λ t i o l. inl l }

  pub leaves_then : (P : Image → List ℕ → Type 0) (a b c : D) → LeavesOnly left a b P → LeavesOnly left b c P → LeavesOnly left a c P
  leaves_then P a b c v w = record { each = λ t i o l. ⊎_elim (λ before. v.each t i o before) (λ here. inr here) (w.each t i o l) }

  pub leaves_more : (P Q : Image → List ℕ → Type 0) (a b : D) → ((i : Image) (o : List ℕ) → P i o → Q i o) → LeavesOnly left a b P → LeavesOnly left a b Q
  leaves_more P Q a b sub v = record { each = λ t i o l. ⊎_elim (λ before. inl before) (λ here. inr (sub i o here)) (v.each t i o l) }

  -- Between two moments a call went on from one state that has P, and P does not rest on what the call changes.
  pub step_from_now : (E S R : ℕ → Type 0) (P : Image → Type 0) (a b : D) → RestsOn R P → ((k : ℕ) → R k → E k) → ((k : ℕ) → R k → ¬ S k)
      → Within state left S a b → Settled E (state a) → P (state a).now → CrashStep state left E P a b
  step_from_now E S R P a b rests inside outside w settled p =
      let every : Every (Minus E S) (state a) P = λ image agrees. rests (state a).now image
      (λ k r. agrees.same k (inside k r, outside k r) (settled.settled k (inside k r))) p in
      record { leaves = leaves_within E S a b P w every; after = every_after E S a b P w every }

  -- what reads give keeps P likewise
  pub now_after : (S R : ℕ → Type 0) (P : Image → Type 0) (a b : D) → RestsOn R P → ((k : ℕ) → R k → ¬ S k) → Within state left S a b
      → P (state a).now → P (state b).now
  now_after S R P a b rests outside w p = rests (state a).now (state b).now (λ k r. w.same k (outside k r)) p

  -- two steps whose crashes leave what has P are one such step, where the streams stay in the first
  pub step_then : (E : ℕ → Type 0) (P : Image → Type 0) (a b c : D) → (state b).streams ≡ (state a).streams → CrashStep state left E P a b
      → CrashStep state left E P b c → CrashStep state left E P a c
  step_then E P a b c streams v w = record {
    leaves = leaves_then _ a b c v.leaves
        (leaves_more (With (state b).streams.aside P) (With (state a).streams.aside P) b c
        (λ i o p. (p.0, p.1 ∙ ap (λ (x : Streams). x.aside) streams)) w.leaves);
    after = w.after;
  }

  -- a barrier, or others' calls
  pub step_apart : (E S : ℕ → Type 0) (P : Image → Type 0) (a b : D) → ((k : ℕ) → E k → S k → ⊥) → Within state left S a b
      → Every E (state a) P → CrashStep state left E P a b
  step_apart E S P a b apart w every = record { leaves = leaves_apart E S a b P apart w every; after = every_apart E S a b P apart w every }

  -- a step whose crashes leave what has P is one whose crashes leave what has any weaker Q
  pub step_more : (E : ℕ → Type 0) (P Q : Image → Type 0) (a b : D) → ((i : Image) → P i → Q i) → CrashStep state left E P a b → CrashStep state left E Q a b
  step_more E P Q a b sub v = record {
    leaves = leaves_more _ _ a b (λ i o p. (sub i p.0, p.1)) v.leaves;
    after = λ i agrees. sub i (v.after i agrees);
  }

  -- one step of a commit: writes, and a barrier
  pub step_barrier : (E S R : ℕ → Type 0) (P : Image → Type 0) (a b c : D) → RestsOn R P → ((k : ℕ) → R k → E k) → ((k : ℕ) → R k → ¬ S k)
      → Within state left S a b → Within state left Nowhere b c → Settled E (state a) → P (state a).now → CrashStep state left E P a c
  step_barrier E S R P a b c rests inside outside w v settled p =
      let first = step_from_now E S R P a b rests inside outside w settled p in
      step_then E P a b c w.streams first (step_apart E Nowhere P b c (λ k e n. n) v first.after)

-- after a good barrier
pub settles : (T X : Type 0) (on : ℕ → Type 0) (r : Result T X) (old new : DiskState) → new.tells ≡ true → BarrierCounts (is_ok r) old new
    → OnOk r (Settled on new)
settles T X on (Ok x) old new told counts = record { told = told; settled = λ k inside. counts.loose k }
settles T X on (Err e) old new told counts = tt

OnOk-both : {T X : Type 0} (P Q : Type 0) (r : Result T X) → OnOk r P → OnOk r Q → OnOk r (P × Q)
OnOk-both P Q (Ok x) p q = (p, q)
OnOk-both P Q (Err e) p q = tt

OnOk-always : {T X P : Type 0} (r : Result T X) → P → OnOk r P
OnOk-always (Ok x) p = p
OnOk-always (Err e) p = tt

module _ {D : Type 0} (state : D → DiskState) (left : D → ℕ → Image → List ℕ → Type 0) where
  -- one step: writes, and a barrier
  pub moves_barrier : {T X : Type 0} (E S R R' : ℕ → Type 0) (P after : Image → Type 0) (a b c : D) (r : Result T X) → RestsOn R P
      → ((k : ℕ) → R k → E k) → ((k : ℕ) → R k → ¬ S k)
      → RestsOn R' after → Within state left S a b → Within state left Nowhere b c → ((state b).tells ≡ true → BarrierCounts (is_ok r) (state b) (state c))
      → ((state a).tells ≡ true → P (state a).now → after (state b).now) → Moves state left E r P P after a c
  moves_barrier {T} {X} E S R R' P after a b c r rests inside outside rests' w v counts next = record {
    crash = λ settled p. step_barrier state left E S R P a b c rests inside outside w v settled p;
    done = λ settled p. OnOk-both _ _ r
        (settles T X E r (state b) (state c) (v.tells ∙ w.tells ∙ settled.told) (counts (w.tells ∙ settled.told)))
        (OnOk-always r (now_after state left Nowhere R' after b c rests' (λ k is n. n) v (next settled.told p)));
  }

-- a step that ended in its writes, or in a fault of them
pub OnOk-err : {T X : Type 0} (P : Type 0) (r : Result T X) → IsErr r → OnOk r P
OnOk-err P (Ok x) is = absurd (cc is)
OnOk-err P (Err e) is = tt

module _ {D : Type 0} (state : D → DiskState) (left : D → ℕ → Image → List ℕ → Type 0) where
  pub moves_err : {T X : Type 0} (E S R : ℕ → Type 0) (P after : Image → Type 0) (a b : D) (r : Result T X) → RestsOn R P
      → ((k : ℕ) → R k → E k) → ((k : ℕ) → R k → ¬ S k)
      → Within state left S a b → IsErr r → Moves state left E r P P after a b
  moves_err E S R P after a b r rests inside outside w is = record {
    crash = λ settled p. step_from_now state left E S R P a b rests inside outside w settled p;
    done = λ settled p. OnOk-err _ r is;
  }

  -- one step after another
  pub moves_then : {T X U Y : Type 0} (E S : ℕ → Type 0) (P Q before mid after : Image → Type 0) (a b c : D) (r : Result T X) (x : T) (q : Result U Y)
      → Within state left S a b
      → r ≡ Ok x → ((i : Image) → Q i → P i) → Moves state left E r before P mid a b → Moves state left E q mid Q after b c
      → Moves state left E q before P after a c
  moves_then E S P Q before mid after a b c r x q w is sub v u =
      let here : Settled E (state a) → before (state a).now
      → Settled E (state b) × mid (state b).now = λ settled p. subst (λ y. OnOk y (Settled E (state b) × mid (state b).now)) is (v.done settled p) in record {
        crash = λ settled p. let at = here settled p in
            step_then state left E P a b c w.streams (v.crash settled p) (step_more state left E Q P b c sub (u.crash at.0 at.1));
        done = λ settled p. let at = here settled p in u.done at.0 at.1;
      }

  -- and one that failed
  pub moves_fail : {T X U Y : Type 0} (E : ℕ → Type 0) (before P after after' : Image → Type 0) (a b : D) (r : Result T X) (q : Result U Y)
      → IsErr q → Moves state left E r before P after a b → Moves state left E q before P after' a b
  moves_fail E before P after after' a b r q is v = record { crash = v.crash; done = λ settled p. OnOk-err _ q is }

  -- a step between settled states promises of its crashes any weaker fact as well
  pub moves_more : {T X : Type 0} (E : ℕ → Type 0) (P Q before after : Image → Type 0) (a b : D) (r : Result T X) → ((i : Image) → P i → Q i)
      → Moves state left E r before P after a b → Moves state left E r before Q after a b
  moves_more E P Q before after a b r sub v = record { crash = λ settled p. step_more state left E P Q a b sub (v.crash settled p); done = v.done }

module _ {D : Type 0} (state : D → DiskState) (left : D → ℕ → Image → List ℕ → Type 0) where
  -- what is sure outlasts calls that write elsewhere, and each crash in them leaves it
  pub sure_after : (S R : ℕ → Type 0) (P : Image → Type 0) (a b : D) → RestsOn R P → ((k : ℕ) → R k → ¬ S k) → Within state left S a b
      → Sure R P (state a) → Sure R P (state b)
  sure_after S R P a b rests outside w sure = record {
    settled = record { told = w.tells ∙ sure.settled.told; settled = λ k r. w.settled k (outside k r) (sure.settled.settled k r) };
    now = rests (state a).now (state b).now (λ k r. w.same k (outside k r)) sure.now;
  }

-- What a crash since the start may leave: `agrees` is the law of the disk at the start.
pub since_start : {D : Type 0} (state : D → DiskState) (left : D → ℕ → Image → List ℕ → Type 0) (old new : D) (P : Image → List ℕ → Type 0)
    → ((image : Image) (out : List ℕ) → left old (state old).clock image out → AgreesOn Everywhere (state old) image × (out ≡ (state old).streams.aside))
    → Every Everywhere (state old) (λ i. P i (state old).streams.aside) → LeavesOnly left old new P
    → (image : Image) (out : List ℕ) → left new (state old).clock image out → P image out
since_start state left old new P agrees start leaves image out l = ⊎_elim
    (λ before. let here = agrees image out before in subst (λ o. P image o) (sym here.1) (start image here.0))
    (λ here. here) (leaves.each (state old).clock image out l)
