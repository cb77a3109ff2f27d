-- What an open journal stands for, as a set of entries, and what its replay leaves.
use Rattle.std.proofs.Common.{◌≡◌, ◌≤◌, ◌<◌, ◌+◌, ℕ, zero, suc, true, false, List, [], ◌∷◌, length, slice_index, Option, Some, None, IsSomeAnd, Result, Ok, OnOk, refl, sym, ◌∙◌, ap, subst, arith}
use Rattle.std.proofs.lemmas.Result.{on_ok_weaker}
use Rattle.ice_base.specs.Disk.{Image, DiskState, block, Everywhere}
use Rattle.ice_base.specs.Frames.{Within, CrashStep, Settled, Sure, Moves}
use Rattle.ice_base.specs.FrameLaws.{within_more}
use Rattle.ice_base.proofs.Frame.{step_more, moves_more, moves_then}
use Rattle.ice_layout.specs.Headers.{is_open, AreTargets}
use Rattle.ice_tables.specs.Journals.{Places, replayed, effective}
use Rattle.ice_txn.specs.declared.set.Entry.{Entry}
use Rattle.ice_txn.specs.Sets.{address, addresses, contents, over, Differ}
use Rattle.ice_txn.proofs.SetLaws.{held_entry, held_here}
use Rattle.ice_journal.specs.Blocks.{IsPut, IsTargetPlace, JournalExtent, AreHomes, AreApart}
use Rattle.ice_journal.specs.Phases.{HoldBlocks, Idle, Full, Open, RestsIdle, StandsFor, IsPending}
use Rattle.ice_journal.proofs.PhaseLaws.{replayed_is, open_stands, close_stands, idle_inside}
use Rattle.ice_journal.proofs.StepLaws.{homes_written, gate_closed, sure_at}

-- the entries that targets and the bodies from one on stand for
pub entries_of : List ℕ → (body : ℕ) → Image → List Entry
entries_of [] body image = []
entries_of (t ∷ ts) body image = record { at = t; block = block image body } ∷ entries_of ts (body + 1) image

count_of : (ts : List ℕ) (body : ℕ) (i : Image) → length (entries_of ts body i) ≡ length ts
unfolding entries_of
count_of [] body i = refl
count_of (t ∷ ts) body i = ap suc (count_of ts (body + 1) i)

addresses_of : (ts : List ℕ) (body : ℕ) (i : Image) → addresses (entries_of ts body i) ≡ ts
unfolding entries_of
addresses_of [] body i = refl
addresses_of (t ∷ ts) body i = ap (λ (l : List ℕ). t ∷ l) (addresses_of ts (body + 1) i)

address_of : (ts : List ℕ) (body : ℕ) (i : Image) (j : ℕ) → address (entries_of ts body i) j ≡ slice_index ts j
unfolding address entries_of
address_of [] body i j = refl
address_of (t ∷ ts) body i zero = refl
address_of (t ∷ ts) body i (suc j) = address_of ts (body + 1) i j

contents_of : (ts : List ℕ) (body : ℕ) (i : Image) (j : ℕ) → j < length ts → contents (entries_of ts body i) j ≡ block i (body + j)
unfolding contents entries_of
contents_of [] body i j less = absurd (omega (arith, less))
contents_of (t ∷ ts) body i zero less = ap (block i) (omega arith)
contents_of (t ∷ ts) body i (suc j) less = contents_of ts (body + 1) i j (omega (arith, less)) ∙ ap (block i) (omega arith)

bodies_of : (ts : List ℕ) (body : ℕ) (i : Image) → HoldBlocks body (entries_of ts body i) i
bodies_of ts body i = λ j less. sym (contents_of ts body i j (omega (arith, less, count_of ts body i)))

module _ (at : Places) (most : ℕ) (ts : List ℕ) (targets : AreTargets most at.home ts) (i : Image) where
  differ_of : Differ (entries_of ts at.body i)
  differ_of =
      λ x y h less e. targets.differ x y h (omega (arith, less, count_of ts at.body i)) (sym (address_of ts at.body i x) ∙ e ∙ address_of ts at.body i y)

  homes_of : AreHomes at (entries_of ts at.body i)
  homes_of = λ a held.
      let found = held_entry (entries_of ts at.body i) a held in
      subst (λ (x : ℕ). at.home x ≡ true) (sym (address_of ts at.body i found.0) ∙ found.2)
      (targets.homes found.0 (omega (arith, found.1, count_of ts at.body i)))

  few_of : length (entries_of ts at.body i) ≤ most
  few_of = omega (arith, count_of ts at.body i, targets.few)

  put_of : (k : ℕ) → IsTargetPlace at ts k → IsPut at (entries_of ts at.body i) k
  put_of k is =
      (slice_index ts is.0, held_here (entries_of ts at.body i) is.0 (slice_index ts is.0) (omega (arith, is.1, count_of ts at.body i)) (address_of ts at.body i is.0), is.2)

-- a map that is the same at the addresses
pub stands_map : (reads : List ℕ → Option (List ℕ)) (at : Places) (m n : ℕ → List ℕ) (i : Image) → ((a : ℕ) → at.home a ≡ true → m a ≡ n a)
    → StandsFor reads at n i → StandsFor reads at m i
stands_map reads at m n i same is = go (effective reads at i) is
  where
    go : (o : Option (ℕ → List ℕ)) → IsSomeAnd o (λ f. (a : ℕ) → at.home a ≡ true → f a ≡ n a) → IsSomeAnd o (λ f. (a : ℕ) → at.home a ≡ true → f a ≡ m a)
    go (Some f) h = λ a x. h a x ∙ sym (same a x)
    go None h = h

-- the homes of an image
abbrev plain : Places → Image → ℕ → List ℕ
plain at i a = block i (at.place a)

module _ (reads : List ℕ → Option (List ℕ)) (at : Places) (ts : List ℕ) (i : Image) (pending : IsPending reads at ts i) where
  -- A pending journal is open with the entries that its header and its bodies name,
  pub pending_open : Open reads at (entries_of ts at.body i) (plain at i) i
  pending_open = record {
    gate = pending.gate;
    set = record { header = pending.header ∙ ap (λ (l : List ℕ). Some l) (sym (addresses_of ts at.body i)); bodies = bodies_of ts at.body i };
    homes = λ a is free. refl;
  }

  -- and stands for the homes with these entries in place.
  pub pending_map : (m : ℕ → List ℕ) → StandsFor reads at m i → (a : ℕ) → at.home a ≡ true → m a ≡ over (entries_of ts at.body i) (plain at i) a
  pending_map m stands a is =
      let gate = pending.gate in let header = pending.header in
      let each : (a : ℕ) → at.home a ≡ true → replayed at.place ts at.body i a ≡ m a = rw (gate, header) at stands in
      sym (each a is) ∙ ap (λ (l : List ℕ). replayed at.place l at.body i a) (sym (addresses_of ts at.body i))
      ∙ replayed_is at.place (entries_of ts at.body i) at.body i (plain at i) a (bodies_of ts at.body i) (λ free. refl)

module _ {D : Type 0} (state : D → DiskState) (left : D → ℕ → Image → List ℕ → Type 0) (reads : List ℕ → Option (List ℕ)) (at : Places)
    (most : ℕ) (ts : List ℕ) (targets : AreTargets most at.home ts) (apart : AreApart at most) (a : D) where
  abbrev old : Image
  old = (state a).now

  abbrev entries : List Entry
  entries = entries_of ts at.body (state a).now

  -- The homes from the bodies, or a fault of that.
  pub targets_written : {T X : Type 0} (b : D) (r : Result T X) → Within state left (IsTargetPlace at ts) a b
      → ((state a).tells ≡ true → OnOk r (Settled Everywhere (state b)))
      → ((state a).tells ≡ true → OnOk r ((j : ℕ) → j < length ts → block (state b).now (at.place (slice_index ts j)) ≡ block (state a).now (at.body + j)))
      → Moves state left (JournalExtent at most) r (Open reads at (entries_of ts at.body (state a).now) (plain at (state a).now)) (StandsFor reads at (over (entries_of ts at.body (state a).now) (plain at (state a).now)))
      (Full reads at (entries_of ts at.body (state a).now) (over (entries_of ts at.body (state a).now) (plain at (state a).now))) a b
  targets_written b r w settles homes =
      let es = entries_of ts at.body (state a).now in let map = plain at (state a).now in
      let few = few_of at most ts targets (state a).now in
      let v = within_more state left (IsTargetPlace at ts) (IsPut at es) a b (put_of at most ts targets (state a).now) w in
      moves_more state left (JournalExtent at most) (Open reads at es map) (StandsFor reads at (over es map)) (Open reads at es map)
      (Full reads at es (over es map)) a b r (open_stands reads at es map)
      (homes_written state left r a b reads at most es few apart map settles (homes_of at most ts targets (state a).now)
      (differ_of at most ts targets (state a).now) v
      (λ told. on_ok_weaker r (λ there j less.
      let less' : j < length ts = omega (arith, less, count_of ts at.body (state a).now) in
      ap (λ (x : ℕ). block (state b).now (at.place x)) (address_of ts at.body (state a).now j) ∙ there j less'
      ∙ sym (contents_of ts at.body (state a).now j less')) (homes told)))

  -- Then the gate closed.
  pub replay_closed : {T X U Y : Type 0} (S : ℕ → Type 0) (b c : D) (r : Result T X) (x : T) (q : Result U Y) (gate : ℕ) → gate ≡ at.gate
      → Within state left S a b → r ≡ Ok x
      → Moves state left (JournalExtent at most) r (Open reads at (entries_of ts at.body (state a).now) (plain at (state a).now)) (StandsFor reads at (over (entries_of ts at.body (state a).now) (plain at (state a).now)))
      (Full reads at (entries_of ts at.body (state a).now) (over (entries_of ts at.body (state a).now) (plain at (state a).now))) a b
      → Within state left (λ k. k ≡ gate) b c → ((state b).tells ≡ true → OnOk q (Settled Everywhere (state c)))
      → ((state b).tells ≡ true → OnOk q (is_open (block (state c).now gate) ≡ false))
      → Moves state left (JournalExtent at most) q (Open reads at (entries_of ts at.body (state a).now) (plain at (state a).now)) (StandsFor reads at (over (entries_of ts at.body (state a).now) (plain at (state a).now)))
      (Idle at (over (entries_of ts at.body (state a).now) (plain at (state a).now))) a c
  replay_closed S b c r x q gate is w ok m v settles shut =
      let es = entries_of ts at.body (state a).now in let map = plain at (state a).now in
      moves_then state left (JournalExtent at most) S (StandsFor reads at (over es map)) (Full reads at es (over es map))
      (Open reads at es map) (Full reads at es (over es map)) (Idle at (over es map)) a b c r x q w ok
      (close_stands reads at es map) m
      (gate_closed state left q b c reads at most es (few_of at most ts targets (state a).now) apart (over es map) settles gate is v shut)

  module _ {T X : Type 0} (r : Result T X) (c : D) (map : ℕ → List ℕ) (settled : Settled (JournalExtent at most) (state a))
      (pending : IsPending reads at ts (state a).now)
      (stands : StandsFor reads at map (state a).now) where
    -- What a pending journal stands for is what it stands for at each crash of these steps,
    pub replay_crash : (after : Image → Type 0)
        → Moves state left (JournalExtent at most) r (Open reads at (entries_of ts at.body (state a).now) (plain at (state a).now)) (StandsFor reads at (over (entries_of ts at.body (state a).now) (plain at (state a).now))) after a c
        → CrashStep state left (JournalExtent at most) (StandsFor reads at map) a c
    replay_crash after m =
        let es = entries_of ts at.body (state a).now in let homes = plain at (state a).now in
        step_more state left (JournalExtent at most) (StandsFor reads at (over es homes)) (StandsFor reads at map) a c
        (λ i is. stands_map reads at map (over es homes) i (pending_map reads at ts (state a).now pending map stands) is)
        (m.crash settled (pending_open reads at ts (state a).now pending))

    -- and they leave it at rest with that map.
    pub replay_done : Moves state left (JournalExtent at most) r (Open reads at (entries_of ts at.body (state a).now) (plain at (state a).now)) (StandsFor reads at (over (entries_of ts at.body (state a).now) (plain at (state a).now)))
        (Idle at (over (entries_of ts at.body (state a).now) (plain at (state a).now))) a c → OnOk r (Sure (RestsIdle at) (Idle at map) (state c))
    replay_done m =
        let es = entries_of ts at.body (state a).now in let homes = plain at (state a).now in
        on_ok_weaker r
        (λ there. sure_at (JournalExtent at most) (RestsIdle at) (Idle at map) (state c)
        (idle_inside reads at es most (few_of at most ts targets (state a).now) apart)
        (there.0, record { gate = there.1.gate; homes = λ x is. there.1.homes x is ∙ sym (pending_map reads at ts (state a).now pending map stands x is) }))
        (m.done settled (pending_open reads at ts (state a).now pending))
