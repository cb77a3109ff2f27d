-- The steps of a commit: what each leaves at its crashes, and what it ends with.
use Rattle.std.proofs.Common.{◌≡◌, ◌≤◌, ◌<◌, ℕ, true, false, List, Option, length, inl, inr, Result, Ok, Err, OnOk, refl, sym, ◌∙◌, ap, subst, arith}
use Rattle.std.proofs.lemmas.Result.{on_ok_weaker}
use Rattle.ice_base.specs.Disk.{Image, DiskState, block, Everywhere, Nowhere}
use Rattle.ice_base.specs.Frames.{Within, RestsOn, Every, Settled, Sure, Moves, MovesFrom}
use Rattle.ice_base.specs.FrameLaws.{within_refl}
use Rattle.ice_base.proofs.Frame.{step_from_now, now_after, step_more, moves_then, moves_more}
use Rattle.ice_base.proofs.Rests.{from_barrier, from_then}
use Rattle.ice_layout.specs.Headers.{is_open}
use Rattle.ice_tables.specs.Journals.{Places}
use Rattle.ice_txn.specs.declared.set.Entry.{Entry}
use Rattle.ice_txn.specs.Sets.{address, addresses, contents, holds, over, Differ}
use Rattle.ice_journal.specs.declared.area.Area.{Area}
use Rattle.ice_journal.specs.Areas.{IsAreaOf, NamesTargets}
use Rattle.ice_journal.specs.Blocks.{IsBody, IsBodyOf, IsPut, JournalExtent, AreHomes, AreApart}
use Rattle.ice_journal.specs.Phases.{HoldBlocks, HoldsSet, Idle, Full, Open, RestsIdle, RestsFull, RestsOpen, BeforeOrAfter}
use Rattle.ice_journal.proofs.PhaseLaws.{idle_rests, full_rests, open_rests, idle_outside, full_outside, open_outside, idle_inside, full_inside, open_inside, idle_stands, full_stands, open_stands, close_stands, homes_moved}
use Rattle.ice_journal.proofs.SetLaws.{all_addresses}

on_ok_both : {T X : Type 0} (P Q : Type 0) (r : Result T X) → OnOk r P → OnOk r Q → OnOk r (P × Q)
on_ok_both P Q (Ok x) p q = (p, q)
on_ok_both P Q (Err e) p q = tt

-- where all is settled, so are these blocks
pub settled_on : {T X : Type 0} (on : ℕ → Type 0) (r : Result T X) (s : DiskState) → OnOk r (Settled Everywhere s) → OnOk r (Settled on s)
settled_on on (Ok x) s all = record { told = all.told; settled = λ k here. all.settled k tt }
settled_on on (Err e) s all = tt

module _ {D : Type 0} (state : D → DiskState) (left : D → ℕ → Image → List ℕ → Type 0) {T X : Type 0} (r : Result T X) (a b : D) where
  -- A step that leaves alone what its phase rests on, and settles all.
  pub step_moves : (E S R : ℕ → Type 0) (P after : Image → Type 0) → RestsOn R P → ((k : ℕ) → R k → E k) → ((k : ℕ) → R k → ¬ S k)
      → Within state left S a b → ((state a).tells ≡ true → OnOk r (Settled Everywhere (state b)))
      → ((state a).tells ≡ true → P (state a).now → OnOk r (after (state b).now)) → Moves state left E r P P after a b
  step_moves E S R P after rests inside outside w settles next = record {
    crash = λ settled p. step_from_now state left E S R P a b rests inside outside w settled p;
    done = λ settled p. on_ok_both _ _ r (settled_on E r (state b) (settles settled.told)) (next settled.told p);
  }

  -- The first step, which needs no more settled than what its phase rests on.
  pub step_moves_from : (E S R : ℕ → Type 0) (P after : Image → Type 0) → RestsOn R P → ((k : ℕ) → R k → E k) → ((k : ℕ) → R k → ¬ S k)
      → Within state left S a b → ((state a).tells ≡ true → OnOk r (Settled Everywhere (state b)))
      → ((state a).tells ≡ true → P (state a).now → OnOk r (after (state b).now)) → MovesFrom state left R E r P P after a b
  step_moves_from E S R P after rests inside outside w settles next =
      from_barrier state left E S R P after a b b r rests inside outside w (within_refl state left Nowhere b)
      (λ settled p. on_ok_both _ _ r (settled_on E r (state b) (settles settled.told)) (next settled.told p))

  module _ (reads : List ℕ → Option (List ℕ)) (at : Places) (most : ℕ) (entries : List Entry) (few : length entries ≤ most)
      (apart : AreApart at most) (map : ℕ → List ℕ)
      (settles : (state a).tells ≡ true → OnOk r (Settled Everywhere (state b))) where
    -- Bodies and header.
    pub set_written : Within state left (IsBody at (length entries)) a b → ((state a).tells ≡ true → OnOk r (HoldsSet reads at entries (state b).now))
        → MovesFrom state left (RestsIdle at) (JournalExtent at most) r (Idle at map) (Idle at map) (Full reads at entries map) a b
    set_written w holds = step_moves_from (JournalExtent at most) (IsBody at (length entries)) (RestsIdle at) (Idle at map) (Full reads at entries map)
        (idle_rests reads at entries map) (idle_inside reads at entries most few apart) (idle_outside reads at entries most few apart) w settles
        (λ told was.
        let kept = now_after state left (IsBody at (length entries)) (RestsIdle at) (Idle at map) a b (idle_rests reads at entries map)
        (idle_outside reads at entries most few apart) w was in
        on_ok_weaker r (λ set. record { set = set; homes = kept.homes }) (holds told))

    -- The gate opened.
    pub gate_opened : (gate : ℕ) → gate ≡ at.gate → Within state left (λ k. k ≡ gate) a b
        → ((state a).tells ≡ true → OnOk r (is_open (block (state b).now gate) ≡ true))
        → Moves state left (JournalExtent at most) r (Full reads at entries map) (Full reads at entries map) (Open reads at entries map) a b
    gate_opened gate is w up = step_moves (JournalExtent at most) (λ k. k ≡ gate) (RestsFull at entries) (Full reads at entries map) (Open reads at entries map)
        (full_rests reads at entries map) (full_inside reads at entries most few apart)
        (λ k rests e. full_outside reads at entries most few apart k rests (e ∙ is)) w settles
        (λ told was.
        let kept = now_after state left (λ k. k ≡ gate) (RestsFull at entries) (Full reads at entries map) a b
        (full_rests reads at entries map) (λ k rests e. full_outside reads at entries most few apart k rests (e ∙ is)) w was in
        on_ok_weaker r
        (λ on. record { gate = subst (λ (k : ℕ). is_open (block (state b).now k) ≡ true) is on; set = kept.set; homes = λ k is free. kept.homes k is })
        (up told))

    -- The gate closed.
    pub gate_closed : (gate : ℕ) → gate ≡ at.gate → Within state left (λ k. k ≡ gate) a b
        → ((state a).tells ≡ true → OnOk r (is_open (block (state b).now gate) ≡ false))
        → Moves state left (JournalExtent at most) r (Full reads at entries map) (Full reads at entries map) (Idle at map) a b
    gate_closed gate is w shut = step_moves (JournalExtent at most) (λ k. k ≡ gate) (RestsFull at entries) (Full reads at entries map) (Idle at map)
        (full_rests reads at entries map) (full_inside reads at entries most few apart)
        (λ k rests e. full_outside reads at entries most few apart k rests (e ∙ is)) w settles
        (λ told was.
        let kept = now_after state left (λ k. k ≡ gate) (RestsFull at entries) (Full reads at entries map) a b
        (full_rests reads at entries map) (λ k rests e. full_outside reads at entries most few apart k rests (e ∙ is)) w was in
        on_ok_weaker r (λ off. record { gate = subst (λ (k : ℕ). is_open (block (state b).now k) ≡ false) is off; homes = kept.homes }) (shut told))

    -- The homes.
    pub homes_written : AreHomes at entries → Differ entries → Within state left (IsPut at entries) a b
        → ((state a).tells ≡ true → OnOk r ((j : ℕ) → j < length entries → block (state b).now (at.place (address entries j)) ≡ contents entries j))
        → Moves state left (JournalExtent at most) r (Open reads at entries map) (Open reads at entries map) (Full reads at entries (over entries map)) a b
    homes_written homes differ w put =
        step_moves (JournalExtent at most) (IsPut at entries) (RestsOpen at entries) (Open reads at entries map) (Full reads at entries (over entries map))
        (open_rests reads at entries map) (open_inside reads at entries most few apart) (open_outside reads at entries most few apart homes) w settles
        (λ told was.
        let kept = now_after state left (IsPut at entries) (RestsOpen at entries) (Open reads at entries map) a b
        (open_rests reads at entries map) (open_outside reads at entries most few apart homes) w was in
        on_ok_weaker r
        (λ there. record { set = kept.set; homes = homes_moved at most entries map (state a).now (state b).now apart homes differ was.homes w.same there })
        (put told))

-- What header and bodies of an area hold, those of its journal hold.
pub set_holds : {T X : Type 0} (r : Result T X) (area : Area) (reads : List ℕ → Option (List ℕ)) (at : Places) (most : ℕ) (entries : List Entry) (i : Image)
    → IsAreaOf area reads at most → AreHomes at entries
    → OnOk r (NamesTargets area.slot (addresses entries) (block i area.header)) → OnOk r (HoldBlocks area.body entries i) → OnOk r (HoldsSet reads at entries i)
set_holds (Err e) area reads at most entries i is homes header bodies = tt
set_holds (Ok x) area reads at most entries i is homes header bodies = record {
  header = ap (λ (k : ℕ). reads (block i k)) (sym is.header) ∙ is.names (addresses entries) (block i area.header) header (all_addresses at.home entries homes);
  bodies = subst (λ (k : ℕ). HoldBlocks k entries i) is.body bodies;
}

-- the header and the bodies of an area are those of its journal
pub body_of : (area : Area) (reads : List ℕ → Option (List ℕ)) (at : Places) (most n k : ℕ) → IsAreaOf area reads at most
    → IsBodyOf area.header area.body n k → IsBody at n k
body_of area reads at most n k is (inl header) = inl (header ∙ is.header)
body_of area reads at most n k is (inr body) = inr (omega (arith, is.body, body.0), omega (arith, is.body, body.1))

-- what every image of some blocks has, reads give
pub every_now : (on : ℕ → Type 0) (P : Image → Type 0) (s : DiskState) → length s.now ≡ s.size → Every on s P → P s.now
every_now on P s whole every = every s.now (record { count = whole; same = λ k here settled. refl })

-- a fact that rests on settled blocks, and that these are settled
pub sure_at : (E R : ℕ → Type 0) (P : Image → Type 0) (s : DiskState) → ((k : ℕ) → R k → E k) → Settled E s × P s.now → Sure R P s
sure_at E R P s inside both = record { settled = record { told = both.0.told; settled = λ k r. both.0.settled k (inside k r) }; now = both.1 }

-- The steps from the opening of the gate on, one after another: each crash leaves the map before or the map after.
module _ {D : Type 0} (state : D → DiskState) (left : D → ℕ → Image → List ℕ → Type 0) (reads : List ℕ → Option (List ℕ)) (at : Places)
    (most : ℕ) (entries : List Entry) (map : ℕ → List ℕ) where
  -- The gate opened, or a fault of that.
  pub opening : {T X : Type 0} (r : Result T X) (a b : D)
      → Moves state left (JournalExtent at most) r (Full reads at entries map) (Full reads at entries map) (Open reads at entries map) a b
      → Moves state left (JournalExtent at most) r (Full reads at entries map) (BeforeOrAfter reads at entries map) (Open reads at entries map) a b
  opening r a b m =
      moves_more state left (JournalExtent at most) (Full reads at entries map) (BeforeOrAfter reads at entries map)
      (Full reads at entries map) (Open reads at entries map) a b r (full_stands reads at entries map) m

  -- Then the homes.
  pub then_homes : {T X U Y : Type 0} (S : ℕ → Type 0) (a b c : D) (r : Result T X) (x : T) (q : Result U Y) → Within state left S a b → r ≡ Ok x
      → Moves state left (JournalExtent at most) r (Full reads at entries map) (BeforeOrAfter reads at entries map) (Open reads at entries map) a b
      → Moves state left (JournalExtent at most) q (Open reads at entries map) (Open reads at entries map) (Full reads at entries (over entries map)) b c
      → Moves state left (JournalExtent at most) q (Full reads at entries map) (BeforeOrAfter reads at entries map) (Full reads at entries (over entries map)) a c
  then_homes S a b c r x q w is v u =
      moves_then state left (JournalExtent at most) S (BeforeOrAfter reads at entries map) (Open reads at entries map)
      (Full reads at entries map) (Open reads at entries map) (Full reads at entries (over entries map)) a b c r x q w is
      (λ i on. inr (open_stands reads at entries map i on)) v u

  -- Then the gate closed.
  pub then_closed : {T X U Y : Type 0} (S : ℕ → Type 0) (a b c : D) (r : Result T X) (x : T) (q : Result U Y) → Within state left S a b → r ≡ Ok x
      → Moves state left (JournalExtent at most) r (Full reads at entries map) (BeforeOrAfter reads at entries map) (Full reads at entries (over entries map)) a b
      → Moves state left (JournalExtent at most) q (Full reads at entries (over entries map)) (Full reads at entries (over entries map)) (Idle at (over entries map)) b c
      → Moves state left (JournalExtent at most) q (Full reads at entries map) (BeforeOrAfter reads at entries map) (Idle at (over entries map)) a c
  then_closed S a b c r x q w is v u =
      moves_then state left (JournalExtent at most) S (BeforeOrAfter reads at entries map) (Full reads at entries (over entries map))
      (Full reads at entries map) (Full reads at entries (over entries map)) (Idle at (over entries map)) a b c r x q w is
      (λ i full. inr (close_stands reads at entries map i full)) v u

  -- Before these steps the bodies and the header, or a fault of them.
  pub written : {T X : Type 0} (r : Result T X) (a b : D)
      → MovesFrom state left (RestsIdle at) (JournalExtent at most) r (Idle at map) (Idle at map) (Full reads at entries map) a b
      → MovesFrom state left (RestsIdle at) (JournalExtent at most) r (Idle at map) (BeforeOrAfter reads at entries map) (Full reads at entries map) a b
  written r a b m = record {
    crash =
        λ settled p. step_more state left (JournalExtent at most) (Idle at map) (BeforeOrAfter reads at entries map) a b
        (λ i idle. inl (idle_stands reads at entries map i idle)) (m.crash settled p);
    done = m.done;
  }

  pub then_finished : {T X U Y : Type 0} (S : ℕ → Type 0) (a b c : D) (r : Result T X) (x : T) (q : Result U Y) → Within state left S a b → r ≡ Ok x
      → MovesFrom state left (RestsIdle at) (JournalExtent at most) r (Idle at map) (BeforeOrAfter reads at entries map) (Full reads at entries map) a b
      → Moves state left (JournalExtent at most) q (Full reads at entries map) (BeforeOrAfter reads at entries map) (Idle at (over entries map)) b c
      → MovesFrom state left (RestsIdle at) (JournalExtent at most) q (Idle at map) (BeforeOrAfter reads at entries map) (Idle at (over entries map)) a c
  then_finished S a b c r x q w is v u =
      from_then state left (RestsIdle at) (JournalExtent at most) S (BeforeOrAfter reads at entries map)
      (BeforeOrAfter reads at entries map) (Idle at map) (Full reads at entries map) (Idle at (over entries map)) a b c r x q w is
      (λ i both. both) v u
