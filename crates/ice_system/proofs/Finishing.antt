-- What the journal of the tables leaves of them, looked at and finished.
use Rattle.std.proofs.Common.{◌≡◌, ◌∙◌, inl, inr, ⊎_elim, ℕ, true, false, List, None, refl, sym, ap, arith}
use Rattle.std.specs.Prelude.{slice_index}
use Rattle.ice_base.specs.Disk.{Image, DiskState, Below, Everywhere, Nowhere, block}
use Rattle.ice_base.specs.Frames.{Within, CrashStep, Settled, Sure}
use Rattle.ice_base.specs.FrameLaws.{within_more}
use Rattle.ice_base.proofs.Frame.{agrees_fewer, step_from_now, step_then}
use Rattle.ice_layout.specs.Headers.{is_open, is_table, system_targets, AreTargets}
use Rattle.ice_tables.specs.Journals.{system_places, replayed, table_blocks}
use Rattle.ice_tables.specs.Tables.{Tables, HasTables}
use Rattle.ice_tables.proofs.JournalLaws.{table-range, table_blocks_rest}
use Rattle.ice_tables.proofs.TableLaws.{tables_rest}
use Rattle.ice_journal.specs.Blocks.{JournalExtent, ReplayBlocks}
use Rattle.ice_journal.specs.Phases.{Idle, IsPending, RestsIdle, StandsFor}
use Rattle.ice_journal.proofs.StandLaws.{pending_rests, tables_effective, tables_idle_blocks}
use Rattle.ice_system.specs.Attaching.{Finishes, IsReplayed}
use Rattle.ice_system.proofs.Crashes.{still_has}
use Rattle.ice_system.proofs.Moving.{extent_some}

-- an open journal whose header is refused leaves no tables
pub no_blocks : (image : Image) → is_open (block image 1) ≡ true → system_targets (block image 2) ≡ None → table_blocks image ≡ None
unfolding table_blocks
no_blocks image on refused = rw (on, refused) refl

-- an open journal stands for the tables with the bodies in place of their targets
abbrev with_bodies : List ℕ → Image → ℕ → List ℕ
with_bodies ts image = replayed (λ k. k) ts 3 image

pending_stands : (ts : List ℕ) (image : Image) → IsPending system_targets system_places ts image
    → StandsFor system_targets system_places (with_bodies ts image) image
pending_stands ts image pending = let gate = pending.gate in let header = pending.header in rw (gate, header) (λ a is. refl)

-- a replay writes the gate and tables,
replay_blocks : (ts : List ℕ) → AreTargets 8 is_table ts → (k : ℕ) → ReplayBlocks system_places ts k → IsReplayed k
replay_blocks ts targets k (inl gate) = inl gate
replay_blocks ts targets k (inr home) = let r = table-range (slice_index ts home.0) (targets.homes home.0 home.1) in
    inr (omega (arith, r.0, home.2), omega (arith, r.1, home.2))

-- and not the superblock
pub no-replay-0 : ¬ IsReplayed 0
no-replay-0 (inl is) = omega (arith, is)
no-replay-0 (inr is) = omega (arith, is.0)

-- with nothing loose, nothing of the journal is
extent_settled : (s : DiskState) → Settled Everywhere s → Settled (JournalExtent system_places 8) s
extent_settled s settled = record { told = settled.told; settled = λ k here. settled.settled k tt }

module _ {D : Type 0} (state : D → DiskState) (left : D → ℕ → Image → List ℕ → Type 0) (a b : D) (w : Within state left Nowhere a b) where
  -- calls that write nothing leave nothing loose,
  pub still_settled : Settled Everywhere (state a) → Settled Everywhere (state b)
  still_settled settled = record { told = w.tells ∙ settled.told; settled = λ k here. w.settled k (λ n. n) (settled.settled k here) }

  -- each block as it was,
  pub still_block : (k : ℕ) → block (state b).now k ≡ block (state a).now k
  still_block k = w.same k (λ n. n)

  -- the effective blocks of the tables,
  pub still_blocks : table_blocks (state b).now ≡ table_blocks (state a).now
  still_blocks = table_blocks_rest (state a).now (state b).now (λ k low high. still_block k)

  -- the tables,
  pub still_tables : (t : Tables) → HasTables (state a).now t → HasTables (state b).now t
  still_tables t has = still_has t (state a).now (state b).now (still_block 0) still_blocks has

  -- what the journal says,
  pub still_pending : (ts : List ℕ) → IsPending system_targets system_places ts (state a).now → IsPending system_targets system_places ts (state b).now
  still_pending ts pending = pending_rests system_targets system_places ts (state a).now (state b).now (λ k here. still_block k) pending

  -- and each crash leaves the tables.
  pub still_crash : (t : Tables) → Settled Everywhere (state a) → HasTables (state a).now t → CrashStep state left (Below 19) (λ i. HasTables i t) a b
  still_crash t settled has = step_from_now state left (Below 19) Nowhere (Below 19) (λ i. HasTables i t) a b (tables_rest t) (λ k here. here) (λ k here n. n) w
      (record { told = settled.told; settled = λ k here. settled.settled k tt }) has

  -- A closed journal is finished.
  pub still_finishes : is_open (block (state a).now 1) ≡ false → Settled Everywhere (state a) → Finishes (state a) (state b)
  still_finishes closed settled = record { closed = ap is_open (still_block 1) ∙ closed; same = still_blocks; settled = still_settled settled }

module _ {D : Type 0} (state : D → DiskState) (left : D → ℕ → Image → List ℕ → Type 0)
    (a b c : D) (w : Within state left Nowhere a b) (ts : List ℕ) (targets : AreTargets 8 is_table ts)
    (v : Within state left (ReplayBlocks system_places ts) b c) (settled : Settled Everywhere (state a))
    (pending : IsPending system_targets system_places ts (state a).now) where
  -- the journal after it was looked at
  now_pending : IsPending system_targets system_places ts (state b).now
  now_pending = still_pending state left a b w ts pending

  now_stands : StandsFor system_targets system_places (with_bodies ts (state b).now) (state b).now
  now_stands = pending_stands ts (state b).now now_pending

  now_settled : Settled (JournalExtent system_places 8) (state b)
  now_settled = extent_settled (state b) (still_settled state left a b w settled)

  -- A replay that went well finishes it,
  pub replay_finishes : ((m : ℕ → List ℕ) → Settled (JournalExtent system_places 8) (state b) → IsPending system_targets system_places ts (state b).now
      → StandsFor system_targets system_places m (state b).now → Sure (RestsIdle system_places) (Idle system_places m) (state c))
      → Settled Everywhere (state c) → Finishes (state a) (state c)
  replay_finishes done calm =
      let idle = done (with_bodies ts (state b).now) now_settled now_pending now_stands in record {
        closed = idle.now.gate;
        same = tables_idle_blocks (with_bodies ts (state b).now) (state c).now idle.now
            ∙ sym (tables_effective (with_bodies ts (state b).now) (state b).now now_stands) ∙ still_blocks state left a b w;
        settled = calm;
      }

  -- and each crash of one leaves the tables.
  pub replay_crash : (t : Tables) → HasTables (state a).now t → ((m : ℕ → List ℕ) → Settled (JournalExtent system_places 8) (state b)
      → IsPending system_targets system_places ts (state b).now
      → StandsFor system_targets system_places m (state b).now
      → CrashStep state left (JournalExtent system_places 8) (StandsFor system_targets system_places m) b c)
      → CrashStep state left (Below 19) (λ i. HasTables i t) a c
  replay_crash t has crash = step_then state left (Below 19) (λ i. HasTables i t) a b c w.streams (still_crash state left a b w t settled has) (record {
    leaves = record {
      each = λ m i o l. ⊎_elim (λ before. inl before)
          (λ here. ⊎_elim (λ before. inl before)
          (λ agrees. inr (leaves i (agrees.0.same 0 no-replay-0 loose) here.0, here.1))
          (u.left_new m i o l))
          (step.leaves.each m i o l);
    };
    after = λ i agrees. leaves i (agrees.same 0 (omega arith) (u.settled 0 no-replay-0 loose) ∙ u.same 0 no-replay-0)
        (step.after i (agrees_fewer (Below 19) (JournalExtent system_places 8) (state c) i (λ k here. (extent_some k here).1) agrees));
  })
    where
      u : Within state left IsReplayed b c
      u = within_more state left (ReplayBlocks system_places ts) IsReplayed b c (replay_blocks ts targets) v

      loose : (state b).loose 0 ≡ false
      loose = (still_settled state left a b w settled).settled 0 tt

      step : CrashStep state left (JournalExtent system_places 8) (StandsFor system_targets system_places (with_bodies ts (state b).now)) b c
      step = crash (with_bodies ts (state b).now) now_settled now_pending now_stands

      leaves : (i : Image) → block i 0 ≡ block (state b).now 0 → StandsFor system_targets system_places (with_bodies ts (state b).now) i → HasTables i t
      leaves i first stands = still_has t (state b).now i first
          (tables_effective (with_bodies ts (state b).now) i stands ∙ sym (tables_effective (with_bodies ts (state b).now) (state b).now now_stands))
          (still_tables state left a b w t has)
