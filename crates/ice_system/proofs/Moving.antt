-- From a commit to the journal of the tables to what it does to the tables.
use Rattle.std.proofs.Common.{◌≡◌, ◌∙◌, ◌≤◌, ◌<◌, inl, inr, ⊎_elim, ℕ, zero, suc, true, false, List, length, refl, sym, arith}
use Rattle.ice_base.specs.Disk.{Image, DiskState, Below, block}
use Rattle.ice_base.specs.Frames.{Within, CrashStep, Sure}
use Rattle.ice_base.proofs.Frame.{agrees_fewer}
use Rattle.ice_layout.specs.Headers.{is_table, system_targets}
use Rattle.ice_tables.specs.Journals.{system_places}
use Rattle.ice_tables.specs.Tables.{Tables}
use Rattle.ice_tables.specs.Lots.{IsTable, AtRest}
use Rattle.ice_tables.proofs.JournalLaws.{table-range, table_blocks_homes}
use Rattle.ice_txn.specs.declared.set.Entry.{Entry}
use Rattle.ice_txn.specs.Sets.{holds, over}
use Rattle.ice_journal.specs.Blocks.{CommitBlocks, JournalExtent}
use Rattle.ice_journal.specs.Phases.{BeforeOrAfter, Idle, RestsIdle}
use Rattle.ice_system.specs.Says.{IsChange, EitherTables}
use Rattle.ice_system.specs.Changes.{HasChanges}
use Rattle.ice_journal.proofs.StandLaws.{tables_effective, tables_idle_blocks}
use Rattle.ice_system.proofs.Crashes.{still_has, now_has, table-here}

-- ---- the blocks

-- the journal of the tables lies in the blocks 1 to 18
pub extent_some : (k : ℕ) → JournalExtent system_places 8 k → IsChange k
extent_some k here = ⊎_elim
    (λ gate. (omega (arith, gate), omega (arith, gate)))
    (λ rest. ⊎_elim
    (λ body. ⊎_elim (λ header. (omega (arith, header), omega (arith, header))) (λ from. (omega (arith, from.0), omega (arith, from.1))) body)
    (λ home. let r = table-range home.0 home.1 in (omega (arith, r.0, home.2), omega (arith, r.1, home.2)))
    rest)
    here

-- what a commit of table blocks writes lies in the journal of the tables and in the tables
pub commit_change : (entries : List Entry) → length entries ≤ 8 → ((a : ℕ) → holds entries a ≡ true → is_table a ≡ true) → (k : ℕ)
    → CommitBlocks system_places entries k → IsChange k
commit_change entries few homes k here = ⊎_elim
    (λ gate. (omega (arith, gate), omega (arith, gate)))
    (λ rest. ⊎_elim
    (λ body. ⊎_elim (λ header. (omega (arith, header), omega (arith, header))) (λ from. (omega (arith, from.0), omega (arith, from.1, few))) body)
    (λ put. let r = table-range put.0 (homes put.0 put.1) in (omega (arith, r.0, put.2), omega (arith, r.1, put.2)))
    rest)
    here

extent_low : (k : ℕ) → JournalExtent system_places 8 k → Below 19 k
extent_low k here = (extent_some k here).1

-- what a journal at rest rests on are the gate and the tables
rests-table : (k : ℕ) → RestsIdle system_places k → IsTable k
rests-table k here = ⊎_elim
    (λ gate. inl (omega (arith, gate)))
    (λ home. let r = table-range home.0 home.1 in inr (omega (arith, r.0, home.2), omega (arith, r.1, home.2)))
    here

table-rests : (k : ℕ) → 11 ≤ k → k < 19 → RestsIdle system_places k
table-rests k low high = inr (k, table-here k low high, refl)

-- ---- between two moments

-- tables at rest are a journal at rest
pub rest_idle : (t : Tables) (s : DiskState) → Sure IsTable (AtRest t) s → Sure (RestsIdle system_places) (Idle system_places (block s.now)) s
rest_idle t s sure = record {
  settled = record { told = sure.settled.told; settled = λ k here. sure.settled.settled k (rests-table k here) };
  now = record { gate = sure.now.closed; homes = λ a is. refl };
}

no-change-0 : ¬ IsChange 0
no-change-0 is = omega (arith, is.0)

module _ {D : Type 0} (state : D → DiskState) (left : D → ℕ → Image → List ℕ → Type 0) (t u : Tables) (entries : List Entry) (old new : D)
    (slots : u.slots ≡ t.slots) (groups : u.groups ≡ t.groups) (change : HasChanges t u entries)
    (sure : Sure IsTable (AtRest t) (state old)) (w : Within state left IsChange old new) where
  abbrev map : ℕ → List ℕ
  map = block (state old).now

  -- the superblock stays
  first-now : block (state new).now 0 ≡ block (state old).now 0
  first-now = w.same 0 no-change-0

  either : (i : Image) → block i 0 ≡ block (state old).now 0 → BeforeOrAfter system_targets system_places entries map i → EitherTables t u i
  either i first here = ⊎_elim
      (λ before. inl
      (still_has t (state old).now i first (tables_effective map i before ∙ sym (table_blocks_homes (state old).now sure.now.closed)) sure.now.has))
      (λ after. inr (now_has t u entries (state old).now i slots groups change sure.now first (tables_effective (over entries map) i after)))
      here

  -- each crash leaves the old tables or the new ones
  pub commit_crash : CrashStep state left (JournalExtent system_places 8) (BeforeOrAfter system_targets system_places entries map) old new
      → CrashStep state left (Below 19) (EitherTables t u) old new
  commit_crash step = record {
    leaves = record {
      each = λ c i o l. ⊎_elim (λ before. inl before)
          (λ here. ⊎_elim (λ before. inl before)
          (λ agrees. inr (either i (agrees.0.same 0 no-change-0 (sure.settled.settled 0 (inl (omega arith)))) here.0, here.1))
          (w.left_new c i o l))
          (step.leaves.each c i o l);
    };
    after = λ i agrees. either i
        (agrees.same 0 (omega arith) (w.settled 0 no-change-0 (sure.settled.settled 0 (inl (omega arith)))) ∙ first-now)
        (step.after i (agrees_fewer (Below 19) (JournalExtent system_places 8) (state new) i extent_low agrees));
  }

  settled-table : {P : Image → Type 0} → Sure (RestsIdle system_places) P (state new) → (k : ℕ) → IsTable k → (state new).loose k ≡ false
  settled-table idle k here = ⊎_elim (λ low. by k low) (λ table. idle.settled.settled k (table-rests k table.0 table.1)) here
    where
      by : (k : ℕ) → k < 2 → (state new).loose k ≡ false
      by zero low = w.settled 0 no-change-0 (sure.settled.settled 0 (inl (omega arith)))
      by (suc zero) low = idle.settled.settled 1 (inl refl)
      by (suc (suc k)) low = absurd (omega (arith, low))

  -- a journal at rest with the new blocks is the new tables at rest
  pub idle_done : Sure (RestsIdle system_places) (Idle system_places (over entries map)) (state new) → Sure IsTable (AtRest u) (state new)
  idle_done idle = record {
    settled = record { told = idle.settled.told; settled = settled-table idle };
    now = record {
      closed = idle.now.gate;
      has =
          now_has t u entries (state old).now (state new).now slots groups change sure.now first-now
          (tables_idle_blocks (over entries map) (state new).now idle.now);
    };
  }

  -- and one with the old blocks the old ones
  pub idle_before : Sure (RestsIdle system_places) (Idle system_places map) (state new) → Sure IsTable (AtRest t) (state new)
  idle_before idle = record {
    settled = record { told = idle.settled.told; settled = settled-table idle };
    now = record {
      closed = idle.now.gate;
      has =
          still_has t (state old).now (state new).now first-now
          (tables_idle_blocks map (state new).now idle.now ∙ sym (table_blocks_homes (state old).now sure.now.closed)) sure.now.has;
    };
  }
