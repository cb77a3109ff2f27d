-- What the commit of a change does, by how it ended.
use Rattle.std.proofs.Common.{Ok, Err, ◌≡◌, ◌∙◌, inl, ⊎_elim, ℕ, true, List, [], ◌∷◌, length, Some, refl, sym, ap, arith}
use Rattle.std.specs.Prelude.{◌⊎◌}
use Rattle.ice_base.specs.Disk.{Image, DiskState, Below, block}
use Rattle.ice_base.specs.Frames.{Within, CrashStep, Sure}
use Rattle.ice_layout.specs.Headers.{is_open, system_targets}
use Rattle.ice_tables.specs.Journals.{system_places, in_tables}
use Rattle.ice_tables.specs.Tables.{Tables}
use Rattle.ice_tables.specs.Lots.{IsTable, AtRest}
use Rattle.ice_tables.proofs.TableLaws.{at_rest_rests}
use Rattle.ice_tables.proofs.JournalLaws.{table_blocks_homes}
use Rattle.ice_txn.specs.declared.set.Entry.{Entry}
use Rattle.ice_txn.specs.Sets.{over}
use Rattle.ice_journal.specs.Blocks.{JournalExtent}
use Rattle.ice_journal.specs.Phases.{BeforeOrAfter, Idle, RestsIdle}
use Rattle.ice_system.specs.Says.{IsChange}
use Rattle.ice_system.specs.Changes.{HasChanges, MovesTables}
use Rattle.ice_system.specs.declared.fault.SystemFault.TheVariants.{Before, After}
use Rattle.ice_system.proofs.Crashes.{now_has}
use Rattle.ice_system.proofs.Moving.{commit_crash, idle_done, idle_before}

over_none : (m : ℕ → List ℕ) → over [] m ≡ m
unfolding over
over_none m = refl

none : (entries : List Entry) → length entries ≡ 0 → entries ≡ []
none [] is = refl
none (e ∷ entries) is = absurd (omega (arith, is))

low-table : (k : ℕ) → IsTable k → Below 19 k
low-table k here = ⊎_elim (λ low. omega (arith, low)) (λ table. table.1) here

module _ {D X : Type 0} (state : D → DiskState) (left : D → ℕ → Image → List ℕ → Type 0) (t u : Tables) (entries : List Entry)
    (slots : u.slots ≡ t.slots) (groups : u.groups ≡ t.groups) (change : HasChanges t u entries) where
  -- nothing changes: the new tables are there already
  pub moves_none : (x : X) (d : D) → length entries ≡ 0 → Sure IsTable (AtRest t) (state d) → MovesTables state left t u (Ok x) d d
  moves_none x d empty sure =
      let same : over entries (block (state d).now) ≡ block (state d).now = ap (λ es. over es (block (state d).now)) (none entries empty)
      ∙ over_none (block (state d).now) in
      record {
        crash = record {
          leaves = record { each = λ c i o l. inl l };
          after = λ i agrees. inl (at_rest_rests t (state d).now i (λ k here. agrees.same k (low-table k here) (sure.settled.settled k here)) sure.now).has;
        };
        done = record {
          settled = sure.settled;
          now = record {
            closed = sure.now.closed;
            has = now_has t u entries (state d).now (state d).now slots groups change sure.now refl
                (table_blocks_homes (state d).now sure.now.closed ∙ ap (λ m. Some (in_tables m)) (sym same));
          };
        };
        before = λ is. absurd (cc is);
        after = λ is. absurd (cc is);
      }

  module _ (old new : D) (sure : Sure IsTable (AtRest t) (state old)) (w : Within state left IsChange old new)
      (step : CrashStep state left (JournalExtent system_places 8) (BeforeOrAfter system_targets system_places entries (block (state old).now)) old new) where
    pub moves_ok : (x : X) → Sure (RestsIdle system_places) (Idle system_places (over entries (block (state old).now))) (state new)
        → MovesTables state left t u (Ok x) old new
    moves_ok x idle = record {
      crash = commit_crash state left t u entries old new slots groups change sure w step;
      done = idle_done state left t u entries old new slots groups change sure w idle;
      before = λ is. absurd (cc is);
      after = λ is. absurd (cc is);
    }

    pub moves_before : Sure (RestsIdle system_places) (Idle system_places (block (state old).now)) (state new)
        → MovesTables {X = X} state left t u (Err Before) old new
    moves_before idle = record {
      crash = commit_crash state left t u entries old new slots groups change sure w step;
      done = tt;
      before = λ is. idle_before state left t u entries old new slots groups change sure w idle;
      after = λ is. absurd (cc is);
    }

    pub moves_after : ((state new).loose 1 ≡ true) ⊎ (is_open (block (state new).now 1) ≡ true) → MovesTables {X = X} state left t u (Err After) old new
    moves_after late = record {
      crash = commit_crash state left t u entries old new slots groups change sure w step;
      done = tt;
      before = λ is. absurd (cc is);
      after = λ is. late;
    }
