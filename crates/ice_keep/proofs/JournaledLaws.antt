-- What a keep that holds all changes back shows of a lot at rest, and what its commit leaves of it.
use Rattle.std.proofs.Common.{◌≡◌, inl, inr, ℕ, List, [], ◌∷◌, length, false, cond, ◌==◌, Result, Ok, Err, OnOk, OnErr, refl, sym, ◌∙◌, ap, subst, arith}
use Rattle.std.proofs.Math.Path.{fun_ext}
use Rattle.ice_base.specs.Disk.{Image, DiskState}
use Rattle.ice_base.specs.Frames.{CrashStep, RestsOn, Sure, With}
use Rattle.ice_base.specs.Lots.{LotView, homes, inside}
use Rattle.ice_base.proofs.Frame.{leaves_refl, step_more}
use Rattle.ice_base.proofs.LotLaws.{inside_at, inside_same}
use Rattle.ice_layout.specs.Headers.{slot_targets}
use Rattle.ice_tables.specs.Journals.{lot_places}
use Rattle.ice_txn.specs.declared.set.Entry.{Entry}
use Rattle.ice_txn.specs.Sets.{SetView, holds, over}
use Rattle.ice_txn.proofs.SetLaws.{over_free}
use Rattle.ice_journal.specs.Blocks.{AreHomes, JournalExtent}
use Rattle.ice_journal.specs.Phases.{BeforeOrAfter, Idle, RestsIdle}
use Rattle.ice_journal.specs.Rests.{BlocksEither, LotAtRest, RestsLot}
use Rattle.ice_journal.proofs.RestLaws.{effective_inside, either_blocks, idle_rest, over_inside, rest_homes, rest_idle, rest_rests}

-- ---- what a keep holds

no_entry : (a : ℕ) → holds [] a ≡ false
unfolding holds
no_entry a = refl

over_same : (entries : List Entry) (m n : ℕ → List ℕ) (a : ℕ) → m a ≡ n a → over entries m a ≡ over entries n a
unfolding over
over_same [] m n a e = e
over_same (x ∷ entries) m n a e = ap (λ (y : List ℕ). cond (x.at == a) x.block y) (over_same entries m n a e)

-- A keep that holds nothing holds addresses of the lot alone.
pub none_homes : (lot : LotView) (entries : List Entry) → entries ≡ [] → AreHomes (lot_places lot) entries
none_homes lot entries none a held = absurd (let f : holds entries a ≡ false = subst (λ (x : List Entry). holds x a ≡ false) (sym none) (no_entry a) in cc)

-- After a commit it holds addresses of the lot alone, as before.
pub commit_homes : {T X : Type 0} (lot : LotView) (r : Result T X) (v w : SetView) → OnOk r (w.entries ≡ []) → OnErr r (w ≡ v)
    → AreHomes (lot_places lot) v.entries → AreHomes (lot_places lot) w.entries
commit_homes lot (Ok x) v w emptied kept homes = none_homes lot w.entries emptied
commit_homes lot (Err e) v w emptied kept homes = subst (λ (x : SetView). AreHomes (lot_places lot) x.entries) (sym kept) homes

-- Over a lot at rest it shows the blocks with what it holds in place.
pub rest_map : (lot : LotView) (entries : List Entry) (map : ℕ → List ℕ) (i : Image) → AreHomes (lot_places lot) entries → LotAtRest lot map i
    → inside lot (over entries (homes lot i)) ≡ over entries map
rest_map lot entries map i kept rest =
    fun_ext (λ a. inside_same lot (over entries map) (over entries (homes lot i)) a
    (λ is. over_same entries (homes lot i) map a (sym (inside_at lot (homes lot i) a is) ∙ ap (λ (m : ℕ → List ℕ). m a) (rest_homes lot map i rest))))
    ∙ over_inside lot entries map kept (effective_inside lot map i rest.blocks)

-- ---- what a commit leaves

-- a lot at rest has its journal at rest, and the other way round
pub sure_idle : (lot : LotView) (map : ℕ → List ℕ) (s : DiskState) → Sure (RestsLot lot) (LotAtRest lot map) s
    → Sure (RestsIdle (lot_places lot)) (Idle (lot_places lot) map) s
sure_idle lot map s sure = record { settled = sure.settled; now = rest_idle lot map s.now sure.now }

sure_rest : (lot : LotView) (map : ℕ → List ℕ) (s : DiskState) → inside lot map ≡ map
    → Sure (RestsIdle (lot_places lot)) (Idle (lot_places lot) map) s → Sure (RestsLot lot) (LotAtRest lot map) s
sure_rest lot map s is sure = record { settled = sure.settled; now = idle_rest lot map s.now is sure.now }

sure_inside : (lot : LotView) (map : ℕ → List ℕ) (s : DiskState) → Sure (RestsLot lot) (LotAtRest lot map) s → inside lot map ≡ map
sure_inside lot map s sure = effective_inside lot map s.now sure.now.blocks

-- a set and what is said of it
module _ {D : Type 0} (state : D → DiskState) (left : D → ℕ → Image → List ℕ → Type 0) (lot : LotView) (set v : SetView) (is : set ≡ v)
    (kept : AreHomes (lot_places lot) v.entries) (map : ℕ → List ℕ) (a b : D) where
  homes-in : AreHomes (lot_places lot) set.entries
  homes-in = subst (λ (x : SetView). AreHomes (lot_places lot) x.entries) (sym is) kept

  pub held_crash : Sure (RestsLot lot) (LotAtRest lot map) (state a)
      → CrashStep state left (JournalExtent (lot_places lot) 240) (BeforeOrAfter (slot_targets lot) (lot_places lot) set.entries map) a b
      → CrashStep state left (JournalExtent (lot_places lot) 240) (BlocksEither lot v.entries map) a b
  held_crash sure step = subst (λ (x : SetView). CrashStep state left (JournalExtent (lot_places lot) 240) (BlocksEither lot x.entries map) a b) is
      (step_more state left (JournalExtent (lot_places lot) 240) (BeforeOrAfter (slot_targets lot) (lot_places lot) set.entries map)
      (BlocksEither lot set.entries map) a b
      (λ i both. either_blocks lot set.entries map i homes-in (sure_inside lot map (state a) sure) both) step)

  pub held_either : Sure (RestsLot lot) (LotAtRest lot map) (state a)
      → BeforeOrAfter (slot_targets lot) (lot_places lot) set.entries map (state b).now → BlocksEither lot v.entries map (state b).now
  held_either sure both =
      subst (λ (x : SetView). BlocksEither lot x.entries map (state b).now) is
      (either_blocks lot set.entries map (state b).now homes-in (sure_inside lot map (state a) sure) both)

  pub held_done : Sure (RestsLot lot) (LotAtRest lot map) (state a) → Sure (RestsIdle (lot_places lot)) (Idle (lot_places lot) (over set.entries map)) (state b)
      → Sure (RestsLot lot) (LotAtRest lot (over v.entries map)) (state b)
  held_done sure idle = subst (λ (x : SetView). Sure (RestsLot lot) (LotAtRest lot (over x.entries map)) (state b)) is
      (sure_rest lot (over set.entries map) (state b) (over_inside lot set.entries map homes-in (sure_inside lot map (state a) sure)) idle)

  pub held_before : Sure (RestsLot lot) (LotAtRest lot map) (state a) → Sure (RestsIdle (lot_places lot)) (Idle (lot_places lot) map) (state b)
      → Sure (RestsLot lot) (LotAtRest lot map) (state b)
  held_before sure idle = sure_rest lot map (state b) (sure_inside lot map (state a) sure) idle

  pub held_stands : CrashStep state left (JournalExtent (lot_places lot) 240) (BeforeOrAfter (slot_targets lot) (lot_places lot) set.entries map) a b
      → CrashStep state left (JournalExtent (lot_places lot) 240) (BeforeOrAfter (slot_targets lot) (lot_places lot) v.entries map) a b
  held_stands step =
      subst (λ (x : SetView). CrashStep state left (JournalExtent (lot_places lot) 240)
      (BeforeOrAfter (slot_targets lot) (lot_places lot) x.entries map) a b) is step

  pub held_idle : Sure (RestsIdle (lot_places lot)) (Idle (lot_places lot) (over set.entries map)) (state b)
      → Sure (RestsIdle (lot_places lot)) (Idle (lot_places lot) (over v.entries map)) (state b)
  held_idle idle = subst (λ (x : SetView). Sure (RestsIdle (lot_places lot)) (Idle (lot_places lot) (over x.entries map)) (state b)) is idle

-- nothing is held
pub none_held : (entries : List Entry) → length entries ≡ 0 → entries ≡ []
none_held [] e = refl
none_held (e ∷ entries) n = absurd (omega (arith, n))

over_nothing : (entries : List Entry) (map : ℕ → List ℕ) → entries ≡ [] → over entries map ≡ map
over_nothing entries map none = fun_ext (λ a. over_free entries map a (subst (λ (x : List Entry). holds x a ≡ false) (sym none) (no_entry a)))

rests_extent : (lot : LotView) (k : ℕ) → RestsLot lot k → JournalExtent (lot_places lot) 240 k
rests_extent lot k (inl gate) = inl gate
rests_extent lot k (inr home) = inr (inr home)

-- what is sure, every image has that a crash leaves where nothing happens
stays : {D : Type 0} (state : D → DiskState) (left : D → ℕ → Image → List ℕ → Type 0) (E R : ℕ → Type 0) (P : Image → Type 0) (a : D)
    → RestsOn R P → ((k : ℕ) → R k → E k) → Sure R P (state a) → CrashStep state left E P a a
stays state left E R P a rests inside sure = record {
  leaves = leaves_refl state left (With (state a).streams.aside P) a;
  after = λ i agrees. rests (state a).now i (λ k here. agrees.same k (inside k here) (sure.settled.settled k here)) sure.now;
}

-- Where nothing is held and nothing happens, the lot stays as it is.
module _ {D : Type 0} (state : D → DiskState) (left : D → ℕ → Image → List ℕ → Type 0) (lot : LotView) (entries : List Entry) (map : ℕ → List ℕ) (a : D) where
  pub nothing_crash : Sure (RestsLot lot) (LotAtRest lot map) (state a)
      → CrashStep state left (JournalExtent (lot_places lot) 240) (BlocksEither lot entries map) a a
  nothing_crash sure =
      step_more state left (JournalExtent (lot_places lot) 240) (LotAtRest lot map) (BlocksEither lot entries map) a a (λ i rest. inl rest.blocks)
      (stays state left (JournalExtent (lot_places lot) 240) (RestsLot lot) (LotAtRest lot map) a (rest_rests lot map) (rests_extent lot) sure)

  pub nothing_done : entries ≡ [] → Sure (RestsLot lot) (LotAtRest lot map) (state a) → Sure (RestsLot lot) (LotAtRest lot (over entries map)) (state a)
  nothing_done none sure = subst (λ (m : ℕ → List ℕ). Sure (RestsLot lot) (LotAtRest lot m) (state a)) (sym (over_nothing entries map none)) sure

  pub nothing_idle : entries ≡ [] → Sure (RestsIdle (lot_places lot)) (Idle (lot_places lot) map) (state a)
      → Sure (RestsIdle (lot_places lot)) (Idle (lot_places lot) (over entries map)) (state a)
  nothing_idle none sure =
      subst (λ (m : ℕ → List ℕ). Sure (RestsIdle (lot_places lot)) (Idle (lot_places lot) m) (state a)) (sym (over_nothing entries map none)) sure
