-- What a mount finds, and what it leaves.
use Rattle.std.proofs.Common.{◌≡◌, ◌∙◌, inl, inr, ◌==◌, nat_lt, ℕ, Bool, true, false, List, length, slice_index, Option, Some, None, refl, sym, ap, subst, arith}
use Rattle.std.specs.Prelude.{if◌then◌else◌, not, nat_eq, unwrap_or, ◌^◌}
use Rattle.std.proofs.lemmas.Bool.{cases_Bool}
use Rattle.std.proofs.lemmas.Bool.Decides.{nat_tests}
use Rattle.ice_base.specs.Disk.{Image, DiskState, block, Nowhere}
use Rattle.ice_base.specs.Fields.{long_at, word_at}
use Rattle.ice_base.specs.Frames.{CrashStep, Every, Settled, Sure, Within}
use Rattle.ice_base.specs.Lots.{LotView, extent, gate_place, header_place, sub_address}
use Rattle.ice_base.proofs.Frame.{every_apart, step_apart, step_more, step_then}
use Rattle.ice_base.specs.FrameLaws.{within_then}
use Rattle.ice_base.specs.declared.fault.Rule.{Rule}
use Rattle.ice_base.specs.declared.fault.Rule.TheVariants as rule
use Rattle.tree_spec.specs.Costs.{Form, form_of}
use Rattle.tree_spec.specs.Records.{Mode, Plain}
use Rattle.tree_spec.specs.Trees.{Tree}
use Rattle.ice_layout.specs.Headers.{is_open, slot_targets}
use Rattle.ice_layout.specs.Subs.{sub_magic, sub_of, sub_rule}
use Rattle.ice_tables.specs.Journals.{effective_of, lot_places}
use Rattle.ice_tables.proofs.JournalLaws.{lot_blocks_rest}
use Rattle.ice_journal.specs.Blocks.{JournalExtent, ReplayBlocks}
use Rattle.ice_journal.specs.Rests.{LotAtRest, RestsLot}
use Rattle.ice_journal.specs.Shown.{AreNoneOrTargets, targets_now}
use Rattle.ice_journal.proofs.AreaLaws.{lot_extent}
use Rattle.ice_journal.proofs.RestLaws.{rests_lot}
use Rattle.ice_recover.specs.Reads.{ReadsAs}
use Rattle.ice_reads.specs.Recovers.{MapRecovers}
use Rattle.ice_reads.proofs.Recovering.{recovers_one}
use Rattle.ice_rules.specs.Rules.{form_in}
use Rattle.ice_check.specs.Shown.{Sums}
use Rattle.ice_check.specs.declared.fault.Summary.{Summary}
use Rattle.ice_images.specs.Recovering.{mode_byte, Recovers, RecoversNothing}
use Rattle.ice_check.specs.declared.fault.CheckFault.{CheckFault}
use Rattle.ice_check.specs.declared.fault.CheckFault.TheVariants as check
use Rattle.ice_check.specs.Shown.{IsDisk, LotNamed}
use Rattle.ice_journal.proofs.StepLaws.{every_now}
use Rattle.ice_rules.specs.Rules.{LotMayName}
use Rattle.tree_spec.specs.Records.{History}
use Rattle.ice_cube.specs.Cubes.{HasHistory}
use Rattle.ice_cube.specs.Mounting.{KeepsBlocks, RecoversSome, TellsDamage, UnwrittenIfDamaged}
use Rattle.ice_cube.specs.declared.fault.CubeFault.{CubeFault}
use Rattle.ice_cube.specs.declared.fault.CubeFault.TheVariants as cube
use Rattle.ice_cube.proofs.CubeLaws.{same_history, same_recovers, step_wider}

-- ---- reads, and a replay after them

module _ {D : Type 0} (state : D → DiskState) (left : D → ℕ → Image → List ℕ → Type 0) (lot : LotView) where
  pub look_same : (a b : D) → Within state left Nowhere a b → effective_of lot (state b).now ≡ effective_of lot (state a).now
  look_same a b w = lot_blocks_rest lot (state a).now (state b).now (λ k here. w.same k (λ never. never))

  pub look_settled : (a b : D) → Within state left Nowhere a b → Settled (extent lot) (state a) → Settled (extent lot) (state b)
  look_settled a b w s = record { told = w.tells ∙ s.told; settled = λ k here. w.settled k (λ never. never) (s.settled k here) }

  pub look_step : (a b : D) → Within state left Nowhere a b → Settled (extent lot) (state a) → KeepsBlocks state left lot a b
  look_step a b w s = step_apart state left (extent lot) Nowhere (λ i. effective_of lot i ≡ effective_of lot (state a).now) a b (λ k here never. never) w
      (λ i agrees. lot_blocks_rest lot (state a).now i (λ k here. agrees.same k here (s.settled k here)))

  pub look_then : (a b c : D) → Within state left Nowhere a b → Settled (extent lot) (state a) → KeepsBlocks state left lot b c → KeepsBlocks state left lot a c
  look_then a b c w s v = step_then state left (extent lot) (λ i. effective_of lot i ≡ effective_of lot (state a).now) a b c w.streams (look_step a b w s)
      (step_more state left (extent lot) (λ i. effective_of lot i ≡ effective_of lot (state b).now)
      (λ i. effective_of lot i ≡ effective_of lot (state a).now) b c (λ i e. e ∙ look_same a b w) v)

  reads-same : (a b : D) → Within state left Nowhere a b → targets_now lot (state b).now ≡ targets_now lot (state a).now
  unfolding targets_now
  reads-same a b w =
      let gate : is_open (block (state b).now (gate_place lot)) ≡ is_open (block (state a).now (gate_place lot)) = ap is_open
      (w.same (gate_place lot) (λ never. never)) in
      let header : slot_targets lot (block (state b).now (header_place lot)) ≡ slot_targets lot
      (block (state a).now (header_place lot)) = ap (slot_targets lot) (w.same (header_place lot) (λ never. never)) in
      rw (gate, header) refl

  pub reads_sure : (a b : D) (ts : List ℕ) → Within state left Nowhere a b → Settled (extent lot) (state a)
      → targets_now lot (state a).now ≡ Some ts → Sure (extent lot) (ReadsAs lot ts) (state b)
  reads_sure a b ts w s e = record { settled = look_settled a b w s; now = reads-same a b w ∙ e }

  pub replay_step : (a b c : D) → Within state left Nowhere a b → Settled (extent lot) (state a)
      → CrashStep state left (JournalExtent (lot_places lot) 240) (λ i. effective_of lot i ≡ effective_of lot (state b).now) b c
      → KeepsBlocks state left lot a c
  replay_step a b c w s v =
      look_then a b c w s
      (step_wider state left (JournalExtent (lot_places lot) 240) (extent lot)
      (λ i. effective_of lot i ≡ effective_of lot (state b).now) b c (lot_extent lot) v)

  -- a lot whose gate is closed is at rest
  pub closed_rest : (a b : D) (map : ℕ → List ℕ) → Within state left Nowhere a b → Settled (extent lot) (state a)
      → is_open (block (state a).now (gate_place lot)) ≡ false
      → effective_of lot (state a).now ≡ Some map → Sure (RestsLot lot) (LotAtRest lot map) (state b)
  closed_rest a b map w s closed e = record {
    settled = record { told = w.tells ∙ s.told; settled = λ k here. w.settled k (λ never. never) (s.settled k (rests_lot lot k here)) };
    now = record { gate = ap is_open (w.same (gate_place lot) (λ never. never)) ∙ closed; blocks = look_same a b w ∙ e };
  }

  -- a barrier, and a step that keeps the effective blocks
  pub barrier_then : (f : Form) (mode : Mode) (h : History) (a b c : D) → Within state left Nowhere a b → Settled (extent lot) (state b)
      → length (state b).now ≡ (state b).size
      → KeepsBlocks state left lot b c → Every (extent lot) (state a) (HasHistory lot f mode h)
      → CrashStep state left (extent lot) (HasHistory lot f mode h) a c
  barrier_then f mode h a b c w s whole v every =
      let now : HasHistory lot f mode h (state b).now = every_now (extent lot) (HasHistory lot f mode h) (state b) whole
      (every_apart state left (extent lot) Nowhere a b (HasHistory lot f mode h) (λ k here never. never) w every) in
      step_then state left (extent lot) (HasHistory lot f mode h) a b c w.streams
      (step_apart state left (extent lot) Nowhere (HasHistory lot f mode h) a b (λ k here never. never) w every)
      (step_more state left (extent lot) (λ i. effective_of lot i ≡ effective_of lot (state b).now) (HasHistory lot f mode h) b c
      (λ i e. same_history lot f mode h (state b).now i e now) v)

  -- where nothing is written after a barrier, nothing is written
  pub unwritten_then : (a b c : D) → Within state left Nowhere a b → ((state a).tells ≡ true → (state b).writes ≡ (state a).writes)
      → (x : CubeFault) → UnwrittenIfDamaged state left b c x → UnwrittenIfDamaged state left a c x
  unwritten_then a b c w writes (cube.Damaged r) u =
      record { within = within_then state left Nowhere a b c w u.within; writes = λ told. u.writes (w.tells ∙ told) ∙ writes told }
  unwritten_then a b c w writes cube.Memory u = tt
  unwritten_then a b c w writes cube.Disk u = tt

  -- where nothing is written after a barrier of a lot that recovers nothing, nothing is written
  pub idle_then : (a b c : D) → Within state left Nowhere a b → RecoversNothing lot (state a).now
      → (RecoversNothing lot (state b).now → Within state left Nowhere b c) → Within state left Nowhere a c
  idle_then a b c w nothing next = within_then state left Nowhere a b c w
      (next (λ f mode t k r. nothing f mode t k (same_recovers lot (state b).now (state a).now (sym (look_same a b w)) f mode t k r)))

-- What a replay writes are blocks of the lot.
pub replay_in : (lot : LotView) (ts : List ℕ) → AreNoneOrTargets lot ts → (k : ℕ) → ReplayBlocks (lot_places lot) ts k → extent lot k
replay_in lot ts targets k (inl gate) = lot_extent lot k (inl gate)
replay_in lot ts (inl none) k (inr target) = absurd (let e : length ts ≡ 0 = ap (λ (xs : List ℕ). length xs) none in omega (arith, e, target.1))
replay_in lot ts (inr targets) k (inr target) = lot_extent lot k (inr (inr (slice_index ts target.0, targets.homes target.0 target.1, target.2)))

-- ---- what a check says

-- the tests of a sub-super block in their order
fourth_passes : (a b c d e : Bool) (v w x y z : Rule)
    → (if not a then Some v else if not b then Some w else if not c then Some x else if not d then Some y else if not e then Some z else None) ≡ None → d ≡ true
fourth_passes true true true true e v w x y z h = refl
fourth_passes true true true false e v w x y z h = absurd (cc h)
fourth_passes true true false d e v w x y z h = absurd (cc h)
fourth_passes true false c d e v w x y z h = absurd (cc h)
fourth_passes false b c d e v w x y z h = absurd (cc h)

plain_mode : (slot : ℕ) (bytes : List ℕ) → sub_rule slot bytes ≡ None → (sub_of bytes).mode ≡ mode_byte Plain
unfolding sub_rule
plain_mode slot bytes sound =
    let t : (slice_index bytes 9 == 0) ≡ true =
    fourth_passes (word_at bytes 0 == sub_magic) (word_at bytes 4 == 1) (slice_index bytes 8 == slot) (slice_index bytes 9 == 0)
    (nat_lt (long_at bytes 16) (2 ^ 63)) rule.Magic rule.Version rule.Slot rule.Mode rule.Done sound in
    grind (arith, nat_tests)

form_again : (n : ℕ) → form_of n ≡ form_of (form_of n).version
form_again n = elim (cases_Bool (nat_eq n 2)) [ inl is ↦ rw is refl | inr isnt ↦ rw isnt refl ]

-- the blocks of which a summary was made are those of the lot
pub sums_recover : (lot : LotView) (i : Image) (m : ℕ → List ℕ) (s : Summary) → effective_of lot i ≡ Some m → Sums lot m s → RecoversSome lot i s.done
sums_recover lot i m s e sums =
    let mode : sums.mode ≡ mode_byte Plain = sym sums.recovers.sub.mode ∙ plain_mode lot.slot (m sub_address) sums.recovers.sub.sound in
    record {
      form = form_in m;
      mode = Plain;
      tree = sums.tree;
      recovers =
          record { form = form_again (word_at (m sub_address) 4); blocks = m; effective = e; recovers = subst (λ (n : ℕ). MapRecovers (form_in m) n lot m sums.tree s.done) mode sums.recovers };
    }

-- two recoveries have one count
pub one_count : (lot : LotView) (i : Image) (f g : Form) (m n : Mode) (t u : Tree) (k j : ℕ) → Recovers lot i f m t k → Recovers lot i g n u j → k ≡ j
one_count lot i f g m n t u k j a b =
    let same : b.blocks ≡ a.blocks = sym (ap (λ o. unwrap_or o a.blocks) (sym a.effective ∙ b.effective)) in
    let there : MapRecovers g (mode_byte n) lot a.blocks u j = subst (λ (x : ℕ → List ℕ). MapRecovers g (mode_byte n) lot x u j) same b.recovers in
    let form : f ≡ g = a.form ∙ ap form_of (sym a.recovers.sub.version ∙ there.sub.version) ∙ sym b.form in
    let here : MapRecovers f (mode_byte n) lot a.blocks u j = subst (λ x. MapRecovers x (mode_byte n) lot a.blocks u j) (sym form) there in
    (recovers_one f (mode_byte m) (mode_byte n) lot a.blocks t u k j a.recovers here).1

-- an Ok of the check shows a tree
pub some_recovers : (lot : LotView) (i : Image) (s : Summary) → ((m : ℕ → List ℕ) → effective_of lot i ≡ Some m → Sums lot m s)
    → (effective_of lot i ≡ None → ⊥)
    → RecoversSome lot i s.done
some_recovers lot i s reads never = go (effective_of lot i) refl
  where
    go : (o : Option (ℕ → List ℕ)) → effective_of lot i ≡ o → RecoversSome lot i s.done
    go (Some m) e = sums_recover lot i m s e (reads m e)
    go None e = absurd (never e)

-- a lot without effective blocks recovers nothing
pub none_damage : (lot : LotView) (i : Image) → effective_of lot i ≡ None → RecoversNothing lot i × LotMayName lot (effective_of lot i) rule.Header
none_damage lot i e = (λ f mode t k r. absurd (let nothing : None ≡ Some r.blocks = sym e ∙ r.effective in cc nothing), rw e refl)

-- damage that a check names is there
pub check_damage : (lot : LotView) (i : Image) (x : CheckFault) (r : Rule) → x ≡ check.Damaged r
    → ((f : Form) (mode k : ℕ) (t : Tree) (m : ℕ → List ℕ) → f ≡ form_of f.version → effective_of lot i ≡ Some m → MapRecovers f mode lot m t k → IsDisk x)
    → LotNamed lot (effective_of lot i) x → RecoversNothing lot i × LotMayName lot (effective_of lot i) r
check_damage lot i x r is exact named = (
  λ f mode t k v. subst (λ (y : CheckFault). IsDisk y) is (exact f (mode_byte mode) k t v.blocks v.form v.effective v.recovers),
  subst (λ (y : CheckFault). LotNamed lot (effective_of lot i) y) is named,
)

-- what is found once all is settled was there before
pub some_same : (lot : LotView) (i j : Image) (k : ℕ) → effective_of lot j ≡ effective_of lot i → RecoversSome lot i k → RecoversSome lot j k
some_same lot i j k e r = record { form = r.form; mode = r.mode; tree = r.tree; recovers = same_recovers lot i j e r.form r.mode r.tree k r.recovers }

pub damage_same : (lot : LotView) (i j : Image) (x : CubeFault) → effective_of lot j ≡ effective_of lot i → TellsDamage lot i x → TellsDamage lot j x
damage_same lot i j (cube.Damaged r) e d =
    (λ f mode t k v. d.0 f mode t k (same_recovers lot j i (sym e) f mode t k v), subst (λ o. LotMayName lot o r) (sym e) d.1)
damage_same lot i j cube.Memory e d = tt
damage_same lot i j cube.Disk e d = tt
