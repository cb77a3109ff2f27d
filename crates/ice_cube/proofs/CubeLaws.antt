-- What a mounted cube holds: what a commit makes of it, and what it outlasts.
use Rattle.std.proofs.Common.{◌≡◌, ◌∙◌, inl, inr, ◌≤◌, ◌+◌, ◌++◌, ℕ, ◌∷◌, false, List, [], length, take, length-append, refl, sym, subst, arith}
use Rattle.std.proofs.Math.Path.{fun_ext}
use Rattle.std.proofs.lemmas.List.{length-take-le}
use Rattle.std.proofs.Math.Seq.{take-length}
use Rattle.ice_base.specs.Disk.{Image, DiskState}
use Rattle.ice_base.specs.Frames.{CrashStep, Kept, RestsOn, Sure}
use Rattle.ice_base.specs.Lots.{LotView, extent}
use Rattle.ice_base.proofs.Frame.{agrees_fewer, step_more}
use Rattle.ice_base.proofs.Kept.{every_kept, kept_fewer, sure_kept}
use Rattle.tree_spec.specs.Costs.{Form, form_of}
use Rattle.tree_spec.specs.Operations.{Operation}
use Rattle.tree_spec.specs.Answers.{next_tree, tree_after}
use Rattle.tree_spec.specs.Records.{History, Mode, cut_to, done, floor, fresh, settled, tree_at, tree_now}
use Rattle.tree_spec.specs.Trees.{Tree}
use Rattle.ice_tables.specs.Journals.{effective_of, lot_places}
use Rattle.ice_tables.proofs.JournalLaws.{lot_blocks_rest}
use Rattle.ice_txn.specs.declared.set.Entry.{Entry}
use Rattle.ice_txn.specs.Sets.{over}
use Rattle.ice_journal.specs.Blocks.{AreHomes, CommitBlocks, JournalExtent}
use Rattle.ice_journal.specs.Rests.{BlocksEither, LotAtRest, RestsLot}
use Rattle.ice_journal.proofs.AreaLaws.{lot_extent}
use Rattle.ice_journal.proofs.RestLaws.{rest_rests, rests_lot}
use Rattle.ice_reads.specs.Recovers.{MapRecovers}
use Rattle.ice_images.specs.Recovering.{mode_byte, Recovers}
use Rattle.ice_cube.specs.Cubes.{CubeView, HasHistory, Holds, Runs}

-- ---- histories

pub after_append : (xs ys : List Operation) (t : Tree) → tree_after (xs ++ ys) t ≡ tree_after ys (tree_after xs t)
after_append [] ys t = refl
after_append (op ∷ xs) ys t = after_append xs ys (next_tree op t)

-- images with the same effective blocks recover the same
pub same_recovers : (lot : LotView) (i j : Image) → effective_of lot j ≡ effective_of lot i → (f : Form) (mode : Mode) (t : Tree) (k : ℕ)
    → Recovers lot i f mode t k → Recovers lot j f mode t k
same_recovers lot i j e f mode t k r = record { form = r.form; blocks = r.blocks; effective = e ∙ r.effective; recovers = r.recovers }

pub same_history : (lot : LotView) (f : Form) (mode : Mode) (h : History) (i j : Image) → effective_of lot j ≡ effective_of lot i
    → HasHistory lot f mode h i → HasHistory lot f mode h j
same_history lot f mode h i j e has = (has.0, has.1, same_recovers lot i j e f mode (tree_at h has.0) (floor h + has.0) has.2)

-- What a lot has rests on its extent.
pub history_rests : (lot : LotView) (f : Form) (mode : Mode) (h : History) → RestsOn (extent lot) (HasHistory lot f mode h)
history_rests lot f mode h i j same has = same_history lot f mode h i j (lot_blocks_rest lot i j same) has

-- ---- others

-- What a cube holds outlasts calls that keep its lot's blocks.
pub holds_kept : (f : Form) (mode : Mode) (h : History) (c : CubeView) (s t : DiskState) → Kept (extent c.lot) s t → Holds f mode h c s → Holds f mode h c t
holds_kept f mode h c s t kept holds = record {
  lasts = every_kept (extent c.lot) (HasHistory c.lot f mode h) s t kept holds.lasts;
  runs = λ live. let r = holds.runs live in record {
    form = r.form;
    map = r.map;
    rest =
        sure_kept (RestsLot c.lot) (LotAtRest c.lot r.map) s t (rest_rests c.lot r.map)
        (kept_fewer (extent c.lot) (RestsLot c.lot) s t (rests_lot c.lot) kept) r.rest;
    back = r.back;
    few = r.few;
    base = r.base;
    running = r.running;
    count = r.count;
  };
}

-- ---- a lot at rest

pub over_none : (map : ℕ → List ℕ) → over [] map ≡ map
unfolding over
over_none map = fun_ext (λ a. refl)

-- A cube that holds nothing back over a lot at rest holds a history of which nothing can be lost.
pub rest_holds : (lot : LotView) (f : Form) (mode : Mode) (b : Tree) (from : ℕ) (sure : List Operation) (n : ℕ) (map : ℕ → List ℕ) (s : DiskState)
    → f ≡ form_of f.version → n ≡ from + length sure → Sure (RestsLot lot) (LotAtRest lot map) s → MapRecovers f (mode_byte mode) lot map (tree_after sure b) n
    → Holds f mode (record { base = b; from = from; sure = sure; since = [] }) (record { lot = lot; set = []; done = n; stopped = false }) s
rest_holds lot f mode b from sure n map s form number rest is =
    let last : MapRecovers f (mode_byte mode) lot map (tree_after sure b) (from + length sure + 0) =
    subst (λ (x : ℕ). MapRecovers f (mode_byte mode) lot map (tree_after sure b) x) (omega (arith, number)) is in
    record {
      lasts = λ i agrees.
          let there : LotAtRest lot map i = rest_rests lot map s.now i
          (λ k here. agrees.same k (rests_lot lot k here) (rest.settled.settled k here)) rest.now in
          (0, omega arith, record { form = form; blocks = map; effective = there.blocks; recovers = last });
      runs = λ live. record {
        form = form;
        map = map;
        rest = rest;
        back = 0;
        few = omega arith;
        base = last;
        running = subst (λ (m : ℕ → List ℕ). MapRecovers f (mode_byte mode) lot m (tree_after sure b) (from + length sure + 0)) (sym (over_none map)) last;
        count = omega (arith, number);
      };
    }

-- A cube that was mounted with the tree of one of a history's counts holds the history that is cut to that count.
pub holds_cut : (f : Form) (mode : Mode) (h : History) (j : ℕ) (c : CubeView) (s : DiskState) → j ≤ length h.since
    → Holds f mode (fresh (tree_at h j) (floor h + j)) c s → Holds f mode (cut_to h j) c s
holds_cut f mode h j c s few holds =
    let tree : tree_after (h.sure ++ take j h.since) h.base ≡ tree_at h j = after_append h.sure (take j h.since) h.base in
    let number : floor (cut_to h j) ≡ floor h + j = omega (arith, length-append h.sure (take j h.since), length-take-le j h.since few) in
    record {
      lasts = λ i agrees.
          let has = holds.lasts i agrees in
          let v = has.2 in
          let none : has.0 ≡ 0 = omega (arith, has.1) in
          (0, omega arith, record { form = v.form; blocks = v.blocks; effective = v.effective; recovers = moved v.blocks tree number has.0 none v.recovers });
      runs = λ live.
          let r = holds.runs live in
          let none : r.back ≡ 0 = omega (arith, r.few) in
          record {
            form = r.form;
            map = r.map;
            rest = r.rest;
            back = 0;
            few = omega arith;
            base = moved r.map tree number r.back none r.base;
            running = moved (over c.set r.map) tree number 0 refl r.running;
            count = omega (arith, r.count, number);
          };
    }
  where
    moved : (m : ℕ → List ℕ) → tree_after (h.sure ++ take j h.since) h.base ≡ tree_at h j → floor (cut_to h j) ≡ floor h + j → (n : ℕ) → n ≡ 0
        → MapRecovers f (mode_byte mode) c.lot m (tree_at (fresh (tree_at h j) (floor h + j)) n) (floor (fresh (tree_at h j) (floor h + j)) + n)
        → MapRecovers f (mode_byte mode) c.lot m (tree_after (h.sure ++ take j h.since) h.base) (floor (cut_to h j) + 0)
    moved m tree number n none r =
        let first =
        subst (λ (x : ℕ). MapRecovers f (mode_byte mode) c.lot m (tree_at (fresh (tree_at h j) (floor h + j)) x)
        (floor (fresh (tree_at h j) (floor h + j)) + x)) none r in
        subst (λ (t : Tree). MapRecovers f (mode_byte mode) c.lot m t (floor (cut_to h j) + 0)) (sym tree)
        (subst (λ (x : ℕ). MapRecovers f (mode_byte mode) c.lot m (tree_at h j) x) (omega (arith, number)) first)

-- ---- commits

-- What a commit leaves has the history.
pub either_history : (f : Form) (mode : Mode) (h : History) (c : CubeView) (s : DiskState) (r : Runs f mode h c s) (i : Image)
    → BlocksEither c.lot c.set r.map i → HasHistory c.lot f mode h i
either_history f mode h c s r i (inl e) = (r.back, r.few, record { form = r.form; blocks = r.map; effective = e; recovers = r.base })
either_history f mode h c s r i (inr e) = (
  length h.since,
  omega arith,
  record {
    form = r.form;
    blocks = over c.set r.map;
    effective = e;
    recovers =
        subst (λ (ops : List Operation). MapRecovers f (mode_byte mode) c.lot (over c.set r.map)
        (tree_after ops (tree_after h.sure h.base)) (done h)) (sym (take-length h.since)) r.running;
  },
)

module _ {D : Type 0} (state : D → DiskState) (left : D → ℕ → Image → List ℕ → Type 0) where
  pub step_wider : (E F : ℕ → Type 0) (P : Image → Type 0) (a b : D) → ((k : ℕ) → E k → F k) → CrashStep state left E P a b → CrashStep state left F P a b
  step_wider E F P a b sub v = record { leaves = v.leaves; after = λ i agrees. v.after i (agrees_fewer F E (state b) i sub agrees) }

  -- Each crash of a commit leaves what the history has.
  pub commit_step : (f : Form) (mode : Mode) (h : History) (c : CubeView) (a b : D) → c.stopped ≡ false → Holds f mode h c (state a)
      → ((map : ℕ → List ℕ) → Sure (RestsLot c.lot) (LotAtRest c.lot map) (state a)
      → CrashStep state left (JournalExtent (lot_places c.lot) 240) (BlocksEither c.lot c.set map) a b)
      → CrashStep state left (extent c.lot) (HasHistory c.lot f mode h) a b
  commit_step f mode h c a b live holds step =
      let r = holds.runs live in
      step_wider (JournalExtent (lot_places c.lot) 240) (extent c.lot) (HasHistory c.lot f mode h) a b (lot_extent c.lot)
      (step_more state left (JournalExtent (lot_places c.lot) 240) (BlocksEither c.lot c.set r.map) (HasHistory c.lot f mode h) a b
      (either_history f mode h c (state a) r) (step r.map r.rest))

-- A commit that comes to its end settles the history.
pub commit_settles : (f : Form) (mode : Mode) (h : History) (c : CubeView) (s t : DiskState) (r : Runs f mode h c s)
    → Sure (RestsLot c.lot) (LotAtRest c.lot (over c.set r.map)) t
    → Holds f mode (settled h) (record { lot = c.lot; set = []; done = c.done; stopped = false }) t
commit_settles f mode h c s t r rest =
    rest_holds c.lot f mode h.base h.from (h.sure ++ h.since) c.done (over c.set r.map) t r.form (omega (arith, r.count, length-append h.sure h.since)) rest
    (subst (λ (u : Tree). MapRecovers f (mode_byte mode) c.lot (over c.set r.map) u c.done) (sym (after_append h.sure h.since h.base))
    (subst (λ (n : ℕ). MapRecovers f (mode_byte mode) c.lot (over c.set r.map) (tree_now h) n) (sym r.count) r.running))

-- What a commit writes are blocks of the lot.
pub commit_in : (lot : LotView) (entries : List Entry) → length entries ≤ 240 → AreHomes (lot_places lot) entries → (k : ℕ)
    → CommitBlocks (lot_places lot) entries k → extent lot k
commit_in lot entries few homes k (inl gate) = lot_extent lot k (inl gate)
commit_in lot entries few homes k (inr (inl (inl header))) = lot_extent lot k (inr (inl (inl header)))
commit_in lot entries few homes k (inr (inl (inr body))) = lot_extent lot k (inr (inl (inr (body.0, omega (arith, body.1, few)))))
commit_in lot entries few homes k (inr (inr put)) = lot_extent lot k (inr (inr (put.0, homes put.0 put.1, put.2)))
