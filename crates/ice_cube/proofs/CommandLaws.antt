-- What a command makes of what a mounted cube holds, and how its answer is the record's.
use Rattle.std.proofs.Common.{◌≡◌, ◌∙◌, ◌⊎◌, inl, inr, ◌≤◌, ◌<◌, ◌+◌, ◌-◌, ◌++◌, ℕ, ◌∷◌, Bool, true, false, not, nat_lt, List, [], length, take, slice_index, length-append, Option, Some, None, Result, Ok, Err, OnErr, OnOk, IfErr, IsErrOf, refl, sym, ap, subst, arith}
use Rattle.std.specs.Prelude.{if◌then◌else◌, ◌||◌, ◌^◌, ◌==◌, min, cond}
use Rattle.std.proofs.lemmas.Bool.{cases_Bool}
use Rattle.std.proofs.lemmas.Bool.Decides.{nat_tests}
use Rattle.std.proofs.Math.Seq.{take-length}
use Rattle.std.proofs.lemmas.List.{take-append-le}
use Rattle.ice_base.specs.Disk.{Image, DiskState, Nowhere}
use Rattle.ice_base.specs.Fields.{long_at, word_at}
use Rattle.ice_base.specs.Frames.{CrashStep, Every, Sure, Within}
use Rattle.ice_base.specs.Lots.{LotView, extent, sub_address}
use Rattle.ice_base.proofs.Frame.{every_apart, step_apart, step_then}
use Rattle.ice_base.proofs.Kept.{kept_within, sure_kept}
use Rattle.ice_base.specs.declared.fault.Rule.{Rule}
use Rattle.ice_base.specs.declared.fault.Rule.TheVariants as rule
use Rattle.tree_spec.specs.Answers.{answer, answer_by, has_deep_path, has_long_name, moves_too_deep, next_tree, refusal, tree_after}
use Rattle.tree_spec.specs.Costs.{Form, blocks, form_of, form_one, nodes}
use Rattle.tree_spec.specs.Held.{RoomContent}
use Rattle.tree_spec.specs.Lines.{Request, Mkdir, Make, Write, Read, Trunc, Remove, Rename, ListDir, Stat}
use Rattle.tree_spec.specs.Operations.{Operation, below, operation, is_change, paths}
use Rattle.tree_spec.specs.Operations as op
use Rattle.tree_spec.specs.Own.{OnTree, Check, CheckFinds, on_check, IfMounted, OfSound, Own, Says, No, on_tree, tree_verdict}
use Rattle.tree_spec.specs.Records.{Content, Cube, History, Mode, Sound, accepts, done, floor, settled, tree_at, tree_now, with_history, with_state}
use Rattle.tree_spec.specs.Replies.{Accepted, Because, Checked, Fault, Memory, Plain, Response, refused_of, refusal_number, meant}
use Rattle.tree_spec.specs.Trees.{Tree}
use Rattle.tree_spec.specs.Why.{Why}
use Rattle.tree_spec.specs.Why as why
use Rattle.tree_spec.specs.declared.reply.Refusal.{Refusal}
use Rattle.tree_spec.specs.declared.reply.Refusal.TheVariants as code
use Rattle.tree_spec.specs.declared.reply.Value.{Value}
use Rattle.tree_spec.specs.declared.reply.StateWord.{StateWord}
use Rattle.tree_spec.specs.declared.reply.StateWord.TheVariants.{Mounted, Stopped}
use Rattle.tree_spec.proofs.Refusals.{answer-no_fault, refusal-no_damage, refusal-of_paths}
use Rattle.ice_layout.specs.Subs.{sub_magic, sub_of, sub_rule}
use Rattle.ice_tables.specs.Journals.{lot_places}
use Rattle.ice_txn.specs.declared.set.Entry.{Entry}
use Rattle.ice_txn.specs.Sets.{SetView, over}
use Rattle.ice_journal.specs.Blocks.{AreHomes}
use Rattle.ice_journal.specs.Rests.{LotAtRest, RestsLot}
use Rattle.ice_journal.proofs.RestLaws.{rest_rests}
use Rattle.ice_keep.specs.Journaled.{HeldBack}
use Rattle.ice_keep.proofs.JournaledLaws.{rest_map}
use Rattle.ice_look.specs.Broken.{IsBroken}
use Rattle.ice_look.specs.Outcomes.{AsModel, RefusedAs, ShownBy, meant_plain}
use Rattle.ice_look.specs.Stages.{paths_refusal}
use Rattle.ice_reads.specs.Recovers.{MapRecovers}
use Rattle.ice_reads.proofs.Recovering.{recovers_one, recovers_small}
use Rattle.ice_rules.specs.Rules.{form_in, rule_number}
use Rattle.ice_check.specs.Shown.{IsDisk, Sums}
use Rattle.ice_check.specs.declared.fault.CheckFault.{CheckFault}
use Rattle.ice_check.specs.declared.fault.CheckFault.TheVariants as check
use Rattle.ice_check.specs.declared.fault.Summary.{Summary}
use Rattle.ice_images.specs.Recovering.{mode_byte, Recovers}
use Rattle.ice_cube.specs.Called.{Called, ChangedAs, LookedAt, RestsWith, is_look, shown_by}
use Rattle.ice_cube.specs.Commands.{AnswersOwn, HoldsRecord, IsCommand, open_state}
use Rattle.ice_cube.specs.Cubes.{CubeView, HasHistory, Holds}
use Rattle.ice_cube.proofs.CubeLaws.{after_append, over_none}

-- ---- answers of a record

-- the record of a cube after an answer of its tree
abbrev pub next_record : Cube → History → Operation → Option Why → Cube
next_record c h op (Some why) = c
next_record c h op None = if is_change op then with_history (accepts h op) c else c

-- The reply of the model is a mounted cube's.
pub own_answer : (c : Cube) (h : History) (op : Operation) (r : Response) → c.state ≡ Mounted → c.content ≡ Sound h
    → r ≡ (answer (tree_now h) (done h) c.groups c.form op).0
    → Own (Some c) (OnTree op) r (Some (next_record c h op (refusal (tree_now h) (done h) c.groups c.form op)))
own_answer c h op r mounted sound is = inl (on_tree c op h, plainly, says (refusal (tree_now h) (done h) c.groups c.form op) is)
  where
    plainly : IfMounted c.state (OfSound c.content (on_tree c op)) (on_tree c op h)
    plainly =
        subst (λ (s : StateWord). IfMounted s (OfSound c.content (on_tree c op)) (on_tree c op h)) (sym mounted)
        (subst (λ (x : Content). OfSound x (on_tree c op) (on_tree c op h)) (sym sound) refl)

    says : (o : Option Why) → r ≡ (answer_by o op (tree_now h)).0 → Says (tree_verdict c h op o) (Some c) r (Some (next_record c h op o))
    says (Some why) e = (e, refl)
    says None e = (e, refl)

-- no refusal of the paths is no long name and no deep path
paths_pass : (long deep : Bool) → (if long then Some why.NameLong else (if deep then Some why.TooDeep else None)) ≡ None → not (long || deep) ≡ true
paths_pass true deep e = absurd (cc e)
paths_pass false true e = absurd (cc e)
paths_pass false false e = refl

-- A fault is a mounted cube's answer where the paths alone refuse nothing.
pub own_fault : (c : Cube) (op : Operation) → c.state ≡ Mounted → paths_refusal c.form (paths op) ≡ None
    → Own (Some c) (OnTree op) (Err Fault) (Some (if is_change op then with_state Stopped c else c))
own_fault c op mounted none = inr (inl (rw mounted (paths_pass (has_long_name c.form op) (has_deep_path op) none), refl, refl))

-- A stopped cube refuses.
pub own_stopped : (c : Cube) (op : Operation) → c.state ≡ Stopped → Own (Some c) (OnTree op) (Err (Because why.Stopped)) (Some c)
own_stopped c op stopped = inl (
  No why.Stopped,
  subst (λ (s : StateWord). IfMounted s (OfSound c.content (on_tree c op)) (No why.Stopped)) (sym stopped) refl,
  (refl, refl),
)

-- a reply is the model's, or a fault
model_or_fault : (r m : Response) → AsModel r m → (r ≡ m) ⊎ (r ≡ Err Fault)
model_or_fault (Err Fault) m _ = inr refl
model_or_fault (Err Memory) m same = inl same
model_or_fault (Err (Because why)) m same = inl same
model_or_fault (Ok value) m same = inl same

-- What the paths refuse, the tree refuses.
pub paths_answer : (t : Tree) (k n : ℕ) (f : Form) (op : Operation) (r : Why) → paths_refusal f (paths op) ≡ Some r → refusal t k n f op ≡ Some r
paths_answer t k n f op r e = refusal-of_paths t k n f op r (first (has_long_name f op) (has_deep_path op) (moves_too_deep op t) e)
  where
    first : (long deep moves : Bool) → (if long then Some why.NameLong else (if deep then Some why.TooDeep else None)) ≡ Some r
        → cond long (Some why.NameLong) (cond (deep || moves) (Some why.TooDeep) None) ≡ Some r
    first true deep moves e = e
    first false true moves e = e
    first false false moves e = absurd (cc e)

-- ---- versions

second_passes : (a b c d e : Bool) (v w x y z : Rule)
    → (if not a then Some v else if not b then Some w else if not c then Some x else if not d then Some y else if not e then Some z else None) ≡ None → b ≡ true
second_passes true true c d e v w x y z h = refl
second_passes true false c d e v w x y z h = absurd (cc h)
second_passes false b c d e v w x y z h = absurd (cc h)

version_one : (slot : ℕ) (bytes : List ℕ) → sub_rule slot bytes ≡ None → (sub_of bytes).version ≡ 1
unfolding sub_rule
version_one slot bytes sound =
    let t : (word_at bytes 4 == 1) ≡ true =
    second_passes (word_at bytes 0 == sub_magic) (word_at bytes 4 == 1) (slice_index bytes 8 == slot) (slice_index bytes 9 == 0)
    (nat_lt (long_at bytes 16) (2 ^ 63)) rule.Magic rule.Version rule.Slot rule.Mode rule.Done sound in
    grind (arith, nat_tests)

-- What a lot recovers is of version 1.
pub form_is_one : (f : Form) (mode : ℕ) (lot : LotView) (m : ℕ → List ℕ) (t : Tree) (k : ℕ) → f ≡ form_of f.version
    → MapRecovers f mode lot m t k → f ≡ form_one
form_is_one f mode lot m t k form r = form ∙ ap form_of (sym r.sub.version ∙ version_one lot.slot (m sub_address) r.sub.sound)

-- ---- histories

-- the first operations are the same where some follow
take-before : (xs ys : List Operation) (n : ℕ) → n ≤ length xs → take n (xs ++ ys) ≡ take n xs
take-before xs ys n few = take-append-le n xs ys few

-- the images of a history are those of the history with one more operation
more_history : (lot : LotView) (f : Form) (mode : Mode) (h : History) (op : Operation) (i : Image) → HasHistory lot f mode h i
    → HasHistory lot f mode (accepts h op) i
more_history lot f mode h op i has = (
  has.0,
  omega (arith, has.1, length-append h.since (op ∷ [])),
  subst (λ (ops : List Operation). Recovers lot i f mode (tree_after ops (tree_after h.sure h.base)) (floor h + has.0))
      (sym (take-before h.since (op ∷ []) has.0 has.1)) has.2,
)

-- what a settled history has at its one count is all that was accepted
all_recovered : (lot : LotView) (f : Form) (mode : Mode) (h : History) (m : ℕ → List ℕ) (n : ℕ) → n ≤ length (settled h).since
    → MapRecovers f (mode_byte mode) lot m (tree_at (settled h) n) (floor (settled h) + n)
    → MapRecovers f (mode_byte mode) lot m (tree_at h (length h.since)) (floor h + length h.since)
all_recovered lot f mode h m n few r =
    let first : MapRecovers f (mode_byte mode) lot m (tree_after (h.sure ++ h.since) h.base) (floor (settled h) + 0) =
    subst (λ (x : ℕ). MapRecovers f (mode_byte mode) lot m (tree_at (settled h) x) (floor (settled h) + x)) (omega (arith, few)) r in
    let tree : tree_after (h.sure ++ h.since) h.base ≡ tree_at h (length h.since) =
    after_append h.sure h.since h.base ∙ ap (λ (ops : List Operation). tree_after ops (tree_after h.sure h.base)) (sym (take-length h.since)) in
    subst (λ (t : Tree). MapRecovers f (mode_byte mode) lot m t (floor h + length h.since)) tree
    (subst (λ (x : ℕ). MapRecovers f (mode_byte mode) lot m (tree_after (h.sure ++ h.since) h.base) x) (omega (arith, length-append h.sure h.since)) first)

-- Where a history is settled, it is held without that as well.
settled_history : (lot : LotView) (f : Form) (mode : Mode) (h : History) (i : Image) → HasHistory lot f mode (settled h) i → HasHistory lot f mode h i
settled_history lot f mode h i has = (
  length h.since,
  omega arith,
  record { form = has.2.form; blocks = has.2.blocks; effective = has.2.effective; recovers = all_recovered lot f mode h has.2.blocks has.0 has.1 has.2.recovers },
)

-- A cube that holds the history settled holds the history.
pub holds_unsettled : (f : Form) (mode : Mode) (h : History) (c : CubeView) (s : DiskState) → Holds f mode (settled h) c s → Holds f mode h c s
holds_unsettled f mode h c s holds = record {
  lasts = λ i agrees. settled_history c.lot f mode h i (holds.lasts i agrees);
  runs = λ live.
      let r = holds.runs live in
      let tree : tree_after (h.sure ++ h.since) h.base ≡ tree_now h = after_append h.sure h.since h.base in
      let number : done (settled h) ≡ done h = omega (arith, length-append h.sure h.since) in
      record {
        form = r.form;
        map = r.map;
        rest = r.rest;
        back = length h.since;
        few = omega arith;
        base = all_recovered c.lot f mode h r.map r.back r.few r.base;
        running = subst (λ (t : Tree). MapRecovers f (mode_byte mode) c.lot (over c.set r.map) t (done h)) tree
            (subst (λ (x : ℕ). MapRecovers f (mode_byte mode) c.lot (over c.set r.map) (tree_after (h.sure ++ h.since) h.base) x) number r.running);
        count = r.count ∙ number;
      };
}

-- ---- room

-- What a commit that comes to its end leaves, and one that fails, holds the history.
pub room_holds : {T X : Type 0} (r : Result T X) (f : Form) (mode : Mode) (h : History) (c : CubeView) (s : DiskState)
    → OnOk r (Holds f mode (settled h) c s) → OnErr r (Holds f mode h c s) → Holds f mode h c s
room_holds (Ok x) f mode h c s done kept = holds_unsettled f mode h c s done
room_holds (Err e) f mode h c s done kept = kept

-- Where a commit comes to its end, the lot shows what it showed with what was held back.
pub room_rest : {T X : Type 0} (r : Result T X) (lot : LotView) (set kept : List Entry) (map : ℕ → List ℕ) (s : DiskState) → OnOk r (kept ≡ [])
    → OnOk r (Sure (RestsLot lot) (LotAtRest lot (over set map)) s) → OnOk r (RestsWith lot kept (over set map) s)
room_rest (Ok x) lot set kept map s emptied sure = record {
  under = over set map;
  rest = sure;
  same = subst (λ (es : List Entry). over es (over set map) ≡ over set map) (sym emptied) (over_none (over set map));
}
room_rest (Err e) lot set kept map s emptied sure = tt

-- ---- over a keep

module _ {D : Type 0} (state : D → DiskState) (left : D → ℕ → Image → List ℕ → Type 0) where
  -- what nothing wrote stays at rest
  pub rest_still : (lot : LotView) (map : ℕ → List ℕ) (a b : D) → Within state left Nowhere a b → Sure (RestsLot lot) (LotAtRest lot map) (state a)
      → Sure (RestsLot lot) (LotAtRest lot map) (state b)
  rest_still lot map a b w sure =
      sure_kept (RestsLot lot) (LotAtRest lot map) (state a) (state b) (rest_rests lot map)
      (kept_within state left (RestsLot lot) Nowhere a b (λ k here never. never) w) sure

  still_history : (lot : LotView) (f : Form) (mode : Mode) (h : History) (a b : D) → Within state left Nowhere a b
      → Every (extent lot) (state a) (HasHistory lot f mode h)
      → Every (extent lot) (state b) (HasHistory lot f mode h)
  still_history lot f mode h a b w every = every_apart state left (extent lot) Nowhere a b (HasHistory lot f mode h) (λ k here never. never) w every

  -- So does one after a step that leaves it.
  pub still_after : (lot : LotView) (f : Form) (mode : Mode) (h : History) (a b c : D) → (state b).streams ≡ (state a).streams
      → CrashStep state left (extent lot) (HasHistory lot f mode h) a b
      → Within state left Nowhere b c → CrashStep state left (extent lot) (HasHistory lot f mode h) a c
  still_after lot f mode h a b c streams step w =
      step_then state left (extent lot) (HasHistory lot f mode h) a b c streams step
      (step_apart state left (extent lot) Nowhere (HasHistory lot f mode h) b c (λ k here never. never) w step.after)

  -- A cube that is stopped then holds what it held.
  pub holds_stopped : (f : Form) (mode : Mode) (h : History) (c : CubeView) (set : List Entry) (n : ℕ) (a b : D)
      → Within state left Nowhere a b → Holds f mode h c (state a)
      → Holds f mode h (record { lot = c.lot; set = set; done = n; stopped = true }) (state b)
  holds_stopped f mode h c set n a b w holds = record { lasts = still_history c.lot f mode h a b w holds.lasts; runs = λ never. absurd (cc never) }

  module _ (lot : LotView) (v w : SetView) (a b : D) (held : HeldBack state left lot v a w b) (homes : AreHomes (lot_places lot) v.entries) where
    -- what the keep shows of the lot at rest
    shown_before : (map : ℕ → List ℕ) → Sure (RestsLot lot) (LotAtRest lot map) (state a) → shown_by lot v (state a) ≡ over v.entries map
    shown_before map sure = rest_map lot v.entries map (state a).now homes sure.now

    shown_after : (map : ℕ → List ℕ) → Sure (RestsLot lot) (LotAtRest lot map) (state a) → shown_by lot w (state b) ≡ over w.entries map
    shown_after map sure = rest_map lot w.entries map (state b).now (held.homes homes) (rest_still lot map a b held.still.within sure).now

    -- A call after which the keep shows the same leaves what the cube holds.
    pub holds_same : (f : Form) (mode : Mode) (h : History) (n : ℕ) → shown_by lot w (state b) ≡ shown_by lot v (state a)
        → Holds f mode h (record { lot = lot; set = v.entries; done = n; stopped = false }) (state a)
        → Holds f mode h (record { lot = lot; set = w.entries; done = n; stopped = false }) (state b)
    holds_same f mode h n same holds = record {
      lasts = still_history lot f mode h a b held.still.within holds.lasts;
      runs = λ live.
          let r = holds.runs refl in
          let e : over v.entries r.map ≡ over w.entries r.map = sym (shown_before r.map r.rest) ∙ sym same ∙ shown_after r.map r.rest in
          record {
            form = r.form;
            map = r.map;
            rest = rest_still lot r.map a b held.still.within r.rest;
            back = r.back;
            few = r.few;
            base = r.base;
            running = subst (λ (m : ℕ → List ℕ). MapRecovers f (mode_byte mode) lot m (tree_now h) (done h)) e r.running;
            count = r.count;
          };
    }

    -- A call after which the keep shows the next tree makes the cube hold one more operation.
    pub holds_accepted : (f : Form) (mode : Mode) (h : History) (op : Operation) (n : ℕ)
        → MapRecovers f (mode_byte mode) lot (shown_by lot w (state b)) (next_tree op (tree_now h)) (done h + 1)
        → Holds f mode h (record { lot = lot; set = v.entries; done = n; stopped = false }) (state a)
        → Holds f mode (accepts h op) (record { lot = lot; set = w.entries; done = min (n + 1) (2 ^ 64 - 1); stopped = false }) (state b)
    holds_accepted f mode h op n next holds = record {
      lasts = λ i agrees. more_history lot f mode h op i (still_history lot f mode h a b held.still.within holds.lasts i agrees);
      runs = λ live.
          let r = holds.runs refl in
          let number : done (accepts h op) ≡ done h + 1 = omega (arith, length-append h.since (op ∷ [])) in
          let tree : next_tree op (tree_now h) ≡ tree_now (accepts h op) = sym (after_append h.since (op ∷ []) (tree_after h.sure h.base)) in
          record {
            form = r.form;
            map = r.map;
            rest = rest_still lot r.map a b held.still.within r.rest;
            back = r.back;
            few = omega (arith, r.few, length-append h.since (op ∷ []));
            base =
                subst (λ (ops : List Operation). MapRecovers f (mode_byte mode) lot r.map (tree_after ops (tree_after h.sure h.base))
                (floor h + r.back)) (sym (take-before h.since (op ∷ []) r.back r.few)) r.base;
            running =
                subst (λ (m : ℕ → List ℕ). MapRecovers f (mode_byte mode) lot m (tree_now (accepts h op)) (done (accepts h op))) (shown_after r.map r.rest)
                (subst (λ (x : ℕ). MapRecovers f (mode_byte mode) lot (shown_by lot w (state b)) (tree_now (accepts h op)) x) (sym number)
                (subst (λ (t : Tree). MapRecovers f (mode_byte mode) lot (shown_by lot w (state b)) t (done h + 1)) tree next));
            count =
                let small : done h + 1 < 2 ^ 63 = recovers_small f (mode_byte mode) lot (shown_by lot w (state b))
                (next_tree op (tree_now h)) (done h + 1) next in
                omega (arith, r.count, number, small);
          };
    }

    -- A cube that goes on is of version 1.
    pub holds_form : (f : Form) (mode : Mode) (h : History) (n : ℕ)
        → Holds f mode h (record { lot = lot; set = v.entries; done = n; stopped = false }) (state a) → f ≡ form_one
    holds_form f mode h n holds = let r = holds.runs refl in form_is_one f (mode_byte mode) lot (over v.entries r.map) (tree_now h) (done h) r.form r.running

    pub holds_tells : (f : Form) (mode : Mode) (h : History) (n : ℕ)
        → Holds f mode h (record { lot = lot; set = v.entries; done = n; stopped = false }) (state a) → (state a).tells ≡ true
    holds_tells f mode h n holds = (holds.runs refl).rest.settled.told

    -- What the keep shows recovers what the cube holds.
    pub shown_recovers : (f : Form) (mode : Mode) (h : History) (n : ℕ)
        → Holds f mode h (record { lot = lot; set = v.entries; done = n; stopped = false }) (state a)
        → MapRecovers form_one (mode_byte mode) lot (shown_by lot v (state a)) (tree_now h) (done h)
    shown_recovers f mode h n holds =
        let r = holds.runs refl in
        let there : MapRecovers f (mode_byte mode) lot (shown_by lot v (state a)) (tree_now h) (done h) =
        subst (λ (m : ℕ → List ℕ). MapRecovers f (mode_byte mode) lot m (tree_now h) (done h)) (sym (shown_before r.map r.rest)) r.running in
        subst (λ (g : Form). MapRecovers g (mode_byte mode) lot (shown_by lot v (state a)) (tree_now h) (done h)) (holds_form f mode h n holds) there

    -- Damage that a call names is there.
    pub damage_there : {T : Type 0} (op : Operation) (result : Result T Refusal) → Called state left lot op v a result w b
        → (map : ℕ → List ℕ) (n : ℕ) → Sure (RestsLot lot) (LotAtRest lot map) (state a) → IsErrOf result (code.Damaged n)
        → (r : Rule) × (n ≡ rule_number r) × IsBroken form_one lot (over v.entries map) r
    damage_there op result called map n sure is =
        let there = called.damaged n is sure.settled.told in
        (there.0, there.1, subst (λ (m : ℕ → List ℕ). IsBroken form_one lot m there.0) (shown_before map sure) there.2)

-- ---- records

-- an answer that is a refusal is the tree's,
refused_by : (o : Option Why) (op : Operation) (t : Tree) (r : Why) → Err (Because r) ≡ (answer_by o op t).0 → o ≡ Some r
refused_by None op t r e = absurd (cc e)
refused_by (Some x) op t r e = cc e

-- and one that is a value says that the tree refuses nothing.
accepted_by : (o : Option Why) (op : Operation) (t : Tree) (x : Accepted) → Ok x ≡ (answer_by o op t).0 → o ≡ None
accepted_by None op t x e = refl
accepted_by (Some r) op t x e = absurd (cc e)

-- where a call answers a fault, the paths refuse nothing
paths_none : {T : Type 0} (found : Option Why) (result : Result T Refusal) → ShownBy found result → meant_plain result ≡ Err Fault → found ≡ None
paths_none None result shown e = refl
paths_none (Some r) result shown e = absurd (let never : Err (Because r) ≡ Err Fault = sym shown ∙ e in cc never)

plain_fault : (reply : Result Value Refusal) (room : RoomContent) → meant reply room ≡ Err Fault → meant_plain reply ≡ Err Fault
plain_fault (Ok value) room e = absurd (cc e)
plain_fault (Err r) room e = e

-- a refusal of a number above 14 is a fault or names damage
high_refusal : (r : Refusal) → 14 < refusal_number r → refusal_number r ≤ 16 → (r ≡ code.Fault) ⊎ ((n : ℕ) × (r ≡ code.Damaged n))
high_refusal code.Fault low high = inl refl
high_refusal (code.Damaged n) low high = inr (n, refl)
high_refusal _ low high = absurd (omega (arith, low, high))

-- a fault has a number above 14
fault_high : (r : Refusal) → ◌≡◌ {A = Response} (Err (refused_of r)) (Err Fault) → nat_lt 14 (refusal_number r) ≡ true
fault_high code.Fault e = refl
fault_high _ e = absurd (cc e)

some_is : {A : Type 0} {x y : A} → Some x ≡ Some y → x ≡ y
some_is e = cc e

-- a request that is no look changes the tree
pub look_or_change : (depth : ℕ) (r : Request) (op : Operation) → operation depth r ≡ Some op → is_change op ≡ not (is_look r)
look_or_change depth (Mkdir p) op e = ap is_change (sym (some_is e))
look_or_change depth (Make p) op e = ap is_change (sym (some_is e))
look_or_change depth (Write p at bytes) op e = ap is_change (sym (some_is e))
look_or_change depth (Read p at len) op e = ap is_change (sym (some_is e))
look_or_change depth (Trunc p len) op e = ap is_change (sym (some_is e))
look_or_change depth (Remove p) op e = ap is_change (sym (some_is e))
look_or_change depth (Rename p q) op e = ap is_change (sym (some_is e))
look_or_change depth (ListDir p) op e = ap is_change (sym (some_is e))
look_or_change depth (Stat p) op e = ap is_change (sym (some_is e))
look_or_change depth _ op e = absurd (cc e)

-- a request of a tree asks an operation of it
pub some_op : (depth : ℕ) (r : Request) → IsCommand depth r → (op : Operation) × (operation depth r ≡ Some op)
some_op depth (Mkdir p) is = (below depth (op.Mkdir p), refl)
some_op depth (Make p) is = (below depth (op.Make p), refl)
some_op depth (Write p at bytes) is = (below depth (op.Write p at bytes), refl)
some_op depth (Read p at len) is = (below depth (op.Read p at len), refl)
some_op depth (Trunc p len) is = (below depth (op.Trunc p len), refl)
some_op depth (Remove p) is = (below depth (op.Remove p), refl)
some_op depth (Rename p q) is = (below depth (op.Rename p q), refl)
some_op depth (ListDir p) is = (below depth (op.ListDir p), refl)
some_op depth (Stat p) is = (below depth (op.Stat p), refl)
some_op depth _ is = absurd is

-- the record after a look is the record
looked_record : (c : Cube) (h : History) (op : Operation) (o : Option Why) → is_change op ≡ false → next_record c h op o ≡ c
looked_record c h op (Some r) still = refl
looked_record c h op None still = rw still refl

module _ {D : Type 0} (state : D → DiskState) (left : D → ℕ → Image → List ℕ → Type 0) (lot : LotView) (v w : SetView) (a b : D)
    (held : HeldBack state left lot v a w b) (homes : AreHomes (lot_places lot) v.entries) (n : ℕ) (c : Cube)
    (holds : HoldsRecord (record { lot = lot; set = v.entries; done = n; stopped = false }) (state a) c) where
  -- what the record has
  now : Tree
  now = tree_now holds.history

  count : ℕ
  count = done holds.history

  told : (state a).tells ≡ true
  told = holds_tells state left lot v w a b held homes c.form c.mode holds.history n holds.holds

  first : c.form ≡ form_one
  first = holds_form state left lot v w a b held homes c.form c.mode holds.history n holds.holds

  shown : MapRecovers form_one (mode_byte c.mode) lot (shown_by lot v (state a)) (tree_now holds.history) (done holds.history)
  shown = shown_recovers state left lot v w a b held homes c.form c.mode holds.history n holds.holds

  as_record : (op : Operation) (r : Response) → AsModel r (answer (tree_now holds.history) (done holds.history) (length lot.groups) form_one op).0
      → AsModel r (answer (tree_now holds.history) (done holds.history) c.groups c.form op).0
  as_record op r model =
      subst (λ (g : Form). AsModel r (answer (tree_now holds.history) (done holds.history) c.groups g op).0) (sym first)
      (subst (λ (x : ℕ). AsModel r (answer (tree_now holds.history) (done holds.history) x form_one op).0) (sym holds.groups) model)

  -- A look answers as the record, which stays.
  pub look_own : (op : Operation) (reply : Result Value Refusal) (room : RoomContent) → is_change op ≡ false → LookedAt state left lot op v a reply room w b
      → AnswersOwn (record { lot = lot; set = w.entries; done = n; stopped = false }) (state b) c (OnTree op) (meant reply room)
  look_own op reply room still looked =
      let h = holds.history in
      let o : Option Why = refusal (tree_now h) (done h) c.groups c.form op in
      let after : HoldsRecord (record { lot = lot; set = w.entries; done = n; stopped = false }) (state b) c = record {
        groups = holds.groups;
        state = holds.state;
        history = h;
        sound = holds.sound;
        holds = holds_same state left lot v w a b held homes c.form c.mode h n looked.same holds.holds;
      } in
      elim (model_or_fault (meant reply room) (answer (tree_now h) (done h) c.groups c.form op).0
      (as_record op (meant reply room) (looked.answers (mode_byte c.mode) (done h) (tree_now h) told shown))) [
        | inl is ↦
            (c, subst (λ (d : Cube). Own (Some c) (OnTree op) (meant reply room) (Some d)) (looked_record c h op o still) (own_answer c h op (meant reply room) holds.state holds.sound is), after)
        | inr fault ↦
            let none : paths_refusal c.form (paths op) ≡ None =
            subst (λ (g : Form). paths_refusal g (paths op) ≡ None) (sym first)
            (paths_none (paths_refusal form_one (paths op)) reply looked.called.paths (plain_fault reply room fault)) in
            let own : Own (Some c) (OnTree op) (Err Fault) (Some c) =
            subst (λ (x : Bool). Own (Some c) (OnTree op) (Err Fault) (Some (if x then with_state Stopped c else c))) still (own_fault c op holds.state none) in
            (c, subst (λ (r : Response). Own (Some c) (OnTree op) r (Some c)) (sym fault) own, after)
      ]

  -- A look at a sound tree names no damage.
  pub look_sound : (op : Operation) (reply : Result Value Refusal) (room : RoomContent) (x : ℕ)
      → LookedAt state left lot op v a reply room w b → reply ≡ Err (code.Damaged x) → ⊥
  look_sound op reply room x looked is =
      let h = holds.history in
      let model : AsModel (meant (Err (code.Damaged x)) room) (answer (tree_now h) (done h) (length lot.groups) form_one op).0 =
      subst (λ (r : Result Value Refusal). AsModel (meant r room) (answer (tree_now h) (done h) (length lot.groups) form_one op).0) is
      (looked.answers (mode_byte c.mode) (done h) (tree_now h) told shown) in
      refusal-no_damage (tree_now h) (done h) (length lot.groups) form_one op x
      (refused_by (refusal (tree_now h) (done h) (length lot.groups) form_one op) op (tree_now h) (why.Damaged x) model)

  -- An accepted change answers as the record, and makes the next one.
  pub change_own : (op : Operation) → is_change op ≡ true → ChangedAs state left lot op v a (Ok tt) w b
      → AnswersOwn (record { lot = lot; set = w.entries; done = min (n + 1) (2 ^ 64 - 1); stopped = false }) (state b) c (OnTree op) (Ok Plain)
  change_own op change changed =
      let h = holds.history in
      let t = tree_now h in
      let model : Ok Plain ≡ (answer t (done h) (length lot.groups) form_one op).0 = changed.answers (mode_byte c.mode) (done h) t told shown in
      let none : refusal t (done h) (length lot.groups) form_one op ≡ None = accepted_by
      (refusal t (done h) (length lot.groups) form_one op) op t Plain model in
      let none' : refusal t (done h) c.groups c.form op ≡ None =
      subst (λ (g : Form). refusal t (done h) c.groups g op ≡ None) (sym first)
      (subst (λ (x : ℕ). refusal t (done h) x form_one op ≡ None) (sym holds.groups) none) in
      let next : MapRecovers form_one (mode_byte c.mode) lot (shown_by lot w (state b)) (next_tree op t) (done h + 1) =
      subst (λ (o : Option Why). MapRecovers form_one (mode_byte c.mode) lot (shown_by lot w (state b)) (answer_by o op t).1 (done h + 1)) none
      (changed.changed (mode_byte c.mode) (done h) t told shown) in
      let own : Own (Some c) (OnTree op) (Ok Plain) (Some (if is_change op then with_history (accepts h op) c else c)) =
      subst (λ (o : Option Why). Own (Some c) (OnTree op) (Ok Plain) (Some (next_record c h op o))) none'
      (own_answer c h op (Ok Plain) holds.state holds.sound (as_record op (Ok Plain) model)) in (
        with_history (accepts h op) c,
        subst (λ (x : Bool). Own (Some c) (OnTree op) (Ok Plain) (Some (if x then with_history (accepts h op) c else c))) change own,
        record {
          groups = holds.groups;
          state = holds.state;
          history = accepts h op;
          sound = refl;
          holds = holds_accepted state left lot v w a b held homes c.form c.mode h op n
              (subst (λ (g : Form). MapRecovers g (mode_byte c.mode) lot (shown_by lot w (state b)) (next_tree op t) (done h + 1))
              (sym first) next) holds.holds;
        },
      )

  -- A refused change answers as the record, which stays, but for a fault, which stops the cube.
  pub refused_own : (op : Operation) (r : Refusal) (stopped : Bool) → is_change op ≡ true → ChangedAs state left lot op v a (Err r) w b
      → stopped ≡ nat_lt 14 (refusal_number r)
      → AnswersOwn (record { lot = lot; set = w.entries; done = n; stopped = stopped }) (state b) c (OnTree op) (Err (refused_of r))
  refused_own op r stopped change changed is =
      let h = holds.history in
      let t = tree_now h in
      let o : Option Why = refusal t (done h) (length lot.groups) form_one op in
      let model : AsModel (Err (refused_of r)) (answer t (done h) (length lot.groups) form_one op).0 = changed.answers (mode_byte c.mode)
      (done h) t told shown in
      elim (model_or_fault (Err (refused_of r)) (answer t (done h) (length lot.groups) form_one op).0 model) [
        | inl model ↦
            let low : nat_lt 14 (refusal_number r) ≡ false = low_refusal op r model changed.called.set in
            let few : refusal_number r ≤ 14 = grind (arith, nat_tests, low) in
            let known = as_known op r model in (
              c,
              subst (λ (d : Cube). Own (Some c) (OnTree op) (Err (refused_of r)) (Some d)) (refused_record op r model)
                  (own_answer c h op (Err (refused_of r)) holds.state holds.sound known),
              subst (λ (x : Bool). HoldsRecord (record { lot = lot; set = w.entries; done = n; stopped = x }) (state b) c) (sym low ∙ sym is)
                  (record {
                    groups = holds.groups;
                    state = holds.state;
                    history = h;
                    sound = holds.sound;
                    holds = holds_same state left lot v w a b held homes c.form c.mode h n (changed.same few) holds.holds;
                  }),
            )
        | inr fault ↦
            let none : paths_refusal c.form (paths op) ≡ None =
            subst (λ (g : Form). paths_refusal g (paths op) ≡ None) (sym first)
            (paths_none (paths_refusal form_one (paths op)) (Err r) changed.called.paths fault) in
            let own : Own (Some c) (OnTree op) (Err Fault) (Some (with_state Stopped c)) =
            subst (λ (x : Bool). Own (Some c) (OnTree op) (Err Fault) (Some (if x then with_state Stopped c else c))) change
            (own_fault c op holds.state none) in (
              with_state Stopped c,
              subst (λ (x : Response). Own (Some c) (OnTree op) x (Some (with_state Stopped c))) (sym fault) own,
              subst (λ (x : Bool). HoldsRecord (record { lot = lot; set = w.entries; done = n; stopped = x }) (state b) (with_state Stopped c))
                  (sym (fault_high r fault) ∙ sym is)
                  (record {
                    groups = holds.groups;
                    state = refl;
                    history = h;
                    sound = holds.sound;
                    holds =
                        holds_stopped state left c.form c.mode h
                        (record { lot = lot; set = v.entries; done = n; stopped = false }) w.entries n a b held.still.within holds.holds;
                  }),
            )
      ]
    where
      low_refusal : (op : Operation) (r : Refusal)
          → Err (refused_of r) ≡ (answer (tree_now holds.history) (done holds.history) (length lot.groups) form_one op).0 → refusal_number r ≤ 16
          → nat_lt 14 (refusal_number r) ≡ false
      low_refusal op r model few = elim (cases_Bool (nat_lt 14 (refusal_number r))) [
        | inr low ↦ low
        | inl high ↦ absurd (elim (high_refusal r (grind (arith, nat_tests, high)) few) [
          | inl fault ↦ answer-no_fault (tree_now holds.history) (done holds.history) (length lot.groups) form_one op
              (sym
              (subst (λ (x : Refusal). Err (refused_of x) ≡ (answer (tree_now holds.history) (done holds.history) (length lot.groups) form_one op).0) fault model))
          | inr damage ↦ refusal-no_damage (tree_now holds.history) (done holds.history) (length lot.groups) form_one op damage.0
              (refused_by (refusal (tree_now holds.history) (done holds.history) (length lot.groups) form_one op) op
              (tree_now holds.history) (why.Damaged damage.0)
              (subst (λ (x : Refusal). Err
              (refused_of x) ≡ (answer (tree_now holds.history) (done holds.history) (length lot.groups) form_one op).0) damage.1 model))
        ])
      ]

      as_known : (op : Operation) (r : Refusal) → Err (refused_of r) ≡ (answer (tree_now holds.history) (done holds.history) (length lot.groups) form_one op).0
          → Err (refused_of r) ≡ (answer (tree_now holds.history) (done holds.history) c.groups c.form op).0
      as_known op r model =
          subst (λ (g : Form). Err (refused_of r) ≡ (answer (tree_now holds.history) (done holds.history) c.groups g op).0) (sym first)
          (subst (λ (x : ℕ). Err (refused_of r) ≡ (answer (tree_now holds.history) (done holds.history) x form_one op).0) (sym holds.groups) model)

      refused_record : (op : Operation) (r : Refusal)
          → Err (refused_of r) ≡ (answer (tree_now holds.history) (done holds.history) (length lot.groups) form_one op).0
          → next_record c holds.history op (refusal (tree_now holds.history) (done holds.history) c.groups c.form op) ≡ c
      refused_record op r model = go (refusal (tree_now holds.history) (done holds.history) c.groups c.form op) (as_known op r model)
        where
          go : (o : Option Why) → Err (refused_of r) ≡ (answer_by o op (tree_now holds.history)).0 → next_record c holds.history op o ≡ c
          go (Some x) e = refl
          go None e = absurd (cc e)

  -- ---- checks

  same_after : shown_by lot w (state b) ≡ shown_by lot v (state a) → HoldsRecord (record { lot = lot; set = w.entries; done = n; stopped = false }) (state b) c
  same_after same = record {
    groups = holds.groups;
    state = holds.state;
    history = holds.history;
    sound = holds.sound;
    holds = holds_same state left lot v w a b held homes c.form c.mode holds.history n same holds.holds;
  }

  -- A check answers as the record.
  pub check_own : (s : Summary) → ((state a).tells ≡ true → Sums lot (shown_by lot v (state a)) s) → shown_by lot w (state b) ≡ shown_by lot v (state a)
      → AnswersOwn (record { lot = lot; set = w.entries; done = n; stopped = false }) (state b) c Check (Ok (Checked s.blocks s.nodes s.done))
  check_own s summed same =
      let h = holds.history in
      let sums = summed told in
      let m = shown_by lot v (state a) in
      let form : form_in m ≡ form_one = ap form_of shown.sub.version in
      let one = recovers_one form_one sums.mode (mode_byte c.mode) lot m sums.tree (tree_now h) s.done (done h)
      (subst (λ (g : Form). MapRecovers g sums.mode lot m sums.tree s.done) form sums.recovers) shown in
      let cost : s.blocks ≡ blocks c.form (tree_now h) =
      sums.blocks_are ∙ ap (λ (g : Form). blocks g sums.tree) (form ∙ sym first) ∙ ap (λ (t : Tree). blocks c.form t) one.0 in
      let size : s.nodes ≡ nodes (tree_now h) = sums.nodes_are ∙ ap (λ (t : Tree). nodes t) one.0 in
      let reply : Ok (Checked s.blocks s.nodes s.done) ≡ Ok (Checked (blocks c.form (tree_now h)) (nodes (tree_now h)) (done h)) =
      ap (λ (x : ℕ). Ok (Checked x s.nodes s.done)) cost ∙ ap (λ (x : ℕ). Ok (Checked (blocks c.form (tree_now h)) x s.done)) size
      ∙ ap (λ (x : ℕ). Ok (Checked (blocks c.form (tree_now h)) (nodes (tree_now h)) x)) one.1 in
      let plainly : CheckFinds c c.content c.state (on_check c (tree_now h) (done h)) =
      subst (λ (x : StateWord). CheckFinds c c.content x (on_check c (tree_now h) (done h))) (sym holds.state)
      (subst (λ (x : Content). CheckFinds c x Mounted (on_check c (tree_now h) (done h))) (sym holds.sound) refl) in
      (c, inl (on_check c (tree_now h) (done h), plainly, (reply, refl)), same_after same)

  -- A fault of a check is the record's, which stays.
  pub check_fault : shown_by lot w (state b) ≡ shown_by lot v (state a)
      → AnswersOwn (record { lot = lot; set = w.entries; done = n; stopped = false }) (state b) c Check (Err Fault)
  check_fault same = (c, inr (inl (refl, refl, refl)), same_after same)

  -- A check of a sound tree names no damage.
  pub check_sound : (result : Result Summary CheckFault)
      → ((f : Form) (mode k : ℕ) (t : Tree) → f ≡ form_of f.version → (state a).tells ≡ true
      → MapRecovers f mode lot (shown_by lot v (state a)) t k → IfErr result IsDisk)
      → (r : Rule) → result ≡ Err (check.Damaged r) → ⊥
  check_sound result exact r is =
      subst (λ (x : Result Summary CheckFault). IfErr x IsDisk) is
      (exact form_one (mode_byte c.mode) (done holds.history) (tree_now holds.history) refl told shown)

-- ---- before the change

-- a cube that goes on is of version 1
live_form : (e : CubeView) (s : DiskState) (c : Cube) → e.stopped ≡ false → HoldsRecord e s c → c.form ≡ form_one
live_form e s c live holds =
    let r = holds.holds.runs live in form_is_one c.form (mode_byte c.mode) e.lot (over e.set r.map) (tree_now holds.history)
    (done holds.history) r.form r.running

-- its record is mounted
live_state : (e : CubeView) (s : DiskState) (c : Cube) → e.stopped ≡ false → HoldsRecord e s c → c.state ≡ Mounted
live_state e s c live holds = holds.state ∙ ap open_state live

-- A refusal that the paths show is the record's.
pub names_own : (e : CubeView) (s : DiskState) (op : Operation) (r : Refusal) → (r ≡ code.NameLong) ⊎ (r ≡ code.TooDeep)
    → RefusedAs (refused_of r) (paths_refusal form_one (paths op))
    → e.stopped ≡ false → (c : Cube) → HoldsRecord e s c → AnswersOwn e s c (OnTree op) (Err (refused_of r))
names_own e s op r which found live c holds = elim which [
  | inl long ↦ subst (λ (x : Refusal). AnswersOwn e s c (OnTree op) (Err (refused_of x))) (sym long)
      (by why.NameLong (subst (λ (x : Refusal). RefusedAs (refused_of x) (paths_refusal form_one (paths op))) long found))
  | inr deep ↦ subst (λ (x : Refusal). AnswersOwn e s c (OnTree op) (Err (refused_of x))) (sym deep)
      (by why.TooDeep (subst (λ (x : Refusal). RefusedAs (refused_of x) (paths_refusal form_one (paths op))) deep found))
]
  where
    by : (x : Why) → paths_refusal form_one (paths op) ≡ Some x → AnswersOwn e s c (OnTree op) (Err (Because x))
    by x e' =
        let h = holds.history in
        let there : refusal (tree_now h) (done h) c.groups c.form op ≡ Some x =
        paths_answer (tree_now h) (done h) c.groups c.form op x
        (subst (λ (g : Form). paths_refusal g (paths op) ≡ Some x) (sym (live_form e s c live holds)) e') in
        let is : Err (Because x) ≡ (answer (tree_now h) (done h) c.groups c.form op).0 = ap (λ (o : Option Why). (answer_by o op (tree_now h)).0) (sym there) in
        (c, subst (λ (o : Option Why). Own (Some c) (OnTree op) (Err (Because x)) (Some (next_record c h op o))) there (own_answer c h op (Err (Because x)) (live_state e s c live holds) holds.sound is), holds)

-- A cube that goes on after a step that keeps what it holds has the same record,
pub same_record : (e : CubeView) (s : DiskState) (e' : CubeView) (s' : DiskState) → e'.lot ≡ e.lot → e.stopped ≡ false → e'.stopped ≡ false
    → ((f : Form) (mode : Mode) (h : History) → Holds f mode h e s → Holds f mode h e' s') → (c : Cube) → HoldsRecord e s c → HoldsRecord e' s' c
same_record e s e' s' lot live live' keeps c holds = record {
  groups = holds.groups ∙ ap (λ (l : LotView). length l.groups) (sym lot);
  state = holds.state ∙ ap open_state (live ∙ sym live');
  history = holds.history;
  sound = holds.sound;
  holds = keeps c.form c.mode holds.history holds.holds;
}

-- and one that a fault stopped answers the fault.
pub fault_own : (e : CubeView) (s : DiskState) (e' : CubeView) (s' : DiskState) (op : Operation) → e'.lot ≡ e.lot → e.stopped ≡ false → e'.stopped ≡ true
    → ((f : Form) (mode : Mode) (h : History) → Holds f mode h e s → Holds f mode h e' s') → is_change op ≡ true → paths_refusal form_one (paths op) ≡ None
    → (c : Cube) → HoldsRecord e s c → AnswersOwn e' s' c (OnTree op) (Err Fault)
fault_own e s e' s' op lot live dead keeps change none c holds = (
  with_state Stopped c,
  subst (λ (x : Bool). Own (Some c) (OnTree op) (Err Fault) (Some (if x then with_state Stopped c else c))) change
      (own_fault c op (live_state e s c live holds) (subst (λ (g : Form). paths_refusal g (paths op) ≡ None) (sym (live_form e s c live holds)) none)),
  record {
    groups = holds.groups ∙ ap (λ (l : LotView). length l.groups) (sym lot);
    state = sym (ap open_state dead);
    history = holds.history;
    sound = holds.sound;
    holds = keeps c.form c.mode holds.history holds.holds;
  },
)

-- A stopped cube answers that it is stopped.
pub stopped_own : (e : CubeView) (s : DiskState) (op : Operation) → e.stopped ≡ true → (c : Cube) → HoldsRecord e s c
    → AnswersOwn e s c (OnTree op) (Err (Because why.Stopped))
stopped_own e s op dead c holds = (c, own_stopped c op (holds.state ∙ ap open_state dead), holds)
