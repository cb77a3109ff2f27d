-- How the past of a host in memory grows.
use Rattle.std.proofs.Common.{◌≡◌, ◌⊎◌, ◌+◌, ◌-◌, ◌≤◌, ◌<◌, ◌^◌, ℕ, zero, suc, min, Bool, true, false, if◌then◌else◌, nat_lt, List, [], ◌∷◌, ◌++◌, length, length-append, slice_set, slice_index_or, take, inl, inr, ⊎_elim, refl, sym, ◌∙◌, ap, subst, arith}
use Rattle.std.proofs.lemmas.Bool.{false≢true, cases_eq, cases_lt}
use Rattle.std.proofs.lemmas.Bool.Decides.{nat_tests}
use Rattle.std.proofs.lemmas.List.{length-set, get_or-set_same, get_or-set_other, take-append-le, take_more, get_or_default, length-take-le}
use Rattle.std.proofs.Math.Seq.{take-append-add}
use Rattle.ice_base.specs.Disk.{Image, block}
use Rattle.ice_base.specs.Host.{FirstOf}
use Rattle.disk_mem.specs.Memory.{Moment, call_number, applied, loosened, after, past_of, fresh_state, IsLeft, LeftSince, Linked, agrees, all_given, settled_flag}
use Rattle.disk_mem.specs.Record.{FailedNoted}
use Rattle.disk_mem.specs.declared.step.Step.{Step}
use Rattle.disk_mem.specs.declared.step.Step.TheVariants.{Write, Failed, Barrier, Give}

after_push : (t : ℕ) (m : Moment) (steps : List Step) (s : Step)
    → after t m (steps ++ s ∷ []) ≡ (if nat_lt (call_number s) t then applied (after t m steps) s else after t m steps)
after_push t m [] s = refl
after_push t m (x ∷ steps) s = after_push t (if nat_lt (call_number x) t then applied m x else m) steps s

pub after_more : (t : ℕ) (m : Moment) (steps : List Step) (i : ℕ) (d : Step) → i < length steps
    → after t m (take (i + 1) steps)
    ≡ (if nat_lt (call_number (slice_index_or steps i d)) t then applied (after t m (take i steps)) (slice_index_or steps i d) else after t m (take i steps))
after_more t m steps i d less = ap (λ (x : List Step). after t m x) (take_more steps i d less) ∙ after_push t m (take i steps) (slice_index_or steps i d)

-- the first bytes of two parts, past the first part
take_past : (xs ys : List ℕ) (n : ℕ) → length xs ≤ n → take n (xs ++ ys) ≡ xs ++ take (n - length xs) ys
take_past xs ys n le = let e : n ≡ length xs + (n - length xs) = omega arith in ap (λ k. take k (xs ++ ys)) e ∙ take-append-add xs ys (n - length xs)

take_fewer : (xs : List ℕ) (m n : ℕ) → m ≤ n → take m (take n xs) ≡ take m xs
take_fewer [] zero zero le = refl
take_fewer [] zero (suc n) le = refl
take_fewer [] (suc m) (suc n) le = refl
take_fewer [] (suc m) zero le = absurd (omega arith)
take_fewer (x ∷ xs) zero n le = refl
take_fewer (x ∷ xs) (suc m) zero le = absurd (omega arith)
take_fewer (x ∷ xs) (suc m) (suc n) le = ap (λ t. x ∷ t) (take_fewer xs m n (omega arith))

-- some first bytes of a piece are some first bytes of all
pub some_first : (aside bytes : List ℕ) (n : ℕ) (out : List ℕ) → n ≤ length bytes
    → FirstOf aside (take n bytes) (length (take n bytes)) out → FirstOf aside bytes n out
some_first aside bytes n out le f =
    let few : f.0 ≤ n = omega (arith, f.1, length-take-le n bytes le) in
    (f.0, few, f.2 ∙ ap (λ (x : List ℕ). aside ++ x) (take_fewer bytes f.0 n few))

-- a step that one of the first t calls made
pub made : (t n : ℕ) (m m' : Moment) → n < t → (if nat_lt n t then m' else m) ≡ m'
made t n m m' less = grind (arith, nat_tests)

-- the moments up to this call stay, and the later ones have the step too
pub record Grows (calls : ℕ) (s : Step) (past later : ℕ → Moment) : Type 0 where
  pub old : (u : ℕ) → u ≤ calls → later u ≡ past u
  pub new : (u : ℕ) → calls < u → later u ≡ applied (past u) s

pub grows : (first : Image) (steps steps' : List Step) (s : Step) (calls : ℕ) → call_number s ≡ calls → steps' ≡ steps ++ s ∷ []
    → Grows calls s (past_of first steps) (past_of first steps')
grows first steps steps' s calls is e = record {
  old = λ u le. ap (λ (x : List Step). after u (fresh_state first) x) e ∙ after_push u (fresh_state first) steps s ∙ not_yet u le;
  new = λ u less. ap (λ (x : List Step). after u (fresh_state first) x) e ∙ after_push u (fresh_state first) steps s ∙ already u less;
}
  where
    not_yet : (u : ℕ) → u ≤ calls
        → (if nat_lt (call_number s) u then applied (after u (fresh_state first) steps) s else after u (fresh_state first) steps)
        ≡ after u (fresh_state first) steps
    not_yet u le = grind (arith, nat_tests, is)

    already : (u : ℕ) → calls < u
        → (if nat_lt (call_number s) u then applied (after u (fresh_state first) steps) s else after u (fresh_state first) steps)
        ≡ applied (after u (fresh_state first) steps) s
    already u less = grind (arith, nat_tests, is)

pub block_set_same : (image : Image) (at : ℕ) (bytes : List ℕ) → at < length image → block (slice_set image at bytes) at ≡ bytes
unfolding block
block_set_same image at bytes less = get_or-set_same image at bytes [] less

pub block_set_other : (image : Image) (at : ℕ) (bytes : List ℕ) (k : ℕ) → ¬ (k ≡ at) → block (slice_set image at bytes) k ≡ block image k
unfolding block
block_set_other image at bytes k other = get_or-set_other image at k bytes [] other

pub read_block : (image : Image) (k : ℕ) (bytes : List ℕ) → k < length image → bytes ≡ slice_index_or image k bytes → bytes ≡ block image k
unfolding block
read_block image k bytes less is = is ∙ get_or_default image k bytes [] less

pub flag_set : (flags : List Bool) (at : ℕ) → at < length flags → slice_index_or (slice_set flags at true) at false ≡ true
flag_set flags at less = get_or-set_same flags at true false less

pub flag_other : (flags : List Bool) (at k : ℕ) → ¬ (k ≡ at) → slice_index_or (slice_set flags at true) k false ≡ slice_index_or flags k false
flag_other flags at k other = get_or-set_other flags at k true false other

-- a marked block's flag stands, and the others' are as they were
marked : (flags : List Bool) (loose : ℕ → Bool) (at k : ℕ) → at < length flags → (loose k ≡ true → slice_index_or flags k false ≡ true)
    → loosened loose at k ≡ true → slice_index_or (slice_set flags at true) k false ≡ true
marked flags loose at k less was told = elim (cases_eq k at) [
  | inl same ↦ subst (λ x. slice_index_or (slice_set flags at true) x false ≡ true) (sym same) (flag_set flags at less)
  | inr other ↦ flag_other flags at k other ∙ was (there other)
]
  where
    there : ¬ (k ≡ at) → loose k ≡ true
    there other = grind (arith, nat_tests, told)

marked_only : (flags : List Bool) (loose : ℕ → Bool) (at k : ℕ) → (slice_index_or flags k false ≡ true → loose k ≡ true)
    → slice_index_or (slice_set flags at true) k false ≡ true → loosened loose at k ≡ true
marked_only flags loose at k was set = elim (cases_eq k at) as (λ _. loosened loose at k ≡ true) [
  | inl same ↦ grind (arith, nat_tests)
  | inr other ↦ let before = was (sym (flag_other flags at k other) ∙ set) in grind (arith, nat_tests)
]

module _ (past : ℕ → Moment) (calls remembered : ℕ) (blocks : Image) (flags : List Bool) (output : List ℕ)
    (linked : Linked past calls remembered blocks flags output) where
  -- what a crash shows of the present
  abbrev Now : Image → List ℕ → Type 0
  Now i o = (length i ≡ length blocks) × ((k : ℕ) → slice_index_or flags k false ≡ false → block i k ≡ block blocks k) × (o ≡ output)

  -- what a crash leaves after a call: as before it, or as the call leaves it
  pub left_grown : (later : ℕ → Moment) (d : ℕ) (output' : List ℕ) (Q : Image → List ℕ → Type 0) → ((u : ℕ) → u ≤ calls → later u ≡ past u)
      → ((n : ℕ) → n ≤ length output → take n output' ≡ take n output)
      → ((u : ℕ) → calls ≤ u → (i : Image) (o : List ℕ) → IsLeft output' (later u) (later (u + 1)) i o → Q i o)
      → (t : ℕ) (i : Image) (o : List ℕ) → LeftSince later d output' t i o → LeftSince past calls output t i o ⊎ Q i o
  left_grown later d output' Q old taken new t i o left = elim (cases_lt left.moment calls) [
    | inl less ↦
        let at = subst (λ (m : Moment). IsLeft output' m (later (left.moment + 1)) i o) (old left.moment (omega arith)) left.is in
        let is = subst (λ (m : Moment). IsLeft output' (past left.moment) m i o) (old (left.moment + 1) (omega arith)) at in
        let most : (past left.moment).given + is.more ≤ length output = omega (arith, is.few, linked.reach left.moment, linked.reach (left.moment + 1)) in
        inl (record { moment = left.moment; from = left.from; until = omega arith; is = record { count = is.count; same = is.same; more = is.more; few = is.few; given = is.given ∙ taken _ most } })
    | inr ge ↦ inr (new left.moment ge i o left.is)
  ]

  pub left_kept : (later : ℕ → Moment) (d : ℕ) (output' : List ℕ) → calls ≤ d → ((u : ℕ) → u ≤ calls → later u ≡ past u)
      → ((n : ℕ) → n ≤ length output → take n output' ≡ take n output)
      → (t : ℕ) (i : Image) (o : List ℕ) → LeftSince past calls output t i o → LeftSince later d output' t i o
  left_kept later d output' le old taken t i o left =
      let is = left.is in
      let most : (past left.moment).given + is.more ≤ length output = omega (arith, is.few, linked.reach left.moment, linked.reach (left.moment + 1)) in
      let few : is.more ≤ (later (left.moment + 1)).given - (past left.moment).given = elim (cases_lt left.moment calls) [
        | inl less ↦ subst (λ (m : Moment). is.more ≤ m.given - (past left.moment).given) (sym (old (left.moment + 1) (omega arith))) is.few
        | inr ge ↦ omega (arith, is.few, linked.given left.moment ge, linked.given (left.moment + 1) (omega arith))
      ] in record {
        moment = left.moment;
        from = left.from;
        until = omega (arith, left.until);
        is =
            subst (λ (m : Moment). IsLeft output' m (later (left.moment + 1)) i o) (sym (old left.moment left.until))
            (record { count = is.count; same = is.same; more = is.more; few = few; given = is.given ∙ sym (taken _ most) });
      }

  -- how many bytes had been given at each moment from now on, where the call gave none
  none_given : (s : Step) (later : ℕ → Moment) → Grows calls s past later → ((m : Moment) → (applied m s).given ≡ m.given) → (u : ℕ)
      → calls ≤ u → (later u).given ≡ length output
  none_given s later grown none u ge = elim (cases_lt calls u) [
    | inl less ↦ ap (λ (m : Moment). m.given) (grown.new u less) ∙ none (past u) ∙ linked.given u ge
    | inr le ↦ ap (λ (m : Moment). m.given) (grown.old u le) ∙ linked.given u ge
  ]

  -- at the moment of the call the image is one of the present
  image_now : (m : Moment) (i : Image) → m ≡ past calls → length i ≡ length m.now → ((k : ℕ) → m.loose k ≡ false → block i k ≡ block m.now k)
      → (length i ≡ length blocks) × ((k : ℕ) → slice_index_or flags k false ≡ false → block i k ≡ block blocks k)
  image_now m i e count same =
      let now : m.now ≡ blocks = ap (λ (x : Moment). x.now) e ∙ linked.now calls (omega arith) in (
        count ∙ ap (λ (x : Image). length x) now,
        λ k flag. same k
            (ap (λ (x : Moment). x.loose k) e ∙ settled_flag flags (past calls).loose k (linked.loose calls k (omega arith)) flag)
            ∙ ap (λ (x : Image). block x k) now,
      )

  at_call : (later : ℕ → Moment) (u : ℕ) → ((u : ℕ) → u ≤ calls → later u ≡ past u) → u ≤ calls → calls ≤ u → later u ≡ past calls
  at_call later u old le ge = let e : u ≡ calls = omega arith in old u le ∙ ap past e

  -- a call of which nothing is recorded
  pub linked_pass : (d : ℕ) → calls ≤ d → Linked past d remembered blocks flags output
  linked_pass d le = record {
    count = linked.count;
    reach = linked.reach;
    now = λ u ge. linked.now u (omega arith);
    given = λ u ge. linked.given u (omega arith);
    still = λ u ge. linked.still u (omega arith) ∙ sym (linked.still d (omega arith));
    loose = λ u k ge is. linked.loose u k (omega arith) is;
    exact = λ rem low u k ge set. linked.exact (omega arith) (omega arith) u k (omega arith) set;
    marks = linked.marks;
  }

  pub pass_left : (d t : ℕ) (i : Image) (o : List ℕ) → LeftSince past d output t i o → LeftSince past calls output t i o ⊎ Now i o
  pass_left d t i o left = left_grown past d output Now (λ u le. refl) (λ n le. refl)
      (λ u ge i o is. agrees past calls remembered blocks flags output linked u ge i o is) t i o left

  pub pass_kept : (d t : ℕ) (i : Image) (o : List ℕ) → calls ≤ d → LeftSince past calls output t i o → LeftSince past d output t i o
  pass_kept d t i o le left = left_kept past d output le (λ u less. refl) (λ n less. refl) t i o left

  -- a good write
  pub linked_write : (later : ℕ → Moment) (d at : ℕ) (bytes : List ℕ) → Grows calls (Write calls at bytes) past later → calls < d → at < length blocks
      → Linked later d remembered (slice_set blocks at bytes) (slice_set flags at true) output
  linked_write later d at bytes grown less fits = record {
    count = λ u. elim (cases_lt calls u) [
      | inl after_it ↦
          ap (λ (m : Moment). length m.now) (grown.new u after_it) ∙ length-set (past u).now at bytes ∙ linked.count u ∙ sym (length-set blocks at bytes)
      | inr before_it ↦ ap (λ (m : Moment). length m.now) (grown.old u before_it) ∙ linked.count u ∙ sym (length-set blocks at bytes)
    ];
    reach = λ u. elim (cases_lt calls u) [
      | inl after_it ↦ subst (λ x. x ≤ length output) (sym (ap (λ (m : Moment). m.given) (grown.new u after_it))) (linked.reach u)
      | inr before_it ↦ subst (λ x. x ≤ length output) (sym (ap (λ (m : Moment). m.given) (grown.old u before_it))) (linked.reach u)
    ];
    now = λ u ge. ap (λ (m : Moment). m.now) (grown.new u (omega arith)) ∙ ap (λ (x : Image). slice_set x at bytes) (linked.now u (omega arith));
    given = λ u ge. ap (λ (m : Moment). m.given) (grown.new u (omega arith)) ∙ linked.given u (omega arith);
    still =
        λ u ge. ap (λ (m : Moment). m.settled) (grown.new u (omega arith)) ∙ linked.still u (omega arith)
        ∙ sym (linked.still d (omega arith)) ∙ sym (ap (λ (m : Moment). m.settled) (grown.new d (omega arith)));
    loose =
        λ u k ge is. marked flags (past u).loose at k (omega (arith, linked.marks)) (λ l. linked.loose u k (omega arith) l)
        (sym (ap (λ (m : Moment). m.loose k) (grown.new u (omega arith))) ∙ is);
    exact =
        λ rem low u k ge set. ap (λ (m : Moment). m.loose k) (grown.new u (omega arith))
        ∙ marked_only flags (past u).loose at k (λ f. linked.exact (omega arith) (omega arith) u k (omega arith) f) set;
    marks = length-set flags at true ∙ linked.marks ∙ sym (length-set blocks at bytes);
  }

  -- what a crash shows of the present but for one block
  abbrev But : ℕ → Image → List ℕ → Type 0
  But at i o = (length i ≡ length blocks) × ((k : ℕ) → ¬ (k ≡ at) → slice_index_or flags k false ≡ false → block i k ≡ block blocks k) × (o ≡ output)

  still : (u at k : ℕ) → calls ≤ u → ¬ (k ≡ at) → slice_index_or flags k false ≡ false → loosened (past u).loose at k ≡ false
  still u at k ge other flag = let is = settled_flag flags (past u).loose k (linked.loose u k ge) flag in grind (arith, nat_tests)

  pub write_left : (later : ℕ → Moment) (d at : ℕ) (bytes : List ℕ) → Grows calls (Write calls at bytes) past later
      → (t : ℕ) (i : Image) (o : List ℕ) → LeftSince later d output t i o → LeftSince past calls output t i o ⊎ But at i o
  write_left later d at bytes grown t i o left = left_grown later d output (But at) grown.old (λ n le. refl) go t i o left
    where
      given : (u : ℕ) → calls ≤ u → (later u).given ≡ length output
      given = none_given (Write calls at bytes) later grown (λ m. refl)

      go : (u : ℕ) → calls ≤ u → (i : Image) (o : List ℕ) → IsLeft output (later u) (later (u + 1)) i o → But at i o
      go u ge i o is = let out = all_given output (later u) (later (u + 1)) i o (given u ge) (given (u + 1) (omega arith)) is in elim (cases_lt calls u) [
        | inl less ↦ let l = subst (λ (m : Moment). IsLeft output m (later (u + 1)) i o) (grown.new u less) is in (
          l.count ∙ length-set (past u).now at bytes ∙ linked.count u,
          λ k other flag. l.same k (still u at k ge other flag) ∙ block_set_other (past u).now at bytes k other
              ∙ ap (λ (x : Image). block x k) (linked.now u ge),
          out,
        )
        | inr le ↦ let now = image_now (later u) i (at_call later u grown.old le ge) is.count is.same in (now.0, λ k other flag. now.1 k flag, out)
      ]

  -- a failed write that is remembered
  pub linked_mark : (later : ℕ → Moment) (d at : ℕ) → Grows calls (Failed calls at) past later → d ≡ min (calls + 1) (2 ^ 64 - 1)
      → calls ≤ 2 ^ 64 - 1 → at < length blocks
      → Linked later d remembered blocks (slice_set flags at true) output
  linked_mark later d at grown step last fits = record {
    count = λ u. elim (cases_lt calls u) [
      | inl after_it ↦ ap (λ (m : Moment). length m.now) (grown.new u after_it) ∙ linked.count u
      | inr before_it ↦ ap (λ (m : Moment). length m.now) (grown.old u before_it) ∙ linked.count u
    ];
    reach = λ u. elim (cases_lt calls u) [
      | inl after_it ↦ subst (λ x. x ≤ length output) (sym (ap (λ (m : Moment). m.given) (grown.new u after_it))) (linked.reach u)
      | inr before_it ↦ subst (λ x. x ≤ length output) (sym (ap (λ (m : Moment). m.given) (grown.old u before_it))) (linked.reach u)
    ];
    now = λ u ge. elim (cases_lt calls u) [
      | inl after_it ↦ ap (λ (m : Moment). m.now) (grown.new u after_it) ∙ linked.now u (omega arith)
      | inr before_it ↦ ap (λ (m : Moment). m.now) (grown.old u before_it) ∙ linked.now u (omega arith)
    ];
    given = λ u ge. elim (cases_lt calls u) [
      | inl after_it ↦ ap (λ (m : Moment). m.given) (grown.new u after_it) ∙ linked.given u (omega arith)
      | inr before_it ↦ ap (λ (m : Moment). m.given) (grown.old u before_it) ∙ linked.given u (omega arith)
    ];
    still = λ u ge. mark_settled u (omega arith) ∙ sym (mark_settled d (omega arith));
    loose = λ u k ge is. elim (cases_lt calls u) [
      | inl after_it ↦
          marked flags (past u).loose at k (omega (arith, linked.marks)) (λ l. linked.loose u k (omega arith) l)
          (sym (ap (λ (m : Moment). m.loose k) (grown.new u after_it)) ∙ is)
      | inr before_it ↦ mark_stays k (linked.loose u k (omega arith) (sym (ap (λ (m : Moment). m.loose k) (grown.old u before_it)) ∙ is))
    ];
    exact =
        λ rem low u k ge set. ap (λ (m : Moment). m.loose k) (grown.new u (omega arith))
        ∙ marked_only flags (past u).loose at k (λ f. linked.exact (omega arith) (omega arith) u k (omega arith) f) set;
    marks = length-set flags at true ∙ linked.marks;
  }
    where
      mark_settled : (u : ℕ) → calls ≤ u → (later u).settled ≡ (past calls).settled
      mark_settled u ge = elim (cases_lt calls u) [
        | inl after_it ↦ ap (λ (m : Moment). m.settled) (grown.new u after_it) ∙ linked.still u ge
        | inr before_it ↦ ap (λ (m : Moment). m.settled) (grown.old u before_it) ∙ linked.still u ge
      ]

      mark_stays : (k : ℕ) → slice_index_or flags k false ≡ true → slice_index_or (slice_set flags at true) k false ≡ true
      mark_stays k was = elim (cases_eq k at) [
        | inl same ↦ subst (λ x. slice_index_or (slice_set flags at true) x false ≡ true) (sym same) (flag_set flags at (omega (arith, linked.marks)))
        | inr other ↦ flag_other flags at k other ∙ was
      ]

  pub mark_left : (later : ℕ → Moment) (d at : ℕ) → Grows calls (Failed calls at) past later
      → (t : ℕ) (i : Image) (o : List ℕ) → LeftSince later d output t i o → LeftSince past calls output t i o ⊎ But at i o
  mark_left later d at grown t i o left = left_grown later d output (But at) grown.old (λ n le. refl) go t i o left
    where
      given : (u : ℕ) → calls ≤ u → (later u).given ≡ length output
      given = none_given (Failed calls at) later grown (λ m. refl)

      go : (u : ℕ) → calls ≤ u → (i : Image) (o : List ℕ) → IsLeft output (later u) (later (u + 1)) i o → But at i o
      go u ge i o is = let out = all_given output (later u) (later (u + 1)) i o (given u ge) (given (u + 1) (omega arith)) is in elim (cases_lt calls u) [
        | inl less ↦ let l = subst (λ (m : Moment). IsLeft output m (later (u + 1)) i o) (grown.new u less) is in (
          l.count ∙ linked.count u,
          λ k other flag. l.same k (still u at k ge other flag) ∙ ap (λ (x : Image). block x k) (linked.now u ge),
          out,
        )
        | inr le ↦ let now = image_now (later u) i (at_call later u grown.old le ge) is.count is.same in (now.0, λ k other flag. now.1 k flag, out)
      ]

  -- a failed write that is not
  pub linked_lost : (d at remembered' : ℕ) → remembered' ≡ min calls remembered → d ≡ min (calls + 1) (2 ^ 64 - 1) → calls ≤ 2 ^ 64 - 1 → at < length blocks
      → Linked past d remembered' blocks (slice_set flags at true) output
  linked_lost d at remembered' lost step last fits = record {
    count = linked.count;
    reach = linked.reach;
    now = λ u ge. linked.now u (omega arith);
    given = λ u ge. linked.given u (omega arith);
    still = λ u ge. linked.still u (omega arith) ∙ sym (linked.still d (omega arith));
    loose = λ u k ge is. mark_stays k (linked.loose u k (omega arith) is);
    exact = λ rem low u k ge set. absurd (omega arith);
    marks = length-set flags at true ∙ linked.marks;
  }
    where
      mark_stays : (k : ℕ) → slice_index_or flags k false ≡ true → slice_index_or (slice_set flags at true) k false ≡ true
      mark_stays k was = elim (cases_eq k at) [
        | inl same ↦ subst (λ x. slice_index_or (slice_set flags at true) x false ≡ true) (sym same) (flag_set flags at (omega (arith, linked.marks)))
        | inr other ↦ flag_other flags at k other ∙ was
      ]

  -- a good barrier
  pub linked_barrier : (later : ℕ → Moment) (d : ℕ) (flags' : List Bool) → Grows calls (Barrier calls) past later → calls < d
      → ((k : ℕ) → slice_index_or flags' k false ≡ false) → length flags' ≡ length flags
      → Linked later d remembered blocks flags' output
  linked_barrier later d flags' grown less clear marks = record {
    count = λ u. elim (cases_lt calls u) [
      | inl after_it ↦ ap (λ (m : Moment). length m.now) (grown.new u after_it) ∙ linked.count u
      | inr before_it ↦ ap (λ (m : Moment). length m.now) (grown.old u before_it) ∙ linked.count u
    ];
    reach = λ u. elim (cases_lt calls u) [
      | inl after_it ↦ subst (λ x. x ≤ length output) (sym (ap (λ (m : Moment). m.given) (grown.new u after_it))) (linked.reach u)
      | inr before_it ↦ subst (λ x. x ≤ length output) (sym (ap (λ (m : Moment). m.given) (grown.old u before_it))) (linked.reach u)
    ];
    now = λ u ge. ap (λ (m : Moment). m.now) (grown.new u (omega arith)) ∙ linked.now u (omega arith);
    given = λ u ge. ap (λ (m : Moment). m.given) (grown.new u (omega arith)) ∙ linked.given u (omega arith);
    still =
        λ u ge. ap (λ (m : Moment). m.settled) (grown.new u (omega arith)) ∙ linked.now u (omega arith) ∙ sym (linked.now d (omega arith))
        ∙ sym (ap (λ (m : Moment). m.settled) (grown.new d (omega arith)));
    loose = λ u k ge is. absurd (false≢true (sym (ap (λ (m : Moment). m.loose k) (grown.new u (omega arith))) ∙ is));
    exact = λ rem low u k ge set. absurd (false≢true (sym (clear k) ∙ set));
    marks = marks ∙ linked.marks;
  }

  pub barrier_left : (later : ℕ → Moment) (d : ℕ) → Grows calls (Barrier calls) past later
      → (t : ℕ) (i : Image) (o : List ℕ) → LeftSince later d output t i o → LeftSince past calls output t i o ⊎ Now i o
  barrier_left later d grown t i o left = left_grown later d output Now grown.old (λ n le. refl) go t i o left
    where
      given : (u : ℕ) → calls ≤ u → (later u).given ≡ length output
      given = none_given (Barrier calls) later grown (λ m. refl)

      go : (u : ℕ) → calls ≤ u → (i : Image) (o : List ℕ) → IsLeft output (later u) (later (u + 1)) i o → Now i o
      go u ge i o is = let out = all_given output (later u) (later (u + 1)) i o (given u ge) (given (u + 1) (omega arith)) is in elim (cases_lt calls u) [
        | inl less ↦ let l = subst (λ (m : Moment). IsLeft output m (later (u + 1)) i o) (grown.new u less) is in (
          l.count ∙ linked.count u,
          λ k flag. l.same k refl ∙ ap (λ (x : Image). block x k) (linked.now u ge),
          out,
        )
        | inr le ↦ let now = image_now (later u) i (at_call later u grown.old le ge) is.count is.same in (now.0, now.1, out)
      ]

  -- a good give
  pub linked_give : (later : ℕ → Moment) (d : ℕ) (more longer : List ℕ) → Grows calls (Give calls (length output + length more)) past later
      → longer ≡ output ++ more → calls < d
      → Linked later d remembered blocks flags longer
  linked_give later d more longer grown is less = subst (λ (x : List ℕ). Linked later d remembered blocks flags x) (sym is) (record {
    count = λ u. elim (cases_lt calls u) [
      | inl after_it ↦ ap (λ (m : Moment). length m.now) (grown.new u after_it) ∙ linked.count u
      | inr before_it ↦ ap (λ (m : Moment). length m.now) (grown.old u before_it) ∙ linked.count u
    ];
    reach = λ u. elim (cases_lt calls u) [
      | inl after_it ↦
          subst (λ x. x ≤ length (output ++ more)) (sym (ap (λ (m : Moment). m.given) (grown.new u after_it))) (omega (arith, length-append output more))
      | inr before_it ↦
          subst (λ x. x ≤ length (output ++ more)) (sym (ap (λ (m : Moment). m.given) (grown.old u before_it)))
          (omega (arith, linked.reach u, length-append output more))
    ];
    now = λ u ge. ap (λ (m : Moment). m.now) (grown.new u (omega arith)) ∙ linked.now u (omega arith);
    given = λ u ge. ap (λ (m : Moment). m.given) (grown.new u (omega arith)) ∙ sym (length-append output more);
    still =
        λ u ge. ap (λ (m : Moment). m.settled) (grown.new u (omega arith)) ∙ linked.still u (omega arith)
        ∙ sym (linked.still d (omega arith)) ∙ sym (ap (λ (m : Moment). m.settled) (grown.new d (omega arith)));
    loose = λ u k ge is. linked.loose u k (omega arith) (sym (ap (λ (m : Moment). m.loose k) (grown.new u (omega arith))) ∙ is);
    exact = λ rem low u k ge set. ap (λ (m : Moment). m.loose k) (grown.new u (omega arith)) ∙ linked.exact (omega arith) (omega arith) u k (omega arith) set;
    marks = linked.marks;
  })

  grown_take : (more longer : List ℕ) → longer ≡ output ++ more → (n : ℕ) → n ≤ length output → take n longer ≡ take n output
  grown_take more longer is n le = ap (λ (x : List ℕ). take n x) is ∙ take-append-le n output more le

  -- what a crash shows of the present, with some more given
  abbrev Given : List ℕ → Image → List ℕ → Type 0
  Given more i o =
      (length i ≡ length blocks) × ((k : ℕ) → slice_index_or flags k false ≡ false → block i k ≡ block blocks k) × FirstOf output more (length more) o

  -- the first bytes of what is longer
  front_given : (more longer o : List ℕ) (n : ℕ) → longer ≡ output ++ more → length output ≤ n → n ≤ length output + length more
      → o ≡ take n longer → FirstOf output more (length more) o
  front_given more longer o n is low high e = (n - length output, omega arith, e ∙ ap (λ (x : List ℕ). take n x) is ∙ take_past output more n low)

  pub give_left : (later : ℕ → Moment) (d : ℕ) (more longer : List ℕ) → Grows calls (Give calls (length output + length more)) past later
      → longer ≡ output ++ more
      → (t : ℕ) (i : Image) (o : List ℕ) → LeftSince later d longer t i o
      → LeftSince past calls output t i o ⊎ Given more i o
  give_left later d more longer grown is t i o left = left_grown later d longer (Given more) grown.old (grown_take more longer is) go t i o left
    where
      given : (u : ℕ) → calls < u → (later u).given ≡ length output + length more
      given u less = ap (λ (m : Moment). m.given) (grown.new u less)

      go : (u : ℕ) → calls ≤ u → (i : Image) (o : List ℕ) → IsLeft longer (later u) (later (u + 1)) i o → Given more i o
      go u ge i o left = elim (cases_lt calls u) [
        | inl less ↦ let l = subst (λ (m : Moment). IsLeft longer m (later (u + 1)) i o) (grown.new u less) left in (
          l.count ∙ linked.count u,
          λ k flag. l.same k (settled_flag flags (past u).loose k (linked.loose u k ge) flag) ∙ ap (λ (x : Image). block x k) (linked.now u ge),
          front_given more longer o ((later u).given + left.more) is (omega (arith, given u less))
              (omega (arith, left.few, given u less, given (u + 1) (omega arith))) left.given,
        )
        | inr le ↦
            let now = image_now (later u) i (at_call later u grown.old le ge) left.count left.same in
            let at : (later u).given ≡ length output = ap (λ (m : Moment). m.given) (grown.old u le) ∙ linked.given u ge in
            (now.0, now.1, front_given more longer o ((later u).given + left.more) is (omega arith) (omega (arith, left.few, given (u + 1) (omega arith))) left.given)
      ]

  pub give_kept : (later : ℕ → Moment) (d : ℕ) (more longer : List ℕ) → Grows calls (Give calls (length output + length more)) past later
      → longer ≡ output ++ more → calls ≤ d
      → (t : ℕ) (i : Image) (o : List ℕ) → LeftSince past calls output t i o → LeftSince later d longer t i o
  give_kept later d more longer grown is le t i o left = left_kept later d longer le grown.old (grown_take more longer is) t i o left

  pub grown_kept : (s : Step) (later : ℕ → Moment) (d : ℕ) → Grows calls s past later → calls ≤ d → (t : ℕ) (i : Image) (o : List ℕ)
      → LeftSince past calls output t i o → LeftSince later d output t i o
  grown_kept s later d grown le t i o left = left_kept later d output le grown.old (λ n le. refl) t i o left

  -- a good write settles nothing
  pub write_settled : (later : ℕ → Moment) (d at : ℕ) (bytes : List ℕ) → Grows calls (Write calls at bytes) past later → calls < d
      → (later d).settled ≡ (past calls).settled
  write_settled later d at bytes grown less = ap (λ (m : Moment). m.settled) (grown.new d less) ∙ linked.still d (omega arith)

  pub give_settled : (later : ℕ → Moment) (d until : ℕ) → Grows calls (Give calls until) past later → calls < d → (later d).settled ≡ (past calls).settled
  give_settled later d until grown less = ap (λ (m : Moment). m.settled) (grown.new d less) ∙ linked.still d (omega arith)

  pub mark_settled : (later : ℕ → Moment) (d at : ℕ) → Grows calls (Failed calls at) past later → calls ≤ d → (later d).settled ≡ (past calls).settled
  mark_settled later d at grown le = elim (cases_lt calls d) [
    | inl after_it ↦ ap (λ (m : Moment). m.settled) (grown.new d after_it) ∙ linked.still d le
    | inr before_it ↦ ap (λ (m : Moment). m.settled) (grown.old d before_it) ∙ linked.still d le
  ]

-- a failed write, remembered or not
module _ (first : Image) (steps steps' : List Step) (calls remembered remembered' : ℕ) (blocks : Image) (flags : List Bool)
    (output : List ℕ) (linked : Linked (past_of first steps) calls remembered blocks flags output)
    (at d : ℕ) (noted : FailedNoted calls at steps steps' remembered remembered') (step : d ≡ min (calls + 1) (2 ^ 64 - 1)) (last : calls ≤ 2 ^ 64 - 1) where
  pub failed_linked : at < length blocks → Linked (past_of first steps') d remembered' blocks (slice_set flags at true) output
  failed_linked fits = ⊎_elim
      (λ is. subst (λ r. Linked (past_of first steps') d r blocks (slice_set flags at true) output) (sym is.1)
      (linked_mark (past_of first steps) calls remembered blocks flags output linked (past_of first steps') d at
      (grows first steps steps' (Failed calls at) calls refl is.0) step last fits))
      (λ is. subst (λ (x : List Step). Linked (past_of first x) d remembered' blocks (slice_set flags at true) output) (sym is.0)
      (linked_lost (past_of first steps) calls remembered blocks flags output linked d at remembered' is.1 step last fits)) noted

  pub failed_left : (t : ℕ) (i : Image) (o : List ℕ) → LeftSince (past_of first steps') d output t i o
      → LeftSince (past_of first steps) calls output t i o ⊎ But (past_of first steps) calls remembered blocks flags output linked at i o
  failed_left t i o left = ⊎_elim
      (λ is. mark_left (past_of first steps) calls remembered blocks flags output linked (past_of first steps') d at
      (grows first steps steps' (Failed calls at) calls refl is.0) t i o left)
      (λ is. ⊎_elim (λ l. inl l) (λ now. inr (now.0, λ k other flag. now.1 k flag, now.2))
      (pass_left (past_of first steps) calls remembered blocks flags output linked d t i o
      (subst (λ (x : List Step). LeftSince (past_of first x) d output t i o) is.0 left))) noted

  pub failed_kept : (t : ℕ) (i : Image) (o : List ℕ) → LeftSince (past_of first steps) calls output t i o → LeftSince (past_of first steps') d output t i o
  failed_kept t i o left = ⊎_elim
      (λ is. grown_kept (past_of first steps) calls remembered blocks flags output linked (Failed calls at) (past_of first steps') d
      (grows first steps steps' (Failed calls at) calls refl is.0) (omega arith) t i o left)
      (λ is. subst (λ (x : List Step). LeftSince (past_of first x) d output t i o) (sym is.0)
      (pass_kept (past_of first steps) calls remembered blocks flags output linked d t i o (omega arith) left)) noted

  pub failed_past : (t : ℕ) → t ≤ calls → past_of first steps' t ≡ past_of first steps t
  failed_past t le = ⊎_elim
      (λ is. let grown = grows first steps steps' (Failed calls at) calls refl is.0 in grown.old t le)
      (λ is. ap (λ (x : List Step). past_of first x t) is.0) noted

  pub failed_settled : (past_of first steps' d).settled ≡ (past_of first steps calls).settled
  failed_settled = ⊎_elim
      (λ is. mark_settled (past_of first steps) calls remembered blocks flags output linked (past_of first steps') d at
      (grows first steps steps' (Failed calls at) calls refl is.0) (omega arith))
      (λ is. ap (λ (x : List Step). (past_of first x d).settled) is.0 ∙ linked.still d (omega arith)) noted
