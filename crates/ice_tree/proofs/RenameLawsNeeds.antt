-- What a rename needs of a quota.
use Rattle.std.proofs.Common.{◌≡◌, ◌≢◌, ◌<◌, ◌+◌, ◌-◌, ◌*◌, ℕ, Bool, true, false, List, [], ◌∷◌, ◌++◌, length, Option, Some, None, sym, refl, subst, ap, ◌∙◌, arith, nat_lt, nat_eq, T, cond, inl, inr}
use Rattle.std.specs.Prelude.{◌&&◌, ◌⊎◌, if◌then◌else◌}
use Rattle.std.specs.FinMap.{find}
use Rattle.std.proofs.lemmas.Bool.Decides.{nat_tests}
use Rattle.std.proofs.lemmas.List.{append-nil}
use Rattle.ice_base.specs.Lots.{LotView}
use Rattle.ice_base.specs.Used.{used_inode}
use Rattle.ice_map.specs.Maps.{times}
use Rattle.tree_spec.specs.Why.{Why}
use Rattle.tree_spec.specs.Why as why
use Rattle.tree_spec.specs.Trees.{Tree, File, Dir, Entries, Walk, Found, NotFound, NotDir, walk, parent, last_name, rows, by_bytes, child, and_on, found_or_not, at, without, without_entry, total, is_ordered}
use Rattle.tree_spec.specs.Costs.{Form, nodes, blocks, map_cost, file_blocks, dir_blocks}
use Rattle.tree_spec.specs.Operations.{Rename}
use Rattle.tree_spec.specs.Routes.{is_prefix, is_same_name}
use Rattle.tree_spec.specs.Answers.{refusal, next_tree, moved_tree, most_done, is_root}
use Rattle.tree_spec.proofs.Trees.{same_name, is_same_name-refl, child-without_entry, find-over, on_some, parent-last, walk-at}
use Rattle.tree_spec.proofs.Sums.{length-over}
use Rattle.tree_spec.proofs.Accepted.{entry_walk}
use Rattle.tree_spec.proofs.Changes.{Moves, accepted-rename, next-rename, placed, removed, total-placed, total-removed, length-removed}
use Rattle.ice_reads.specs.Tables.{Map}
use Rattle.ice_map.specs.Own.{own}
use Rattle.ice_reads.specs.Reads.{Reads, inode_on}
use Rattle.ice_reads.specs.Recovers.{MapRecovers}
use Rattle.ice_reads.proofs.Focus.{Reads-part}
use Rattle.ice_reads.proofs.Frames.{times-here}
use Rattle.ice_reads.proofs.Sorted.{Reads-ordered}
use Rattle.ice_reads.proofs.Walks.{two_walks}
use Rattle.ice_steps.proofs.Counts.{mark-small}
use Rattle.ice_tree.specs.declared.quota.Need.{Need}
use Rattle.ice_tree.specs.declared.renames.Move.{Move}
use Rattle.ice_tree.specs.Quotas.{Needs, done_refusal}
use Rattle.ice_tree.specs.Renames.{move_refusal, IsMove}
use Rattle.ice_look.specs.Stages.{paths_refusal}
use Rattle.ice_tree.proofs.StageLaws.{none-both}
use Rattle.ice_tree.proofs.RenameLaws.{rename-stages}

abbrev Names : Type 0
Names = List (List ℕ)

-- ---- equal paths

prefix-same : (p q : Names) → is_prefix p q ≡ true → is_prefix q p ≡ true → p ≡ q
prefix-same [] [] a b = refl
prefix-same [] (d ∷ q) a b = absurd (subst T (sym b) tt)
prefix-same (c ∷ p) [] a b = absurd (subst T (sym a) tt)
prefix-same (c ∷ p) (d ∷ q) a b = λ z. same_name c d (first _ _ a) z ∷ prefix-same p q (second _ _ a) (second _ _ b) z
  where
    first : (x y : Bool) → (x && y) ≡ true → x ≡ true
    first true y h = refl
    first false y h = h

    second : (x y : Bool) → (x && y) ≡ true → y ≡ true
    second true y h = h
    second false y h = absurd (subst T (sym h) tt)

prefix-refl : (p : Names) → is_prefix p p ≡ true
prefix-refl [] = refl
prefix-refl (c ∷ p) = λ z. is_same_name-refl c z && prefix-refl p z

-- two paths are the same or they are not
decide : (p q : Names) → (p ≡ q) ⊎ (p ≢ q)
decide p q = elim (is_prefix p q) as (λ a. is_prefix p q ≡ a → (p ≡ q) ⊎ (p ≢ q)) [
  | true ↦ λ a. elim (is_prefix q p) as (λ b. is_prefix q p ≡ b → (p ≡ q) ⊎ (p ≢ q)) [
    | true ↦ λ b. inl (prefix-same p q a b)
    | false ↦ λ b. inr (λ e. no (is_prefix q p) (ap (λ x. is_prefix q x) e ∙ prefix-refl q) b)
  ] refl
  | false ↦ λ a. inr (λ e. no (is_prefix p q) (ap (λ x. is_prefix p x) (sym e) ∙ prefix-refl p) a)
] refl
  where
    no : (b : Bool) → b ≡ true → b ≡ false → ⊥
    no b h k = cc

-- ---- the entries of a directory that a loss leaves

-- the number of entries of the directory found
abbrev count : Walk → ℕ
count (Found (File bytes)) = 0
count (Found (Dir es)) = length (rows es)
count NotFound = 0
count NotDir = 0

count_step : (o : Option Tree) (h : Tree → Tree) (go : Tree → Walk) → ((u : Tree) → count (go (h u)) ≡ count (go u))
    → count (and_on (found_or_not (on_some h o)) go) ≡ count (and_on (found_or_not o) go)
count_step None h go is = refl
count_step (Some u) h go is = is u

false_of : (x : Bool) → (x && true) ≡ false → x ≡ false
false_of true h = h
false_of false h = refl

not_both : (x y : Bool) → (x && y) ≡ false → x ≡ true → y ≡ false
not_both true y h e = h
not_both false y h e = absurd (subst T (sym e) tt)

-- but for the directory that loses the entry, each has as many entries as before
count-left : (p : Names) (c : List ℕ) (q : Names) (t : Tree) → p ≢ q → is_prefix (p ++ c ∷ []) q ≡ false
    → count (walk q (at p (without_entry c) t)) ≡ count (walk q t)
count-left [] c [] t ne h = absurd (ne refl)
count-left [] c (d ∷ q) (File bytes) ne h = refl
count-left [] c (d ∷ q) (Dir es) ne h =
    ap (λ w. count (and_on w (λ u. walk q u))) (child-without_entry c d es ∙ ap (λ b. cond b NotFound (child d (Dir es))) (false_of (is_same_name c d) h))
count-left (x ∷ p) c [] (File bytes) ne h = refl
count-left (x ∷ p) c [] (Dir es) ne h = length-over x (λ u. at p (without_entry c) u) es
count-left (x ∷ p) c (d ∷ q) (File bytes) ne h = refl
count-left (x ∷ p) c (d ∷ q) (Dir es) ne h =
    ap (λ o. count (and_on (found_or_not o) (λ u. walk q u))) (find-over x d (λ u. at p (without_entry c) u) es)
    ∙ elim (is_same_name x d) as (λ b. is_same_name x d ≡ b
    → count (and_on (found_or_not (cond b (on_some (λ u. at p (without_entry c) u) (find by_bytes d (rows es))) (find by_bytes d (rows es)))) (λ u. walk q u))
    ≡ count (and_on (found_or_not (find by_bytes d (rows es))) (λ u. walk q u))) [
      | true ↦ λ e. count_step (find by_bytes d (rows es)) (λ u. at p (without_entry c) u) (λ u. walk q u)
          (λ u. count-left p c q u (λ z. ne (λ j. same_name x d e j ∷ z j)) (not_both (is_same_name x d) _ h e))
      | false ↦ λ e. refl
    ] refl

-- the directory that loses it
count-here : (p : Names) (c : List ℕ) (t : Tree) (es : Entries) → walk p t ≡ Found (Dir es)
    → count (walk p (at p (without_entry c) t)) ≡ length (rows (without c es))
count-here p c t es h =
    ap (λ x. count (walk x (at p (without_entry c) t))) (sym (append-nil p)) ∙ ap count (walk-at p [] (without_entry c) t)
    ∙ ap (λ w. count (and_on w (λ u. walk [] (without_entry c u)))) h

-- a path that doesn't begin another doesn't begin the path of its directory
not-above : (p q : Names) → is_prefix p q ≡ false → is_prefix p (parent q) ≡ false
not-above [] q h = h
not-above (c ∷ p) [] h = refl
not-above (c ∷ p) (d ∷ []) h = refl
not-above (c ∷ p) (d ∷ e ∷ q) h = below (is_same_name c d) (is_prefix p (e ∷ q)) (is_prefix p (parent (e ∷ q))) h (not-above p (e ∷ q))
  where
    below : (x y z : Bool) → (x && y) ≡ false → (y ≡ false → z ≡ false) → (x && z) ≡ false
    below true y z h k = k h
    below false y z h k = refl

whole : (p : Names) → is_root p ≡ false → parent p ++ last_name p ∷ [] ≡ p
whole [] h = absurd (subst T h tt)
whole (c ∷ p) h = parent-last c p

-- ---- accepted but for the quota

few-nodes : (x y : ℕ) → nat_lt (64 * (x + y)) x ≡ false
few-nodes x y = grind (arith, nat_tests)

few-blocks : (x y : ℕ) → nat_lt (247 * (x + y)) y ≡ false
few-blocks x y = grind (arith, nat_tests)

-- in a lot that is great enough
great-lot : (t : Tree) (f : Form) (p q : Names) → paths_refusal f (p ∷ q ∷ []) ≡ None → move_refusal p q t ≡ None
    → (n : ℕ) × (refusal t 0 n f (Rename p q) ≡ None)
great-lot t f p q names ends =
    let u = next_tree (Rename p q) t in
    let n = nodes u + blocks f u in (
      n,
      rename-stages t 0 n f p q ∙ none-both _ _ names (none-both _ _ ends
          (none-both _ _ (ap (λ b. if b then Some why.NoNodes else None) (few-nodes (nodes u) (blocks f u)))
          (none-both _ _ (ap (λ b. if b then Some why.NoSpace else None) (few-blocks (nodes u) (blocks f u))) not-spent))),
    )
  where
    not-spent : done_refusal 0 ≡ None
    not-spent = ap (λ b. if b then Some why.Spent else None) (zero-differs most_done (omega arith))
      where
        zero-differs : (n : ℕ) → 0 < n → nat_eq 0 n ≡ false
        zero-differs n h = grind (arith, nat_tests)

abbrev pub no_need : Need
no_need = record { nodes = 0; lost = 0; blocks = 0; freed = 0 }

module _ (f : Form) (mode : ℕ) (lot : LotView) (m : Map) (t : Tree) (k : ℕ) (p q : Names) (step : Move) (r : MapRecovers f mode lot m t k)
    (names : paths_refusal f (p ∷ q ∷ []) ≡ None) (ends : move_refusal p q t ≡ None) (is : IsMove f (own f m) p q t step) where
  -- nothing moves
  pub need-same : step.same ≡ true → Needs f t (next_tree (Rename p q) t) no_need
  need-same e =
      subst (λ u. Needs f t u no_need) (sym (ap (λ b. cond b t (moved_tree p q t)) (sym is.same_is ∙ e))) (record { nodes_move = refl; blocks_move = refl })

  module _ (differ : step.same ≡ false) where
    moves : Moves p q t
    moves = let g = great-lot t f p q names ends in accepted-rename t 0 g.0 f p q g.1 (sym is.same_is ∙ differ)

    made : next_tree (Rename p q) t ≡ placed q moves.tree (removed p t)
    made = next-rename t p q moves.tree (sym is.same_is ∙ differ) (entry_walk p t moves.tree moves.entry)

    ordered : T (is_ordered t)
    ordered = Reads-ordered f lot (own f m) 0 0 t r.holds.reads

    -- the numbers of entries: of the directory that loses one, before and after, and of the one that gains it
    abbrev was : ℕ
    was = length (rows moves.entry.entries)

    abbrev rest : ℕ
    rest = length (rows (without (last_name p) moves.entry.entries))

    abbrev joins : ℕ
    joins = length (rows moves.place.entries)

    loses : rest + 1 ≡ was
    loses = length-removed p t moves.tree ordered moves.entry

    from-count : step.from.entries ≡ was
    from-count = is.from_is.count ∙ sym (ap count is.from_is.there) ∙ ap count moves.entry.there

    sums : (file : List ℕ → ℕ) (dir : ℕ → ℕ) → total file dir (next_tree (Rename p q) t) + dir joins + dir was ≡ total file dir t + dir rest + dir (joins + 1)
    sums file dir =
        let a = total-placed file dir q moves.tree (removed p t) moves.place in
        let b = total-removed file dir p t moves.tree ordered moves.entry in
        let e = ap (λ u. total file dir u) made in
        omega arith

    nodes-stay : nodes (next_tree (Rename p q) t) ≡ nodes t
    nodes-stay = let s = sums (λ _. 1) (λ _. 1) in omega arith

    -- the directory loses an entry and gains one
    one-dir : parent p ≡ parent q → joins ≡ rest
    one-dir e =
        sym (ap count moves.place.there) ∙ ap (λ x. count (walk x (removed p t))) (sym e)
        ∙ count-here (parent p) (last_name p) t moves.entry.entries moves.entry.there

    -- the two directories differ
    two-dirs : parent p ≢ parent q → joins ≡ step.to.entries
    two-dirs ne =
        sym (ap count moves.place.there) ∙ count-left (parent p) (last_name p) (parent q) t ne
        (ap (λ x. is_prefix x (parent q)) (whole p moves.entry.below) ∙ not-above p q moves.apart) ∙ ap count is.to_is.there ∙ sym is.to_is.count

    -- one inode stands for both where they are one
    number-once : parent p ≢ parent q → step.from.number ≢ step.to.number
    number-once ne same =
        let here = inode_on f (own f m) 0 (parent p) in
        let w = two_walks f (own f m) (λ i. i ∷ []) here (parent p) (parent q) 0 t (Dir is.from_is.inside)
        (Dir is.to_is.inside) ne is.from_is.there is.to_is.there in
        let e : inode_on f (own f m) 0 (parent q) ≡ here = sym is.to_is.number ∙ sym same ∙ is.from_is.number in
        let a = times-here here [] in
        let b = ap (λ i. times (i ∷ []) here) e in
        let small : here < 64 * length lot.groups = number
        (Reads-part f lot (own f m) (parent p) 0 0 t (Dir is.from_is.inside) is.from_is.there r.holds.reads) in
        let o = r.holds.inodes here small in
        let l = mark-small (used_inode m here) in
        absurd (omega arith)
      where
        number : Reads f lot (own f m) (inode_on f (own f m) 0 (parent p)) (0 + length (parent p)) (Dir is.from_is.inside)
            → inode_on f (own f m) 0 (parent p) < 64 * length lot.groups
        number r = r.0.number

    pub need-one : step.from.number ≡ step.to.number → Needs f t (next_tree (Rename p q) t) no_need
    need-one e = elim (decide (parent p) (parent q)) [
      | inl same ↦
          (let j = one-dir same in
          let s = sums (λ bytes. map_cost (file_blocks (length bytes))) (λ entries. map_cost (dir_blocks f entries)) in
          let a = ap (λ n. map_cost (dir_blocks f n)) j in
          let b = ap (λ n. map_cost (dir_blocks f n)) (ap (λ n. n + 1) j ∙ loses) in
          let n = nodes-stay in
          record { nodes_move = omega arith; blocks_move = omega arith })
      | inr ne ↦ absurd (number-once ne e)
    ]

    pub need-two : step.from.number ≢ step.to.number → (less more freed : ℕ) → less ≡ step.from.entries - 1
        → more ≡ map_cost (dir_blocks f (step.to.entries + 1)) + map_cost (dir_blocks f less)
        → freed ≡ map_cost (dir_blocks f step.to.entries) + map_cost (dir_blocks f step.from.entries)
        → Needs f t (next_tree (Rename p q) t) (record { nodes = 0; lost = 0; blocks = more; freed = freed })
    need-two differs less more freed l a b =
        let ne : parent p ≢ parent q = (λ e. differs (is.from_is.number ∙ ap (λ x. inode_on f (own f m) 0 x) e ∙ sym is.to_is.number)) in
        let j = two-dirs ne in
        let s = sums (λ bytes. map_cost (file_blocks (length bytes))) (λ entries. map_cost (dir_blocks f entries)) in
        let c = from-count in
        let d = loses in
        let x : less ≡ rest = omega arith in
        let y = ap (λ n. map_cost (dir_blocks f n)) x in
        let z = ap (λ n. map_cost (dir_blocks f n)) j in
        let v = ap (λ n. map_cost (dir_blocks f (n + 1))) j in
        let w = ap (λ n. map_cost (dir_blocks f n)) c in
        let n = nodes-stay in
        record { nodes_move = omega arith; blocks_move = omega arith }
