-- What a look at an inode shows.
use Rattle.std.proofs.Common.{◌≡◌, ℕ, suc, zero, ◌+◌, ◌*◌, ◌<◌, ◌≤◌, ◌==◌, true, false, List, [], ◌∷◌, ◌++◌, map, length, sym, refl, ap, ◌∙◌, subst, arith, inl, inr, nat_lt}
use Rattle.std.specs.List.{range_with_len}
use Rattle.std.proofs.lemmas.Bool.Decides.{nat_tests}
use Rattle.std.proofs.lemmas.Nat.{div-add-mod'}
use Rattle.ice_base.specs.Lots.{LotView}
use Rattle.ice_base.specs.Spare.{has}
use Rattle.ice_base.specs.Used.{used_inode, is_data}
use Rattle.ice_base.specs.declared.fault.Rule.TheVariants as rule
use Rattle.ice_map.specs.declared.codec.Inode.{Inode}
use Rattle.ice_map.specs.Inodes.{inode_of}
use Rattle.ice_map.specs.Maps.{nth_block, blocks_of, indirect_of, uses, longest}
use Rattle.ice_map.proofs.ListLaws.{has-append, has-cons, has-none, has-left, has-right, has-head, has-range, map_range_same}
use Rattle.ice_map.proofs.MapLaws.{nth-direct, nth-single}
use Rattle.ice_map.specs.Own.{blocks_for, map_length, own_of, own, RestIsZero}
use Rattle.tree_spec.specs.Costs.{form_one}
use Rattle.ice_reads.specs.Tables.{Map}
use Rattle.ice_rules.specs.Walks.{KindFits, PointersFit, WalksTo}
use Rattle.ice_rules.specs.Rules.{Breaks}
use Rattle.ice_check.proofs.MarkLaws.{indirect_none, indirect_one}

no : true ≡ false → ⊥
no e = cc

-- ---- sizes

short-file : (size : ℕ) → size ≤ 274432 → blocks_for size ≤ 268
short-file size h = let a = div-add-mod' (size + 1023) 1024 in omega arith

short-dir : (size n : ℕ) → n ≤ 64 → size < 64 * n → blocks_for (64 * size) ≤ 268
short-dir size n few h = let a = div-add-mod' (64 * size + 1023) 1024 in omega arith

pub size_small : (lot : LotView) (i : ℕ) (inode : Inode) → length lot.groups ≤ 64 → KindFits form_one lot i inode → inode.size ≤ 274432
size_small lot i inode few (inl h) = h.1
size_small lot i inode few (inr h) = let lt = h.1 in omega arith

pub map_short : (lot : LotView) (i : ℕ) (inode : Inode) → length lot.groups ≤ 64 → KindFits form_one lot i inode → map_length form_one inode ≤ longest
map_short lot i inode few (inl h) =
    let t : (inode.kind == 2) ≡ false = (let one = h.0 in grind (arith, nat_tests)) in
    rw t (short-file inode.size h.1)
map_short lot i inode few (inr h) =
    let t : (inode.kind == 2) ≡ true = (let two = h.0 in grind (arith, nat_tests)) in
    rw t (short-dir inode.size (length lot.groups) few h.1)

-- ---- blocks of a map

-- an address of a list over a range is at some place
in_range : (f : ℕ → ℕ) (a n b : ℕ) → has (map f (range_with_len a n)) b ≡ true → (k : ℕ) × (a ≤ k) × (k < a + n) × (f k ≡ b)
in_range f a zero b h = absurd (no (sym h ∙ has-none b))
in_range f a (suc n) b h =
    elim (f a == b) as (λ t. (f a == b) ≡ t → (k : ℕ) × (a ≤ k) × (k < a + suc n) × (f k ≡ b)) [
      | true ↦ λ t. let e : f a ≡ b = grind (arith, nat_tests) in (a, omega arith, omega arith, e)
      | false ↦ λ t.
          let rest : has (map f (range_with_len (a + 1) n)) b ≡ true = (let c = has-cons (f a) b (map f (range_with_len (a + 1) n)) in grind arith) in
          let x = in_range f (a + 1) n b rest in
          (x.0, omega (arith, x.1), omega (arith, x.2), x.3)
    ] refl

-- the block that names pointers is the map's, or isn't used
same_nth : (m : Map) (inode : Inode) (pointers : List ℕ) (count n : ℕ) → (12 < count → pointers ≡ m inode.single) → n < count
    → nth_block m inode n ≡ nth_block (λ _. pointers) inode n
same_nth m inode pointers count n same h =
    elim (nat_lt n 12) as (λ t. nat_lt n 12 ≡ t → nth_block m inode n ≡ nth_block (λ _. pointers) inode n) [
      | true ↦ λ t. let low : n < 12 = grind (arith, nat_tests) in nth-direct m inode n low ∙ sym (nth-direct (λ _. pointers) inode n low)
      | false ↦ λ t.
          let high : 12 ≤ n = grind (arith, nat_tests) in
          let e = same (omega arith) in
          let a = nth-single m inode n high in
          let b = nth-single (λ _. pointers) inode n high in
          cc
    ] refl

pub same_uses : (m : Map) (inode : Inode) (pointers : List ℕ) (count : ℕ) → (12 < count → pointers ≡ m inode.single)
    → uses m inode count ≡ uses (λ _. pointers) inode count
same_uses m inode pointers count same =
    ap (λ xs. indirect_of inode count ++ xs)
    (map_range_same (nth_block m inode) (nth_block (λ _. pointers) inode) 0 count (λ k low high. same_nth m inode pointers count k same (omega arith)))

-- all that a map uses are data places
pub uses_data : (lot : LotView) (m : Map) (inode : Inode) (count : ℕ) → (12 < count → is_data lot inode.single ≡ true)
    → ((n : ℕ) → n < count → is_data lot (nth_block m inode n) ≡ true) → (b : ℕ) → has (uses m inode count) b ≡ true → is_data lot b ≡ true
uses_data lot m inode count single each b h =
    elim (has (indirect_of inode count) b) as (λ t. has (indirect_of inode count) b ≡ t → is_data lot b ≡ true) [
      | true ↦ λ t. by_single t
      | false ↦ λ t.
          let rest : has (blocks_of m inode count) b ≡ true = (let c = has-append (indirect_of inode count) (blocks_of m inode count) b in grind arith) in
          let x = in_range (nth_block m inode) 0 count b rest in
          subst (λ a. is_data lot a ≡ true) x.3 (each x.0 (omega (arith, x.2)))
    ] refl
  where
    by_single : has (indirect_of inode count) b ≡ true → is_data lot b ≡ true
    by_single t =
        elim (nat_lt 12 count) as (λ l. nat_lt 12 count ≡ l → is_data lot b ≡ true) [
          | true ↦ λ l.
              let long : 12 < count = grind (arith, nat_tests) in
              let one : has (inode.single ∷ []) b ≡ true = subst (λ xs. has xs b ≡ true) (indirect_one inode count long) t in
              let c = has-cons inode.single b [] in
              let s = single long in
              elim (inode.single == b) as (λ v. (inode.single == b) ≡ v → is_data lot b ≡ true) [
                | true ↦ λ v. let e : inode.single ≡ b = grind (arith, nat_tests) in subst (λ a. is_data lot a ≡ true) e s
                | false ↦ λ v. absurd (no (sym one ∙ rw v at c ∙ has-none b))
              ] refl
          | false ↦ λ l.
              let low : count ≤ 12 = grind (arith, nat_tests) in
              absurd (no (sym (subst (λ xs. has xs b ≡ true) (indirect_none inode count low) t) ∙ has-none b))
        ] refl

-- what a map uses
pub single_used : (m : Map) (inode : Inode) (count : ℕ) → 12 < count → has (uses m inode count) inode.single ≡ true
single_used m inode count h =
    has-left (indirect_of inode count) (blocks_of m inode count) inode.single
    (subst (λ xs. has xs inode.single ≡ true) (sym (indirect_one inode count h)) (has-head inode.single []))

pub nth_used : (m : Map) (inode : Inode) (count n : ℕ) → n < count → has (uses m inode count) (nth_block m inode n) ≡ true
nth_used m inode count n h =
    has-right (indirect_of inode count) (blocks_of m inode count) (nth_block m inode n) (has-range (nth_block m inode) 0 count n (omega arith) (omega arith))

-- ---- pointers that fit, or don't

module _ (lot : LotView) (m : Map) (i : ℕ) (inode : Inode) (is : inode ≡ inode_of m i) where
  pub fits_here : (pointers : List ℕ) → (12 < map_length form_one inode → pointers ≡ m inode.single)
      → PointersFit form_one lot (own_of (λ _. pointers) inode (map_length form_one inode)) → PointersFit form_one lot (own form_one m i)
  fits_here pointers same p =
      subst (λ (x : Inode). PointersFit form_one lot (own_of m x (map_length form_one x))) is (record {
        places = λ b h. p.places b (subst (λ xs. has xs b ≡ true) (same_uses m inode pointers (map_length form_one inode) same) h);
        rest = p.rest;
      })

  pub kind_here : KindFits form_one lot i inode → KindFits form_one lot i (own form_one m i).inode
  kind_here k = subst (λ (x : Inode). KindFits form_one lot i x) is k

  -- the walk that comes to it
  module _ (w : List ℕ) (by : WalksTo form_one lot m w i) (used : used_inode m i ≡ true) where
    pub kind_broken : ¬ KindFits form_one lot i inode → Breaks form_one lot m rule.Kind
    kind_broken bad = record { walk = w; inode = i; by = by; marked = used; bad = λ k. bad (subst (λ (x : Inode). KindFits form_one lot i x) (sym is) k) }

    pointer_broken : KindFits form_one lot i inode → ¬ PointersFit form_one lot (own_of m inode (map_length form_one inode))
        → Breaks form_one lot m rule.Pointer
    pointer_broken k bad =
        record { walk = w; inode = i; by = by; marked = used; kind = kind_here k; bad = λ p. bad (subst (λ (x : Inode). PointersFit form_one lot (own_of m x (map_length form_one x))) (sym is) p) }

    pub single_broken : KindFits form_one lot i inode → 12 < map_length form_one inode → is_data lot inode.single ≡ false → Breaks form_one lot m rule.Pointer
    single_broken k h out = pointer_broken k (λ p. no (sym (p.places inode.single (single_used m inode (map_length form_one inode) h)) ∙ out))

    pub nth_broken : KindFits form_one lot i inode → (pointers : List ℕ) → (12 < map_length form_one inode → pointers ≡ m inode.single)
        → (n : ℕ) → n < map_length form_one inode → is_data lot (nth_block (λ _. pointers) inode n) ≡ false → Breaks form_one lot m rule.Pointer
    nth_broken k pointers same n h out =
        pointer_broken k
        (λ p. no (sym (p.places (nth_block m inode n) (nth_used m inode (map_length form_one inode) n h))
        ∙ ap (is_data lot) (same_nth m inode pointers (map_length form_one inode) n same h) ∙ out))

    pub rest_broken : KindFits form_one lot i inode → ¬ RestIsZero inode (map_length form_one inode) → Breaks form_one lot m rule.Pointer
    rest_broken k bad = pointer_broken k (λ p. bad p.rest)
