-- Where one inode was set, every other one of the tree and beside it says what it said.
use Rattle.std.proofs.Common.{◌≡◌, ◌≤◌, ◌<◌, ◌+◌, ◌*◌, ◌==◌, ℕ, true, false, List, [], ◌∷◌, ◌++◌, length, length-append, ◌∙◌, sym, refl, ap, arith, ltb}
use Rattle.std.specs.Prelude.{flat_map}
use Rattle.std.proofs.lemmas.Grind.{flat_map-append}
use Rattle.std.proofs.lemmas.Bool.Decides.{nat_tests}
use Rattle.ice_base.specs.Lots.{LotView}
use Rattle.ice_base.specs.Spare.{has}
use Rattle.ice_base.specs.Used.{used_block, is_data, counted}
use Rattle.ice_map.specs.Maps.{times}
use Rattle.ice_map.proofs.ListLaws.{times-append, has-times}
use Rattle.ice_map.specs.Own.{own, mark, OwnSet}
use Rattle.ice_map.proofs.OwnLaws.{times-has, times-zero}
use Rattle.tree_spec.specs.Trees.{Tree}
use Rattle.tree_spec.specs.Costs.{form_one}
use Rattle.ice_reads.specs.Tables.{Map}
use Rattle.ice_reads.specs.Reads.{Reads, used_blocks, used_inodes}
use Rattle.ice_reads.proofs.Frames.{times-other}
use Rattle.ice_reads.proofs.Numbers.{uses-flat, one_of, apart, Reads-number}
use Rattle.ice_reads.proofs.Steps.{SameBut, IsOnce}
use Rattle.ice_steps.specs.Beside.{Beside}
use Rattle.ice_steps.proofs.Counts.{mark-small, mark-set}
use Rattle.ice_steps.proofs.Still.{used-places}

-- what one of the inodes uses is part of what all of them use
pub length-one_of : (mine : ℕ → List ℕ) (i : ℕ) (is : List ℕ) → 0 < times is i → length (mine i) ≤ length (flat_map mine is)
length-one_of mine i [] h = absurd (omega arith)
length-one_of mine i (x ∷ is) h =
    let a = length-append (mine x) (flat_map mine is) in
    elim (x == i) as (λ t. (x == i) ≡ t → length (mine i) ≤ length (flat_map mine (x ∷ is))) [
      | true ↦ λ t. let e : x ≡ i = grind (arith, nat_tests) in let f = ap (λ x. length (mine x)) e in omega arith
      | false ↦ λ t. let n = times-other i x is t in let r = length-one_of mine i is (omega arith) in omega arith
    ] refl

-- the loose blocks are those that the loose inodes use, and each is a data place
pub record Loose (lot : LotView) (m : Map) (xs is : List ℕ) : Type 0 where
  pub flat : flat_map (λ i. (own form_one m i).uses) is ≡ xs
  pub places : (x : ℕ) → 0 < times is x → (b : ℕ) → has (own form_one m x).uses b ≡ true → is_data lot b ≡ true

pub loose-none : (lot : LotView) (m : Map) → Loose lot m [] []
loose-none lot m = record { flat = refl; places = λ x h. absurd (omega arith) }

pub loose-tree : (lot : LotView) (m : Map) (j h : ℕ) (v : Tree) → Reads form_one lot (own form_one m) j h v
    → Loose lot m (used_blocks form_one (own form_one m) j v) (used_inodes form_one (own form_one m) j v)
loose-tree lot m j h v r = record {
  flat = sym (uses-flat form_one (own form_one m) (λ i. (own form_one m i).uses) j v);
  places = used-places lot m j h v r;
}

module _ (mode : ℕ) (lot : LotView) (m : Map) (t : Tree) (k : ℕ) (xs is : List ℕ) (b : Beside form_one mode lot m t k xs is) where
  -- the inodes of the tree, and those beside it
  abbrev pub all : List ℕ
  all = used_inodes form_one (own form_one m) 0 t ++ is

  pub all-small : (x : ℕ) → 0 < times all x → x < 64 * length lot.groups
  all-small x h =
      let e = times-append (used_inodes form_one (own form_one m) 0 t) is x in
      elim (ltb 0 (times is x)) as (λ u. ltb 0 (times is x) ≡ u → x < 64 * length lot.groups) [
        | true ↦ λ u. let p : 0 < times is x = grind (arith, nat_tests) in b.others_small x (times-has is x (omega arith))
        | false ↦ λ u. let p : times is x ≤ 0 = grind (arith, nat_tests) in Reads-number form_one lot (own form_one m) x 0 0 t b.reads (omega arith)
      ] refl

  pub all-once : IsOnce all
  all-once x =
      elim (ltb 0 (times all x)) as (λ u. ltb 0 (times all x) ≡ u → times all x ≤ 1) [
        | true ↦ λ u. let p : 0 < times all x = grind (arith, nat_tests) in let e = b.inodes x (all-small x p) in omega (arith, e, mark-small)
        | false ↦ λ u. let p : times all x ≤ 0 = grind (arith, nat_tests) in omega arith
      ] refl

  -- no inode is of both
  pub all-apart : (x : ℕ) → times (used_inodes form_one (own form_one m) 0 t) x + times is x ≤ 1
  all-apart x = let e = times-append (used_inodes form_one (own form_one m) 0 t) is x in let o = all-once x in omega arith

  pub tree-once : IsOnce (used_inodes form_one (own form_one m) 0 t)
  tree-once x = let o = all-apart x in omega arith

  module _ (l : Loose lot m xs is) where
    abbrev mine : ℕ → List ℕ
    mine i = (own form_one m i).uses

    pub all-flat : flat_map mine all ≡ used_blocks form_one (own form_one m) 0 t ++ xs
    all-flat =
        flat_map-append mine (used_inodes form_one (own form_one m) 0 t) is
        ∙ ap (λ ys. ys ++ flat_map mine is) (sym (uses-flat form_one (own form_one m) mine 0 t))
        ∙ ap (λ ys. used_blocks form_one (own form_one m) 0 t ++ ys) l.flat

    pub all-places : (x : ℕ) → 0 < times all x → (a : ℕ) → has (own form_one m x).uses a ≡ true → is_data lot a ≡ true
    all-places x h =
        let e = times-append (used_inodes form_one (own form_one m) 0 t) is x in
        elim (ltb 0 (times is x)) as (λ u. ltb 0 (times is x) ≡ u → (a : ℕ) → has (own form_one m x).uses a ≡ true → is_data lot a ≡ true) [
          | true ↦ λ u. l.places x (grind (arith, nat_tests))
          | false ↦ λ u. let p : times is x ≤ 0 = grind (arith, nat_tests) in used-places lot m 0 0 t b.reads x (omega arith)
        ] refl

    all-marks : (a : ℕ) → is_data lot a ≡ true → times (flat_map mine all) a ≡ mark (used_block m a)
    all-marks a h = ap (λ ys. times ys a) all-flat ∙ b.blocks a h

    -- no inode uses more blocks than are counted
    pub all-counted : (x : ℕ) → 0 < times all x → length (own form_one m x).uses ≤ counted false m
    all-counted x h =
        let l = length-one_of mine x all h in
        let e = ap (λ (ys : List ℕ). length ys) all-flat in
        let c = b.block_count in
        omega arith

    -- where the inode p was set, each other one says what it said
    pub beside_but : (m' : Map) (p : ℕ) → OwnSet lot form_one m m' p → 0 < times all p → SameBut (own form_one m) (own form_one m') p all
    beside_but m' p set here = record {
      at = λ x ne h. set.others x ne
          (λ a u. (
            all-places x h a u,
            mark-set (used_block m a)
                (let n = has-times (mine x) a u in let s = one_of mine a x all h in let e = all-marks a (all-places x h a u) in omega arith),
          ))
          (λ a u. times-zero (mine p) a
          (let n = has-times (mine x) a u in let s = apart mine a x p all ne h here in let e = all-marks a (all-places x h a u) in
          let z = mark-small (used_block m a) in omega arith));
    }
