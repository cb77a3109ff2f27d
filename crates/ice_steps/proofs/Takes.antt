-- An inode that was taken or given back, and a count of operations that was set.
use Rattle.std.proofs.Common.{◌≡◌, ◌≢◌, ◌≤◌, ◌<◌, ◌+◌, ◌-◌, ◌*◌, ◌/◌, ◌==◌, ℕ, true, false, cond, List, [], ◌∷◌, length, length-append, ◌∙◌, sym, refl, ap, arith}
use Rattle.std.proofs.lemmas.Bool.Decides.{nat_tests}
use Rattle.ice_base.specs.Lots.{LotView, sub_address}
use Rattle.ice_base.specs.Pools.{TookInode, GaveInode}
use Rattle.ice_base.specs.Used.{used_inode, bitmap_of, counted}
use Rattle.ice_map.specs.Maps.{times}
use Rattle.ice_map.proofs.ListLaws.{has-none, has-one}
use Rattle.ice_map.proofs.MarkLaws.{used-same}
use Rattle.ice_map.specs.Own.{own, mark}
use Rattle.tree_spec.specs.Trees.{Tree}
use Rattle.tree_spec.specs.Costs.{form_one}
use Rattle.ice_reads.specs.Tables.{Map}
use Rattle.ice_reads.specs.Reads.{used_inodes}
use Rattle.ice_reads.specs.Recovers.{MapRecovers}
use Rattle.ice_reads.proofs.Frames.{SameAt}
use Rattle.ice_steps.specs.Beside.{Beside, OnlyAt, DoneSet}
use Rattle.ice_steps.proofs.Counts.{times-same, times-other}
use Rattle.ice_steps.proofs.Keeps.{only-one, only-two, marks-own, sub-own}
use Rattle.ice_steps.proofs.Recovers.{beside_recovers, recovers_beside}
use Rattle.ice_steps.proofs.Still.{beside-still, used-places}
use Rattle.ice_steps.proofs.SubLaws.{says-counted, says-done, counted-other, counted-done}

-- a number alone
mark-alone : (j i : ℕ) → i ≡ j → times (j ∷ []) i ≡ 1
mark-alone j i e = times-same j i [] (sym e)

mark-absent : (j i : ℕ) → i ≢ j → times (j ∷ []) i ≡ 0
mark-absent j i e = times-other j i [] (λ q. e (sym q))

-- the inodes of the tree say what they said
pub took_stays : (mode : ℕ) (lot : LotView) (m m' : Map) (t : Tree) (k : ℕ) (xs is : List ℕ) (j : ℕ) → length lot.groups ≤ 64
    → Beside form_one mode lot m t k xs is → OnlyAt (sub_address ∷ bitmap_of true j ∷ []) m m'
    → SameAt (own form_one m) (own form_one m') (used_inodes form_one (own form_one m) 0 t)
took_stays mode lot m m' t k xs is j few b only =
    record { at = λ x h. marks-own lot few m m' (j / 64) (only-two sub_address (bitmap_of true j) m m' only) x (used-places lot m 0 0 t b.reads x h) }

pub done_stays : (mode : ℕ) (lot : LotView) (m m' : Map) (t : Tree) (k done : ℕ) (xs is : List ℕ) → length lot.groups ≤ 64
    → Beside form_one mode lot m t k xs is → DoneSet m m' done → SameAt (own form_one m) (own form_one m') (used_inodes form_one (own form_one m) 0 t)
done_stays mode lot m m' t k done xs is few b set =
    record { at = λ x h. sub-own lot few m m' (only-one sub_address m m' set.others) x (used-places lot m 0 0 t b.reads x h) }

-- where an inode was taken, it stands loose beside the tree
pub took_inode : (mode : ℕ) (lot : LotView) (m m' : Map) (t : Tree) (k : ℕ) (xs : List ℕ) (j : ℕ) → length lot.groups ≤ 64
    → Beside form_one mode lot m t k xs [] → TookInode m m' j → j < 64 * length lot.groups
    → OnlyAt (sub_address ∷ bitmap_of true j ∷ []) m m' → Beside form_one mode lot m' t k xs (j ∷ [])
took_inode mode lot m m' t k xs j few b took small only =
    beside-still mode lot m m' t k k xs xs [] (j ∷ []) b
    (says-counted form_one mode lot true m m' (counted true m + 1) k took.counts b.sub)
    (took_stays mode lot m m' t k xs [] j few b only)
    (λ a h l. took.others a)
    (record {
      blocks = λ a h. ap (λ t. mark t + times xs a) (took.others a);
      inodes = λ i h.
          let e = took.taken i in
          elim (i == j) as (λ t. (i == j) ≡ t → mark (used_inode m' i) + times [] i ≡ mark (used_inode m i) + times (j ∷ []) i) [
            | true ↦ λ t.
                let q : i ≡ j = grind (arith, nat_tests) in
                let new : mark (used_inode m' i) ≡ 1 = ap mark (e ∙ ap (λ t. cond t true (used_inode m i)) t) in
                let old : mark (used_inode m i) ≡ 0 = ap mark (ap (used_inode m) q ∙ took.least.0) in
                let n = mark-alone j i q in
                omega arith
            | false ↦ λ t.
                let q : i ≢ j = grind (arith, nat_tests) in
                let new : mark (used_inode m' i) ≡ mark (used_inode m i) = ap mark (e ∙ ap (λ t. cond t true (used_inode m i)) t) in
                let n = mark-absent j i q in
                omega arith
          ] refl;
      block_count = ap (λ n. n + length xs) (counted-other m m' (counted true m + 1) took.counts);
      inode_count = let v = took.counts.value in omega arith;
      more_data = b.more_data;
      others_small = λ i h. let o = has-one j i in let q : i ≡ j = grind (arith, nat_tests) in omega arith;
    })

-- where a loose inode was given back, nothing stands beside the tree
pub gave_inode : (mode : ℕ) (lot : LotView) (m m' : Map) (t : Tree) (k j : ℕ) → length lot.groups ≤ 64
    → Beside form_one mode lot m t k [] (j ∷ []) → GaveInode m m' j
    → OnlyAt (sub_address ∷ bitmap_of true j ∷ []) m m' → Beside form_one mode lot m' t k [] []
gave_inode mode lot m m' t k j few b gave only =
    beside-still mode lot m m' t k k [] [] (j ∷ []) [] b
    (says-counted form_one mode lot true m m' (counted true m - 1) k gave.counts b.sub)
    (took_stays mode lot m m' t k [] (j ∷ []) j few b only)
    (λ a h l. gave.others a)
    (record {
      blocks = λ a h. ap (λ t. mark t + times [] a) (gave.others a);
      inodes = λ i h.
          let e = gave.given i in
          elim (i == j) as (λ t. (i == j) ≡ t → mark (used_inode m' i) + times (j ∷ []) i ≡ mark (used_inode m i) + times [] i) [
            | true ↦ λ t.
                let q : i ≡ j = grind (arith, nat_tests) in
                let new : mark (used_inode m' i) ≡ 0 = ap mark (e ∙ ap (λ t. cond t false (used_inode m i)) t) in
                let old : mark (used_inode m i) ≡ 1 = ap mark (ap (used_inode m) q ∙ gave.was_used) in
                let n = mark-alone j i q in
                omega arith
            | false ↦ λ t.
                let q : i ≢ j = grind (arith, nat_tests) in
                let new : mark (used_inode m' i) ≡ mark (used_inode m i) = ap mark (e ∙ ap (λ t. cond t false (used_inode m i)) t) in
                let n = mark-absent j i q in
                omega arith
          ] refl;
      block_count = ap (λ n. n + 0) (counted-other m m' (counted true m - 1) gave.counts);
      inode_count =
          let v = gave.counts.value in
          let c = b.inode_count in
          let l = length-append (used_inodes form_one (own form_one m) 0 t) (j ∷ []) in
          omega arith;
      more_data = b.more_data;
      others_small = λ i h. let n = has-none i in absurd cc;
    })

-- the number of accepted operations was set
pub beside_done : (mode : ℕ) (lot : LotView) (m m' : Map) (t : Tree) (k done : ℕ) (xs is : List ℕ) → length lot.groups ≤ 64
    → Beside form_one mode lot m t k xs is → DoneSet m m' done → Beside form_one mode lot m' t done xs is
beside_done mode lot m m' t k done xs is few b set =
    let only = only-one sub_address m m' set.others in
    let bitmaps = λ (o : ℕ). only (256 * o) (λ e. omega arith) in
    beside-still mode lot m m' t k done xs xs is is b
    (says-done form_one mode lot.slot (m sub_address) (m' sub_address) k done set.value set.small b.sub)
    (done_stays mode lot m m' t k done xs is few b set)
    (λ a h l. used-same false m m' a bitmaps)
    (record {
      blocks = λ a h. ap (λ t. mark t + times xs a) (used-same false m m' a bitmaps);
      inodes = λ i h. ap (λ t. mark t + times is i) (used-same true m m' i bitmaps);
      block_count = ap (λ n. n + length xs) (counted-done false m m' done set.value);
      inode_count = ap (λ n. n + length is) (counted-done true m m' done set.value);
      more_data = b.more_data;
      others_small = b.others_small;
    })

-- where the count of operations was set, the map recovers the same tree with the new count
pub done_set : (mode : ℕ) (lot : LotView) (m m' : Map) (t : Tree) (k done : ℕ) → length lot.groups ≤ 64
    → MapRecovers form_one mode lot m t k → DoneSet m m' done → MapRecovers form_one mode lot m' t done
done_set mode lot m m' t k done few r set =
    beside_recovers form_one mode lot m' t done (beside_done mode lot m m' t k done [] [] few (recovers_beside form_one mode lot m t k r) set)
