-- Cases of blocks and inodes.
use Rattle.std.proofs.Common.{◌≡◌, ◌<◌, ◌≤◌, ◌+◌, ◌-◌, ◌*◌, ◌%◌, ◌≢◌, ◌==◌, ℕ, Bool, true, false, cond, not, List, length, subst, sym, ap, ◌∙◌, arith}
use Rattle.std.proofs.lemmas.Bool.{false≢true}
use Rattle.ice_base.specs.Bits.{bit_of, count_below, IsLeast, Inserts, Deletes}
use Rattle.ice_base.specs.Fields.{WordSet}
use Rattle.ice_base.specs.Pools.{Took, Gave}
use Rattle.ice_base.specs.Lots.{LotView, sub_address}
use Rattle.ice_base.specs.Used.{used, bits_of, bit_index, bit_place, bitmap_of, AllUsed, Reserved, count_place, counted}
use Rattle.ice_base.specs.declared.fault.OpFault.{OpFault}
use Rattle.ice_base.specs.declared.fault.OpFault.TheVariants.{Disk, Damaged}
use Rattle.ice_base.specs.declared.fault.Rule.TheVariants.{Counts}
use Rattle.ice_base.proofs.UsedLaws.{used-at, used-bit, unreserved, bit_moves, bit_keeps}
use Rattle.ice_base.proofs.CountLaws.{count_below-more, count_below-not, count_below-same, count_below-le}
use Rattle.ice_pool.specs.Either.{absent, IsTakeFault, IsCountsFault}

pub absent_fault : (inodes : Bool) (e : OpFault) → e ≡ absent inodes → IsTakeFault inodes e
absent_fault true e h = rw h tt
absent_fault false e h = rw h tt

pub disk_fault : (inodes : Bool) → IsTakeFault inodes Disk
disk_fault true = tt
disk_fault false = tt

pub count_fault : (inodes : Bool) (e : OpFault) → IsCountsFault e → IsTakeFault inodes e
count_fault true Disk h = tt
count_fault false Disk h = tt
count_fault true (Damaged Counts) h = tt
count_fault false (Damaged Counts) h = tt
count_fault inodes e h = absurd h

pub ruleset either_laws = (absent_fault, disk_fault, count_fault)

-- one group more is counted
pub free_more : (inodes : Bool) (map : ℕ → List ℕ) (block : List ℕ) (o : ℕ) → block ≡ map (256 * o)
    → count_below (λ i. not (used inodes map i)) (bits_of inodes * o + bits_of inodes)
    ≡ count_below (λ i. not (used inodes map i)) (bits_of inodes * o) + (bits_of inodes - count_below (λ j. bit_of block (bit_index inodes j)) (bits_of inodes))
free_more inodes map block o e =
    let m = count_below-more (λ i. not (used inodes map i)) (bits_of inodes * o) (bits_of inodes) in
    let s = count_below-same (λ j. not (bit_of block (bit_index inodes j))) (λ j. not (used inodes map (bits_of inodes * o + j))) (bits_of inodes)
    (λ b l. ap not (used-at inodes map o b l ∙ ap (λ x. bit_of x (bit_index inodes b)) (sym e))) in
    let n = count_below-not (λ j. bit_of block (bit_index inodes j)) (bits_of inodes) in
    omega arith

pub free_next : (inodes : Bool) (map : ℕ → List ℕ) (block : List ℕ) (o free bits n : ℕ) → block ≡ map (256 * o)
    → free ≡ count_below (λ i. not (used inodes map i)) (bits_of inodes * o) → bits ≡ bits_of inodes
    → n ≡ count_below (λ j. bit_of block (bit_index inodes j)) (bits_of inodes)
    → free + (bits - n) ≡ count_below (λ i. not (used inodes map i)) (bits_of inodes * (o + 1))
free_next true map block o free bits n e f b c =
    let m = free_more true map block o e in let t : 64 * (o + 1) ≡ 64 * o + 64 = omega arith in
    let g = ap (count_below (λ i. not (used true map i))) t in omega arith
free_next false map block o free bits n e f b c =
    let m = free_more false map block o e in let t : 256 * (o + 1) ≡ 256 * o + 256 = omega arith in
    let g = ap (count_below (λ i. not (used false map i))) t in omega arith

pub bits_few : (inodes : Bool) → bits_of inodes ≤ 256
bits_few true = omega arith
bits_few false = omega arith

-- a free place that holds no data
pub unreserved_at : (inodes : Bool) (lot : LotView) (map : ℕ → List ℕ) (block : List ℕ) (o i : ℕ) → inodes ≡ false → block ≡ map (256 * o)
    → o < length lot.groups → i < 9 → bit_of block (bit_index inodes i) ≡ false → ¬ Reserved lot map
unreserved_at true lot map block o i f e h p clear = absurd cc
unreserved_at false lot map block o i f e h p clear = unreserved lot map block o i e h p clear

number_below : (inodes : Bool) (n o i : ℕ) → o < n → i < bits_of inodes → bits_of inodes * o + i < bits_of inodes * n
number_below true n o i h l = omega arith
number_below false n o i h l = omega arith

-- where one is clear, not all are used
pub not_all : (inodes : Bool) (lot : LotView) (map : ℕ → List ℕ) (block : List ℕ) (o i : ℕ) → block ≡ map (256 * o) → o < length lot.groups
    → i < bits_of inodes → bit_of block (bit_index inodes i) ≡ false → ¬ AllUsed inodes lot map
not_all inodes lot map block o i e h l clear all =
    let set = all (bits_of inodes * o + i) (number_below inodes (length lot.groups) o i h l) in
    let bit = used-at inodes map o i l ∙ ap (λ x. bit_of x (bit_index inodes i)) (sym e) ∙ clear in
    false≢true (sym bit ∙ set)

-- a bit that was read says whether it is used
pub bit_used : (inodes : Bool) (map : ℕ → List ℕ) (block : List ℕ) (i p : ℕ) (v : Bool) → bit_of block (bit_index inodes p) ≡ v
    → p ≡ i % bits_of inodes → block ≡ map (bitmap_of inodes i) → used inodes map i ≡ v
bit_used inodes map block i p v was place e =
    used-bit inodes map i ∙ ap (λ x. bit_of x (bit_place inodes i)) (sym e) ∙ ap (λ x. bit_of block (bit_index inodes x)) (sym place) ∙ was

-- what a take does, from what it put
pub took_by : (inodes : Bool) (m0 m1 : ℕ → List ℕ) (block set sub : List ℕ) (i p : ℕ)
    → IsLeast (used inodes m0) i → p ≡ i % bits_of inodes
    → block ≡ m0 (bitmap_of inodes i) → Inserts (bit_of block) (bit_index inodes p) (bit_of set)
    → WordSet (m0 sub_address) (count_place inodes) (counted inodes m0 + 1) sub
    → m1 (bitmap_of inodes i) ≡ set → m1 sub_address ≡ sub
    → ((b : ℕ) → b ≢ sub_address → b ≢ bitmap_of inodes i → m1 b ≡ m0 b)
    → Took inodes m0 m1 i
took_by inodes m0 m1 block set sub i p least place e marks counts at at_sub only =
    let bits : (j : ℕ) → bit_of set j ≡ cond (j == bit_place inodes i) true (bit_of (m0 (bitmap_of inodes i)) j) = λ j. marks j
    ∙ ap (λ x. cond (j == bit_index inodes x) true (bit_of block j)) place ∙ ap (λ x. cond (j == bit_place inodes i) true (bit_of x j)) e in
    record {
      least = least;
      taken = bit_moves inodes true m0 m1 set i bits at only;
      others = bit_keeps inodes true m0 m1 set i bits at only;
      marked = λ j. ap (λ x. bit_of x j) at ∙ bits j;
      counts = subst (λ x. WordSet (m0 sub_address) (count_place inodes) (counted inodes m0 + 1) x) (sym at_sub) counts;
    }

-- what a give does
pub gave_by : (inodes : Bool) (m0 m1 : ℕ → List ℕ) (block set sub : List ℕ) (i p : ℕ)
    → bit_of block (bit_index inodes p) ≡ true → p ≡ i % bits_of inodes
    → block ≡ m0 (bitmap_of inodes i) → Deletes (bit_of block) (bit_index inodes p) (bit_of set)
    → WordSet (m0 sub_address) (count_place inodes) (counted inodes m0 - 1) sub
    → m1 (bitmap_of inodes i) ≡ set → m1 sub_address ≡ sub
    → ((b : ℕ) → b ≢ sub_address → b ≢ bitmap_of inodes i → m1 b ≡ m0 b)
    → Gave inodes m0 m1 i
gave_by inodes m0 m1 block set sub i p was place e marks counts at at_sub only =
    let bits : (j : ℕ) → bit_of set j ≡ cond (j == bit_place inodes i) false (bit_of (m0 (bitmap_of inodes i)) j) = λ j. marks j
    ∙ ap (λ x. cond (j == bit_index inodes x) false (bit_of block j)) place ∙ ap (λ x. cond (j == bit_place inodes i) false (bit_of x j)) e in
    record {
      was_used = bit_used inodes m0 block i p true was place e;
      given = bit_moves inodes false m0 m1 set i bits at only;
      others = bit_keeps inodes false m0 m1 set i bits at only;
      marked = λ j. ap (λ x. bit_of x j) at ∙ bits j;
      counts = subst (λ x. WordSet (m0 sub_address) (count_place inodes) (counted inodes m0 - 1) x) (sym at_sub) counts;
    }

pub ruleset free_laws = (count_below-le)
