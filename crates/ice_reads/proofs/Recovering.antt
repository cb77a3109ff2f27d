-- What a map of a lot's blocks recovers is one tree, and stays where the blocks that say it stay.
use Rattle.std.proofs.Common.{◌≡◌, ℕ, ◌*◌, ◌/◌, ◌%◌, ◌^◌, ◌<◌, ◌≤◌, ◌==◌, Bool, true, false, List, [], ◌∷◌, length, Some, None, sym, refl, ap, ◌∙◌, arith}
use Rattle.std.specs.Prelude.{nat_lt, not, slice_index, if◌then◌else◌}
use Rattle.std.proofs.lemmas.Bool.Decides.{nat_tests}
use Rattle.std.proofs.lemmas.Nat.{div-add-mod', mod_below}
use Rattle.ice_base.specs.Bits.{bit_of}
use Rattle.ice_base.specs.Fields.{word_at, long_at}
use Rattle.ice_base.specs.Inodes.{inode_address}
use Rattle.ice_base.specs.Lots.{LotView, sub_address}
use Rattle.ice_base.specs.Spare.{has}
use Rattle.ice_base.specs.Used.{used, counted, count_place, bits_of, bitmap_of, bit_place}
use Rattle.ice_base.specs.declared.fault.Rule.{Rule}
use Rattle.ice_base.specs.declared.fault.Rule.TheVariants.{Magic, Version, Slot, Mode, Done}
use Rattle.ice_base.proofs.UsedLaws.{used-bit, ordinal_below, data_below}
use Rattle.ice_layout.specs.Subs.{sub_rule, sub_magic}
use Rattle.ice_map.specs.Maps.{times}
use Rattle.ice_map.proofs.ListLaws.{has-times}
use Rattle.ice_map.proofs.UsesLaws.{times-has}
use Rattle.ice_map.specs.Own.{mark, own}
use Rattle.tree_spec.specs.Trees.{Tree}
use Rattle.tree_spec.specs.Costs.{Form}
use Rattle.ice_reads.specs.Tables.{Map}
use Rattle.ice_reads.specs.Reads.{used_blocks, used_inodes}
use Rattle.ice_reads.specs.Recovers.{HoldsTree, MapRecovers}
use Rattle.ice_reads.proofs.Frames.{SameAt, Reads-frame, uses-frame}
use Rattle.ice_reads.proofs.Numbers.{Reads-number, used-one}
use Rattle.ice_reads.proofs.Rests.{own-rests}
use Rattle.ice_reads.proofs.Unique.{Reads-unique}

-- ---- one tree, one count, one mode

-- a map of a lot's blocks recovers one tree at most, with one count and one mode
pub recovers_one : (f : Form) (mode other : ℕ) (lot : LotView) (m : Map) (t u : Tree) (j k : ℕ) → MapRecovers f mode lot m t j
    → MapRecovers f other lot m u k → (t ≡ u) × (j ≡ k) × (mode ≡ other)
recovers_one f mode other lot m t u j k a b =
    (Reads-unique f lot (own f m) t 0 0 0 u a.holds.reads b.holds.reads, sym a.sub.done ∙ b.sub.done, sym a.sub.mode ∙ b.sub.mode)

-- no rule is broken, so the last test passes too
last_passes : (a b c d e : Bool) (v w x y z : Rule)
    → (if not a then Some v else if not b then Some w else if not c then Some x else if not d then Some y else if not e then Some z else None) ≡ None → e ≡ true
last_passes true true true true true v w x y z h = refl
last_passes true true true true false v w x y z h = absurd cc
last_passes true true true false e v w x y z h = absurd cc
last_passes true true false d e v w x y z h = absurd cc
last_passes true false c d e v w x y z h = absurd cc
last_passes false b c d e v w x y z h = absurd cc

-- what a sub-super block that breaks no rule counts has at most 63 bits
pub sub_small : (slot : ℕ) (bytes : List ℕ) → sub_rule slot bytes ≡ None → long_at bytes 16 < 2 ^ 63
unfolding sub_rule
sub_small slot bytes h =
    let t : nat_lt (long_at bytes 16) (2 ^ 63) ≡ true =
    last_passes (word_at bytes 0 == sub_magic) (word_at bytes 4 == 1) (slice_index bytes 8 == slot) (slice_index bytes 9 == 0)
    (nat_lt (long_at bytes 16) (2 ^ 63)) Magic Version Slot Mode Done h in
    grind (arith, nat_tests)

-- the count with which a map recovers a tree is below 2 ^ 63
pub recovers_small : (f : Form) (mode : ℕ) (lot : LotView) (m : Map) (t : Tree) (k : ℕ) → MapRecovers f mode lot m t k → k < 2 ^ 63
recovers_small f mode lot m t k a =
    let s : long_at (m sub_address) 16 < 2 ^ 63 = sub_small lot.slot (m sub_address) a.sub.sound in
    let e : long_at (m sub_address) 16 ≡ k = a.sub.done in
    omega (arith, s, e)

-- ---- the blocks that say it

bitmap-inside : (inodes : Bool) (i n : ℕ) → i < bits_of inodes * n → bitmap_of inodes i < 256 * n
bitmap-inside inodes i n h = omega (arith, ordinal_below inodes i n h)

bitmap-place : (o : ℕ) → 256 * o % 256 < 9
bitmap-place o = omega (arith, div-add-mod' (256 * o) 256, mod_below (256 * o) 256 (omega arith))

inode-inside : (i n : ℕ) → i < 64 * n → inode_address i < 256 * n
inode-inside i n h =
    let q = div-add-mod' i 64 in
    let r = mod_below i 64 (omega arith) in
    let s = div-add-mod' (i % 64) 8 in
    let u = mod_below (i % 64) 8 (omega arith) in
    omega arith

inode-place : (i : ℕ) → inode_address i % 256 < 9
inode-place i =
    let r = mod_below i 64 (omega arith) in
    let s = div-add-mod' (i % 64) 8 in
    let u = mod_below (i % 64) 8 (omega arith) in
    let v = div-add-mod' (inode_address i) 256 in
    let w = mod_below (inode_address i) 256 (omega arith) in
    omega arith

module _ (f : Form) (lot : LotView) (m n : Map) (t : Tree)
    (sub : n sub_address ≡ m sub_address)
    (fixed : (a : ℕ) → a < 256 * length lot.groups → a % 256 < 9 → n a ≡ m a)
    (held : (a : ℕ) → 0 < times (used_blocks f (own f m) 0 t) a → n a ≡ m a) where
  used-rests : (inodes : Bool) (i : ℕ) → i < bits_of inodes * length lot.groups → used inodes n i ≡ used inodes m i
  used-rests inodes i h =
      used-bit inodes n i
      ∙ ap (λ (block : List ℕ). bit_of block (bit_place inodes i))
      (fixed (bitmap_of inodes i) (bitmap-inside inodes i (length lot.groups) h) (bitmap-place (i / bits_of inodes)))
      ∙ sym (used-bit inodes m i)

  counted-rests : (inodes : Bool) → counted inodes n ≡ counted inodes m
  counted-rests inodes = ap (λ (block : List ℕ). word_at block (count_place inodes)) sub

  module _ (h : HoldsTree f lot m t) where
    same : SameAt (own f m) (own f n) (used_inodes f (own f m) 0 t)
    same = record {
      at = λ k c.
          let low = Reads-number f lot (own f m) k 0 0 t h.reads c in
          own-rests f m n k (fixed (inode_address k) (inode-inside k (length lot.groups) low) (inode-place k))
          (λ a u. held a (omega (arith, has-times (own f m k).uses a u, used-one f (own f m) (λ i. (own f m i).uses) a k k 0 t c)));
    }

    blocks-rest : used_blocks f (own f n) 0 t ≡ used_blocks f (own f m) 0 t
    blocks-rest = uses-frame f (own f m) (own f n) (λ i. (own f m i).uses) (λ i. (own f n i).uses) (λ k e. ap (λ x. x.uses) e) 0 t same

    inodes-rest : used_inodes f (own f n) 0 t ≡ used_inodes f (own f m) 0 t
    inodes-rest = uses-frame f (own f m) (own f n) (λ i. i ∷ []) (λ i. i ∷ []) (λ k e. refl) 0 t same

    pub holds_rests : HoldsTree f lot n t
    holds_rests = record {
      dir = h.dir;
      reads = Reads-frame f lot (own f m) (own f n) 0 0 t same h.reads;
      reserved = record { set = λ b low place. used-rests false b low ∙ h.reserved.set b low place };
      blocks = λ b d. ap (λ xs. times xs b) blocks-rest ∙ h.blocks b d ∙ ap mark (sym (used-rests false b (data_below lot b d)));
      inodes = λ i low. ap (λ xs. times xs i) inodes-rest ∙ h.inodes i low ∙ ap mark (sym (used-rests true i low));
      block_count = counted-rests false ∙ h.block_count ∙ ap length (sym blocks-rest);
      inode_count = counted-rests true ∙ h.inode_count ∙ ap length (sym inodes-rest);
    }

-- the tree and the count are recovered from every map that says the same in the sub-super block, in the bitmaps and inodes,
-- and in the blocks that the tree uses
pub recovers_rests : (f : Form) (mode : ℕ) (lot : LotView) (m n : Map) (t : Tree) (k : ℕ)
    → n sub_address ≡ m sub_address
    → ((a : ℕ) → a < 256 * length lot.groups → a % 256 < 9 → n a ≡ m a)
    → ((a : ℕ) → 0 < times (used_blocks f (own f m) 0 t) a → n a ≡ m a)
    → MapRecovers f mode lot m t k → MapRecovers f mode lot n t k
recovers_rests f mode lot m n t k sub fixed held r = record {
  sub = rw sub r.sub;
  holds = holds_rests f lot m n t sub fixed held r.holds;
}

-- ---- "as often as its bit says", as sets

-- a number that stands in a list as often as its bit says stands there once at most, and just where its bit is set
pub times_is_mark : (xs : List ℕ) (a : ℕ) (b : Bool) → times xs a ≡ mark b → (times xs a ≤ 1) × (b ≡ true → has xs a ≡ true) × (has xs a ≡ true → b ≡ true)
times_is_mark xs a true e = (omega (arith, e), (λ t. times-has xs a (omega (arith, e))), (λ t. refl))
times_is_mark xs a false e = (omega (arith, e), (λ t. absurd (no t)), (λ t. absurd (omega (arith, has-times xs a t, e))))
  where
    no : false ≡ true → ⊥
    no h = cc

-- and where that holds, it stands there so often
pub mark_is_times : (xs : List ℕ) (a : ℕ) (b : Bool) → times xs a ≤ 1 → (b ≡ true → has xs a ≡ true) → (has xs a ≡ true → b ≡ true) → times xs a ≡ mark b
mark_is_times xs a true once set stands = omega (arith, once, has-times xs a (set refl))
mark_is_times xs a false once set stands =
    elim (has xs a) as (λ h. has xs a ≡ h → times xs a ≡ 0) [
      | true ↦ λ h. absurd (no (stands h))
      | false ↦ λ h. omega (arith, (λ (some : 1 ≤ times xs a). no (sym h ∙ times-has xs a some)))
    ] refl
  where
    no : false ≡ true → ⊥
    no h = cc
