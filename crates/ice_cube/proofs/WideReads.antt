-- What a map recovers, a map of further groups as well recovers.
use Rattle.std.proofs.Common.{◌≡◌, ◌∙◌, ◌⊎◌, ◌≤◌, ◌<◌, ◌+◌, ◌*◌, ◌/◌, ◌%◌, ℕ, zero, suc, Bool, true, false, List, length, ⊎_elim, refl, sym, ap, arith}
use Rattle.std.proofs.lemmas.Nat.{div-add-mod', mod_below}
use Rattle.ice_base.specs.Bits.{bit_of}
use Rattle.ice_base.specs.Lots.{LotView, is_address, sub_address}
use Rattle.ice_base.specs.Used.{bit_place, bits_of, is_data, used}
use Rattle.ice_base.proofs.LotLaws.{is_address_at, is_address_sub}
use Rattle.ice_base.proofs.UsedLaws.{data_below, data_of, data_place, ordinal_below, used-bit}
use Rattle.ice_layout.specs.Subs.{fresh_bitmap}
use Rattle.ice_dir.specs.Rows.{DirRow}
use Rattle.ice_map.specs.Maps.{times}
use Rattle.ice_map.specs.Own.{Own, mark, own}
use Rattle.tree_spec.specs.Costs.{Form}
use Rattle.tree_spec.specs.Trees.{Tree, File, Dir, Entries, Nil, Entry}
use Rattle.ice_reads.specs.Reads.{Reads, ReadsEach, used_blocks, used_inodes}
use Rattle.ice_reads.specs.Recovers.{HoldsTree, MapRecovers}
use Rattle.ice_reads.specs.Tables.{IsDirInode, IsInode, Map, Table, inode_named, rows_in}
use Rattle.ice_reads.proofs.Numbers.{Reads-data, Reads-number}
use Rattle.ice_reads.proofs.Recovering.{recovers_rests}
use Rattle.ice_cube.proofs.WideBits.{further_free, further_reserved}

below_or : (a n : ℕ) → (a < n) ⊎ (n ≤ a)
below_or a n = grind arith

none : (x : ℕ) → ¬ (0 < x) → x ≡ 0
none zero h = refl
none (suc x) h = absurd (h (omega arith))

-- ---- a tree in a lot of more groups

module _ (f : Form) (old lot : LotView) (few : length old.groups ≤ length lot.groups) where
  data_more : (b : ℕ) → is_data old b ≡ true → is_data lot b ≡ true
  data_more b h = data_of lot b (omega (arith, data_below old b h, few)) (data_place old b h)

  inode_more : (o : Own) (i h : ℕ) → IsInode f old o i h → IsInode f lot o i h
  inode_more o i h is = record {
    depth = is.depth;
    number = omega (arith, is.number, few);
    places = λ b used. data_more b (is.places b used);
    rest = is.rest;
  }

  dir_more : (o : Own) (es : Entries) → IsDirInode f old o es → IsDirInode f lot o es
  dir_more o es is = record {
    is_dir = is.is_dir;
    within = omega (arith, is.within, few);
    fit = is.fit;
    differ = is.differ;
    sorted = is.sorted;
    maps = is.maps;
    count = is.count;
  }

  module _ (o : Table) where
    mutual
      reads_more : (i h : ℕ) (t : Tree) → Reads f old o i h t → Reads f lot o i h t
      reads_more i h (File bytes) r = (inode_more (o i) i h r.0, r.1)
      reads_more i h (Dir es) r = (inode_more (o i) i h r.0, dir_more (o i) es r.1, each_more (rows_in f (o i)) (h + 1) es r.2)

      each_more : (rs : List DirRow) (h : ℕ) (es : Entries) → ReadsEach f old o rs h es → ReadsEach f lot o rs h es
      each_more rs h Nil r = tt
      each_more rs h (Entry c t es) r = (reads_more (inode_named c rs) h t r.0, each_more rs h es r.1)

  -- ---- the marks

  module _ (n : Map) (heads : (o : ℕ) → length old.groups ≤ o → o < length lot.groups → n (256 * o) ≡ fresh_bitmap false) where
    ordinal_from : (inodes : Bool) (i g : ℕ) → bits_of inodes * g ≤ i → g ≤ i / bits_of inodes
    ordinal_from true i g h = omega (arith, h, div-add-mod' i 64, mod_below i 64 (omega arith))
    ordinal_from false i g h = omega (arith, h, div-add-mod' i 256, mod_below i 256 (omega arith))

    new_bit : (inodes : Bool) (i : ℕ) → bits_of inodes * length old.groups ≤ i → i < bits_of inodes * length lot.groups
        → used inodes n i ≡ bit_of (fresh_bitmap false) (bit_place inodes i)
    new_bit inodes i low high =
        used-bit inodes n i
        ∙ ap (λ (block : List ℕ). bit_of block (bit_place inodes i))
        (heads (i / bits_of inodes) (ordinal_from inodes i (length old.groups) low) (ordinal_below inodes i (length lot.groups) high))

    module _ (t : Tree) (h : HoldsTree f old n t) where
      reserved_more : (b : ℕ) → b < 256 * length lot.groups → b % 256 < 9 → used false n b ≡ true
      reserved_more b high place = ⊎_elim
          (λ low. h.reserved.set b low place)
          (λ from. new_bit false b from high ∙ further_reserved (b % 256) place)
          (below_or b (256 * length old.groups))

      blocks_more : (b : ℕ) → is_data lot b ≡ true → times (used_blocks f (own f n) 0 t) b ≡ mark (used false n b)
      blocks_more b is = ⊎_elim
          (λ low. h.blocks b (data_of old b low (data_place lot b is)))
          (λ from. none (times (used_blocks f (own f n) 0 t) b)
          (λ some. omega (arith, from, data_below old b (Reads-data f old (own f n) b 0 0 t h.reads some)))
          ∙ sym (ap mark (new_bit false b from (data_below lot b is) ∙ further_free (b % 256) (data_place lot b is))))
          (below_or b (256 * length old.groups))

      inodes_more : (i : ℕ) → i < 64 * length lot.groups → times (used_inodes f (own f n) 0 t) i ≡ mark (used true n i)
      inodes_more i high = ⊎_elim
          (λ low. h.inodes i low)
          (λ from. none (times (used_inodes f (own f n) 0 t) i)
          (λ some. omega (arith, from, Reads-number f old (own f n) i 0 0 t h.reads some))
          ∙ sym (ap mark (new_bit true i from high ∙ further_free (256 + i % 64) (omega arith))))
          (below_or i (64 * length old.groups))

      holds_more : HoldsTree f lot n t
      holds_more = record {
        dir = h.dir;
        reads = reads_more (own f n) 0 0 t h.reads;
        reserved = record { set = reserved_more };
        blocks = blocks_more;
        inodes = inodes_more;
        block_count = h.block_count;
        inode_count = h.inode_count;
      }

-- ---- what is recovered

-- the tree has a root, so the lot has a group
some_group : (f : Form) (lot : LotView) (o : Table) (t : Tree) → Reads f lot o 0 0 t → 1 ≤ length lot.groups
some_group f lot o (File bytes) r = omega (arith, r.0.number)
some_group f lot o (Dir es) r = omega (arith, r.0.number)

-- A lot with a tree has a group.
pub recovers_group : (f : Form) (mode : ℕ) (lot : LotView) (m : Map) (t : Tree) (k : ℕ) → MapRecovers f mode lot m t k → 1 ≤ length lot.groups
recovers_group f mode lot m t k r = some_group f lot (own f m) t r.holds.reads

-- What a map recovers, one that agrees with it on the lot's addresses and has fresh bitmaps of further groups recovers in a lot with these groups.
pub recovers_more : (f : Form) (mode : ℕ) (old lot : LotView) (m n : Map) (t : Tree) (k : ℕ)
    → lot.slot ≡ old.slot → length old.groups ≤ length lot.groups
    → ((a : ℕ) → is_address old a ≡ true → n a ≡ m a)
    → ((o : ℕ) → length old.groups ≤ o → o < length lot.groups → n (256 * o) ≡ fresh_bitmap false)
    → MapRecovers f mode old m t k → MapRecovers f mode lot n t k
recovers_more f mode old lot m n t k slot few same heads r =
    let there = recovers_rests f mode old m n t k (same sub_address (is_address_sub old))
    (λ a low place. same a (is_address_at old a low))
    (λ a some. same a (is_address_at old a (data_below old a (Reads-data f old (own f m) a 0 0 t r.holds.reads some)))) r in
    record {
      sub = rw slot there.sub;
      holds = holds_more f old lot few n heads t there.holds;
    }
