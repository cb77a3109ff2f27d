-- A fresh lot recovers the empty directory.
use Rattle.std.proofs.Common.{◌≡◌, ℕ, zero, suc, ◌+◌, ◌*◌, ◌/◌, ◌%◌, ◌<◌, ◌==◌, true, false, cond, List, [], ◌∷◌, ◌++◌, map, length, slice_index, sym, refl, ap, ◌∙◌, subst, arith}
use Rattle.std.specs.Prelude.{All, is_some}
use Rattle.std.specs.List.{IsDistinct}
use Rattle.std.specs.FinMap.{find}
use Rattle.std.specs.Ordering.{eq_by_cmp}
use Rattle.std.proofs.lemmas.Bool.Decides.{nat_tests}
use Rattle.std.proofs.lemmas.List.Elements.{All-nil}
use Rattle.std.proofs.lemmas.Nat.{div-add-mod', mod_below}
use Rattle.ice_base.specs.Bits.{bit_of}
use Rattle.ice_base.specs.Lots.{LotView}
use Rattle.ice_base.specs.Spare.{has}
use Rattle.ice_base.specs.Used.{used_block, used_inode, is_data}
use Rattle.ice_base.proofs.UsedLaws.{used-bit, data_below, data_place}
use Rattle.ice_layout.specs.Subs.{fresh_bitmap, fresh_inodes}
use Rattle.ice_map.specs.declared.codec.Inode.{Inode}
use Rattle.ice_map.specs.Inodes.{inode_of, inode_at}
use Rattle.ice_map.specs.Maps.{times, uses}
use Rattle.ice_map.proofs.ListLaws.{has-none}
use Rattle.ice_map.specs.Own.{map_length, blocks_for, mark, own, RestIsZero}
use Rattle.ice_dir.specs.Rows.{DirRow}
use Rattle.tree_spec.specs.Trees.{Dir, Nil, by_bytes}
use Rattle.tree_spec.specs.Costs.{form_one}
use Rattle.ice_reads.specs.Tables.{Map, rows_in, IsInode, IsNameOf, IsDirInode}
use Rattle.ice_reads.specs.Reads.{Reads, used_blocks}
use Rattle.ice_reads.specs.Recovers.{MapRecovers}
use Rattle.ice_reads.specs.Fresh.{IsFreshLot}
use Rattle.ice_reads.proofs.Frames.{times-other}
use Rattle.ice_reads.proofs.Losses.{length-rows_in}
use Rattle.ice_reads.proofs.FreshBits.{bitmap-reserved, bitmap-data, bitmap-root, bitmap-inodes, root-kind, root-size, root-direct, root-single, root-double}

module _ (lot : LotView) (m : Map) (fresh : IsFreshLot lot m) where
  -- ---- the root

  abbrev root : Inode
  root = inode_of m 0

  root-is : root ≡ inode_at (fresh_inodes true) 0
  root-is = ap (λ (block : List ℕ). inode_at block 0) (fresh.groups 0 1 fresh.some (omega arith))

  kind-is : root.kind ≡ 2
  kind-is = ap (λ x. x.kind) root-is ∙ root-kind

  size-is : root.size ≡ 0
  size-is = ap (λ x. x.size) root-is ∙ root-size

  no-blocks : map_length form_one root ≡ 0
  no-blocks = ap (λ k. blocks_for (cond (k == 2) (64 * root.size) root.size)) kind-is ∙ ap (λ s. blocks_for (64 * s)) size-is

  no-uses : (own form_one m 0).uses ≡ []
  no-uses = ap (uses m root) no-blocks

  no-rows : rows_in form_one (own form_one m 0) ≡ []
  no-rows = empty (rows_in form_one (own form_one m 0)) (length-rows_in form_one (own form_one m 0) ∙ size-is)
    where
      empty : (rs : List DirRow) → length rs ≡ 0 → rs ≡ []
      empty [] h = refl
      empty (e ∷ rs) h = absurd (omega (arith, h))

  rest-is-zero : RestIsZero root 0
  rest-is-zero = record {
    direct = λ k l h. ap (λ x. slice_index x.direct k) root-is ∙ root-direct k h;
    single = λ h. ap (λ x. x.single) root-is ∙ root-single;
    double = λ h. ap (λ x. x.double) root-is ∙ root-double;
  }

  none_has : (b : ℕ) → has [] b ≡ true → is_data lot b ≡ true
  none_has b h = absurd (no (sym (has-none b) ∙ h))
    where
      no : false ≡ true → ⊥
      no e = cc

  root-inode : IsInode form_one lot (own form_one m 0) 0 0
  root-inode = record {
    depth = omega arith;
    number = omega (arith, fresh.some);
    places = λ b h. none_has b (ap (λ xs. has xs b) (sym no-uses) ∙ h);
    rest = subst (RestIsZero root) (sym no-blocks) rest-is-zero;
  }

  distinct-none : IsDistinct (eq_by_cmp by_bytes) []
  unfolding IsDistinct
  distinct-none = tt

  root-dir : IsDirInode form_one lot (own form_one m 0) Nil
  root-dir = record {
    is_dir = kind-is;
    within = omega (arith, fresh.some, size-is);
    fit = subst (All (λ (row : DirRow). IsNameOf form_one row.0)) (sym no-rows) (All-nil (λ (row : DirRow). IsNameOf form_one row.0));
    differ = subst (λ (rs : List DirRow). IsDistinct (eq_by_cmp by_bytes) (map (λ (row : DirRow). row.0) rs)) (sym no-rows) distinct-none;
    sorted = tt;
    maps = λ c. ap (λ (rs : List DirRow). is_some (find by_bytes c rs)) (sym no-rows);
    count = sym size-is;
  }

  root-reads : Reads form_one lot (own form_one m) 0 0 (Dir Nil)
  root-reads = (root-inode, root-dir, tt)

  no-used : used_blocks form_one (own form_one m) 0 (Dir Nil) ≡ []
  no-used = ap (λ xs. xs ++ []) no-uses

  -- ---- the marks

  bitmap-is : (g : ℕ) → g < length lot.groups → m (256 * g) ≡ fresh_bitmap (g == 0)
  bitmap-is g h = ap m (omega arith) ∙ fresh.groups g 0 h (omega arith)

  block-bit : (b : ℕ) → b < 256 * length lot.groups → used_block m b ≡ bit_of (fresh_bitmap (b / 256 == 0)) (b % 256)
  block-bit b h =
      used-bit false m b
      ∙ ap (λ (block : List ℕ). bit_of block (b % 256)) (bitmap-is (b / 256) (omega (arith, div-add-mod' b 256, mod_below b 256 (omega arith))))

  inode-bit : (i : ℕ) → i < 64 * length lot.groups → used_inode m i ≡ bit_of (fresh_bitmap (i / 64 == 0)) (256 + i % 64)
  inode-bit i h =
      used-bit true m i
      ∙ ap (λ (block : List ℕ). bit_of block (256 + i % 64)) (bitmap-is (i / 64) (omega (arith, div-add-mod' i 64, mod_below i 64 (omega arith))))

  root-marked : (i : ℕ) → i < 64 * length lot.groups → times (0 ∷ []) i ≡ mark (used_inode m i)
  root-marked zero h = sym (ap mark (inode-bit 0 h ∙ bitmap-root))
  root-marked (suc i) h =
      times-other (suc i) 0 [] other
      ∙ sym (ap mark (inode-bit (suc i) h ∙ bitmap-inodes (suc i / 64 == 0) (suc i % 64) later (mod_below (suc i) 64 (omega arith))))
    where
      other : (0 == suc i) ≡ false
      other = grind (arith, nat_tests)

      later : (suc i / 64 == 0) ≡ true → 0 < suc i % 64
      later t = let q : suc i / 64 ≡ 0 = grind (arith, nat_tests) in omega (arith, div-add-mod' (suc i) 64)

  -- a fresh lot recovers the empty directory, with the mode 0 and the count 0
  pub fresh_recovers : MapRecovers form_one 0 lot m (Dir Nil) 0
  fresh_recovers = record {
    sub = record {
      sound = fresh.sub.sound;
      version = ap (λ x. x.version) fresh.sub.value;
      mode = ap (λ x. x.mode) fresh.sub.value;
      done = ap (λ x. x.done) fresh.sub.value;
    };
    holds = record {
      dir = refl;
      reads = root-reads;
      reserved = record { set = λ b h p. block-bit b h ∙ bitmap-reserved (b / 256 == 0) (b % 256) p };
      blocks = λ b d. ap (λ xs. times xs b) no-used
          ∙ sym (ap mark (block-bit b (data_below lot b d) ∙ bitmap-data (b / 256 == 0) (b % 256) (data_place lot b d) (mod_below b 256 (omega arith))));
      inodes = root-marked;
      block_count = ap (λ x. x.blocks) fresh.sub.value ∙ ap length (sym no-used);
      inode_count = ap (λ x. x.nodes) fresh.sub.value;
    };
  }
