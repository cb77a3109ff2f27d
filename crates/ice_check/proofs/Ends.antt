-- What a whole check says of the lot.
use Rattle.std.proofs.Common.{◌≡◌, ℕ, ◌*◌, ◌≤◌, Bool, true, false, List, [], length, sym, refl, ap, ◌∙◌, arith, inl, inr}
use Rattle.ice_base.specs.Bits.{count_below}
use Rattle.ice_base.specs.Lots.{LotView}
use Rattle.ice_base.specs.Used.{used_block, used_inode}
use Rattle.ice_base.specs.declared.fault.Rule.{Rule}
use Rattle.ice_base.specs.declared.fault.Rule.TheVariants as rule
use Rattle.ice_base.proofs.UsedLaws.{data_below}
use Rattle.ice_map.specs.Maps.{times}
use Rattle.ice_map.proofs.ListLaws.{has-times}
use Rattle.ice_map.specs.Own.{mark, own}
use Rattle.tree_spec.specs.Answers.{is_dir}
use Rattle.tree_spec.specs.Trees.{Tree, File, Dir}
use Rattle.tree_spec.specs.Costs.{Form}
use Rattle.ice_reads.specs.Reads.{Reads, used_blocks, used_inodes}
use Rattle.ice_reads.specs.Recovers.{HoldsTree}
use Rattle.ice_reads.specs.Tables.{Map, Table}
use Rattle.ice_reads.proofs.Numbers.{Reads-number, Reads-data}
use Rattle.ice_steps.proofs.Counts.{count-times, mark-same, mark-small}
use Rattle.ice_rules.specs.Walks.{KindFits}
use Rattle.ice_rules.specs.Rules.{Breaks}
use Rattle.ice_rules.proofs.Reaches.{IsRead}
use Rattle.ice_rules.proofs.Whole.{block-bit, inode-bit, block-count, inode-count}
use Rattle.ice_check.specs.Marks.{marked, Checked, IsAt, SeenBefore, Unmarked, Agrees, Disagrees}

module _ (f : Form) (lot : LotView) (m : Map) where
  -- nothing was come to before the root
  pub seen_none : (ins bls : List Bool) → Unmarked ins → Unmarked bls → SeenBefore f lot m [] ins bls
  seen_none ins bls a b = record { inodes = λ j t. absurd (no (sym (a j) ∙ t)); blocks = λ c t. absurd (no (sym (b c) ∙ t)) }
    where
      no : false ≡ true → ⊥
      no e = cc

  pub at_root : IsAt f lot m [] 0 0
  at_root = record { goes = refl; deep = refl }

  module _ (in0 in1 bl0 bl1 : List Bool) (none : Unmarked in0 × Unmarked bl0) (c : Checked f lot m 0 0 in0 in1 bl0 bl1) where
    abbrev o : Table
    o = own f m

    inode-marks : (i : ℕ) → times (used_inodes f o 0 c.tree) i ≡ mark (marked in1 i)
    inode-marks i = omega (arith, c.inodes.each i, ap mark (none.0 i))

    block-marks : (b : ℕ) → times (used_blocks f o 0 c.tree) b ≡ mark (marked bl1 b)
    block-marks b = omega (arith, c.blocks.each b, ap mark (none.1 b))

    inode-once : (i : ℕ) → times (used_inodes f o 0 c.tree) i ≤ 1
    inode-once i = omega (arith, inode-marks i, mark-small (marked in1 i))

    block-once : (b : ℕ) → times (used_blocks f o 0 c.tree) b ≤ 1
    block-once b = omega (arith, block-marks b, mark-small (marked bl1 b))

    root-dir : is_dir c.tree ≡ true
    root-dir = by c.tree c.reads c.sound.kind
      where
        by : (u : Tree) → Reads f lot o 0 0 u → KindFits f lot 0 (o 0).inode → is_dir u ≡ true
        by (Dir es) r k = refl
        by (File bytes) r (inl k) = absurd (omega (arith, k.2))
        by (File bytes) r (inr k) = absurd (omega (arith, k.0, r.1.is_file))

    read : IsRead f lot m c.tree
    read = record { dir = root-dir; reads = c.reads; marked = c.used; once = inode-once 0 }

    inodes-counted : count_below (marked in1) (64 * length lot.groups) ≡ length (used_inodes f o 0 c.tree)
    inodes-counted =
        count-times (marked in1) (64 * length lot.groups) (used_inodes f o 0 c.tree)
        (λ i h. Reads-number f lot o i 0 0 c.tree c.reads (has-times (used_inodes f o 0 c.tree) i h)) (λ i low. inode-marks i)

    blocks-counted : count_below (marked bl1) (256 * length lot.groups) ≡ length (used_blocks f o 0 c.tree)
    blocks-counted =
        count-times (marked bl1) (256 * length lot.groups) (used_blocks f o 0 c.tree)
        (λ b h. data_below lot b (Reads-data f lot o b 0 0 c.tree c.reads (has-times (used_blocks f o 0 c.tree) b h))) (λ b low. block-marks b)

    pub whole_holds : Agrees lot m in1 bl1 → (t : Tree) × HoldsTree f lot m t
    whole_holds a = (
      c.tree,
      record {
        dir = root-dir;
        reads = c.reads;
        reserved = a.reserved;
        blocks = λ b place. block-marks b ∙ ap mark (sym (a.blocks b place));
        inodes = λ i low. inode-marks i ∙ ap mark (sym (a.inodes i low));
        block_count = a.block_count ∙ blocks-counted;
        inode_count = a.inode_count ∙ inodes-counted;
      },
    )

    pub whole_broken : (r : Rule) → Disagrees lot m in1 bl1 r → Breaks f lot m r
    whole_broken rule.Bitmap (inl x) = inl x
    whole_broken rule.Bitmap (inr (inl x)) =
        inr (inl (block-bit f lot m c.tree read inode-once block-once x.0 x.1
        (λ e. x.2 (mark-same (used_block m x.0) (marked bl1 x.0) (sym e ∙ block-marks x.0)))))
    whole_broken rule.Bitmap (inr (inr x)) =
        inr (inr (inode-bit f lot m c.tree read inode-once block-once x.0 x.1
        (λ e. x.2 (mark-same (used_inode m x.0) (marked in1 x.0) (sym e ∙ inode-marks x.0)))))
    whole_broken rule.Counts (inl x) = block-count f lot m c.tree read inode-once block-once (λ e. x (sym e ∙ sym blocks-counted))
    whole_broken rule.Counts (inr x) = inode-count f lot m c.tree read inode-once block-once (λ e. x (sym e ∙ sym inodes-counted))
    whole_broken rule.Magic x = absurd x
    whole_broken rule.Version x = absurd x
    whole_broken rule.Slot x = absurd x
    whole_broken rule.Mode x = absurd x
    whole_broken rule.Done x = absurd x
    whole_broken rule.Kind x = absurd x
    whole_broken rule.Pointer x = absurd x
    whole_broken rule.BlockTwice x = absurd x
    whole_broken rule.InodeTwice x = absurd x
    whole_broken rule.Name x = absurd x
    whole_broken rule.NameTwice x = absurd x
    whole_broken rule.Depth x = absurd x
    whole_broken rule.Header x = absurd x
