-- What the parts of a check say together of a tree.
use Rattle.std.proofs.Common.{◌≡◌, ℕ, suc, zero, ◌+◌, ◌*◌, ◌<◌, ◌≤◌, ◌==◌, ◌⊎◌, Bool, true, false, List, [], ◌∷◌, ◌++◌, length, refl, ap, subst, arith, inl, inr, ⊎_elim}
use Rattle.std.proofs.lemmas.Bool.Decides.{nat_tests}
use Rattle.ice_base.specs.Lots.{LotView}
use Rattle.ice_base.specs.Used.{used_inode}
use Rattle.ice_map.specs.Maps.{times}
use Rattle.ice_map.proofs.ListLaws.{times-append}
use Rattle.ice_map.specs.Own.{file_bytes, own}
use Rattle.ice_dir.specs.Rows.{DirRow}
use Rattle.tree_spec.specs.Answers.{deepest}
use Rattle.tree_spec.specs.Trees.{File, Dir, Entries, Nil}
use Rattle.tree_spec.specs.Costs.{Form}
use Rattle.ice_reads.specs.Tables.{Map, Table, rows_in, IsInode}
use Rattle.ice_reads.specs.Reads.{Reads, tree_uses, entries_use, used_inodes, used_blocks}
use Rattle.ice_reads.proofs.Frames.{times-other}
use Rattle.ice_rules.specs.Walks.{IsSound, KindFits}
use Rattle.ice_rules.proofs.RowLaws.{no_rows, all_rows, with_row, uses-more, rows_more}
use Rattle.ice_check.specs.Marks.{GotMarks, Checked, CheckedRows, IsGood}
use Rattle.ice_check.proofs.MarkLaws.{marked_both, marked_as, marked_none}

module _ (f : Form) (lot : LotView) (m : Map) where
  abbrev o : Table
  o = own f m

  alone : (i j : ℕ) → 0 < times (i ∷ []) j → i ≡ j
  alone i j h =
      elim (i == j) as (λ b. (i == j) ≡ b → i ≡ j) [
        | true ↦ λ e. grind (arith, nat_tests)
        | false ↦ λ e. absurd (omega (arith, times-other j i [] e, h))
      ] refl

  is-inode : (i h : ℕ) → i < 64 * length lot.groups → h ≤ deepest → IsSound f lot m i → IsInode f lot (o i) i h
  is-inode i h low deep s = record { depth = deep; number = low; places = s.pointers.places; rest = s.pointers.rest }

  no_dir : (k : ℕ) → k ≡ 1 → k ≡ 2 → ⊥
  no_dir k a b = omega arith

  file-size : (i : ℕ) → KindFits f lot i (o i).inode → (o i).inode.kind ≡ 1 → (o i).inode.size ≤ f.longest_file
  file-size i (inl h) one = h.1
  file-size i (inr h) one = absurd (no_dir (o i).inode.kind one h.0)

  dir-size : (i : ℕ) → KindFits f lot i (o i).inode → (o i).inode.kind ≡ 2 → (o i).inode.size < 64 * length lot.groups
  dir-size i (inl h) two = absurd (no_dir (o i).inode.kind h.0 two)
  dir-size i (inr h) two = h.1

  -- a file
  pub file_checked : (i h : ℕ) (in0 in1 bl0 bl1 : List Bool) → i < 64 * length lot.groups → h ≤ deepest → IsSound f lot m i → (o i).inode.kind ≡ 1
      → GotMarks in0 in1 (i ∷ []) → GotMarks bl0 bl1 (o i).uses → Checked f lot m i h in0 in1 bl0 bl1
  file_checked i h in0 in1 bl0 bl1 low deep s one a b = record {
    tree = File (file_bytes (o i));
    sound = s;
    reads = (is-inode i h low deep s, record { is_file = one; within = file-size i s.kind one; bytes_are = refl });
    used = λ j c. subst (λ n. used_inode m n ≡ true) (alone i j c) s.marked;
    inodes = a;
    blocks = b;
  }

  -- a directory
  pub dir_checked : (i h count : ℕ) (in0 in1 in2 bl0 bl1 bl2 : List Bool) → i < 64 * length lot.groups → h ≤ deepest → IsSound f lot m i
      → (o i).inode.kind ≡ 2 → count ≡ length (rows_in f (o i))
      → GotMarks in0 in1 (i ∷ []) → GotMarks bl0 bl1 (o i).uses → CheckedRows f lot m (rows_in f (o i)) (h + 1) count in1 in2 bl1 bl2
      → Checked f lot m i h in0 in2 bl0 bl2
  dir_checked i h count in0 in1 in2 bl0 bl1 bl2 low deep s two is a b c =
      let rs : List DirRow = rows_in f (o i) in
      record {
        tree = Dir c.entries;
        sound = s;
        reads = (is-inode i h low deep s, all_rows f lot o i (h + 1) count c.entries two (dir-size i s.kind two) is c.rows, c.rows.reads);
        used =
            λ j q. ⊎_elim (λ e. subst (λ n. used_inode m n ≡ true) (alone i j e) s.marked) (λ e. c.used j e)
            (split (i ∷ []) (entries_use f o (λ n. n ∷ []) rs c.entries) j q);
        inodes = marked_both in0 in1 in2 (i ∷ []) (entries_use f o (λ n. n ∷ []) rs c.entries) a c.inodes;
        blocks = marked_both bl0 bl1 bl2 (o i).uses (entries_use f o (λ n. (o n).uses) rs c.entries) b c.blocks;
      }
    where
      either : (a b : ℕ) → 0 < a + b → (0 < a) ⊎ (0 < b)
      either zero b h = inr (omega arith)
      either (suc a) b h = inl (omega arith)

      split : (xs ys : List ℕ) (k : ℕ) → 0 < times (xs ++ ys) k → (0 < times xs k) ⊎ (0 < times ys k)
      split xs ys k h = either (times xs k) (times ys k) (subst (λ x. 0 < x) (times-append xs ys k) h)

  -- no row
  pub none_checked : (rs : List DirRow) (h : ℕ) (ins bls : List Bool) → CheckedRows f lot m rs h 0 ins ins bls bls
  none_checked rs h ins bls =
      record { entries = Nil; rows = no_rows f lot o rs h; used = λ j c. absurd (omega (arith, c)); inodes = marked_none ins; blocks = marked_none bls }

  -- one row more
  module _ (i h k j : ℕ) (in0 in1 in2 bl0 bl1 bl2 : List Bool) (good : IsGood f lot m i k j) (t : Checked f lot m j h in1 in2 bl1 bl2)
      (c : CheckedRows f lot m (rows_in f (o i)) h k in0 in1 bl0 bl1) where
    abbrev rs : List DirRow
    rs = rows_in f (o i)

    abbrev more : Entries
    more = with_row f lot o rs h k good.row good.is good.name good.new c.entries c.rows t.tree

    uses : (mine : ℕ → List ℕ) (x : ℕ)
        → times (entries_use f o mine rs more) x ≡ times (entries_use f o mine rs c.entries) x + times (tree_uses f o mine j t.tree) x
    uses mine x =
        omega (arith, uses-more f lot o rs h k good.row good.is good.name good.new c.entries c.rows t.tree mine x, ap (λ n. times (tree_uses f o mine n t.tree) x) good.same)

    either : (a b : ℕ) → 0 < a + b → (0 < a) ⊎ (0 < b)
    either zero b h = inr (omega arith)
    either (suc a) b h = inl (omega arith)

    pub more_checked : CheckedRows f lot m (rows_in f (o i)) h (k + 1) in0 in2 bl0 bl2
    more_checked = record {
      entries = more;
      rows = rows_more f lot o rs h k good.row good.is good.name good.new c.entries c.rows t.tree (subst (λ n. Reads f lot o n h t.tree) good.same t.reads);
      used =
          λ x q. ⊎_elim (λ a. c.used x a) (λ b. t.used x b)
          (either (times (entries_use f o (λ n. n ∷ []) rs c.entries) x) (times (used_inodes f o j t.tree) x)
          (subst (λ n. 0 < n) (uses (λ n. n ∷ []) x) q));
      inodes =
          marked_as in0 in1 in2 (entries_use f o (λ n. n ∷ []) rs c.entries) (used_inodes f o j t.tree)
          (entries_use f o (λ n. n ∷ []) rs more) (uses (λ n. n ∷ [])) c.inodes t.inodes;
      blocks =
          marked_as bl0 bl1 bl2 (entries_use f o (λ n. (o n).uses) rs c.entries) (used_blocks f o j t.tree)
          (entries_use f o (λ n. (o n).uses) rs more) (uses (λ n. (o n).uses)) c.blocks t.blocks;
    }
