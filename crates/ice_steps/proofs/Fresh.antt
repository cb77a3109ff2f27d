-- A loose inode: one that was just made, and a file that was cut to nothing.
use Rattle.std.proofs.Common.{◌≡◌, ◌≤◌, ◌<◌, ◌+◌, ◌*◌, ◌==◌, ℕ, Bool, cond, true, false, List, [], ◌∷◌, ◌++◌, map, length, slice_index, replicate, ◌∙◌, sym, refl, ap, subst, arith}
use Rattle.std.specs.Prelude.{All, is_some}
use Rattle.std.specs.List.{IsDistinct}
use Rattle.std.specs.Ordering.{eq_by_cmp}
use Rattle.std.specs.FinMap.{find}
use Rattle.std.proofs.lemmas.List.{get_or-replicate}
use Rattle.std.proofs.lemmas.List.Elements.{All-nil}
use Rattle.ice_base.specs.Fields.{word_at}
use Rattle.ice_base.specs.Inodes.{inode_address}
use Rattle.ice_base.specs.Lots.{LotView, sub_address}
use Rattle.ice_base.specs.Spare.{has}
use Rattle.ice_map.specs.declared.codec.Inode.{Inode}
use Rattle.ice_map.specs.Inodes.{inode_of, InodeSet}
use Rattle.ice_map.specs.Maps.{times, uses}
use Rattle.ice_map.proofs.ListLaws.{has-none}
use Rattle.ice_map.proofs.MarkLaws.{used-same}
use Rattle.ice_map.proofs.GrowLaws.{inode_not_bitmap, inode_not_sub}
use Rattle.ice_map.specs.Own.{own, mark, map_length, blocks_for, WellMade}
use Rattle.ice_file.specs.Files.{bytes_from}
use Rattle.ice_file.proofs.ByteLaws.{all_bytes}
use Rattle.ice_dir.specs.Rows.{DirRow}
use Rattle.tree_spec.specs.Trees.{Tree, File, Dir, Nil, by_bytes}
use Rattle.tree_spec.specs.Costs.{form_one}
use Rattle.tree_spec.specs.Answers.{deepest}
use Rattle.ice_reads.specs.Tables.{Map, rows_in, IsInode, IsNameOf}
use Rattle.ice_reads.specs.Reads.{Reads, used_blocks, used_inodes}
use Rattle.ice_reads.proofs.Frames.{SameAt}
use Rattle.ice_reads.proofs.Losses.{length-rows_in}
use Rattle.ice_steps.specs.Beside.{Beside, OnlyAt}
use Rattle.ice_steps.proofs.Counts.{times-same}
use Rattle.ice_steps.proofs.Keeps.{only-one, put-own}
use Rattle.ice_steps.proofs.Others.{all-apart}
use Rattle.ice_steps.proofs.Still.{beside-still, used-places}
use Rattle.ice_steps.proofs.SubLaws.{says-same}

-- an inode of no bytes or entries whose pointers are 0
pub record IsFresh (kind : ℕ) (x : Inode) : Type 0 where
  pub is : x.kind ≡ kind
  pub none : x.size ≡ 0
  pub direct : (n : ℕ) → n < 12 → slice_index x.direct n ≡ 0
  pub single : x.single ≡ 0
  pub double : x.double ≡ 0

-- an inode of this kind whose size and pointers are 0 is fresh
pub fresh_value : (kind : ℕ) (x : Inode) → x ≡ record { kind = kind; size = 0; direct = replicate 12 0; single = 0; double = 0 } → IsFresh kind x
fresh_value kind x e = record {
  is = ap (λ (i : Inode). i.kind) e;
  none = ap (λ (i : Inode). i.size) e;
  direct = λ n h. ap (λ (i : Inode). slice_index i.direct n) e ∙ get_or-replicate 12 n 0 0 h;
  single = ap (λ (i : Inode). i.single) e;
  double = ap (λ (i : Inode). i.double) e;
}

-- an inode of size 0 has a map of no blocks
pub no-map : (x : Inode) → x.size ≡ 0 → map_length form_one x ≡ 0
no-map x e = ap blocks_for (none (x.kind == 2) x.size e)
  where
    none : (b : Bool) (n : ℕ) → n ≡ 0 → cond b (64 * n) n ≡ 0
    none true n e = omega arith
    none false n e = e

-- an inode of no bytes or entries uses no block
pub fresh-uses : (m : Map) (j : ℕ) → map_length form_one (inode_of m j) ≡ 0 → (own form_one m j).uses ≡ []
fresh-uses m j e = ap (uses m (inode_of m j)) e

fresh-inode : (lot : LotView) (m : Map) (j h kind : ℕ) → h ≤ deepest → j < 64 * length lot.groups → IsFresh kind (inode_of m j)
    → IsInode form_one lot (own form_one m j) j h
fresh-inode lot m j h kind deep small f =
    let z = no-map (inode_of m j) f.none in
    record {
      depth = deep;
      number = small;
      places = λ b u. let n = has-none b in let e : has (own form_one m j).uses b ≡ has [] b = ap (λ us. has us b) (fresh-uses m j z) in absurd cc;
      rest = record { direct = λ n l h. f.direct n h; single = λ l. f.single; double = λ l. f.double };
    }

empty : {A : Type 0} (xs : List A) → length xs ≡ 0 → xs ≡ []
empty [] e = refl
empty (x ∷ xs) e = absurd (omega arith)

IsDistinct-nil : IsDistinct (eq_by_cmp by_bytes) []
unfolding IsDistinct
IsDistinct-nil = tt

module _ (lot : LotView) (m : Map) (j h : ℕ) (deep : h ≤ deepest) (small : j < 64 * length lot.groups) where
  -- a fresh inode of a directory stands for the empty directory
  pub fresh_dir : IsFresh 2 (inode_of m j) → Reads form_one lot (own form_one m) j h (Dir Nil)
  fresh_dir f =
      let none : rows_in form_one (own form_one m j) ≡ [] = empty (rows_in form_one (own form_one m j))
      (length-rows_in form_one (own form_one m j) ∙ f.none) in (
        fresh-inode lot m j h 2 deep small f,
        record {
          is_dir = f.is;
          within = let e = f.none in omega arith;
          fit = subst (All (λ (row : DirRow). IsNameOf form_one row.0)) (sym none) (All-nil (λ (row : DirRow). IsNameOf form_one row.0));
          differ = subst (λ rs. IsDistinct (eq_by_cmp by_bytes) (map (λ (row : DirRow). row.0) rs)) (sym none) IsDistinct-nil;
          sorted = tt;
          maps = λ c. ap (λ rs. is_some (find by_bytes c rs)) (sym none);
          count = sym f.none;
        },
        tt,
      )

  -- a fresh inode of a file stands for the empty file
  pub fresh_file : IsFresh 1 (inode_of m j) → Reads form_one lot (own form_one m) j h (File [])
  fresh_file f = (
    fresh-inode lot m j h 1 deep small f,
    record {
      is_file = f.is;
      within = let e = f.none in omega arith;
      bytes_are = all_bytes form_one refl m j f.is ∙ ap (bytes_from m (inode_of m j) 0) f.none;
    },
  )

-- it uses no block, and itself alone
pub fresh_dir_blocks : (m : Map) (j : ℕ) → IsFresh 2 (inode_of m j) → used_blocks form_one (own form_one m) j (Dir Nil) ≡ []
fresh_dir_blocks m j f = ap (λ us. us ++ []) (fresh-uses m j (no-map (inode_of m j) f.none))

pub fresh_file_blocks : (m : Map) (j : ℕ) → IsFresh 1 (inode_of m j) → used_blocks form_one (own form_one m) j (File []) ≡ []
fresh_file_blocks m j f = fresh-uses m j (no-map (inode_of m j) f.none)

pub fresh_made : (lot : LotView) (m : Map) (j kind : ℕ) → IsFresh kind (inode_of m j) → WellMade lot form_one m j
fresh_made lot m j kind f =
    let z = fresh-uses m j (no-map (inode_of m j) f.none) in
    record {
      holds = λ b u. let n = has-none b in let e : has (own form_one m j).uses b ≡ has [] b = ap (λ us. has us b) z in absurd cc;
      once = λ b. let e : times (own form_one m j).uses b ≡ 0 = ap (λ us. times us b) z in omega arith;
      unused = record { direct = λ n l h. f.direct n h; single = λ l. f.single; double = λ few. f.double };
    }

-- an inode that stands loose is put: those of the tree say what they said
pub put_stays : (mode : ℕ) (lot : LotView) (m m' : Map) (t : Tree) (k : ℕ) (xs : List ℕ) (j : ℕ) (inode : Inode)
    → Beside form_one mode lot m t k xs (j ∷ []) → InodeSet m m' j inode → OnlyAt (inode_address j ∷ []) m m'
    → SameAt (own form_one m) (own form_one m') (used_inodes form_one (own form_one m) 0 t)
put_stays mode lot m m' t k xs j inode b set at = record {
  at = λ x h. put-own lot m m' j x (only-one (inode_address j) m m' at)
      (set.others x
      (λ e. let o = all-apart mode lot m t k xs (j ∷ []) b x in let n = ap (λ y. times (y ∷ []) x) (sym e) in
      let s = times-same x x [] refl in absurd (omega arith)))
      (used-places lot m 0 0 t b.reads x h);
}

-- an inode that stands loose and is put stands loose afterwards
pub put_loose : (mode : ℕ) (lot : LotView) (m m' : Map) (t : Tree) (k j : ℕ) (inode : Inode) → Beside form_one mode lot m t k [] (j ∷ [])
    → InodeSet m m' j inode → OnlyAt (inode_address j ∷ []) m m' → Beside form_one mode lot m' t k [] (j ∷ [])
put_loose mode lot m m' t k j inode b set at =
    let only = only-one (inode_address j) m m' at in
    let sub : m' sub_address ≡ m sub_address = only sub_address (λ e. inode_not_sub j (sym e)) in
    let bitmaps = λ (o : ℕ). only (256 * o) (λ e. inode_not_bitmap j o (sym e)) in
    beside-still mode lot m m' t k k [] [] (j ∷ []) (j ∷ []) b
    (says-same form_one mode lot.slot (m sub_address) (m' sub_address) k (λ n h. ap (λ (x : List ℕ). slice_index x n) sub) b.sub)
    (put_stays mode lot m m' t k [] j inode b set at)
    (λ a h l. used-same false m m' a bitmaps)
    (record {
      blocks = λ a h. ap (λ t. mark t + times [] a) (used-same false m m' a bitmaps);
      inodes = λ i h. ap (λ t. mark t + times (j ∷ []) i) (used-same true m m' i bitmaps);
      block_count = ap (λ (x : List ℕ). word_at x 24 + 0) sub;
      inode_count = ap (λ (x : List ℕ). word_at x 28 + 1) sub;
      more_data = b.more_data;
      others_small = b.others_small;
    })

-- what stands beside the tree is then a tree of its own
pub dir_beside : (mode : ℕ) (lot : LotView) (m : Map) (t : Tree) (k j : ℕ) → Beside form_one mode lot m t k [] (j ∷ [])
    → IsFresh 2 (inode_of m j)
    → Beside form_one mode lot m t k (used_blocks form_one (own form_one m) j (Dir Nil)) (used_inodes form_one (own form_one m) j (Dir Nil))
dir_beside mode lot m t k j b f = subst (λ us. Beside form_one mode lot m t k us (j ∷ [])) (sym (fresh_dir_blocks m j f)) b

-- a loose inode that is a fresh file's stands beside the tree as the empty file
pub file_beside : (mode : ℕ) (lot : LotView) (m : Map) (t : Tree) (k j : ℕ) → Beside form_one mode lot m t k [] (j ∷ [])
    → IsFresh 1 (inode_of m j)
    → Beside form_one mode lot m t k (used_blocks form_one (own form_one m) j (File [])) (used_inodes form_one (own form_one m) j (File []))
file_beside mode lot m t k j b f = subst (λ us. Beside form_one mode lot m t k us (j ∷ [])) (sym (fresh_file_blocks m j f)) b
