-- What a map holds after one inode of the tree, or beside it, was set.
use Rattle.std.proofs.Common.{◌≡◌, ◌<◌, ◌+◌, ◌*◌, ◌%◌, ℕ, true, false, List, [], ◌∷◌, ◌++◌, length, length-append, ◌∙◌, sym, refl, ap, arith}
use Rattle.ice_base.specs.Lots.{LotView}
use Rattle.ice_base.specs.Spare.{has}
use Rattle.ice_base.specs.Used.{used_block, is_data, Reserved}
use Rattle.ice_base.proofs.UsedLaws.{data_place}
use Rattle.ice_map.specs.Maps.{times}
use Rattle.ice_map.proofs.ListLaws.{times-append}
use Rattle.ice_map.specs.Own.{own, mark, OwnSet}
use Rattle.ice_map.proofs.OwnLaws.{times-none}
use Rattle.tree_spec.specs.Trees.{Tree, File, Dir, Found, walk, at}
use Rattle.tree_spec.specs.Costs.{form_one}
use Rattle.tree_spec.specs.Answers.{is_dir}
use Rattle.ice_reads.specs.Tables.{Map, IsInode}
use Rattle.ice_reads.specs.Reads.{Reads, used_blocks, used_inodes}
use Rattle.ice_reads.proofs.Focus.{same_Found}
use Rattle.ice_steps.specs.Beside.{Beside}
use Rattle.ice_steps.proofs.Counts.{mark-same}
use Rattle.ice_steps.proofs.SubLaws.{says-beside, counted-inodes}
use Rattle.ice_steps.proofs.Others.{Loose, all, all-places, all-counted}

-- how each sum over lists of addresses moves: a length, or how often an address stands
abbrev pub Adds : (List ℕ → ℕ) → Type 0
Adds measure = (xs ys : List ℕ) → measure (xs ++ ys) ≡ measure xs + measure ys

-- an inode that was set can be one of the tree where it was one
pub set-inode : (lot : LotView) (m m' : Map) (p h : ℕ) → OwnSet lot form_one m m' p → IsInode form_one lot (own form_one m p) p h
    → IsInode form_one lot (own form_one m' p) p h
set-inode lot m m' p h set r = record {
  depth = r.depth;
  number = r.number;
  places = λ b u. (set.made.holds b u).0;
  rest = set.made.unused;
}

-- a change below the root, or one of a directory to a directory, leaves the root a directory
pub dir-after : (q : List (List ℕ)) (g : Tree → Tree) (t s : Tree) → walk q t ≡ Found s → is_dir t ≡ true
    → (is_dir s ≡ true → is_dir (g s) ≡ true) → is_dir (at q g t) ≡ true
dir-after [] g t s found d keep = ap (λ x. is_dir (g x)) (same_Found t s found) ∙ keep (ap is_dir (sym (same_Found t s found)) ∙ d)
dir-after (c ∷ q) g (File bytes) s found d keep = d
dir-after (c ∷ q) g (Dir es) s found d keep = refl

module _ (mode : ℕ) (lot : LotView) (m m' : Map) (t t' : Tree) (k : ℕ) (xs ys is js : List ℕ) (p : ℕ)
    (b : Beside form_one mode lot m t k xs is) (l : Loose lot m xs is) (here : 0 < times (all mode lot m t k xs is b) p)
    (set : OwnSet lot form_one m m' p) where
  not-in : (us : List ℕ) (a : ℕ) → ((b : ℕ) → has us b ≡ true → is_data lot b ≡ true) → a % 256 < 9 → times us a ≡ 0
  not-in us a places low = times-none us a (elim (has us a) as (λ u. has us a ≡ u → u ≡ false) [
    | true ↦ λ u. let d = data_place lot a (places a u) in absurd (omega arith)
    | false ↦ λ u. refl
  ] refl)

  set-reserved : Reserved lot m'
  set-reserved = record {
    set = λ a h low.
        let e = set.marks.used a in
        let x = not-in (own form_one m p).uses a (all-places mode lot m t k xs is b l p here) low in
        let y = not-in (own form_one m' p).uses a (λ b u. (set.made.holds b u).0) low in
        mark-same (used_block m' a) (used_block m a) (omega arith) ∙ b.reserved.set a h low;
  }

  pub beside-set : is_dir t' ≡ true → Reads form_one lot (own form_one m') 0 0 t'
      → ((measure : List ℕ → ℕ) → Adds measure
      → measure (used_blocks form_one (own form_one m') 0 t' ++ ys) + measure (own form_one m p).uses
      ≡ measure (used_blocks form_one (own form_one m) 0 t ++ xs) + measure (own form_one m' p).uses)
      → ((measure : List ℕ → ℕ) → Adds measure
      → measure (used_inodes form_one (own form_one m') 0 t' ++ js) ≡ measure (used_inodes form_one (own form_one m) 0 t ++ is))
      → ((a : ℕ) → has ys a ≡ true → is_data lot a ≡ true) → ((i : ℕ) → has js i ≡ true → i < 64 * length lot.groups) → Beside form_one mode lot m' t' k ys js
  beside-set dir reads blocks inodes more others = record {
    sub = says-beside form_one mode lot m m' k set.marks.sub b.sub;
    dir = dir;
    reads = reads;
    reserved = set-reserved;
    blocks = λ a h.
        let e = blocks (λ us. times us a) (λ us vs. times-append us vs a) in
        let f = set.marks.used a in
        let g = b.blocks a h in
        omega arith;
    inodes = λ i h. inodes (λ us. times us i) (λ us vs. times-append us vs i) ∙ b.inodes i h ∙ ap mark (sym (set.marks.inodes i));
    block_count =
        let e = blocks (λ us. length us) (λ us vs. length-append us vs) in
        let f = set.marks.counts (all-counted mode lot m t k xs is b l p here) in
        let g = b.block_count in
        omega arith;
    inode_count = counted-inodes m m' set.marks.sub ∙ b.inode_count ∙ sym (inodes (λ us. length us) (λ us vs. length-append us vs));
    more_data = more;
    others_small = others;
  }
