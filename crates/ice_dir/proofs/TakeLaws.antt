-- What a removal of one row does.
use Rattle.std.proofs.Common.{◌≡◌, ◌≢◌, ◌≤◌, ◌<◌, ◌⊎◌, ◌+◌, ◌-◌, ◌*◌, ◌/◌, ◌%◌, ℕ, true, false, cond, ◌&&◌, nat_lt, nat_le, List, [], ◌∷◌, length, length-append, get_or, slice_index, ◌∙◌, sym, refl, ap, subst, inl, inr, ⊎_elim, arith, ltb}
use Rattle.std.proofs.lemmas.Bool.Decides.{nat_tests}
use Rattle.std.proofs.lemmas.Nat.{div-add-mod', mod_below}
use Rattle.std.proofs.lemmas.List.FromFn.{get_or-map-range_with_len}
use Rattle.std.specs.List.{swap_remove, position_or_len}
use Rattle.ice_base.specs.Fields.{word_at, SameBeside}
use Rattle.ice_base.specs.Inodes.{inode_address}
use Rattle.ice_base.specs.Lots.{LotView, sub_address}
use Rattle.ice_base.specs.Spare.{has}
use Rattle.ice_base.specs.Used.{is_data, used_block, count_place, counted, free_count}
use Rattle.ice_map.specs.declared.codec.Inode.{Inode}
use Rattle.ice_map.specs.Inodes.{inode_at, inode_of, InodeSet}
use Rattle.ice_map.specs.Maps.{nth_block, blocks_of, blocks_between, leads, uses, times, cut_off, cut_room, shortened, Stays, Cut, FreeOrTwice, HasTwice, Misleads}
use Rattle.ice_map.proofs.CutLaws.{length-between}
use Rattle.ice_map.proofs.GrowLaws.{inode_not_bitmap, inode_not_data, inode_not_sub}
use Rattle.ice_map.proofs.MarkLaws.{data_not_bitmap, data_not_sub, used-same, free-same}
use Rattle.ice_map.proofs.MapLaws.{nth-direct, leads-direct, leads-single, leads-lost}
use Rattle.ice_map.proofs.UsesLaws.{cut-same, off-free, off-has, times-has}
use Rattle.ice_map.specs.Own.{entry_size, MadeOf, Confuses}
use Rattle.ice_map.specs.Moves.{Moved, HadBlock, content_of, uses_of}
use Rattle.ice_map.proofs.ShrinkLaws.{cut-moved, cut-contents}
use Rattle.ice_map.proofs.GrowthLaws.{Unmixed, unmixed-one, misled-here}
use Rattle.ice_map.proofs.MoveLaws.{had-reached}
use Rattle.ice_map.proofs.OwnLaws.{uses-nth, nth-moves}
use Rattle.ice_map.proofs.SetLaws.{resized, nth-resized}
use Rattle.tree_spec.specs.Costs.{Form, form_one}
use Rattle.ice_dir.specs.Changes.{blocks_sized, entry_blocks, RowPut, DirSet, TextTaken, EntryGone}
use Rattle.ice_dir.specs.Rows.{DirRow, entries_in, per_block, place_of, row_bytes, entry_bytes, row_sized, dir_rows_of, named, FirstNamed, IsDirectory}
use Rattle.ice_dir.proofs.DirLaws.{position-found, rows-read}
use Rattle.ice_dir.proofs.PutLaws.{in-sixteen, sized-sixteenth, row-inside, row-put, dir-taken, text-taken}

-- a block of the rows of a directory is one of its map
pub block-inside : (entry size n : ℕ) → entry ≡ 64 → n * entries_in entry < size → n < blocks_sized entry size
block-inside entry size n e h =
    let l = sized-sixteenth entry size e in
    let b = div-add-mod' (size + 15) 16 in
    let s = mod_below (size + 15) 16 (omega arith) in
    let p = ap (λ t. n * t) (in-sixteen entry e) in
    let q : n * 16 < size = omega (arith, p, h) in
    omega (arith, l, b, s, q)

-- the last row was copied over row k
pub row-moved : (lot : LotView) (entry : ℕ) (m0 ma mb m2 : ℕ → List ℕ) (x : Inode) (k per at p q : ℕ) (from old new : List ℕ) → entry ≡ 64
    → MadeOf lot m0 x (blocks_sized entry x.size) → length lot.groups ≤ 64 → k < x.size → per ≡ entries_in entry → ma ≡ m0 → mb ≡ ma
    → from ≡ content_of m0 x ((x.size - 1) / per) → old ≡ content_of ma x (k / per) → at ≡ nth_block ma x (k / per) → length old ≡ 1024
    → length new ≡ 1024 → p ≡ place_of entry k → q ≡ place_of entry (x.size - 1)
    → SameBeside p entry old new → row_bytes entry new p ≡ row_bytes entry from q → m2 at ≡ new → ((b : ℕ) → b ≢ at → m2 b ≡ mb b)
    → RowPut lot entry m0 m2 x x (blocks_sized entry x.size) (blocks_sized entry x.size) k (entry_bytes entry m0 x (x.size - 1))
row-moved lot entry m0 ma mb m2 x k per at p q from old new e made few h pe ea eb fe oe ae lo ln pp qq beside copied put only =
    let inside = row-inside entry x.size k e h in
    let at0 : at ≡ nth_block m0 x (k / entries_in entry) = ae ∙ ap (λ (m : ℕ → List ℕ). nth_block m x (k / per)) ea ∙ ap (λ n. nth_block m0 x (k / n)) pe in
    let old0 : old ≡ content_of m0 x (k / entries_in entry) = oe ∙ ap (λ (m : ℕ → List ℕ). content_of m x (k / per)) ea
    ∙ ap (λ n. content_of m0 x (k / n)) pe in
    let r = had-reached lot m0 x (blocks_sized entry x.size) (k / entries_in entry) at made inside at0 in
    let r' = subst (λ (m : ℕ → List ℕ). HadBlock lot m0 m x x (blocks_sized entry x.size) (k / entries_in entry) at) (sym (eb ∙ ea)) r in
    row-put lot entry m0 mb m2 x x (blocks_sized entry x.size) (blocks_sized entry x.size) k at old new
    (entry_bytes entry m0 x (x.size - 1)) e r' few (omega arith) (λ l. old0) lo ln (subst (λ n. SameBeside n entry old new) pp beside)
    (ap (row_bytes entry new) (sym pp) ∙ copied ∙ ap (row_bytes entry from) qq
    ∙ ap (λ (b : List ℕ). row_bytes entry b (place_of entry (x.size - 1))) (fe ∙ ap (λ n. content_of m0 x ((x.size - 1) / n)) pe))
    put only

-- a directory loses one block at most
pub blocks-fall : (entry size : ℕ) → entry ≡ 64 → blocks_sized entry (size - 1) ≤ blocks_sized entry size
blocks-fall entry size e =
    let l = sized-sixteenth entry size e in
    let m = sized-sixteenth entry (size - 1) e in
    let a = div-add-mod' (size + 15) 16 in
    let b = mod_below (size + 15) 16 (omega arith) in
    let c = div-add-mod' (size - 1 + 15) 16 in
    let d = mod_below (size - 1 + 15) 16 (omega arith) in
    omega (arith, l, m, a, b, c, d)

pub cut-six : (count rest : ℕ) → count ≤ rest + 1 → cut_room count rest ≡ 6
cut-six count rest h = grind (arith, nat_tests)

-- a directory of which row k was taken
module _ (lot : LotView) (f : Form) (entry : ℕ) (m0 m1 m2 m3 : ℕ → List ℕ) (x y : Inode) (number k count rest : ℕ) (one : f ≡ form_one)
    (same : entry_size f ≡ entry) (e : entry ≡ 64) (is : IsDirectory lot x) (below : k < x.size) (before : inode_of m0 number ≡ x)
    (put : RowPut lot entry m0 m1 x x (blocks_sized entry x.size) (blocks_sized entry x.size) k (entry_bytes entry m0 x (x.size - 1)))
    (c : count ≡ blocks_sized entry x.size) (r : rest ≡ blocks_sized entry (x.size - 1))
    (was : Cut lot m1 m2 x y count rest) (stay : Stays lot m1 m2 []) (fields : y ≡ shortened x rest)
    (set : InodeSet m2 m3 number (resized y (x.size - 1))) (only : (b : ℕ) → b ≢ inode_address number → m3 b ≡ m2 b) where
  order : blocks_sized entry (x.size - 1) ≤ blocks_sized entry x.size
  order = blocks-fall entry x.size e

  was' : Cut lot m1 m2 x y (blocks_sized entry x.size) (blocks_sized entry (x.size - 1))
  was' = subst (λ n. Cut lot m1 m2 x y (blocks_sized entry x.size) n) r (subst (λ n. Cut lot m1 m2 x y n rest) c was)

  fields' : y ≡ shortened x (blocks_sized entry (x.size - 1))
  fields' = fields ∙ ap (shortened x) r

  moved' : Moved lot m1 m2 x y (blocks_sized entry x.size) (blocks_sized entry (x.size - 1))
  moved' = cut-moved lot m1 m2 x y (blocks_sized entry x.size) (blocks_sized entry (x.size - 1)) put.moved.made order was' stay fields'

  contents' : (n : ℕ) → n < blocks_sized entry (x.size - 1) → content_of m2 y n ≡ content_of m1 x n
  contents' = cut-contents lot m1 m2 x y (blocks_sized entry x.size) (blocks_sized entry (x.size - 1)) put.moved.made order was' stay fields'

  pub dir-removed : DirSet lot f m0 m3 number (swap_remove (dir_rows_of f m0 number) k ([], 0))
  dir-removed = dir-taken lot f entry m0 m1 m2 m3 x y number k one same e is below before put moved' contents' set only

  pub text-removed : TextTaken f m0 m3 number k
  text-removed = text-taken lot f entry m0 m1 m2 m3 x y number k one same e is below before put moved' contents' set only

-- row k is the one of a name
pub row-named : (f : Form) (entry : ℕ) (m m' : ℕ → List ℕ) (number : ℕ) (x : Inode) (name : List ℕ) (k : ℕ) → f ≡ form_one
    → entry_size f ≡ entry → x ≡ inode_of m number → x.kind ≡ 2 → m' ≡ m → FirstNamed (row_sized entry m' x) name 0 x.size k
    → position_or_len (named name) (dir_rows_of f m number) ≡ k
row-named f entry m m' number x name k one same is kind looked found =
    ap (λ (rs : List DirRow). position_or_len (named name) rs) (rows-read f entry m m' number x one same is kind looked)
    ∙ position-found (row_sized entry m' x) name x.size k found

-- how many blocks a directory gives back that loses one row
pub off-length : (entry : ℕ) (m : ℕ → List ℕ) (x : Inode) (count rest : ℕ) → entry ≡ 64 → count ≡ blocks_sized entry x.size
    → rest ≡ blocks_sized entry (x.size - 1) → uses_of count ≡ uses_of rest + length (cut_off m x count rest)
off-length entry m x count rest e c r =
    let order = blocks-fall entry x.size e in
    let run = length-between m x rest count in
    let all = length-append (blocks_between m x rest count) (cond (nat_lt 12 count && nat_le rest 12) (x.single ∷ []) []) in
    grind (arith, nat_tests)

-- the bitmap blocks, the inodes' blocks and the sub-super block are no data places
no-data : (lot : LotView) (a : ℕ) → (is_data lot a ≡ true → ⊥) → is_data lot a ≡ false
no-data lot a h = elim (is_data lot a) as (λ t. is_data lot a ≡ t → t ≡ false) [ true ↦ λ t. absurd (h t) | false ↦ λ t. refl ] refl

pub not-at : (lot : LotView) (a b : ℕ) → is_data lot a ≡ true → is_data lot b ≡ false → b ≢ a
not-at lot a b place none e = let f = ap (is_data lot) e in absurd cc

-- what stays where data places alone were put
module _ (lot : LotView) (m0 m1 : ℕ → List ℕ) (beside : (b : ℕ) → is_data lot b ≡ false → m1 b ≡ m0 b) where
  pub beside-inode : (n : ℕ) → inode_of m1 n ≡ inode_of m0 n
  beside-inode n =
      ap (λ (b : List ℕ). inode_at b (n % 8)) (beside (inode_address n) (no-data lot (inode_address n) (λ d. inode_not_data lot n (inode_address n) d refl)))

  beside-bitmaps : (o : ℕ) → m1 (256 * o) ≡ m0 (256 * o)
  beside-bitmaps o = beside (256 * o) (no-data lot (256 * o) (λ d. data_not_bitmap lot (256 * o) o d refl))

  beside-sub : length lot.groups ≤ 64 → m1 sub_address ≡ m0 sub_address
  beside-sub few = beside sub_address (no-data lot sub_address (λ d. data_not_sub lot sub_address few d refl))

-- ---- a cut that found damage, after the row was moved

-- the indirect block of a directory in which one row was written
row-mixed : (entry : ℕ) (m0 m1 : ℕ → List ℕ) (x : Inode) (k count : ℕ) → entry ≡ 64 → k < x.size
    → ((b : ℕ) → b ≢ nth_block m0 x (k / entries_in entry) → m1 b ≡ m0 b) → count ≡ blocks_sized entry x.size → 12 < count → Unmixed m0 m1 x count
row-mixed entry m0 m1 x k count e h only c long =
    unmixed-one m0 m0 m1 x count (k / entries_in entry) (nth_block m0 x (k / entries_in entry)) long
    (let l = row-inside entry x.size k e h in omega arith) refl only refl

-- a block that was to be given back and is free was so, or the directory uses a block twice
pub row-free : (lot : LotView) (entry : ℕ) (m0 m1 : ℕ → List ℕ) (x : Inode) (k count rest : ℕ) → entry ≡ 64 → k < x.size
    → ((b : ℕ) → is_data lot b ≡ false → m1 b ≡ m0 b) → ((b : ℕ) → b ≢ nth_block m0 x (k / entries_in entry) → m1 b ≡ m0 b)
    → count ≡ blocks_sized entry x.size → rest ≡ blocks_sized entry (x.size - 1) → FreeOrTwice m1 (cut_off m1 x count rest)
    → FreeOrTwice m0 (uses m0 x (blocks_sized entry x.size))
row-free lot entry m0 m1 x k count rest e h beside only c r f =
    let order : rest ≤ count = (let o = blocks-fall entry x.size e in omega arith) in
    subst (λ n. FreeOrTwice m0 (uses m0 x n)) c (elim (ltb 12 count) as (λ t. ltb 12 count ≡ t → FreeOrTwice m0 (uses m0 x count)) [
      | false ↦ λ t. same order (λ long. absurd (grind (arith, nat_tests)))
      | true ↦ λ t.
          let long : 12 < count = grind (arith, nat_tests) in
          ⊎_elim
          (λ kept. same order (λ l. kept))
          (λ twice. record { block = twice.0; among = times-has (uses m0 x count) twice.0 (let l = twice.1 in omega arith); why = inr twice.1 })
          (row-mixed entry m0 m1 x k count e h only c long)
    ] refl)
  where
    same : rest ≤ count → (12 < count → m1 x.single ≡ m0 x.single) → FreeOrTwice m0 (uses m0 x count)
    same order kept =
        let list = cut-same m0 m1 x count rest kept in
        let free = used-same false m0 m1 f.block (beside-bitmaps lot m0 m1 beside) in
        off-free m0 x count rest order (record {
          block = f.block;
          among = ap (λ xs. has xs f.block) (sym list) ∙ f.among;
          why = ⊎_elim (λ p. inl (sym free ∙ p)) (λ p. inr (let t = ap (λ xs. times xs f.block) list in omega arith)) f.why;
        })

-- a block that leads nowhere did so, or the directory uses a block twice
pub row-misled : (lot : LotView) (entry : ℕ) (m0 m1 : ℕ → List ℕ) (x : Inode) (k count : ℕ) → entry ≡ 64 → k < x.size
    → ((b : ℕ) → b ≢ nth_block m0 x (k / entries_in entry) → m1 b ≡ m0 b)
    → count ≡ blocks_sized entry x.size → Misleads lot m1 x count → Confuses lot m0 x (blocks_sized entry x.size)
row-misled lot entry m0 m1 x k count e h only c l =
    subst (λ n. Confuses lot m0 x n) c (misled-here lot m0 m1 x count l.block l.below (λ long. row-mixed entry m0 m1 x k count e h only c long) l.bad)

-- ---- an entry that was taken

-- block n of the shorter map is that of the longer one
nth-of : (m m' : ℕ → List ℕ) (x y : Inode) (c n : ℕ) → blocks_of m' y c ≡ blocks_of m x c → n < c → nth_block m' y n ≡ nth_block m x n
nth-of m m' x y c n same h =
    sym (get_or-map-range_with_len (nth_block m' y) 0 c n n 0 h (omega arith)) ∙ ap (λ xs. get_or xs n 0) same
    ∙ get_or-map-range_with_len (nth_block m x) 0 c n n 0 h (omega arith)

-- it leads nowhere only where that did
short-lost : (lot : LotView) (m1 m2 m3 : ℕ → List ℕ) (x y : Inode) (rest s n : ℕ) → n < rest → y ≡ shortened x rest
    → blocks_of m2 y rest ≡ blocks_of m1 x rest → ((b : ℕ) → is_data lot b ≡ true → m3 b ≡ m2 b)
    → leads lot m3 (resized y s) n ≡ false → leads lot m1 x n ≡ false
short-lost lot m1 m2 m3 x y rest s n h fields same stays lost =
    elim (ltb n 12) as (λ t. ltb n 12 ≡ t → leads lot m1 x n ≡ false) [
      | true ↦ λ t.
          let l : n < 12 = grind (arith, nat_tests) in
          leads-direct lot m1 x n l ∙ ap (is_data lot)
          (sym (nth-direct m1 x n l) ∙ sym (nth-of m1 m2 x y rest n same h) ∙ nth-direct m2 y n l) ∙ sym (leads-direct lot m3 (resized y s) n l) ∙ lost
      | false ↦ λ t.
          let l : 12 ≤ n = grind (arith, nat_tests) in
          let long : nat_lt 12 rest ≡ true = grind (arith, nat_tests) in
          let single : y.single ≡ x.single = ap (λ (i : Inode). i.single) fields ∙ ap (λ u. cond u x.single 0) long in
          elim (is_data lot x.single) as (λ u. is_data lot x.single ≡ u → leads lot m1 x n ≡ false) [
            | false ↦ λ u. leads-lost lot m1 x n l u
            | true ↦ λ u.
                let place : is_data lot y.single ≡ true = ap (is_data lot) single ∙ u in
                leads-single lot m1 x n l u ∙ ap (is_data lot)
                (sym (nth-of m1 m2 x y rest n same h) ∙ sym (nth-moves m2 m3 y n (λ k. stays y.single place)) ∙ sym (nth-resized m3 y s n))
                ∙ sym (leads-single lot m3 (resized y s) n l place) ∙ lost
          ] refl
    ] refl

-- a directory from which an entry was taken, whatever its blocks held
module _ (lot : LotView) (f : Form) (m0 m1 m2 m3 : ℕ → List ℕ) (x y : Inode) (number k count rest : ℕ) (one : f ≡ form_one)
    (few : length lot.groups ≤ 64) (is : IsDirectory lot x) (below : k < x.size) (before : inode_of m0 number ≡ x)
    (beside : (b : ℕ) → is_data lot b ≡ false → m1 b ≡ m0 b) (c : count ≡ entry_blocks f x.size) (r : rest ≡ entry_blocks f (x.size - 1))
    (was : Cut lot m1 m2 x y count rest) (stay : Stays lot m1 m2 [])
    (placed : (b : ℕ) → has (cut_off m1 x count rest) b ≡ true → is_data lot b ≡ true) (fields : y ≡ shortened x rest)
    (set : InodeSet m2 m3 number (resized y (x.size - 1))) (only : (b : ℕ) → b ≢ inode_address number → m3 b ≡ m2 b) where
  gone-bitmaps : (o : ℕ) → m3 (256 * o) ≡ m2 (256 * o)
  gone-bitmaps o = only (256 * o) (λ e. inode_not_bitmap number o (sym e))

  gone-sub : m3 sub_address ≡ m2 sub_address
  gone-sub = only sub_address (λ e. inode_not_sub number (sym e))

  gone-free : free_count false lot m3 + uses_of rest ≡ free_count false lot m0 + uses_of count
  gone-free =
      let a = free-same lot m2 m3 (λ b. used-same false m2 m3 b gone-bitmaps) in
      let b = free-same lot m0 m1 (λ b. used-same false m0 m1 b (beside-bitmaps lot m0 m1 beside)) in
      let freed = was.gave.free in
      let l = off-length (entry_size f) m1 x count rest (ap entry_size one) c r in
      omega arith

  gone-counts : counted false m3 ≡ counted false m0 - (uses_of count - uses_of rest)
  gone-counts =
      let a = ap (λ (b : List ℕ). word_at b (count_place false)) gone-sub in
      let b = ap (λ (b : List ℕ). word_at b (count_place false)) (beside-sub lot m0 m1 beside few) in
      let v = was.gave.counts.value in
      let l = off-length (entry_size f) m1 x count rest (ap entry_size one) c r in
      omega arith

  gone-lacks : (b : ℕ) → is_data lot b ≡ false → has (cut_off m1 x count rest) b ≡ false
  gone-lacks b d =
      elim (has (cut_off m1 x count rest) b) as (λ t. has (cut_off m1 x count rest) b ≡ t
      → t ≡ false) [ true ↦ λ t. let p = placed b t in absurd cc | false ↦ λ t. refl ] refl

  abbrev mine : List ℕ
  mine = uses m0 x (entry_blocks f x.size)

  module _ (within : (b : ℕ) → b ≢ nth_block m0 x (k / per_block f) → m1 b ≡ m0 b) (cut_only : (b : ℕ) → is_data lot b ≡ true → m2 b ≡ m1 b) where
    stays : (b : ℕ) → is_data lot b ≡ true → m3 b ≡ m2 b
    stays b d = only b (λ e. inode_not_data lot number b d (sym e))

    gone-blocks : (b : ℕ) → is_data lot b ≡ true → has mine b ≡ false → m3 b ≡ m0 b
    gone-blocks b d none =
        stays b d ∙ cut_only b d
        ∙ within b (λ e. let h = uses-nth m0 x (entry_blocks f x.size) (k / per_block f)
        (row-inside (entry_size f) x.size k (ap entry_size one) below) in let f = ap (has mine) e in absurd cc)

    gone-marks : (b : ℕ) → used_block m3 b ≡ false → (used_block m0 b ≡ false) ⊎ (has mine b ≡ true) ⊎ HasTwice mine
    gone-marks b free =
        elim (has (cut_off m1 x count rest) b) as (λ t. has (cut_off m1 x count rest) b ≡ t → (used_block m0 b ≡ false) ⊎ (has mine b ≡ true) ⊎ HasTwice mine) [
          | false ↦ λ t.
              inl (sym (used-same false m0 m1 b (beside-bitmaps lot m0 m1 beside)) ∙ sym (ap (λ u. cond u false (used_block m1 b)) t)
              ∙ sym (was.gave.used b) ∙ sym (used-same false m2 m3 b gone-bitmaps) ∙ free)
          | true ↦ λ t. inr (elim (ltb 12 count) as (λ u. ltb 12 count ≡ u → (has mine b ≡ true) ⊎ HasTwice mine) [
            | false ↦ λ u. inl (given (λ l. absurd (grind (arith, nat_tests))) t)
            | true ↦ λ u.
                ⊎_elim (λ kept. inl (given (λ l. kept) t)) (λ twice. inr (subst (λ n. HasTwice (uses m0 x n)) c twice))
                (row-mixed (entry_size f) m0 m1 x k count (ap entry_size one) below within c (grind (arith, nat_tests)))
          ] refl)
        ] refl
      where
        order : rest ≤ count
        order = let o = blocks-fall (entry_size f) x.size (ap entry_size one) in omega arith

        given : (12 < count → m1 x.single ≡ m0 x.single) → has (cut_off m1 x count rest) b ≡ true → has mine b ≡ true
        given kept t =
            subst (λ n. has (uses m0 x n) b ≡ true) c (off-has m0 x count rest order b (ap (λ xs. has xs b) (sym (cut-same m0 m1 x count rest kept)) ∙ t))

    gone-leads : Misleads lot m3 (resized y (x.size - 1)) rest → Confuses lot m0 x (entry_blocks f x.size)
    gone-leads bad =
        row-misled lot (entry_size f) m0 m1 x k count (ap entry_size one) below within c
        (record { block = bad.block; below = let o = blocks-fall (entry_size f) x.size (ap entry_size one) in let l = bad.below in omega arith; bad = short-lost lot m1 m2 m3 x y rest (x.size - 1) bad.block bad.below fields was.blocks stays bad.bad })

    pub entry-gone : EntryGone lot f m0 m3 number
    entry-gone = record {
      kind = ap (λ (i : Inode). i.kind) (set.value ∙ ap (λ (i : Inode). resized i (x.size - 1)) fields) ∙ is.kind;
      size = let a = ap (λ (i : Inode). i.size) set.value in let b = ap (λ (i : Inode). i.size) before in omega arith;
      others = λ n ne. set.others n ne ∙ stay.inodes n ∙ beside-inode lot m0 m1 beside n;
      free =
          let a = ap (λ (i : Inode). uses_of (entry_blocks f i.size)) set.value ∙ ap uses_of (sym r) in
          let b = ap (λ (i : Inode). uses_of (entry_blocks f i.size)) before ∙ ap uses_of (sym c) in let f = gone-free in omega arith;
      counts =
          let a = ap (λ (i : Inode). uses_of (entry_blocks f i.size)) set.value ∙ ap uses_of (sym r) in
          let b = ap (λ (i : Inode). uses_of (entry_blocks f i.size)) before ∙ ap uses_of (sym c) in let f = gone-counts in omega arith;
      sub =
          λ n h. ap (λ (b : List ℕ). slice_index b n) gone-sub ∙ was.gave.counts.others n h
          ∙ ap (λ (b : List ℕ). slice_index b n) (beside-sub lot m0 m1 beside few);
      places =
          λ b d. used-same false m2 m3 b gone-bitmaps ∙ was.gave.used b ∙ ap (λ t. cond t false (used_block m1 b)) (gone-lacks b d)
          ∙ used-same false m0 m1 b (beside-bitmaps lot m0 m1 beside);
      inodes = λ i. used-same true m2 m3 i gone-bitmaps ∙ was.gave.inodes i ∙ used-same true m0 m1 i (beside-bitmaps lot m0 m1 beside);
      blocks = λ b d none. gone-blocks b d (subst (λ (i : Inode). has (uses m0 i (entry_blocks f i.size)) b ≡ false) before none);
      marks =
          λ b free.
          subst (λ (i : Inode). (used_block m0 b ≡ false) ⊎ (has (uses m0 i (entry_blocks f i.size)) b ≡ true) ⊎ HasTwice
          (uses m0 i (entry_blocks f i.size))) (sym before) (gone-marks b free);
      leads = λ bad. subst (λ (i : Inode). Confuses lot m0 i (entry_blocks f i.size)) (sym before)
          (gone-leads
          (subst (λ n. Misleads lot m3 (resized y (x.size - 1)) n) (sym r) (subst (λ (i : Inode). Misleads lot m3 i (entry_blocks f i.size)) set.value bad)));
    }
