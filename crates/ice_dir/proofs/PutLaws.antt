-- What a write of one row does.
use Rattle.std.proofs.Common.{◌≡◌, ◌≢◌, ◌≤◌, ◌<◌, ◌⊎◌, ◌+◌, ◌-◌, ◌*◌, ◌/◌, ◌%◌, ◌==◌, max, ℕ, true, false, cond, List, [], ◌∷◌, ◌++◌, map, length, slice_index_or, slice_set, get_or, ◌∙◌, sym, refl, ap, subst, inl, inr, ⊎_elim, arith, length-take, length-set}
use Rattle.std.proofs.lemmas.Bool.Decides.{nat_tests}
use Rattle.std.proofs.lemmas.List.{ext_get_or, get_or-take, get_or-set_same, get_or-set_other}
use Rattle.std.proofs.lemmas.List.FromFn.{get_or-map-range_with_len, length-map-range_with_len, map-range_with_len_more}
use Rattle.std.proofs.lemmas.Nat.{div-add-mod', mod_below}
use Rattle.std.specs.List.{range_with_len, swap_remove}
use Rattle.ice_base.specs.Fields.{SameBeside}
use Rattle.ice_base.specs.Inodes.{inode_address}
use Rattle.ice_base.specs.Lots.{LotView}
use Rattle.ice_map.specs.declared.codec.Inode.{Inode}
use Rattle.ice_map.specs.Inodes.{inode_of, InodeSet}
use Rattle.ice_map.specs.Own.{entry_size, MadeOf, WellMade, map_length, blocks_for}
use Rattle.ice_map.specs.Moves.{Moved, HadBlock, content_of}
use Rattle.ice_map.proofs.MoveLaws.{moved-then, put-moved, put-others, put-here}
use Rattle.ice_map.proofs.OwnLaws.{made-short}
use Rattle.tree_spec.specs.Costs.{Form, form_one}
use Rattle.ice_dir.specs.Changes.{blocks_sized, entry_blocks, RowPut, DirSet, TextAdded, TextTaken}
use Rattle.ice_dir.specs.Rows.{DirRow, entries_in, place_of, row_bytes, row_in, row_sized, entry_bytes, texts_of, dir_rows_of, IsText, IsDirectory}
use Rattle.ice_dir.proofs.DirLaws.{map-same, rows-sized}
use Rattle.ice_dir.proofs.RowLaws.{bytes-same}
use Rattle.ice_map.proofs.SetLaws.{resized, own-set}
use Rattle.ice_dir.proofs.SetLaws.{set-content}

-- how many entries of 64 bytes a block has, and how many blocks they have
pub in-sixteen : (entry : ℕ) → entry ≡ 64 → entries_in entry ≡ 16
in-sixteen entry e = rw e refl

pub sized-sixteenth : (entry size : ℕ) → entry ≡ 64 → blocks_sized entry size ≡ (size + 15) / 16
sized-sixteenth entry size e =
    let a = div-add-mod' (64 * size + 1023) 1024 in
    let r = mod_below (64 * size + 1023) 1024 (omega arith) in
    let b = div-add-mod' (size + 15) 16 in
    let s = mod_below (size + 15) 16 (omega arith) in
    let q : blocks_for (64 * size) ≡ (size + 15) / 16 = omega (arith, a, r, b, s) in
    rw e q

-- the blocks of a directory
pub dir-sixteenth : (f : Form) (size : ℕ) → f ≡ form_one → entry_blocks f size ≡ (size + 15) / 16
dir-sixteenth f size e = sized-sixteenth (entry_size f) size (ap entry_size e)

pub row-inside : (entry size j : ℕ) → entry ≡ 64 → j < size → j / entries_in entry < blocks_sized entry size
row-inside entry size j e h =
    let l = sized-sixteenth entry size e in
    let b = div-add-mod' (size + 15) 16 in
    let s = mod_below (size + 15) 16 (omega arith) in
    let c = div-add-mod' j 16 in
    let t = mod_below j 16 (omega arith) in
    let q : j / 16 < blocks_sized entry size = omega (arith, l, b, s, c, t) in
    rw (in-sixteen entry e) q

-- the blocks of a directory with one entry more
pub one-more : (entry size : ℕ) → entry ≡ 64 → max (blocks_sized entry size) (size / entries_in entry + 1) ≡ blocks_sized entry (size + 1)
one-more entry size e =
    let l = sized-sixteenth entry size e in
    let m = sized-sixteenth entry (size + 1) e in
    let a = div-add-mod' (size + 15) 16 in
    let b = mod_below (size + 15) 16 (omega arith) in
    let c = div-add-mod' (size + 1 + 15) 16 in
    let d = mod_below (size + 1 + 15) 16 (omega arith) in
    let f = div-add-mod' size 16 in
    let i = mod_below size 16 (omega arith) in
    let q : max (blocks_sized entry size) (size / 16 + 1) ≡ blocks_sized entry (size + 1) = omega (arith, l, m, a, b, c, d, f, i) in
    rw (in-sixteen entry e) q

-- two rows of a block
pub rows-apart : (entry j k : ℕ) → entry ≡ 64 → j / entries_in entry ≡ k / entries_in entry → j ≢ k
    → (place_of entry j + entry ≤ place_of entry k) ⊎ (place_of entry k + entry ≤ place_of entry j)
rows-apart entry j k e = rw e (sixteen j k)
  where
    sixteen : (j k : ℕ) → j / 16 ≡ k / 16 → j ≢ k → (64 * (j % 16) + 64 ≤ 64 * (k % 16)) ⊎ (64 * (k % 16) + 64 ≤ 64 * (j % 16))
    sixteen j k same ne =
        let a = div-add-mod' j 16 in
        let b = div-add-mod' k 16 in
        grind arith

pub place-fits : (entry k : ℕ) → entry ≡ 64 → place_of entry k + entry ≤ 1024
place-fits entry k e = rw e (let b = mod_below k 16 (omega arith) in omega (arith, b))

-- a block of a map was put, in which one row was written
module _ (lot : LotView) (entry : ℕ) (m0 m1 m2 : ℕ → List ℕ) (x y : Inode) (c d k at : ℕ) (old new bytes : List ℕ) (sixty : entry ≡ 64)
    (reached : HadBlock lot m0 m1 x y c (k / entries_in entry) at) (few : length lot.groups ≤ 64)
    (wide : max c (k / entries_in entry + 1) ≡ d) (had : k / entries_in entry < c → old ≡ content_of m0 x (k / entries_in entry))
    (long : length old ≡ 1024) (now_long : length new ≡ 1024) (beside : SameBeside (place_of entry k) entry old new)
    (here : row_bytes entry new (place_of entry k) ≡ bytes) (put : m2 at ≡ new) (only : (b : ℕ) → b ≢ at → m2 b ≡ m1 b) where
  moved-one : Moved lot m0 m1 x y c d
  moved-one = subst (λ n. Moved lot m0 m1 x y c n) wide reached.moved

  block-inside : k / entries_in entry < d
  block-inside = omega arith

  content-here : content_of m2 y (k / entries_in entry) ≡ new
  content-here = put-here lot m1 m2 y d (k / entries_in entry) at moved-one.made few block-inside reached.here only ∙ put

  content-other : (n : ℕ) → n < c → n ≢ k / entries_in entry → content_of m2 y n ≡ content_of m0 x n
  content-other n h ne =
      put-others lot m1 m2 y d (k / entries_in entry) at moved-one.made few block-inside reached.here only n (omega arith) ne ∙ reached.contents n h

  row-other : (j : ℕ) → j / entries_in entry < c → j ≢ k → entry_bytes entry m2 y j ≡ entry_bytes entry m0 x j
  row-other j h ne =
      elim (j / entries_in entry == k / entries_in entry) as (λ t. (j / entries_in entry == k / entries_in entry) ≡ t
      → entry_bytes entry m2 y j ≡ entry_bytes entry m0 x j) [
        | true ↦ λ t. let e : j / entries_in entry ≡ k / entries_in entry = grind (arith, nat_tests) in
            let inside : k / entries_in entry < c = omega arith in
            let fit = place-fits entry j sixty in
            ap (λ n. row_bytes entry (content_of m2 y n) (place_of entry j)) e
            ∙ ap (λ (b : List ℕ). row_bytes entry b (place_of entry j)) content-here
            ∙ bytes-same entry old new (place_of entry j) (place_of entry j) (omega arith) (omega arith)
            (λ i l. beside (place_of entry j + i) (⊎_elim (λ q. inl (omega arith)) (λ q. inr (omega arith)) (rows-apart entry j k sixty e ne)))
            ∙ ap (λ (b : List ℕ). row_bytes entry b (place_of entry j)) (had inside)
            ∙ ap (λ n. row_bytes entry (content_of m0 x n) (place_of entry j)) (sym e)
        | false ↦ λ t. let ne' : j / entries_in entry ≢ k / entries_in entry = grind (arith, nat_tests) in
            ap (λ (b : List ℕ). row_bytes entry b (place_of entry j)) (content-other (j / entries_in entry) h ne')
      ] refl

  pub row-put : RowPut lot entry m0 m2 x y c d k bytes
  row-put = record {
    moved = moved-then lot m0 m1 m2 x y y c d d moved-one (put-moved lot m1 m2 y d (k / entries_in entry) at moved-one.made few block-inside reached.here only);
    here = ap (λ (b : List ℕ). row_bytes entry b (place_of entry k)) content-here ∙ here;
    others = row-other;
  }

-- a list of a function's values with one more
one-listed : {X : Type 0} (new old : ℕ → X) (last : X) (n : ℕ) → ((j : ℕ) → j < n → new j ≡ old j) → new n ≡ last
    → map new (range_with_len 0 (n + 1)) ≡ map old (range_with_len 0 n) ++ last ∷ []
one-listed new old last n front end =
    map-range_with_len_more new 0 n n (omega arith)
    ∙ ap (λ r. map new (range_with_len 0 n) ++ r ∷ []) end
    ∙ ap (λ rs. rs ++ last ∷ []) (map-same new old 0 n (λ j l h. front j (omega arith)))

-- the texts of a directory where entries have just so many bytes
pub texts-sized : (f : Form) (entry : ℕ) (m : ℕ → List ℕ) (number : ℕ) → entry_size f ≡ entry
    → texts_of f m number ≡ map (entry_bytes entry m (inode_of m number)) (range_with_len 0 (inode_of m number).size)
texts-sized f entry m number same = ap (λ n. map (entry_bytes n m (inode_of m number)) (range_with_len 0 (inode_of m number).size)) same

-- the entries of a directory to which one was added
module _ (lot : LotView) (f : Form) (entry : ℕ) (m0 m1 m2 : ℕ → List ℕ) (x y z : Inode) (number : ℕ) (bytes : List ℕ) (one : f ≡ form_one)
    (same : entry_size f ≡ entry) (e : entry ≡ 64) (put : RowPut lot entry m0 m1 x y (blocks_sized entry x.size) (blocks_sized entry (x.size + 1)) x.size bytes)
    (before : inode_of m0 number ≡ x) (after : inode_of m2 number ≡ z) (more : z.size ≡ x.size + 1)
    (content : (n : ℕ) → n < blocks_sized entry (x.size + 1) → content_of m2 z n ≡ content_of m1 y n) where
  entry-now : (j : ℕ) → j < x.size + 1 → entry_bytes entry m2 z j ≡ entry_bytes entry m1 y j
  entry-now j h = ap (λ (b : List ℕ). row_bytes entry b (place_of entry j)) (content (j / entries_in entry) (row-inside entry (x.size + 1) j e h))

  entry-had : (j : ℕ) → j < x.size → entry_bytes entry m2 z j ≡ entry_bytes entry m0 x j
  entry-had j h = entry-now j (omega arith) ∙ put.others j (row-inside entry x.size j e h) (λ q. omega arith)

  pub texts-added : texts_of f m2 number ≡ texts_of f m0 number ++ bytes ∷ []
  texts-added =
      texts-sized f entry m2 number same
      ∙ ap (λ (i : Inode). map (entry_bytes entry m2 i) (range_with_len 0 i.size)) after
      ∙ ap (λ n. map (entry_bytes entry m2 z) (range_with_len 0 n)) more
      ∙ one-listed (entry_bytes entry m2 z) (entry_bytes entry m0 x) bytes x.size entry-had (entry-now x.size (omega arith) ∙ put.here)
      ∙ ap (λ (i : Inode). map (entry_bytes entry m0 i) (range_with_len 0 i.size) ++ bytes ∷ []) (sym before)
      ∙ ap (λ texts. texts ++ bytes ∷ []) (sym (texts-sized f entry m0 number same))

  pub rows-added : (row : DirRow) → row_in bytes ≡ row → x.kind ≡ 2 → z.kind ≡ 2 → dir_rows_of f m2 number ≡ dir_rows_of f m0 number ++ row ∷ []
  rows-added row reads kx kz =
      rows-sized f entry m2 number one same (ap (λ (i : Inode). i.kind) after ∙ kz)
      ∙ ap (λ (i : Inode). map (row_sized entry m2 i) (range_with_len 0 i.size)) after
      ∙ ap (λ n. map (row_sized entry m2 z) (range_with_len 0 n)) more
      ∙ one-listed (row_sized entry m2 z) (row_sized entry m0 x) row x.size (λ j h. ap row_in (entry-had j h))
      (ap row_in (entry-now x.size (omega arith) ∙ put.here) ∙ reads)
      ∙ ap (λ (rs : List DirRow). rs ++ row ∷ []) (ap (λ (i : Inode). map (row_sized entry m0 i) (range_with_len 0 i.size)) (sym before)
      ∙ sym (rows-sized f entry m0 number one same (ap (λ (i : Inode). i.kind) before ∙ kx)))

dir-map : (f : Form) (entry : ℕ) (x : Inode) → entry_size f ≡ entry → x.kind ≡ 2 → map_length f x ≡ blocks_sized entry x.size
dir-map f entry x same k = ap (λ n. blocks_for (cond (n == 2) (entry_size f * x.size) x.size)) k ∙ ap (λ n. blocks_sized n x.size) same

-- a directory to which a row was added and which was then put
module _ (lot : LotView) (f : Form) (entry : ℕ) (m0 m1 m2 : ℕ → List ℕ) (x y : Inode) (number : ℕ) (row : DirRow) (bytes : List ℕ)
    (one : f ≡ form_one) (same : entry_size f ≡ entry) (e : entry ≡ 64) (is : IsDirectory lot x)
    (room : x.size + 1 < 64 * length lot.groups) (before : inode_of m0 number ≡ x)
    (put : RowPut lot entry m0 m1 x y (blocks_sized entry x.size) (blocks_sized entry (x.size + 1)) x.size bytes) (text : IsText row bytes)
    (set : InodeSet m1 m2 number (resized y (y.size + 1)))
    (only : (b : ℕ) → b ≢ inode_address number → m2 b ≡ m1 b) where
  kind-put : y.kind ≡ 2
  kind-put = put.moved.kind ∙ is.kind

  size-put : y.size + 1 ≡ x.size + 1
  size-put = ap (λ n. n + 1) put.moved.size

  content-put : (n : ℕ) → n < blocks_sized entry (x.size + 1) → content_of m2 (resized y (y.size + 1)) n ≡ content_of m1 y n
  content-put = set-content lot m1 m2 y (y.size + 1) (blocks_sized entry (x.size + 1)) number put.moved.made only

  pub text-added : TextAdded f m0 m2 number row
  text-added = (bytes, text, texts-added lot f entry m0 m1 m2 x y (resized y (y.size + 1)) number bytes one same e put before set.value size-put content-put)

  pub dir-added : DirSet lot f m0 m2 number (dir_rows_of f m0 number ++ row ∷ [])
  dir-added = record {
    rows =
        rows-added lot f entry m0 m1 m2 x y
        (resized y (y.size + 1)) number bytes one same e put before set.value size-put content-put row text.reads is.kind kind-put;
    is = rw set.value (record { kind = kind-put; few = let s = size-put in omega arith });
    set =
        own-set lot m0 m1 m2 x y (blocks_sized entry x.size) (blocks_sized entry (x.size + 1)) (y.size + 1) f one number before
        (dir-map f entry x same is.kind) put.moved set (dir-map f entry (resized y (y.size + 1)) same kind-put ∙ ap (blocks_sized entry) size-put) only;
  }

pub made-dir : (lot : LotView) (f : Form) (entry : ℕ) (m : ℕ → List ℕ) (number : ℕ) (x : Inode) → f ≡ form_one → entry_size f ≡ entry
    → inode_of m number ≡ x → x.kind ≡ 2 → WellMade lot f m number → MadeOf lot m x (blocks_sized entry x.size)
made-dir lot f entry m number x one same before kind made =
    subst (λ n. MadeOf lot m x n) (dir-map f entry x same kind) (subst (λ i. MadeOf lot m i (map_length f i)) before (made-short lot f one m number made))

-- a list from which one element was taken
module _ {X : Type 0} (none : X) where
  length-taken : (rows : List X) (k : ℕ) → length (swap_remove rows k none) ≡ length rows - 1
  length-taken rows k =
      let s = length-set rows k (slice_index_or rows (length rows - 1) none) in
      let t = length-take (length rows - 1) (slice_set rows k (slice_index_or rows (length rows - 1) none)) in
      omega arith

  taken-here : (rows : List X) (k : ℕ) → k < length rows - 1 → get_or (swap_remove rows k none) k none ≡ get_or rows (length rows - 1) none
  taken-here rows k h =
      get_or-take (length rows - 1) (slice_set rows k (slice_index_or rows (length rows - 1) none)) k none h
      ∙ get_or-set_same rows k (slice_index_or rows (length rows - 1) none) none (omega arith)

  taken-other : (rows : List X) (k j : ℕ) → j < length rows - 1 → j ≢ k → get_or (swap_remove rows k none) j none ≡ get_or rows j none
  taken-other rows k j h ne =
      get_or-take (length rows - 1) (slice_set rows k (slice_index_or rows (length rows - 1) none)) j none h
      ∙ get_or-set_other rows k j (slice_index_or rows (length rows - 1) none) none ne

  -- a list of a function's values from which one was taken
  swapped : (row new : ℕ → X) (n k : ℕ) → k < n → new k ≡ row (n - 1) → ((j : ℕ) → j < n - 1 → j ≢ k → new j ≡ row j)
      → map new (range_with_len 0 (n - 1)) ≡ swap_remove (map row (range_with_len 0 n)) k none
  swapped row new n k h here others =
      let l : length (map row (range_with_len 0 n)) ≡ n = length-map-range_with_len row 0 n in
      let l' = length-map-range_with_len new 0 (n - 1) in
      let t = length-taken (map row (range_with_len 0 n)) k in
      ext_get_or none (map new (range_with_len 0 (n - 1))) (swap_remove (map row (range_with_len 0 n)) k none) (omega arith) (λ j m.
      get_or-map-range_with_len new 0 (n - 1) j j none (omega arith) (omega arith)
      ∙ elim (j == k) as (λ t. (j == k) ≡ t → new j ≡ get_or (swap_remove (map row (range_with_len 0 n)) k none) j none) [
        | true ↦ λ t. let same : j ≡ k = grind (arith, nat_tests) in
            ap new same ∙ here
            ∙ sym (ap (λ i. get_or (swap_remove (map row (range_with_len 0 n)) k none) i none) same
            ∙ taken-here (map row (range_with_len 0 n)) k (omega arith)
            ∙ get_or-map-range_with_len row 0 n (length (map row (range_with_len 0 n)) - 1) (n - 1) none (omega arith) (omega arith))
        | false ↦ λ t. let ne : j ≢ k = grind (arith, nat_tests) in
            others j (omega arith) ne
            ∙ sym (taken-other (map row (range_with_len 0 n)) k j (omega arith) ne ∙ get_or-map-range_with_len row 0 n j j none (omega arith) (omega arith))
      ] refl)

-- a directory whose last row was moved to row k, which was then cut by one row and put
module _ (lot : LotView) (f : Form) (entry : ℕ) (m0 m1 m2 m3 : ℕ → List ℕ) (x y : Inode) (number k : ℕ) (one : f ≡ form_one)
    (same : entry_size f ≡ entry) (e : entry ≡ 64) (is : IsDirectory lot x) (below : k < x.size) (before : inode_of m0 number ≡ x)
    (put : RowPut lot entry m0 m1 x x (blocks_sized entry x.size) (blocks_sized entry x.size) k (entry_bytes entry m0 x (x.size - 1)))
    (moved : Moved lot m1 m2 x y (blocks_sized entry x.size) (blocks_sized entry (x.size - 1)))
    (contents : (n : ℕ) → n < blocks_sized entry (x.size - 1) → content_of m2 y n ≡ content_of m1 x n)
    (set : InodeSet m2 m3 number (resized y (x.size - 1))) (only : (b : ℕ) → b ≢ inode_address number → m3 b ≡ m2 b) where
  kind-left : y.kind ≡ 2
  kind-left = moved.kind ∙ is.kind

  entry-left : (j : ℕ) → j < x.size - 1 → entry_bytes entry m3 (resized y (x.size - 1)) j ≡ entry_bytes entry m1 x j
  entry-left j h =
      let n : j / entries_in entry < blocks_sized entry (x.size - 1) = row-inside entry (x.size - 1) j e h in
      ap (λ (b : List ℕ). row_bytes entry b (place_of entry j))
      (set-content lot m2 m3 y (x.size - 1) (blocks_sized entry (x.size - 1)) number moved.made only (j / entries_in entry) n
      ∙ contents (j / entries_in entry) n)

  entry-other : (j : ℕ) → j < x.size - 1 → j ≢ k → entry_bytes entry m1 x j ≡ entry_bytes entry m0 x j
  entry-other j h ne = put.others j (row-inside entry x.size j e (omega arith)) ne

  pub text-taken : TextTaken f m0 m3 number k
  text-taken =
      texts-sized f entry m3 number same
      ∙ ap (λ (i : Inode). map (entry_bytes entry m3 i) (range_with_len 0 i.size)) set.value
      ∙ map-same (entry_bytes entry m3 (resized y (x.size - 1))) (entry_bytes entry m1 x) 0 (x.size - 1) (λ j l h. entry-left j (omega arith))
      ∙ swapped [] (entry_bytes entry m0 x) (entry_bytes entry m1 x) x.size k below put.here entry-other
      ∙ ap (λ (i : Inode). swap_remove (map (entry_bytes entry m0 i) (range_with_len 0 i.size)) k []) (sym before)
      ∙ ap (λ texts. swap_remove texts k []) (sym (texts-sized f entry m0 number same))

  pub dir-taken : DirSet lot f m0 m3 number (swap_remove (dir_rows_of f m0 number) k ([], 0))
  dir-taken =
      let few = is.few in
      let all = moved-then lot m0 m1 m2 x x y (blocks_sized entry x.size) (blocks_sized entry x.size) (blocks_sized entry (x.size - 1)) put.moved moved in
      let k0 : (inode_of m0 number).kind ≡ 2 = ap (λ (i : Inode). i.kind) before ∙ is.kind in
      let now : dir_rows_of f m3 number ≡ map (row_sized entry m3 (resized y (x.size - 1))) (range_with_len 0 (x.size - 1)) =
      rows-sized f entry m3 number one same (ap (λ (i : Inode). i.kind) set.value ∙ kind-left)
      ∙ ap (λ (i : Inode). map (row_sized entry m3 i) (range_with_len 0 i.size)) set.value in
      let old : dir_rows_of f m0 number ≡ map (row_sized entry m0 x) (range_with_len 0 x.size) = rows-sized f entry m0 number one same k0
      ∙ ap (λ (i : Inode). map (row_sized entry m0 i) (range_with_len 0 i.size)) before in
      record {
        rows =
            now ∙ map-same (row_sized entry m3 (resized y (x.size - 1))) (row_sized entry m1 x) 0 (x.size - 1) (λ j l h. ap row_in (entry-left j (omega arith)))
            ∙ swapped ([], 0) (row_sized entry m0 x) (row_sized entry m1 x) x.size k below (ap row_in put.here) (λ j h ne. ap row_in (entry-other j h ne))
            ∙ ap (λ (rs : List DirRow). swap_remove rs k ([], 0)) (sym old);
        is = rw set.value (record { kind = kind-left; few = omega arith });
        set =
            own-set lot m0 m2 m3 x y (blocks_sized entry x.size) (blocks_sized entry (x.size - 1)) (x.size - 1) f one number before
            (dir-map f entry x same is.kind) all set (dir-map f entry (resized y (x.size - 1)) same kind-left) only;
      }
