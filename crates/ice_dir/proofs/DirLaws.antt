-- The rows of directories.
use Rattle.std.proofs.Common.{◌≡◌, ◌≢◌, ◌≤◌, ◌<◌, ◌+◌, ◌*◌, ◌/◌, ℕ, zero, suc, true, false, List, [], ◌∷◌, map, length, slice_index_or, slice_get, get_or, Some, None, ◌∙◌, sym, refl, ap, arith}
use Rattle.std.proofs.lemmas.List.{get_or-map}
use Rattle.std.proofs.lemmas.List.FromFn.{get_or-map-range_with_len, length-map-range_with_len}
use Rattle.std.proofs.lemmas.List.Folds.{find_at}
use Rattle.std.proofs.lemmas.List.Sums.{position_or_len_is}
use Rattle.std.proofs.lemmas.Option.{slice_get_past}
use Rattle.std.proofs.lemmas.Nat.{div-add-mod', mod_below}
use Rattle.std.specs.Cmp.Lexicographic.{same_text, other_text}
use Rattle.std.specs.List.{range_with_len, position_or_len}
use Rattle.std.specs.Option.{option_map}
use Rattle.ice_map.specs.declared.codec.Inode.{Inode}
use Rattle.ice_map.specs.Inodes.{inode_of}
use Rattle.ice_map.specs.Maps.{nth_block}
use Rattle.ice_map.specs.Own.{entry_size, Own, map_length, blocks_for}
use Rattle.ice_map.proofs.OwnLaws.{own-short, own-at-short}
use Rattle.tree_spec.specs.Costs.{Form, form_one}
use Rattle.ice_dir.specs.Rows.{DirRow, entries_in, per_block, place_of, row_at, row_sized, row_of, dir_rows, rows_at, dir_rows_of, named, look_up, NoneNamed, FirstNamed}

pub map-same : {X : Type 0} (f g : ℕ → X) (a n : ℕ) → ((k : ℕ) → a ≤ k → k < a + n → f k ≡ g k) → map f (range_with_len a n) ≡ map g (range_with_len a n)
map-same f g a zero h = refl
map-same f g a (suc n) h =
    ap (λ x. x ∷ map f (range_with_len (a + 1) n)) (h a (omega arith) (omega arith))
    ∙ ap (λ xs. g a ∷ xs) (map-same f g (a + 1) n (λ k l m. h k (omega arith) (omega arith)))

-- how many blocks a directory has
pub dir-length : (f : Form) (inode : Inode) → f ≡ form_one → inode.kind ≡ 2 → map_length f inode ≡ (inode.size + 15) / 16
dir-length f inode e k =
    let a = div-add-mod' (64 * inode.size + 1023) 1024 in
    let r = mod_below (64 * inode.size + 1023) 1024 (omega arith) in
    let b = div-add-mod' (inode.size + 15) 16 in
    let s = mod_below (inode.size + 15) 16 (omega arith) in
    let q : blocks_for (64 * inode.size) ≡ (inode.size + 15) / 16 = omega (arith, a, r, b, s) in
    rw (e, k) q

-- the block and the place of an f
pub per-sixteen : (f : Form) → f ≡ form_one → per_block f ≡ 16
per-sixteen f e = rw e refl

-- in version 1 each entry of a directory stands in a block of its map
pub row-below : (f : Form) (inode : Inode) (k : ℕ) → f ≡ form_one → inode.kind ≡ 2 → k < inode.size → k / per_block f < map_length f inode
row-below f inode k e kind h =
    let l = dir-length f inode e kind in
    let b = div-add-mod' (inode.size + 15) 16 in
    let s = mod_below (inode.size + 15) 16 (omega arith) in
    let c = div-add-mod' k 16 in
    let t = mod_below k 16 (omega arith) in
    let q : k / 16 < map_length f inode = omega (arith, l, b, s, c, t) in
    rw (per-sixteen f e) q

mapped : (m : ℕ → List ℕ) (f : ℕ → ℕ) (count k : ℕ) → k < count → slice_index_or (map m (map f (range_with_len 0 count))) k [] ≡ m (f k)
mapped m f count k h =
    let l = length-map-range_with_len f 0 count in
    get_or-map m (map f (range_with_len 0 count)) k 0 [] (omega arith) ∙ ap m (get_or-map-range_with_len f 0 count k k 0 h (omega arith))

-- the rows of a directory are those of its blocks
pub rows-all : (f : Form) (m : ℕ → List ℕ) (inode : Inode) → f ≡ form_one → inode.kind ≡ 2
    → rows_at f m inode ≡ map (row_of f m inode) (range_with_len 0 inode.size)
unfolding dir_rows
rows-all f m inode e kind =
    ap (λ (o : Own). dir_rows f o) (own-at-short f e m inode)
    ∙ map-same _ (row_of f m inode) 0 inode.size (λ k l h.
    ap (λ (b : List ℕ). row_at (entry_size f) b (place_of (entry_size f) k))
    (mapped m (nth_block m inode) (map_length f inode) (k / per_block f)
    (row-below f inode k e kind (omega arith))))

-- so they are of an inode in hand where entries have just as many bytes
pub rows-at-sized : (f : Form) (entry : ℕ) (m : ℕ → List ℕ) (inode : Inode) → f ≡ form_one → entry_size f ≡ entry → inode.kind ≡ 2
    → rows_at f m inode ≡ map (row_sized entry m inode) (range_with_len 0 inode.size)
rows-at-sized f entry m inode e same kind =
    rows-all f m inode e kind ∙ ap (λ n. map (row_sized n m inode) (range_with_len 0 inode.size)) same

-- and so they are of the inode of a number
pub rows-sized : (f : Form) (entry : ℕ) (m : ℕ → List ℕ) (number : ℕ) → f ≡ form_one → entry_size f ≡ entry → (inode_of m number).kind ≡ 2
    → dir_rows_of f m number ≡ map (row_sized entry m (inode_of m number)) (range_with_len 0 (inode_of m number).size)
rows-sized f entry m number e same kind = rows-at-sized f entry m (inode_of m number) e same kind

-- in version 1 a directory has as many rows as the size of its inode says
pub length-rows : (f : Form) (m : ℕ → List ℕ) (number : ℕ) → f ≡ form_one → length (dir_rows_of f m number) ≡ (inode_of m number).size
unfolding dir_rows
length-rows f m number e = ap (λ (o : Own). length (dir_rows f o)) (own-short f e m number) ∙ length-map-range_with_len _ 0 (inode_of m number).size

get-mapped : {X : Type 0} (f : ℕ → X) (a n k : ℕ) → k < n → slice_get (map f (range_with_len a n)) k ≡ Some (f (a + k))
get-mapped f a zero k h = absurd (omega arith)
get-mapped f a (suc n) zero h = ap (λ x. Some (f x)) (omega arith)
get-mapped f a (suc n) (suc k) h = get-mapped f (a + 1) n k (omega arith) ∙ ap (λ x. Some (f x)) (omega arith)

-- row k of an inode in hand
get-at : (f : Form) (m : ℕ → List ℕ) (inode : Inode) (k : ℕ) → f ≡ form_one → inode.kind ≡ 2 → k < inode.size
    → slice_get (rows_at f m inode) k ≡ Some (row_of f m inode k)
get-at f m inode k e kind h =
    ap (λ (xs : List DirRow). slice_get xs k) (rows-all f m inode e kind)
    ∙ get-mapped (row_of f m inode) 0 inode.size k h
    ∙ ap (λ x. Some (row_of f m inode x)) (omega arith)

-- and of the inode of a number
pub get-row : (f : Form) (m : ℕ → List ℕ) (number k : ℕ) → f ≡ form_one → (inode_of m number).kind ≡ 2 → k < (inode_of m number).size
    → slice_get (dir_rows_of f m number) k ≡ Some (row_of f m (inode_of m number) k)
get-row f m number k e kind h = get-at f m (inode_of m number) k e kind h

-- a row that was read
pub read-row : (f : Form) (entry : ℕ) (m : ℕ → List ℕ) (k b at : ℕ) (inode : Inode) (block : List ℕ) → f ≡ form_one
    → entry_size f ≡ entry → inode.kind ≡ 2 → k < inode.size
    → b ≡ k / entries_in entry → at ≡ place_of entry k → block ≡ m (nth_block m inode b) → slice_get (rows_at f m inode) k ≡ Some (row_at entry block at)
read-row f entry m k b at inode block e same kind h eb ep read =
    get-at f m inode k e kind h
    ∙ ap (λ n. Some (row_sized n m inode k)) same
    ∙ ap (λ x. Some (row_at entry (m (nth_block m inode x)) (place_of entry k))) (sym eb)
    ∙ ap (λ (c : List ℕ). Some (row_at entry c (place_of entry k))) (sym read)
    ∙ ap (λ x. Some (row_at entry block x)) (sym ep)

-- whether a row has a name
pub named-is : (name : List ℕ) (row : DirRow) → row.0 ≡ name → named name row ≡ true
named-is name row h =
    elim (named name row) as (λ t. named name row ≡ t → named name row ≡ true) [
      | true ↦ λ t. t
      | false ↦ λ t. absurd (other_text row.0 name (sym t) h)
    ] refl

pub named-not : (name : List ℕ) (row : DirRow) → row.0 ≢ name → named name row ≡ false
named-not name row h =
    elim (named name row) as (λ t. named name row ≡ t → named name row ≡ false) [
      | true ↦ λ t. absurd (h (same_text row.0 name (sym t)))
      | false ↦ λ t. t
    ] refl

no_row : DirRow
no_row = ([], 0)

at_range : (row : ℕ → DirRow) (n k : ℕ) → k < n → get_or (map row (range_with_len 0 n)) k no_row ≡ row k
at_range row n k h = get_or-map-range_with_len row 0 n k k no_row h (omega arith)

-- where the first row of a name stands
pub position-found : (row : ℕ → DirRow) (name : List ℕ) (n k : ℕ) → FirstNamed row name 0 n k → position_or_len (named name) (map row (range_with_len 0 n)) ≡ k
position-found row name n k f =
    let l = length-map-range_with_len row 0 n in
    let below = f.below in
    position_or_len_is (named name) (map row (range_with_len 0 n)) k no_row (omega arith)
    (λ j h. ap (named name) (at_range row n j (omega arith)) ∙ named-not name (row j) (f.first j (omega arith) h))
    (λ h. ap (named name) (at_range row n k (omega arith)) ∙ named-is name (row k) f.has)

pub position-none : (row : ℕ → DirRow) (name : List ℕ) (n : ℕ) → NoneNamed row name 0 n → position_or_len (named name) (map row (range_with_len 0 n)) ≡ n
position-none row name n f =
    let l = length-map-range_with_len row 0 n in
    position_or_len_is (named name) (map row (range_with_len 0 n)) n no_row (omega arith)
    (λ j h. ap (named name) (at_range row n j (omega arith)) ∙ named-not name (row j) (f j (omega arith) h))
    (λ h. absurd (omega arith))

pub look-found : (row : ℕ → DirRow) (name : List ℕ) (n k : ℕ) → FirstNamed row name 0 n k → look_up name (map row (range_with_len 0 n)) ≡ Some (row k).1
look-found row name n k f =
    ap (option_map (λ (r : DirRow). r.1)) (find_at (named name) (map row (range_with_len 0 n))
    ∙ ap (slice_get (map row (range_with_len 0 n))) (position-found row name n k f)
    ∙ get-mapped row 0 n k f.below ∙ ap (λ x. Some (row x)) (omega arith))

pub look-none : (row : ℕ → DirRow) (name : List ℕ) (n : ℕ) → NoneNamed row name 0 n → look_up name (map row (range_with_len 0 n)) ≡ None
look-none row name n f =
    let l = length-map-range_with_len row 0 n in
    ap (option_map (λ (r : DirRow). r.1)) (find_at (named name) (map row (range_with_len 0 n))
    ∙ ap (slice_get (map row (range_with_len 0 n))) (position-none row name n f)
    ∙ slice_get_past (map row (range_with_len 0 n)) n (omega arith))

-- the rows of an inode that was read
pub rows-read : (f : Form) (entry : ℕ) (m m' : ℕ → List ℕ) (number : ℕ) (inode : Inode) → f ≡ form_one → entry_size f ≡ entry
    → inode ≡ inode_of m number → inode.kind ≡ 2 → m' ≡ m
    → dir_rows_of f m number ≡ map (row_sized entry m' inode) (range_with_len 0 inode.size)
rows-read f entry m m' number inode e same is kind looked =
    rows-sized f entry m number e same (ap (λ (i : Inode). i.kind) (sym is) ∙ kind)
    ∙ ap (λ (i : Inode). map (row_sized entry m i) (range_with_len 0 i.size)) (sym is)
    ∙ ap (λ (n : ℕ → List ℕ). map (row_sized entry n inode) (range_with_len 0 inode.size)) (sym looked)
