-- The bytes of a map, and those of a file.
use Rattle.std.proofs.Common.{◌≡◌, ◌≤◌, ◌<◌, ◌+◌, ◌-◌, ◌*◌, ◌/◌, ◌%◌, ℕ, List, [], ◌++◌, map, length, take, drop, min, slice_index, slice_index_or, slice_range, ◌∙◌, sym, refl, ap, arith, length-take, length-drop}
use Rattle.std.specs.List.{range_with_len}
use Rattle.std.proofs.lemmas.List.{ext_get_or, get_or-map, get_or-drop, get_or-take}
use Rattle.std.proofs.lemmas.List.Edits.{length-between, get_or-between}
use Rattle.std.proofs.lemmas.List.FromFn.{get_or-map-range_with_len, length-map-range_with_len}
use Rattle.std.proofs.lemmas.Nat.{div-add-mod', mod_below}
use Rattle.ice_map.specs.declared.codec.Inode.{Inode}
use Rattle.ice_map.specs.Inodes.{inode_of}
use Rattle.ice_map.specs.Maps.{nth_block}
use Rattle.ice_map.proofs.ListLaws.{map_range_same, range-append}
use Rattle.ice_map.proofs.OwnLaws.{own-at-short}
use Rattle.ice_map.specs.Own.{Own, own, own_at, own_of, file_bytes, map_length, blocks_for}
use Rattle.tree_spec.specs.Costs.{Form, form_one}
use Rattle.ice_file.specs.Files.{byte_of, bytes_from}

-- where a byte stands
pub block_at : (k j i : ℕ) → j < 1024 → 1024 * k + j ≡ i → i / 1024 ≡ k
block_at k j i h e = let d = div-add-mod' i 1024 in let b = mod_below i 1024 (omega arith) in omega arith

pub place_at : (k j i : ℕ) → j < 1024 → 1024 * k + j ≡ i → i % 1024 ≡ j
place_at k j i h e = let d = div-add-mod' i 1024 in let b = mod_below i 1024 (omega arith) in omega arith

-- a byte of a block that was read
pub byte_in : (m : ℕ → List ℕ) (inode : Inode) (k j i : ℕ) → j < 1024 → 1024 * k + j ≡ i → byte_of m inode i ≡ slice_index (m (nth_block m inode k)) j
byte_in m inode k j i h e =
    ap (λ x. slice_index (m (nth_block m inode x)) (i % 1024)) (block_at k j i h e) ∙ ap (slice_index (m (nth_block m inode k))) (place_at k j i h e)

-- bytes of a block that was read
pub piece : (m : ℕ → List ℕ) (inode : Inode) (block : List ℕ) (at from start n : ℕ) → block ≡ m at → at ≡ nth_block m inode (from / 1024)
    → length block ≡ 1024 → start ≡ from % 1024 → start + n ≤ 1024
    → slice_range block start (start + n) ≡ bytes_from m inode from n
piece m inode block at from start n b a long s fit =
    let l : length (slice_range block start (start + n)) ≡ n = length-between block start (start + n) (omega arith) ∙ omega arith in
    let l' = length-map-range_with_len (byte_of m inode) from n in
    let d = div-add-mod' from 1024 in
    ext_get_or 0 (slice_range block start (start + n)) (bytes_from m inode from n) (l ∙ sym l') (λ j h.
    get_or-between block start (start + n) j 0 (omega arith)
    ∙ ap (λ (x : List ℕ). slice_index x (start + j)) (b ∙ ap m a)
    ∙ sym (byte_in m inode (from / 1024) (start + j) (from + j) (omega arith) (omega arith))
    ∙ sym (get_or-map-range_with_len (byte_of m inode) from n j (from + j) 0 (omega arith) refl))

-- bytes, and those that follow
pub more : (m : ℕ → List ℕ) (inode : Inode) (held : List ℕ) (at from n : ℕ) → at ≤ from → held ≡ bytes_from m inode at (from - at)
    → held ++ bytes_from m inode from n ≡ bytes_from m inode at (from + n - at)
more m inode held at from n h e =
    let a : at + (from - at) ≡ from = omega arith in
    let b : (from - at) + n ≡ from + n - at = omega arith in
    ap (λ (x : List ℕ). x ++ bytes_from m inode from n) e
    ∙ ap (λ x. bytes_from m inode at (from - at) ++ bytes_from m inode x n) (sym a)
    ∙ range-append (byte_of m inode) at (from - at) n
    ∙ ap (bytes_from m inode at) b

pub none : (m : ℕ → List ℕ) (inode : Inode) (at : ℕ) → [] ≡ bytes_from m inode at (at - at)
none m inode at = let e : at - at ≡ 0 = omega arith in ap (bytes_from m inode at) (sym e)

-- the number of blocks of a file
pub file_length : (f : Form) (inode : Inode) → inode.kind ≡ 1 → map_length f inode ≡ blocks_for inode.size
file_length f inode k = rw k refl

mapped : (m : ℕ → List ℕ) (f : ℕ → ℕ) (count k : ℕ) → k < count → slice_index_or (map m (map f (range_with_len 0 count))) k [] ≡ m (f k)
mapped m f count k h =
    let l = length-map-range_with_len f 0 count in
    get_or-map m (map f (range_with_len 0 count)) k 0 [] (omega arith) ∙ ap m (get_or-map-range_with_len f 0 count k k 0 h (omega arith))

-- byte i of a file
file_byte : (m : ℕ → List ℕ) (inode : Inode) (count i : ℕ) → i < 1024 * count
    → slice_index (slice_index_or (own_of m inode count).contents (i / 1024) []) (i % 1024) ≡ byte_of m inode i
file_byte m inode count i h =
    let d = div-add-mod' i 1024 in
    let below : i / 1024 < count = omega arith in
    ap (λ (x : List ℕ). slice_index x (i % 1024)) (mapped m (nth_block m inode) count (i / 1024) below)

-- the bytes of a file whose inode is in hand are the first of its blocks
all_bytes_at : (f : Form) → f ≡ form_one → (m : ℕ → List ℕ) (inode : Inode) → inode.kind ≡ 1 → file_bytes (own_at f m inode) ≡ bytes_from m inode 0 inode.size
unfolding file_bytes
all_bytes_at f one m inode k =
    let count = file_length f inode k in
    ap (λ (o : Own). map (λ i. slice_index (slice_index_or o.contents (i / 1024) []) (i % 1024)) (range_with_len 0 o.inode.size)) (own-at-short f one m inode)
    ∙ map_range_same _ (byte_of m inode) 0 inode.size (λ i l h. file_byte m inode (map_length f inode) i (omega (arith, count)))

-- and so are those of the file of a number
pub all_bytes : (f : Form) → f ≡ form_one → (m : ℕ → List ℕ) (number : ℕ) → (inode_of m number).kind ≡ 1
    → file_bytes (own f m number) ≡ bytes_from m (inode_of m number) 0 (inode_of m number).size
all_bytes f one m number k = all_bytes_at f one m (inode_of m number) k

-- some of them
pub some_bytes : (m : ℕ → List ℕ) (inode : Inode) (size at len end : ℕ) → at ≤ size → end ≡ min size (at + len)
    → bytes_from m inode at (end - at) ≡ take len (drop at (bytes_from m inode 0 size))
some_bytes m inode size at len end h e =
    let l = length-map-range_with_len (byte_of m inode) 0 size in
    let l' = length-map-range_with_len (byte_of m inode) at (end - at) in
    let d = length-drop {A = ℕ} at (bytes_from m inode 0 size) in
    let t = length-take {A = ℕ} len (drop at (bytes_from m inode 0 size)) in
    ext_get_or 0 (bytes_from m inode at (end - at)) (take len (drop at (bytes_from m inode 0 size))) (omega arith) (λ j k.
    get_or-map-range_with_len (byte_of m inode) at (end - at) j (at + j) 0 (omega arith) refl
    ∙ sym (get_or-map-range_with_len (byte_of m inode) 0 size (at + j) (at + j) 0 (omega arith) (omega arith))
    ∙ sym (get_or-drop at (bytes_from m inode 0 size) j 0)
    ∙ sym (get_or-take len (drop at (bytes_from m inode 0 size)) j 0 (omega arith)))

-- what a read gives
pub read_bytes : (f : Form) → f ≡ form_one → (m : ℕ → List ℕ) (at len end : ℕ) (inode : Inode)
    → inode.kind ≡ 1 → at ≤ inode.size → end ≡ min inode.size (at + len)
    → (held : List ℕ) (from : ℕ) → from ≡ end → held ≡ bytes_from m inode at (from - at) → held ≡ take len (drop at (file_bytes (own_at f m inode)))
read_bytes f one m at len end inode k h e held from e1 b =
    b ∙ ap (λ x. bytes_from m inode at (x - at)) e1 ∙ some_bytes m inode inode.size at len end h e
    ∙ ap (λ (x : List ℕ). take len (drop at x)) (sym (all_bytes_at f one m inode k))
