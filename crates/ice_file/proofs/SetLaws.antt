-- What a file holds after its inode was put.
use Rattle.std.proofs.Common.{◌≡◌, ◌≢◌, ◌≤◌, ◌<◌, ◌⊎◌, ◌+◌, ◌-◌, ◌*◌, ◌/◌, ◌%◌, max, ℕ, true, false, List, ◌++◌, length, take, drop, slice_index, length-append, length-take, length-drop, ◌∙◌, sym, refl, ap, inl, inr, arith, ltb}
use Rattle.std.proofs.lemmas.Bool.Decides.{nat_tests}
use Rattle.std.proofs.lemmas.Nat.{div-add-mod', mod_below}
use Rattle.std.proofs.lemmas.List.{ext_get_or, get_or_append_left, get_or-append_right, get_or-take, get_or-drop}
use Rattle.std.proofs.lemmas.List.FromFn.{get_or-map-range_with_len, length-map-range_with_len, take-map-range_with_len}
use Rattle.ice_base.specs.Lots.{LotView}
use Rattle.ice_base.specs.Inodes.{inode_address}
use Rattle.ice_map.specs.declared.codec.Inode.{Inode}
use Rattle.ice_map.specs.Inodes.{inode_of, InodeSet}
use Rattle.ice_map.specs.Maps.{nth_block}
use Rattle.ice_map.specs.Moves.{Moved, content_of}
use Rattle.ice_map.specs.Own.{own, file_bytes, map_length, blocks_for}
use Rattle.ice_map.proofs.ListLaws.{map_range_same}
use Rattle.ice_map.proofs.OwnLaws.{uses-nth}
use Rattle.ice_map.proofs.SetLaws.{resized, set-nth, set-data, own-set}
use Rattle.tree_spec.specs.Costs.{Form, form_one}
use Rattle.ice_file.specs.Files.{byte_of, bytes_from, overwritten, FileSet}
use Rattle.ice_file.specs.Writes.{Written, blocks_with}
use Rattle.ice_file.proofs.ByteLaws.{all_bytes, file_length}
use Rattle.ice_file.proofs.WriteLaws.{count-enough}

-- the bytes of a map that moved, and whose inode was put with another size
module _ (lot : LotView) (m0 m1 m2 : ℕ → List ℕ) (x y : Inode) (c d s : ℕ) (f : Form) (one : f ≡ form_one) (number : ℕ)
    (is : inode_of m0 number ≡ x) (count : map_length f x ≡ c) (moved : Moved lot m0 m1 x y c d)
    (set : InodeSet m1 m2 number (resized y s)) (next : map_length f (resized y s) ≡ d) (only : (b : ℕ) → b ≢ inode_address number → m2 b ≡ m1 b) where
  pub set-byte : (i : ℕ) → i < 1024 * d → byte_of m2 (resized y s) i ≡ byte_of m1 y i
  set-byte i h =
      let q = div-add-mod' i 1024 in
      let l : i / 1024 < d = omega arith in
      ap (λ b. slice_index (m2 b) (i % 1024)) (set-nth lot m0 m1 m2 x y c d s f one number is count moved set next only (i / 1024) l)
      ∙ ap (λ (b : List ℕ). slice_index b (i % 1024))
      (set-data lot m0 m1 m2 x y c d s f one number is count moved set next only (nth_block m1 y (i / 1024))
      (moved.made.holds (nth_block m1 y (i / 1024)) (uses-nth m1 y d (i / 1024) l)).0)

  pub set-bytes : y.kind ≡ 1 → file_bytes (own f m2 number) ≡ bytes_from m2 (resized y s) 0 s
  set-bytes k = all_bytes f one m2 number (ap (λ (i : Inode). i.kind) set.value ∙ k) ∙ ap (λ (i : Inode). bytes_from m2 i 0 i.size) set.value

-- a list by its three parts
pub overwrite : (old bytes new : List ℕ) (at : ℕ) → at ≤ length old → length new ≡ max (length old) (at + length bytes)
    → ((i : ℕ) → at ≤ i → i < at + length bytes → slice_index new i ≡ slice_index bytes (i - at))
    → ((i : ℕ) → i < length old → (i < at) ⊎ (at + length bytes ≤ i) → slice_index new i ≡ slice_index old i) → new ≡ overwritten old at bytes
overwrite old bytes new at h long mine theirs =
    let a = length-append (take at old ++ bytes) (drop (at + length bytes) old) in
    let b = length-append (take at old) bytes in
    let front = length-take {A = ℕ} at old in
    let back = length-drop {A = ℕ} (at + length bytes) old in
    ext_get_or 0 new (overwritten old at bytes) (omega arith) (λ i l.
    elim (ltb i at) as (λ t. ltb i at ≡ t → slice_index new i ≡ slice_index (overwritten old at bytes) i) [
      | true ↦ λ t. let low : i < at = grind (arith, nat_tests) in
          theirs i (omega arith) (inl low)
          ∙ sym (get_or_append_left (take at old ++ bytes) (drop (at + length bytes) old) 0 i (omega arith)
          ∙ get_or_append_left (take at old) bytes 0 i (omega arith) ∙ get_or-take at old i 0 low)
      | false ↦ λ t. let high : at ≤ i = grind (arith, nat_tests) in
          elim (ltb i (at + length bytes)) as (λ u. ltb i (at + length bytes) ≡ u → slice_index new i ≡ slice_index (overwritten old at bytes) i) [
            | true ↦ λ u. let low : i < at + length bytes = grind (arith, nat_tests) in
                mine i high low
                ∙ sym (get_or_append_left (take at old ++ bytes) (drop (at + length bytes) old) 0 i (omega arith)
                ∙ get_or-append_right (take at old) bytes at i 0 (omega arith) high)
            | false ↦ λ u. let past : at + length bytes ≤ i = grind (arith, nat_tests) in
                let e : at + length bytes + (i - (at + length bytes)) ≡ i = omega arith in
                theirs i (omega arith) (inr past)
                ∙ sym (get_or-append_right (take at old ++ bytes) (drop (at + length bytes) old) (at + length bytes) i 0 (omega arith) past
                ∙ get_or-drop (at + length bytes) old (i - (at + length bytes)) 0 ∙ ap (slice_index old) e)
          ] refl
    ] refl)

-- a file that was written
pub file-written : (lot : LotView) (m0 m1 m2 : ℕ → List ℕ) (x y : Inode) (f : Form) → f ≡ form_one → (number at : ℕ) (bytes : List ℕ)
    → inode_of m0 number ≡ x → x.kind ≡ 1 → at ≤ x.size
    → Written lot m0 m1 x y (blocks_for x.size) (blocks_with x.size (at + length bytes)) at (at + length bytes) bytes
    → InodeSet m1 m2 number (resized y (max x.size (at + length bytes))) → ((b : ℕ) → b ≢ inode_address number → m2 b ≡ m1 b)
    → FileSet lot f m0 m2 number (overwritten (file_bytes (own f m0 number)) at bytes)
file-written lot m0 m1 m2 x y f one number at bytes is kind reaches w set only =
    let size : ℕ = max x.size (at + length bytes) in
    let k : y.kind ≡ 1 = w.moved.kind ∙ kind in
    let count = file_length f x kind in
    let next = file_length f (resized y (max x.size (at + length bytes))) k in
    let enough = count-enough x.size (at + length bytes) in
    let enough' = count-enough x.size 0 in
    let same : blocks_with x.size 0 ≡ blocks_for x.size = ap blocks_for (omega arith) in
    let old : file_bytes (own f m0 number) ≡ bytes_from m0 x 0 x.size = all_bytes f one m0 number (ap (λ (i : Inode). i.kind) is ∙ kind)
    ∙ ap (λ (i : Inode). bytes_from m0 i 0 i.size) is in
    let long = length-map-range_with_len (byte_of m0 x) 0 x.size in
    let longer = length-map-range_with_len (byte_of m2 (resized y (max x.size (at + length bytes)))) 0 (max x.size (at + length bytes)) in
    let wide : max x.size (at + length bytes) ≤ 1024 * blocks_with x.size
    (at + length bytes) = (let q = div-add-mod' (max x.size (at + length bytes) + 1023) 1024 in
    let r = mod_below (max x.size (at + length bytes) + 1023) 1024 (omega arith) in omega arith) in
    let byte = set-byte lot m0 m1 m2 x y (blocks_for x.size) (blocks_with x.size (at + length bytes))
    (max x.size (at + length bytes)) f one number is count w.moved set next only in
    let now = set-bytes lot m0 m1 m2 x y (blocks_for x.size) (blocks_with x.size (at + length bytes))
    (max x.size (at + length bytes)) f one number is count w.moved set next only k in
    record {
      bytes =
          now ∙ overwrite (bytes_from m0 x 0 x.size) bytes
          (bytes_from m2 (resized y (max x.size (at + length bytes))) 0 (max x.size (at + length bytes))) at (omega arith) (omega arith)
          (λ i l h. get_or-map-range_with_len (byte_of m2 (resized y (max x.size (at + length bytes)))) 0
          (max x.size (at + length bytes)) i i 0 (omega arith) (omega arith) ∙ byte i (omega arith) ∙ w.new i l h)
          (λ i l side. get_or-map-range_with_len (byte_of m2 (resized y (max x.size (at + length bytes)))) 0
          (max x.size (at + length bytes)) i i 0 (omega arith) (omega arith) ∙ byte i (omega arith) ∙ w.old i (omega arith) side
          ∙ sym (get_or-map-range_with_len (byte_of m0 x) 0 x.size i i 0 (omega arith) (omega arith)))
          ∙ ap (λ (xs : List ℕ). overwritten xs at bytes) (sym old);
      kind = ap (λ (i : Inode). i.kind) set.value ∙ k;
      set =
          own-set lot m0 m1 m2 x y (blocks_for x.size) (blocks_with x.size (at + length bytes))
          (max x.size (at + length bytes)) f one number is count w.moved set next only;
    }

-- a file that was cut
pub file-cut : (lot : LotView) (m0 m1 m2 : ℕ → List ℕ) (x y : Inode) (f : Form) → f ≡ form_one → (number len : ℕ) → inode_of m0 number ≡ x
    → x.kind ≡ 1 → len ≤ x.size
    → Moved lot m0 m1 x y (blocks_for x.size) (blocks_for len) → ((n : ℕ) → n < blocks_for len → content_of m1 y n ≡ content_of m0 x n)
    → InodeSet m1 m2 number (resized y len) → ((b : ℕ) → b ≢ inode_address number → m2 b ≡ m1 b)
    → FileSet lot f m0 m2 number (take len (file_bytes (own f m0 number)))
file-cut lot m0 m1 m2 x y f one number len is kind reaches moved contents set only =
    let k : y.kind ≡ 1 = moved.kind ∙ kind in
    let count = file_length f x kind in
    let next = file_length f (resized y len) k in
    let old : file_bytes (own f m0 number) ≡ bytes_from m0 x 0 x.size = all_bytes f one m0 number (ap (λ (i : Inode). i.kind) is ∙ kind)
    ∙ ap (λ (i : Inode). bytes_from m0 i 0 i.size) is in
    let wide : len ≤ 1024 * blocks_for len = (let q = div-add-mod' (len + 1023) 1024 in let r = mod_below (len + 1023) 1024 (omega arith) in omega arith) in
    let byte = set-byte lot m0 m1 m2 x y (blocks_for x.size) (blocks_for len) len f one number is count moved set next only in
    record {
      bytes = set-bytes lot m0 m1 m2 x y (blocks_for x.size) (blocks_for len) len f one number is count moved set next only k
          ∙ map_range_same (byte_of m2 (resized y len)) (byte_of m0 x) 0 len (λ i l h. byte i (omega arith)
          ∙ (let q = div-add-mod' i 1024 in ap (λ (b : List ℕ). slice_index b (i % 1024)) (contents (i / 1024) (omega arith))))
          ∙ sym (take-map-range_with_len (byte_of m0 x) 0 x.size len reaches)
          ∙ ap (take len) (sym old);
      kind = ap (λ (i : Inode). i.kind) set.value ∙ k;
      set = own-set lot m0 m1 m2 x y (blocks_for x.size) (blocks_for len) len f one number is count moved set next only;
    }
