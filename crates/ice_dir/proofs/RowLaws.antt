-- Entries as bytes and as rows.
use Rattle.std.proofs.Common.{◌≡◌, ◌≢◌, ◌≤◌, ◌<◌, ◌+◌, ◌-◌, ℕ, true, false, nat_le, List, [], length, take, drop, slice_index, slice_set, ◌∙◌, sym, refl, ap, arith, inl, length-take, length-drop}
use Rattle.std.proofs.lemmas.Bool.Decides.{nat_tests}
use Rattle.std.proofs.lemmas.List.{ext_get_or, get_or-drop, get_or-take}
use Rattle.std.proofs.lemmas.List.Edits.{length-between, get_or-between}
use Rattle.ice_base.specs.Fields.{word_at, WordSet, SameBeside}
use Rattle.ice_base.proofs.FieldLaws.{word-same}
use Rattle.std.proofs.lemmas.Grind.{elements}
use Rattle.ice_dir.specs.Rows.{row_bytes, name_in, row_in, row_at, IsText}

pub name-some : (bytes : List ℕ) (end : ℕ) → end ≡ 5 + slice_index bytes 4 → end ≤ length bytes → take (end - 5) (drop 5 bytes) ≡ name_in bytes
unfolding name_in
name-some bytes end e h =
    let t : nat_le (5 + slice_index bytes 4) (length bytes) ≡ true = grind (arith, nat_tests) in
    let n : end - 5 ≡ slice_index bytes 4 = omega arith in
    ap (λ k. take k (drop 5 bytes)) n ∙ rw t refl

pub name-none : (bytes : List ℕ) (end : ℕ) → end ≡ 5 + slice_index bytes 4 → length bytes < end → [] ≡ name_in bytes
unfolding name_in
name-none bytes end e h =
    let t : nat_le (5 + slice_index bytes 4) (length bytes) ≡ false = grind (arith, nat_tests) in
    rw t refl

pub length-row : (entry : ℕ) (block : List ℕ) (at : ℕ) → at + entry ≤ length block → length (row_bytes entry block at) ≡ entry
length-row entry block at h = length-between block at (at + entry) h ∙ omega arith

pub row-byte : (entry : ℕ) (block : List ℕ) (at k : ℕ) → k < entry → slice_index (row_bytes entry block at) k ≡ slice_index block (at + k)
row-byte entry block at k h = get_or-between block at (at + entry) k 0 (omega arith)

-- entries of the same bytes
pub bytes-same : (entry : ℕ) (b c : List ℕ) (at to : ℕ) → at + entry ≤ length b → to + entry ≤ length c
    → ((k : ℕ) → k < entry → slice_index c (to + k) ≡ slice_index b (at + k)) → row_bytes entry c to ≡ row_bytes entry b at
bytes-same entry b c at to h l same =
    let lb = length-row entry b at h in
    let lc = length-row entry c to l in
    ext_get_or 0 (row_bytes entry c to) (row_bytes entry b at) (lc ∙ sym lb)
    (λ k m. row-byte entry c to k (omega arith) ∙ same k (omega arith) ∙ sym (row-byte entry b at k (omega arith)))

pub row-same : (entry : ℕ) (b c : List ℕ) (at to : ℕ) → at + entry ≤ length b → to + entry ≤ length c
    → ((k : ℕ) → k < entry → slice_index c (to + k) ≡ slice_index b (at + k)) → row_at entry c to ≡ row_at entry b at
row-same entry b c at to h l same = ap row_in (bytes-same entry b c at to h l same)

pub row-number : (entry : ℕ) (block : List ℕ) (at : ℕ) → 4 ≤ entry → word_at block at ≡ word_at (row_bytes entry block at) 0
unfolding word_at
row-number entry block at h =
    let a = row-byte entry block at 0 (omega arith) in
    let b = row-byte entry block at 1 (omega arith) in
    let c = row-byte entry block at 2 (omega arith) in
    let d = row-byte entry block at 3 (omega arith) in
    let z : at + 0 ≡ at = omega arith in
    let y = ap (slice_index block) z in
    omega (arith, a, b, c, d, y)

-- what a written entry reads as
pub row-made : (entry : ℕ) (block name : List ℕ) (at inode : ℕ) → at + entry ≤ length block → 5 + length name ≤ entry
    → word_at block at ≡ inode → slice_index block (at + 4) ≡ length name
    → ((k : ℕ) → k < length name → slice_index block (at + 5 + k) ≡ slice_index name k) → row_at entry block at ≡ (name, inode)
row-made entry block name at inode h l number size bytes =
    let long = length-row entry block at h in
    let four = row-byte entry block at 4 (omega arith) in
    let rest = length-drop {A = ℕ} 5 (row_bytes entry block at) in
    let cut = length-take {A = ℕ} (length name) (drop 5 (row_bytes entry block at)) in
    let text : take (length name) (drop 5 (row_bytes entry block at)) ≡ name = ext_get_or 0
    (take (length name) (drop 5 (row_bytes entry block at))) name (omega arith) (λ k m.
    get_or-take (length name) (drop 5 (row_bytes entry block at)) k 0 (omega arith)
    ∙ get_or-drop 5 (row_bytes entry block at) k 0
    ∙ row-byte entry block at (5 + k) (omega arith)
    ∙ ap (slice_index block) (omega arith)
    ∙ bytes k (omega arith)) in
    let n : name_in (row_bytes entry block at) ≡ name = sym
    (name-some (row_bytes entry block at) (5 + length name) (omega arith) (omega arith))
    ∙ ap (λ k. take k (drop 5 (row_bytes entry block at))) (omega arith) ∙ text in
    let w = sym (row-number entry block at (omega arith)) ∙ number in
    ap (λ (x : List ℕ). (x, word_at (row_bytes entry block at) 0)) n ∙ ap (λ x. (name, x)) w

set-other : (xs : List ℕ) (i v k : ℕ) → k ≢ i → slice_index (slice_set xs i v) k ≡ slice_index xs k
set-other xs i v k h = grind (arith, elements)

set-here : (xs : List ℕ) (i v : ℕ) → i < length xs → slice_index (slice_set xs i v) i ≡ v
set-here xs i v h = grind (arith, elements)

-- the steps of a write of an entry
pub row-written : (entry : ℕ) (b0 b1 b2 b3 b4 name : List ℕ) (at inode : ℕ) → at + entry ≤ length b4 → at + entry ≤ length b1
    → 5 + length name ≤ entry → WordSet b0 at inode b1 → b2 ≡ slice_set b1 (at + 4) (length name)
    → ((k : ℕ) → k < length name → slice_index b3 (at + 5 + k) ≡ slice_index name k) → SameBeside (at + 5) (length name) b2 b3
    → ((k : ℕ) → k < at + 5 + length name → slice_index b4 k ≡ slice_index b3 k)
    → row_at entry b4 at ≡ (name, inode)
row-written entry b0 b1 b2 b3 b4 name at inode long first short word set text beside rest =
    let early : (k : ℕ) → k < at + 5 → slice_index b4 k ≡ slice_index b2 k = (λ k h. rest k (omega arith) ∙ beside k (inl h)) in
    let number : word_at b4 at ≡ word_at b1 at = word-same b4 b1 at
    (λ k l h. early k (omega arith) ∙ ap (λ (b : List ℕ). slice_index b k) set ∙ set-other b1 (at + 4) (length name) k (omega arith)) in
    row-made entry b4 name at inode long short (number ∙ word.value)
    (early (at + 4) (omega arith) ∙ ap (λ (b : List ℕ). slice_index b (at + 4)) set ∙ set-here b1 (at + 4) (length name) (omega arith))
    (λ k h. rest (at + 5 + k) (omega arith) ∙ text k h)

-- an entry that reads as a row and is blank past its name
pub text-made : (entry : ℕ) (block name : List ℕ) (at inode : ℕ) → at + entry ≤ length block → row_at entry block at ≡ (name, inode)
    → ((k : ℕ) → 5 + length name ≤ k → k < entry → slice_index block (at + k) ≡ 0)
    → IsText (name, inode) (row_bytes entry block at)
text-made entry block name at inode long reads blank = record {
  reads = reads;
  blank = λ k h l. let e = length-row entry block at long in row-byte entry block at k (omega arith) ∙ blank k h (omega arith);
}
