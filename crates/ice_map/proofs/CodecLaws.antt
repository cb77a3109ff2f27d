-- Inodes that were written read back, and the other bytes stay.
use Rattle.std.proofs.Common.{◌≡◌, ◌≤◌, ◌<◌, ◌⊎◌, ◌+◌, ◌*◌, ℕ, List, length, slice_index, inl, ◌∙◌, sym, arith}
use Rattle.std.proofs.lemmas.List.{ext_get_or}
use Rattle.std.proofs.lemmas.List.FromFn.{get_or-map-range_with_len, length-map-range_with_len}
use Rattle.ice_base.specs.Fields.{word_at, WordSet, SameBeside}
use Rattle.ice_base.specs.Inodes.{kind_at, size_at, pointer, direct_of}
use Rattle.ice_base.proofs.FieldLaws.{word-others, word-same}
use Rattle.ice_map.specs.declared.codec.Inode.{Inode}
use Rattle.ice_map.specs.Inodes.{inode_at}

make : ℕ → ℕ → List ℕ → ℕ → ℕ → Inode
make kind size direct single double = record { kind = kind; size = size; direct = direct; single = single; double = double }

make-same : (a b : ℕ) (c : List ℕ) (d e k l : ℕ) (m : List ℕ) (n o : ℕ) → a ≡ k → b ≡ l → c ≡ m → d ≡ n → e ≡ o → make a b c d e ≡ make k l m n o
make-same a b c d e k l m n o p q r s t = cc

-- two inodes with equal fields are equal
pub same_inode : (x y : Inode) → x.kind ≡ y.kind → x.size ≡ y.size → x.direct ≡ y.direct → x.single ≡ y.single → x.double ≡ y.double → x ≡ y
unfolding make
same_inode x y p q r s t = make-same x.kind x.size x.direct x.single x.double y.kind y.size y.direct y.single y.double p q r s t

pub length-direct_of : (block : List ℕ) (i : ℕ) → length (direct_of block i) ≡ 12
unfolding direct_of
length-direct_of block i = length-map-range_with_len (λ k. pointer block i k) 0 12

direct_of-at : (block : List ℕ) (i k : ℕ) → k < 12 → slice_index (direct_of block i) k ≡ pointer block i k
unfolding direct_of
direct_of-at block i k h = get_or-map-range_with_len (λ k. pointer block i k) 0 12 k k 0 h (omega arith)

-- an inode by its fields
pub inode_at-is : (block : List ℕ) (i : ℕ) (x : Inode) → slice_index block (128 * i) ≡ x.kind → word_at block (128 * i + 4) ≡ x.size
    → length x.direct ≡ 12 → ((k : ℕ) → k < 12 → pointer block i k ≡ slice_index x.direct k) → pointer block i 12 ≡ x.single
    → pointer block i 13 ≡ x.double → inode_at block i ≡ x
unfolding inode_at kind_at size_at
inode_at-is block i x kind size l each single double =
    let len = length-direct_of block i in
    let d : direct_of block i ≡ x.direct = ext_get_or 0 (direct_of block i) x.direct (len ∙ sym l)
    (λ k h. direct_of-at block i k (omega arith) ∙ each k (omega arith)) in
    same_inode _ x kind size d single double

-- an inode stays where its bytes do
pub inode_at-kept : (old new : List ℕ) (j : ℕ) → ((k : ℕ) → 128 * j ≤ k → k < 128 * j + 128 → slice_index new k ≡ slice_index old k)
    → inode_at new j ≡ inode_at old j
unfolding inode_at kind_at size_at
inode_at-kept old new j byte =
    let ln = length-direct_of new j in
    let lo = length-direct_of old j in
    let d : direct_of new j ≡ direct_of old j = ext_get_or 0 (direct_of new j) (direct_of old j) (ln ∙ sym lo) (λ k h. direct_of-at new j k (omega arith)
    ∙ word-same new old (128 * j + (8 + 4 * k)) (λ m l q. byte m (omega arith) (omega arith)) ∙ sym (direct_of-at old j k (omega arith))) in
    same_inode _ _ (byte (128 * j) (omega arith) (omega arith))
    (word-same new old (128 * j + 4) (λ k l h. byte k (omega arith) (omega arith))) d
    (word-same new old (128 * j + 56) (λ k l h. byte k (omega arith) (omega arith)))
    (word-same new old (128 * j + 60) (λ k l h. byte k (omega arith) (omega arith)))

-- a byte outside the numbers of four steps stays
pub byte_kept : (b1 b2 b3 b4 b5 : List ℕ) (i size single double : ℕ)
    → WordSet b1 (128 * i + 4) size b2
    → SameBeside (128 * i + 8) 48 b2 b3
    → WordSet b3 (128 * i + 56) single b4
    → WordSet b4 (128 * i + 60) double b5
    → (k : ℕ) → (k < 128 * i + 4) ⊎ (128 * i + 64 ≤ k) → slice_index b5 k ≡ slice_index b1 k
byte_kept b1 b2 b3 b4 b5 i size single double w2 d w4 w5 k h =
    let e5 = w5.others k (grind arith) in
    let e4 = w4.others k (grind arith) in
    let e3 = d k (grind arith) in
    let e2 = w2.others k (grind arith) in
    e5 ∙ e4 ∙ e3 ∙ e2

-- an inode that was written in five steps reads back
pub inode_made : (b1 b2 b3 b4 b5 : List ℕ) (i : ℕ) (inode : Inode)
    → length inode.direct ≡ 12
    → slice_index b1 (128 * i) ≡ inode.kind
    → WordSet b1 (128 * i + 4) inode.size b2
    → ((k : ℕ) → k < 12 → pointer b3 i k ≡ slice_index inode.direct k)
    → SameBeside (128 * i + 8) 48 b2 b3
    → WordSet b3 (128 * i + 56) inode.single b4
    → WordSet b4 (128 * i + 60) inode.double b5
    → inode_at b5 i ≡ inode
inode_made b1 b2 b3 b4 b5 i inode l kind w2 direct d w4 w5 = inode_at-is b5 i inode
    (byte_kept b1 b2 b3 b4 b5 i inode.size inode.single inode.double w2 d w4 w5 (128 * i) (inl (omega arith)) ∙ kind)
    (word-others b4 b5 (128 * i + 60) inode.double (128 * i + 4) w5 (inl (omega arith))
    ∙ word-others b3 b4 (128 * i + 56) inode.single (128 * i + 4) w4 (inl (omega arith))
    ∙ word-same b3 b2 (128 * i + 4) (λ k l h. d k (inl (omega arith))) ∙ w2.value)
    l
    (λ k h. word-others b4 b5 (128 * i + 60) inode.double (128 * i + (8 + 4 * k)) w5 (inl (omega arith))
    ∙ word-others b3 b4 (128 * i + 56) inode.single (128 * i + (8 + 4 * k)) w4 (inl (omega arith)) ∙ direct k h)
    (word-others b4 b5 (128 * i + 60) inode.double (128 * i + 56) w5 (inl (omega arith)) ∙ w4.value)
    w5.value

pub ruleset codec_laws = (word-others)
