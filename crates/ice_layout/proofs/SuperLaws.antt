-- A superblock that was written field by field.
use Rattle.std.proofs.Common.{◌≡◌, ◌≤◌, ◌+◌, ℕ, zero, suc, nat_eq, true, List, [], ◌∷◌, slice_index, get_or, replicate, drop, refl, rules, ◌∙◌, inl, inr, arith}
use Rattle.std.proofs.lemmas.List.{get_or-drop}
use Rattle.std.specs.List.{list_all}
use Rattle.ice_base.specs.Fields.{word_at, WordSet}
use Rattle.ice_base.proofs.FieldLaws.{word-others}
use Rattle.ice_layout.specs.Geometry.{total_blocks, zero_block, zero_from}
use Rattle.ice_layout.specs.Supers.{super_fault, super_magic, is_geometry, IsSuper}
use Rattle.ice_layout.specs.declared.superblock.Super.{Super}

all_zero : (xs : List ℕ) → ((k : ℕ) → get_or xs k 0 ≡ 0) → list_all (λ byte. nat_eq byte 0) xs ≡ true
all_zero [] h = refl
all_zero (x ∷ xs) h = let here : x ≡ 0 = h 0 in let rest = all_zero xs (λ k. h (suc k)) in grind (arith, here, rest)

-- all bytes from a place on are zero where each is
pub zero_from-each : (at : ℕ) (bytes : List ℕ) → ((k : ℕ) → at ≤ k → slice_index bytes k ≡ 0) → zero_from at bytes ≡ true
zero_from-each at bytes h = all_zero (drop at bytes) (λ k. get_or-drop at bytes k 0 ∙ h (at + k) (omega arith))

zeros_at : (n k : ℕ) → slice_index (replicate n 0) k ≡ 0
zeros_at zero k = refl
zeros_at (suc n) zero = refl
zeros_at (suc n) (suc k) = zeros_at n k

-- each byte of the zero block is 0
pub zero_at : (k : ℕ) → slice_index zero_block k ≡ 0
zero_at k = zeros_at 1024 k

make : ℕ → ℕ → Super
make s g = record { slots = s; groups = g }

make-same : (a b c d : ℕ) → a ≡ c → b ≡ d → make a b ≡ make c d
make-same a b c d p q = cc

super_same : (x y : Super) → x.slots ≡ y.slots → x.groups ≡ y.groups → x ≡ y
unfolding make
super_same x y s g = make-same x.slots x.groups y.slots y.groups s g

-- five numbers written over zeros
pub super_written : (sup : Super) (b1 b2 b3 b4 b5 : List ℕ) (s g t : ℕ) → is_geometry sup ≡ true → s ≡ sup.slots → g ≡ sup.groups
    → t ≡ total_blocks sup.slots sup.groups
    → WordSet zero_block 0 super_magic b1 → WordSet b1 4 1 b2 → WordSet b2 8 s b3 → WordSet b3 12 g b4 → WordSet b4 16 t b5 → IsSuper sup b5
unfolding super_fault
super_written sup b1 b2 b3 b4 b5 s g t geometry is_s is_g is_t w1 w2 w3 w4 w5 =
    let magic : word_at b5 0 ≡ super_magic = word-others b4 b5 16 _ 0 w5 (inl (omega arith))
    ∙ word-others b3 b4 12 _ 0 w4 (inl (omega arith)) ∙ word-others b2 b3 8 _ 0 w3 (inl (omega arith))
    ∙ word-others b1 b2 4 _ 0 w2 (inl (omega arith)) ∙ w1.value in
    let version : word_at b5 4 ≡ 1 = word-others b4 b5 16 _ 4 w5 (inl (omega arith)) ∙ word-others b3 b4 12 _ 4 w4 (inl (omega arith))
    ∙ word-others b2 b3 8 _ 4 w3 (inl (omega arith)) ∙ w2.value in
    let slots : word_at b5 8 ≡ sup.slots = word-others b4 b5 16 _ 8 w5 (inl (omega arith))
    ∙ word-others b3 b4 12 _ 8 w4 (inl (omega arith)) ∙ w3.value ∙ is_s in
    let groups : word_at b5 12 ≡ sup.groups = word-others b4 b5 16 _ 12 w5 (inl (omega arith)) ∙ w4.value ∙ is_g in
    let rest : (k : ℕ) → 20 ≤ k → slice_index b5 k ≡ 0 = λ k h. w5.others k (inr (omega arith)) ∙ w4.others k (inr (omega arith))
    ∙ w3.others k (inr (omega arith)) ∙ w2.others k (inr (omega arith)) ∙ w1.others k (inr (omega arith)) ∙ zero_at k in
    let total : word_at b5 16 ≡ total_blocks sup.slots sup.groups = w5.value ∙ is_t in
    let zeros = zero_from-each 20 b5 rest in
    record {
      accepted = rw (magic, version, slots, groups, total) (search rules);
      value = super_same _ sup slots groups;
    }
