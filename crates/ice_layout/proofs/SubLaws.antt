-- A sub-super block that was written field by field.
use Rattle.std.proofs.Common.{◌≡◌, ◌≤◌, ◌<◌, ℕ, true, List, length, slice_index, slice_set, ◌∙◌, inl, inr, arith}
use Rattle.std.proofs.lemmas.Grind.{elements, common_steps}
use Rattle.ice_base.specs.Fields.{word_at, long_at, WordSet, LongSet, SameBeside}
use Rattle.ice_base.proofs.FieldLaws.{word-beside, long-beside}
use Rattle.ice_layout.specs.Geometry.{zero_block}
use Rattle.ice_layout.specs.Subs.{sub_magic, sub_rule, is_proper_sub, IsSub, SubZeros}
use Rattle.ice_layout.specs.declared.sub.SubSuper.{SubSuper}
use Rattle.ice_layout.proofs.SuperLaws.{zero_at}

-- two bytes that were set
set_beside : (b : List ℕ) (slot mode : ℕ) → SameBeside 8 2 b (slice_set (slice_set b 8 slot) 9 mode)
set_beside b slot mode k apart = grind (arith, elements)

set_first : (b : List ℕ) (slot mode : ℕ) → length b ≡ 1024 → slice_index (slice_set (slice_set b 8 slot) 9 mode) 8 ≡ slot
set_first b slot mode long = grind (arith, elements)

set_second : (b : List ℕ) (slot mode : ℕ) → length b ≡ 1024 → slice_index (slice_set (slice_set b 8 slot) 9 mode) 9 ≡ mode
set_second b slot mode long = grind (arith, elements)

make : ℕ → ℕ → ℕ → ℕ → ℕ → ℕ → SubSuper
make v s m d b n = record { version = v; slot = s; mode = m; done = d; blocks = b; nodes = n }

make-same : (a b c d e f g h i j k l : ℕ) → a ≡ g → b ≡ h → c ≡ i → d ≡ j → e ≡ k → f ≡ l → make a b c d e f ≡ make g h i j k l
make-same a b c d e f g h i j k l p q r s t u = cc

same_sub : (x y : SubSuper) → x.version ≡ y.version → x.slot ≡ y.slot → x.mode ≡ y.mode → x.done ≡ y.done → x.blocks ≡ y.blocks → x.nodes ≡ y.nodes → x ≡ y
unfolding make
same_sub x y p q r s t u = make-same x.version x.slot x.mode x.done x.blocks x.nodes y.version y.slot y.mode y.done y.blocks y.nodes p q r s t u

module _ (sub : SubSuper) (b1 b2 b4 b5 b6 b7 : List ℕ) (w1 : WordSet zero_block 0 sub_magic b1) (w2 : WordSet b1 4 sub.version b2)
    (long : length b2 ≡ 1024) (is : b4 ≡ slice_set (slice_set b2 8 sub.slot) 9 sub.mode)
    (w5 : LongSet b4 16 sub.done b5) (w6 : WordSet b5 24 sub.blocks b6) (w7 : WordSet b6 28 sub.nodes b7) where
  s4 : SameBeside 8 2 b2 b4
  s4 = rw is (set_beside b2 sub.slot sub.mode)

  -- a byte that only the two steps in the middle may have changed
  byte : (k : ℕ) → k < 16 → slice_index b7 k ≡ slice_index b4 k
  byte k low = w7.others k (inl (omega arith)) ∙ w6.others k (inl (omega arith)) ∙ w5.others k (inl (omega arith))

  magic : word_at b7 0 ≡ sub_magic
  magic =
      word-beside b6 b7 28 4 0 w7.others (inl (omega arith)) ∙ word-beside b5 b6 24 4 0 w6.others (inl (omega arith))
      ∙ word-beside b4 b5 16 8 0 w5.others (inl (omega arith)) ∙ word-beside b2 b4 8 2 0 s4 (inl (omega arith))
      ∙ word-beside b1 b2 4 4 0 w2.others (inl (omega arith)) ∙ w1.value

  version : word_at b7 4 ≡ sub.version
  version =
      word-beside b6 b7 28 4 4 w7.others (inl (omega arith)) ∙ word-beside b5 b6 24 4 4 w6.others (inl (omega arith))
      ∙ word-beside b4 b5 16 8 4 w5.others (inl (omega arith)) ∙ word-beside b2 b4 8 2 4 s4 (inl (omega arith)) ∙ w2.value

  slot : slice_index b7 8 ≡ sub.slot
  slot = byte 8 (omega arith) ∙ rw is (set_first b2 sub.slot sub.mode long)

  mode : slice_index b7 9 ≡ sub.mode
  mode = byte 9 (omega arith) ∙ rw is (set_second b2 sub.slot sub.mode long)

  done : long_at b7 16 ≡ sub.done
  done = long-beside b6 b7 28 4 16 w7.others (inl (omega arith)) ∙ long-beside b5 b6 24 4 16 w6.others (inl (omega arith)) ∙ w5.value

  blocks : word_at b7 24 ≡ sub.blocks
  blocks = word-beside b6 b7 28 4 24 w7.others (inl (omega arith)) ∙ w6.value

  pub sub_written : is_proper_sub sub ≡ true → IsSub sub.slot sub b7
  unfolding sub_rule
  sub_written proper = record {
    sound = rw (magic, version, slot, mode, done) (grind (arith, common_steps, proper));
    value = same_sub _ sub version slot mode done blocks w7.value;
  }

  zeros_before : (k : ℕ) → 10 ≤ k → slice_index b4 k ≡ 0
  zeros_before k low = s4 k (inr (omega arith)) ∙ w2.others k (inr (omega arith)) ∙ w1.others k (inr (omega arith)) ∙ zero_at k

  pub sub_zeros : SubZeros b7
  sub_zeros = record {
    low = λ k low high. byte k high ∙ zeros_before k low;
    high = λ k low. w7.others k (inr (omega arith)) ∙ w6.others k (inr (omega arith)) ∙ w5.others k (inr (omega arith)) ∙ zeros_before k (omega arith);
  }
