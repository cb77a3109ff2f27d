-- What is damaged after an entry was taken, seen from the lot as it was before.
use Rattle.std.proofs.Common.{◌≡◌, ◌≢◌, ◌≤◌, ◌<◌, ◌+◌, ◌-◌, ◌⊎◌, ℕ, true, false, List, ◌++◌, length, map, refl, sym, ap, ◌∙◌, subst, arith, inl, inr, ⊎_elim, nat_lt, ◌==◌, cond}
use Rattle.std.specs.List.{range_with_len}
use Rattle.std.proofs.lemmas.Bool.Decides.{nat_tests}
use Rattle.ice_base.specs.Lots.{LotView, sub_address}
use Rattle.ice_base.specs.Spare.{has}
use Rattle.ice_base.specs.Used.{is_data, counted}
use Rattle.ice_base.specs.declared.fault.OpFault.{OpFault}
use Rattle.ice_base.specs.declared.fault.OpFault.TheVariants.{Disk, Damaged}
use Rattle.ice_base.specs.declared.fault.Rule.TheVariants.{Counts, Pointer, Bitmap}
use Rattle.ice_map.specs.declared.codec.Inode.{Inode}
use Rattle.ice_map.specs.Inodes.{inode_of}
use Rattle.ice_map.specs.Maps.{times, nth_block, blocks_of, blocks_between, uses, indirect_of, Misleads, UsesUnmarked, HasTwice}
use Rattle.ice_map.proofs.MapLaws.{leads-direct}
use Rattle.ice_map.specs.Own.{blocks_for, map_length}
use Rattle.ice_map.specs.Moves.{uses_of}
use Rattle.ice_map.proofs.OwnLaws.{length-uses, uses-single}
use Rattle.ice_map.proofs.CutLaws.{same-run}
use Rattle.ice_dir.specs.Changes.{entry_blocks, dir_uses, EntryGone}
use Rattle.ice_dir.specs.Rows.{IsDirectory}
use Rattle.ice_look.specs.Broken.{IsBrokenBy, IsFaultBy, BadPointer, FreeBlock, TwiceUsed, FewCounted, node_uses}
use Rattle.ice_tree.specs.Removes.{LooseBroken}
use Rattle.ice_look.specs.Places.{IsNode, IsReached}
use Rattle.ice_tree.proofs.FaultLaws.{count-beside}
use Rattle.ice_look.proofs.MapDamage.{map-dir, map-file, free-block, bad-pointer, twice-used}
use Rattle.tree_spec.specs.Costs.{Form, form_one}
use Rattle.ice_tree.proofs.MapDamage.{leads-same}

-- what a map uses hangs on its indirect block alone
uses-same : (m m' : ℕ → List ℕ) (x : Inode) (c : ℕ) → (12 < c → m' x.single ≡ m x.single) → uses m' x c ≡ uses m x c
uses-same m m' x c same =
    ap (λ xs. indirect_of x c ++ xs) (sym (whole m') ∙ same-run m' (m' x.single) x 0 c (λ h. refl) ∙ sym (same-run m (m' x.single) x 0 c same) ∙ whole m)
  where
    whole : (n : ℕ → List ℕ) → blocks_between n x 0 c ≡ blocks_of n x c
    whole n = let e : c - 0 ≡ c = omega arith in ap (λ k. map (nth_block n x) (range_with_len 0 k)) e

-- another map, of which data places beside these stayed: it uses what it used, or its indirect block is one of these, or none
module _ (lot : LotView) (m m' : ℕ → List ℕ) (these : List ℕ) (stays : (b : ℕ) → is_data lot b ≡ true → has these b ≡ false → m' b ≡ m b)
    (x : Inode) (c : ℕ) where
  abbrev Shares : Type 0
  Shares = (has these x.single ≡ true) × (has (uses m x c) x.single ≡ true)

  pub other-uses : (12 < c → is_data lot x.single ≡ true) → (uses m' x c ≡ uses m x c) ⊎ Shares
  other-uses place =
      elim (nat_lt 12 c) as (λ t. nat_lt 12 c ≡ t → (uses m' x c ≡ uses m x c) ⊎ Shares) [
        | false ↦ λ t. inl (uses-same m m' x c (λ l. absurd (grind (arith, nat_tests))))
        | true ↦ λ t.
            let long : 12 < c = grind (arith, nat_tests) in
            elim (has these x.single) as (λ u. has these x.single ≡ u → (uses m' x c ≡ uses m x c) ⊎ Shares) [
              | true ↦ λ u. inr (u, uses-single m x c long)
              | false ↦ λ u. inl (uses-same m m' x c (λ l. stays x.single (place long) u))
            ] refl
      ] refl

  -- a block of it that leads nowhere
  pub other-misled : Misleads lot m' x c → Misleads lot m x c ⊎ Shares
  other-misled bad =
      elim (nat_lt bad.block 12) as (λ t. nat_lt bad.block 12 ≡ t → Misleads lot m x c ⊎ Shares) [
        | true ↦ λ t.
            let l : bad.block < 12 = grind (arith, nat_tests) in
            inl (record { block = bad.block; below = bad.below; bad = leads-direct lot m x bad.block l ∙ sym (leads-direct lot m' x bad.block l) ∙ bad.bad })
        | false ↦ λ t.
            let l : 12 ≤ bad.block = grind (arith, nat_tests) in
            let low = bad.below in
            let long : 12 < c = omega arith in
            elim (has these x.single) as (λ u. has these x.single ≡ u → Misleads lot m x c ⊎ Shares) [
              | true ↦ λ u. inr (u, uses-single m x c long)
              | false ↦ λ u.
                  inl (record { block = bad.block; below = bad.below; bad = sym (leads-same lot m m' x bad.block (λ d. stays x.single d u)) ∙ bad.bad })
            ] refl
      ] refl

-- two inodes share a block
pub shared : (form : Form) (lot : LotView) (m : ℕ → List ℕ) (one other c d b : ℕ) → IsReached form lot m one → IsReached form lot m other
    → IsNode lot (inode_of m one) → IsNode lot (inode_of m other)
    → map_length form (inode_of m one) ≡ c → map_length form (inode_of m other) ≡ d → one ≢ other
    → has (uses m (inode_of m one) c) b ≡ true → has (uses m (inode_of m other) d) b ≡ true → TwiceUsed form lot m
shared form lot m one other c d b r s x y long long_too apart h g = record {
  one = one;
  other = other;
  block = b;
  reached = r;
  reached_too = s;
  node = x;
  node_too = y;
  twice =
      inr (apart, subst (λ n. has (uses m (inode_of m one) n) b ≡ true) (sym long) h, subst (λ n. has (uses m (inode_of m other) n) b ≡ true) (sym long_too) g);
}

-- fewer blocks are counted than two use
few-two : (form : Form) (lot : LotView) (m : ℕ → List ℕ) (one other c d : ℕ) → IsReached form lot m one → IsReached form lot m other
    → IsNode lot (inode_of m one) → IsNode lot (inode_of m other)
    → map_length form (inode_of m one) ≡ c → map_length form (inode_of m other) ≡ d → one ≢ other → counted false m < uses_of c + uses_of d
    → FewCounted form lot m
few-two form lot m one other c d r s x y long long_too apart few = record {
  one = one;
  other = other;
  reached = r;
  reached_too = s;
  node = x;
  node_too = y;
  few =
      let a = length-uses m (inode_of m one) (map_length form (inode_of m one)) in
      let b = length-uses m (inode_of m other) (map_length form (inode_of m other)) in
      let p = ap uses_of long in
      let q = ap uses_of long_too in
      let n : (one == other) ≡ false = grind (arith, nat_tests) in
      let z : cond (one == other) 0 (length (node_uses form m other)) ≡ length (node_uses form m other) =
      ap (λ t. cond t 0 (length (node_uses form m other))) n in
      omega arith;
}

-- an entry of a directory was taken
module _ (form : Form) (lot : LotView) (m0 m1 : ℕ → List ℕ) (dir : ℕ) (reached : IsReached form lot m0 dir)
    (is : IsDirectory lot (inode_of m0 dir)) (gone : EntryGone lot form m0 m1 dir) where
  long : map_length form (inode_of m0 dir) ≡ entry_blocks form (inode_of m0 dir).size
  long = map-dir form (inode_of m0 dir) is.kind

  -- the directory uses a block twice
  pub dir-twice : HasTwice (dir_uses form m0 dir) → TwiceUsed form lot m0
  dir-twice t = twice-used form lot m0 dir (entry_blocks form (inode_of m0 dir).size) reached (inr is) long t

  -- what is damaged of a file that stands loose now, or of an empty directory
  module _ (number : ℕ) (there : IsReached form lot m0 number) where
    apart : (inode_of m1 number).kind ≡ 1 → number ≢ dir
    apart one e = let k = gone.kind in let f = ap (λ i. (inode_of m1 i).kind) e in absurd (omega arith)

    module _ (kind : (inode_of m1 number).kind ≡ 1) (small : (inode_of m1 number).size ≤ form_one.longest_file) where
      same : inode_of m1 number ≡ inode_of m0 number
      same = gone.others number (apart kind)

      file : (inode_of m0 number).kind ≡ 1
      file = ap (λ (i : Inode). i.kind) (sym same) ∙ kind

      node : IsNode lot (inode_of m0 number)
      node = inl (file, subst (λ (i : Inode). i.size ≤ form_one.longest_file) same small)

      length-is : map_length form (inode_of m0 number) ≡ blocks_for (inode_of m0 number).size
      length-is = map-file form (inode_of m0 number) file

      both : (b : ℕ) → has (dir_uses form m0 dir) b ≡ true
          → has (uses m0 (inode_of m0 number) (blocks_for (inode_of m0 number).size)) b ≡ true → TwiceUsed form lot m0
      both b h g =
          shared form lot m0 number dir (blocks_for (inode_of m0 number).size)
          (entry_blocks form (inode_of m0 dir).size) b there reached node (inr is) length-is long (apart kind) g h

      file-few : counted false m1 < uses_of (blocks_for (inode_of m1 number).size) → FewCounted form lot m0
      file-few few =
          let s = ap (λ (i : Inode). uses_of (blocks_for i.size)) same in
          let c = gone.counts in
          few-two form lot m0 number dir (blocks_for (inode_of m0 number).size)
          (entry_blocks form (inode_of m0 dir).size) there reached node (inr is) length-is long (apart kind) (omega arith)

      file-misled : Misleads lot m1 (inode_of m1 number) (blocks_for (inode_of m1 number).size) → BadPointer form lot m0 ⊎ TwiceUsed form lot m0
      file-misled bad =
          ⊎_elim
          (λ l. inl (bad-pointer form lot m0 number (blocks_for (inode_of m0 number).size) there node length-is l))
          (λ s. inr (both (inode_of m0 number).single s.0 s.1))
          (other-misled lot m0 m1 (dir_uses form m0 dir) gone.blocks (inode_of m0 number) (blocks_for (inode_of m0 number).size)
          (subst (λ (i : Inode). Misleads lot m1 i (blocks_for i.size)) same bad))

      file-unused : (12 < blocks_for (inode_of m1 number).size → is_data lot (inode_of m1 number).single ≡ true)
          → UsesUnmarked m1 (inode_of m1 number) (blocks_for (inode_of m1 number).size)
          ⊎ HasTwice (uses m1 (inode_of m1 number) (blocks_for (inode_of m1 number).size))
          → FreeBlock form lot m0 ⊎ TwiceUsed form lot m0
      file-unused placed bad =
          ⊎_elim
          (λ e. by e (subst (λ (i : Inode). UsesUnmarked m1 i (blocks_for i.size) ⊎ HasTwice (uses m1 i (blocks_for i.size))) same bad))
          (λ s. inr (both (inode_of m0 number).single s.0 s.1))
          (other-uses lot m0 m1 (dir_uses form m0 dir) gone.blocks (inode_of m0 number) (blocks_for (inode_of m0 number).size)
          (subst (λ (i : Inode). 12 < blocks_for i.size → is_data lot i.single ≡ true) same placed))
        where
          by : uses m1 (inode_of m0 number) (blocks_for (inode_of m0 number).size) ≡ uses m0 (inode_of m0 number) (blocks_for (inode_of m0 number).size)
              → UsesUnmarked m1 (inode_of m0 number) (blocks_for (inode_of m0 number).size)
              ⊎ HasTwice (uses m1 (inode_of m0 number) (blocks_for (inode_of m0 number).size))
              → FreeBlock form lot m0 ⊎ TwiceUsed form lot m0
          by e (inr t) =
              inr (twice-used form lot m0 number (blocks_for (inode_of m0 number).size) there node length-is (t.0, subst (λ xs. 2 ≤ times xs t.0) e t.1))
          by e (inl u) =
              let here = ap (λ xs. has xs u.block) (sym e) ∙ u.uses in
              ⊎_elim
              (λ f. inl (free-block form lot m0 number (blocks_for (inode_of m0 number).size) there node length-is
              (record { block = u.block; uses = here; unmarked = f })))
              (λ s. inr (⊎_elim (λ h. both u.block h here) (λ t. dir-twice t) s))
              (gone.marks u.block u.unmarked)

    pub loose-before : (e : OpFault) → IsFaultBy (LooseBroken lot m1 number) e → IsBrokenBy form lot m0 e
    loose-before Disk h = tt
    loose-before (Damaged Counts) (inl h) = inr (inr (file-few h.0 h.1 h.2))
    loose-before (Damaged Counts) (inr h) = inr (inl (sym (count-beside (m0 sub_address) (m1 sub_address) gone.sub) ∙ h))
    loose-before (Damaged Pointer) h = file-misled h.0 h.1 h.2
    loose-before (Damaged Bitmap) (inl h) = ⊎_elim (λ f. inr (inl f)) (λ t. inr (inr (inr t))) (file-unused h.0 h.1 h.2 h.3)
    loose-before (Damaged Bitmap) (inr h) = inr (inr (inl (record { number = number; reached = there; free = sym (gone.inodes number) ∙ h })))
    loose-before _ h = absurd h
