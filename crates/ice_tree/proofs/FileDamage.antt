-- Which rule a lot breaks where a file can't be written or cut after all.
use Rattle.std.proofs.Common.{◌≡◌, ◌≤◌, ◌<◌, ◌+◌, ◌^◌, ℕ, true, false, length, refl, subst, arith, inl, inr, ap}
use Rattle.std.specs.Prelude.{max}
use Rattle.ice_base.specs.Lots.{LotView}
use Rattle.ice_base.specs.Used.{is_data, counted, free_count, Reserved}
use Rattle.ice_base.specs.declared.fault.OpFault.{OpFault}
use Rattle.ice_base.specs.declared.fault.OpFault.TheVariants.{Disk, Damaged, NoSpace}
use Rattle.ice_base.specs.declared.fault.Rule.TheVariants.{Counts, Pointer, Bitmap}
use Rattle.ice_map.specs.Faults.{IsGrowFault, IsCutFault}
use Rattle.ice_map.specs.declared.codec.Inode.{Inode}
use Rattle.ice_map.specs.Inodes.{inode_of}
use Rattle.ice_map.specs.Maps.{cut_off, FreeOrTwice, Misleads}
use Rattle.ice_map.proofs.UsesLaws.{free-or, off-free}
use Rattle.ice_file.proofs.WriteLaws.{count-less}
use Rattle.ice_file.specs.Files.{ReachesTo}
use Rattle.ice_map.specs.Own.{blocks_for, Confuses}
use Rattle.ice_map.specs.Moves.{uses_of}
use Rattle.ice_file.specs.Writes.{blocks_with}
use Rattle.ice_reads.specs.Tables.{Map}
use Rattle.ice_look.specs.Broken.{IsBrokenBy, IsFaultBy}
use Rattle.ice_tree.specs.Writes.{BytesFit}
use Rattle.ice_tree.specs.Removes.{LooseBroken}
use Rattle.ice_look.specs.Places.{IsReached}
use Rattle.ice_look.proofs.MapDamage.{map-file, few-counted, bad-pointer, bad-bitmap, bad-map}
use Rattle.tree_spec.specs.Costs.{Form, form_one}
use Rattle.ice_tree.proofs.MapDamage.{file-few}

-- bytes can't be put into a file in hand
pub write-blamed : (form : Form) → form ≡ form_one → (lot : LotView) (m : Map) (at end number : ℕ) (node : Inode) → length lot.groups ≤ 64
    → end ≤ form.longest_file → BytesFit form lot m at end number node → (e : OpFault) → IsGrowFault e
    → (e ≡ NoSpace → free_count false lot m + uses_of (blocks_for node.size) < uses_of (blocks_with node.size end))
    → (e ≡ Damaged Counts → 2 ^ 32 + uses_of (blocks_for node.size) ≤ counted false m + uses_of (blocks_with node.size end))
    → (e ≡ Damaged Bitmap → ¬ Reserved lot m) → (e ≡ Damaged Pointer → Confuses lot m node (blocks_for node.size)) → IsBrokenBy form lot m e
write-blamed form one lot m at end number node few short fits Disk h none full bitmap pointer = tt
write-blamed form one lot m at end number node few short fits NoSpace h none full bitmap pointer =
    absurd (omega (arith, subst (λ (i : Inode). free_count false lot m + uses_of (blocks_for i.size) < uses_of (blocks_with i.size end)) fits.file_is.node_is (none refl), fits.blocks))
write-blamed form one lot m at end number node few short fits (Damaged Counts) h none full bitmap pointer =
    let small = fits.file_is.reaches.small in
    let long = ap (λ (g : Form). g.longest_file) one in
    let many = subst (λ (i : Inode). 2 ^ 32 + uses_of (blocks_for i.size) ≤ counted false m + uses_of (blocks_with i.size end)) fits.file_is.node_is (full refl) in
    inl (record { inodes = false; many = omega (arith, few, many, file-few (max (inode_of m number).size end) (omega arith)) })
write-blamed form one lot m at end number node few short fits (Damaged Pointer) h none full bitmap pointer =
    let is = fits.file_is.reaches in
    bad-map form lot m number (blocks_for (inode_of m number).size) fits.file_is.reached
    (inl (is.kind, omega (arith, is.small, ap (λ (g : Form). g.longest_file) one))) (map-file form (inode_of m number) is.kind)
    (subst (λ (i : Inode). Confuses lot m i (blocks_for i.size)) fits.file_is.node_is (pointer refl))
write-blamed form one lot m at end number node few short fits (Damaged Bitmap) h none full bitmap pointer = inl (bitmap refl)
write-blamed form one lot m at end number node few short fits _ h none full bitmap pointer = absurd h

-- a file in hand can't be cut: what is damaged of it, whether or not a directory names it
pub cut-loose : (form : Form) → form ≡ form_one → (lot : LotView) (m : Map) (len number : ℕ) (node : Inode) → node ≡ inode_of m number
    → ReachesTo form len (inode_of m number) → (e : OpFault) → IsCutFault e
    → (e ≡ Damaged Counts → counted false m + uses_of (blocks_for len) < uses_of (blocks_for node.size))
    → (e ≡ Damaged Bitmap → FreeOrTwice m (cut_off m node (blocks_for node.size) (blocks_for len)))
    → (e ≡ Damaged Bitmap → 12 < blocks_for node.size → is_data lot node.single ≡ true)
    → (e ≡ Damaged Pointer → Misleads lot m node (blocks_for node.size)) → IsFaultBy (LooseBroken lot m number) e
cut-loose form one lot m len number node is file Disk f zero unused placed misled = tt
cut-loose form one lot m len number node is file (Damaged Counts) f zero unused placed misled =
    let low = subst (λ (i : Inode). counted false m + uses_of (blocks_for len) < uses_of (blocks_for i.size)) is (zero refl) in
    inl (file.kind, omega (arith, file.small, ap (λ (g : Form). g.longest_file) one), omega (arith, low))
cut-loose form one lot m len number node is file (Damaged Bitmap) f zero unused placed misled =
    let x = inode_of m number in
    inl (
      file.kind,
      omega (arith, file.small, ap (λ (g : Form). g.longest_file) one),
      subst (λ (i : Inode). 12 < blocks_for i.size → is_data lot i.single ≡ true) is (placed refl),
      free-or m x (blocks_for x.size) (off-free m x (blocks_for x.size) (blocks_for len) (count-less len x.size file.reaches)
          (subst (λ (i : Inode). FreeOrTwice m (cut_off m i (blocks_for i.size) (blocks_for len))) is (unused refl))),
    )
cut-loose form one lot m len number node is file (Damaged Pointer) f zero unused placed misled =
    (file.kind, omega (arith, file.small, ap (λ (g : Form). g.longest_file) one), subst (λ (i : Inode). Misleads lot m i (blocks_for i.size)) is (misled refl))
cut-loose form one lot m len number node is file _ f zero unused placed misled = absurd f

-- where one does, the lot breaks that rule
pub loose-blamed : (form : Form) (lot : LotView) (m : Map) (number : ℕ) → IsReached form lot m number → (e : OpFault)
    → IsFaultBy (LooseBroken lot m number) e → IsBrokenBy form lot m e
loose-blamed form lot m number reached Disk h = tt
loose-blamed form lot m number reached (Damaged Counts) (inl h) =
    inr (inr (few-counted form lot m number (blocks_for (inode_of m number).size) reached (inl (h.0, h.1)) (map-file form (inode_of m number) h.0) h.2))
loose-blamed form lot m number reached (Damaged Counts) (inr h) = inr (inl h)
loose-blamed form lot m number reached (Damaged Pointer) h =
    inl (bad-pointer form lot m number (blocks_for (inode_of m number).size) reached (inl (h.0, h.1)) (map-file form (inode_of m number) h.0) h.2)
loose-blamed form lot m number reached (Damaged Bitmap) (inl h) =
    bad-bitmap form lot m number (blocks_for (inode_of m number).size) reached (inl (h.0, h.1)) (map-file form (inode_of m number) h.0) h.3
loose-blamed form lot m number reached (Damaged Bitmap) (inr h) = inr (inr (inl (record { number = number; reached = reached; free = h })))
loose-blamed form lot m number reached _ h = absurd h
