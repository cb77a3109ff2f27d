-- What the map of a file or a directory says where it is damaged.
use Rattle.std.proofs.Common.{◌≡◌, ℕ, ◌+◌, ◌*◌, ◌<◌, ◌≤◌, false, cond, refl, sym, ap, subst, arith, inl, inr, ◌⊎◌}
use Rattle.std.proofs.lemmas.Nat.{div-add-mod', mod_below}
use Rattle.std.specs.Prelude.{◌==◌}
use Rattle.ice_base.specs.Lots.{LotView}
use Rattle.ice_base.specs.Used.{counted}
use Rattle.ice_map.specs.declared.codec.Inode.{Inode}
use Rattle.ice_map.specs.Inodes.{inode_of}
use Rattle.ice_map.specs.Maps.{times, uses, leads, Misleads, UsesUnmarked, HasTwice}
use Rattle.ice_file.specs.Files.{ReachesTo, IsReadFault}
use Rattle.ice_map.specs.Own.{map_length, blocks_for, Confuses, entry_size}
use Rattle.ice_map.specs.Moves.{uses_of}
use Rattle.ice_map.proofs.OwnLaws.{length-uses}
use Rattle.ice_dir.specs.Changes.{entry_blocks}
use Rattle.ice_reads.specs.Tables.{Map}
use Rattle.ice_look.specs.Broken.{FewCounted, FreeBlock, BadPointer, TwiceUsed, BadBitmap, IsBrokenBy}
use Rattle.ice_look.specs.Places.{IsNode, IsReached}
use Rattle.ice_base.specs.declared.fault.OpFault.{OpFault}
use Rattle.ice_base.specs.declared.fault.OpFault.TheVariants.{Disk, Damaged}
use Rattle.tree_spec.specs.Costs.{Form, form_one}
use Rattle.ice_base.specs.declared.fault.Rule.TheVariants.{Kind, Pointer}

-- how many blocks the map of a directory has
pub map-dir : (form : Form) (inode : Inode) → inode.kind ≡ 2 → map_length form inode ≡ entry_blocks form inode.size
map-dir form inode kind = ap (λ k. blocks_for (cond (k == 2) (entry_size form * inode.size) inode.size)) kind

-- how many blocks that of a file has
pub map-file : (form : Form) (inode : Inode) → inode.kind ≡ 1 → map_length form inode ≡ blocks_for inode.size
map-file form inode kind = ap (λ k. blocks_for (cond (k == 2) (entry_size form * inode.size) inode.size)) kind

-- what is damaged at an inode whose map has c blocks
module _ (form : Form) (lot : LotView) (m : Map) (number c : ℕ) (reached : IsReached form lot m number)
    (node : IsNode lot (inode_of m number)) (long : map_length form (inode_of m number) ≡ c) where
  -- fewer blocks are counted than it uses
  pub few-counted : counted false m < uses_of c → FewCounted form lot m
  few-counted h =
      let l = length-uses m (inode_of m number) (map_length form (inode_of m number)) in
      let s = ap uses_of long in
      record { one = number; other = number; reached = reached; reached_too = reached; node = node; node_too = node; few = omega arith }

  -- a block of it is marked free
  pub free-block : UsesUnmarked m (inode_of m number) c → FreeBlock form lot m
  free-block u = record { number = number; reached = reached; node = node; bad = subst (UsesUnmarked m (inode_of m number)) (sym long) u }

  -- a block of it is no data place, or its indirect block is none
  pub bad-pointer : Misleads lot m (inode_of m number) c → BadPointer form lot m
  bad-pointer u = record { number = number; reached = reached; node = node; bad = subst (Misleads lot m (inode_of m number)) (sym long) u }

  -- a block stands twice in it
  pub twice-used : HasTwice (uses m (inode_of m number) c) → TwiceUsed form lot m
  twice-used t = record {
    one = number;
    other = number;
    block = t.0;
    reached = reached;
    reached_too = reached;
    node = node;
    node_too = node;
    twice = inl (refl, subst (λ n. 2 ≤ times (uses m (inode_of m number) n) t.0) (sym long) t.1);
  }

  -- a block that is free or stands twice
  pub bad-bitmap : UsesUnmarked m (inode_of m number) c ⊎ HasTwice (uses m (inode_of m number) c) → BadBitmap form lot m
  bad-bitmap (inl u) = inr (inl (free-block u))
  bad-bitmap (inr t) = inr (inr (inr (twice-used t)))

  -- a block that is no place, or one that stands twice
  pub bad-map : Confuses lot m (inode_of m number) c → BadPointer form lot m ⊎ TwiceUsed form lot m
  bad-map (inl u) = inl (bad-pointer u)
  bad-map (inr t) = inr (twice-used t)

-- bytes can't be read
pub read-blamed : (form : Form) → form ≡ form_one → (lot : LotView) (m : Map) (at number : ℕ) → IsReached form lot m number
    → ReachesTo form at (inode_of m number) → (e : OpFault) → IsReadFault e → (e ≡ Damaged Kind → ¬ ReachesTo form at (inode_of m number))
    → (e ≡ Damaged Pointer → (k : ℕ) × (1024 * k < (inode_of m number).size) × (leads lot m (inode_of m number) k ≡ false)) → IsBrokenBy form lot m e
read-blamed form one lot m at number reached file Disk h kind pointer = tt
read-blamed form one lot m at number reached file (Damaged Kind) h kind pointer = absurd (kind refl file)
read-blamed form one lot m at number reached file (Damaged Pointer) h kind pointer =
    let x = inode_of m number in
    let p = pointer refl in
    let q = div-add-mod' (x.size + 1023) 1024 in
    let d = mod_below (x.size + 1023) 1024 (omega arith) in
    inl (bad-pointer form lot m number (blocks_for x.size) reached
    (inl (file.kind, omega (arith, file.small, ap (λ g. g.longest_file) one))) (map-file form x file.kind)
    (record { block = p.0; below = omega (arith, p.1, q, d); bad = p.2 }))
read-blamed form one lot m at number reached file _ h kind pointer = absurd h
