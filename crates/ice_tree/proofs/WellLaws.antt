-- A map that is well made is none of those that a failed call below shows.
use Rattle.std.proofs.Common.{◌≡◌, ℕ, List, subst}
use Rattle.ice_base.specs.Lots.{LotView}
use Rattle.ice_map.specs.Inodes.{inode_of}
use Rattle.ice_map.specs.Maps.{cut_off, FreeOrTwice, Misleads}
use Rattle.ice_map.proofs.UsesLaws.{off-free}
use Rattle.ice_file.specs.Files.{ReachesTo}
use Rattle.ice_map.specs.Own.{WellMade, MadeOf, Confuses, blocks_for}
use Rattle.ice_map.proofs.MadeLaws.{misled-unmade, confused-unmade, free-unmade}
use Rattle.ice_file.proofs.WriteLaws.{count-less}
use Rattle.ice_dir.specs.Changes.{entry_blocks, dir_uses}
use Rattle.ice_dir.specs.Rows.{IsDirectory}
use Rattle.tree_spec.specs.Costs.{Form, form_one}
use Rattle.ice_map.proofs.OwnLaws.{made-short}
use Rattle.ice_look.proofs.MapDamage.{map-dir, map-file}

module _ (lot : LotView) (form : Form) (one : form ≡ form_one) (m : ℕ → List ℕ) (number : ℕ) where
  made-dir : IsDirectory lot (inode_of m number) → WellMade lot form m number → MadeOf lot m (inode_of m number) (entry_blocks form (inode_of m number).size)
  made-dir d made = subst (MadeOf lot m (inode_of m number)) (map-dir form (inode_of m number) d.kind) (made-short lot form one m number made)

  pub dir-free : IsDirectory lot (inode_of m number) → FreeOrTwice m (dir_uses form m number) → ¬ WellMade lot form m number
  dir-free d bad made = free-unmade lot m (inode_of m number) (entry_blocks form (inode_of m number).size) bad (made-dir d made)

  pub dir-confused : IsDirectory lot (inode_of m number) → Confuses lot m (inode_of m number) (entry_blocks form (inode_of m number).size)
      → ¬ WellMade lot form m number
  dir-confused d bad made = confused-unmade lot m (inode_of m number) (entry_blocks form (inode_of m number).size) bad (made-dir d made)

  pub dir-misled : IsDirectory lot (inode_of m number) → Misleads lot m (inode_of m number) (entry_blocks form (inode_of m number).size)
      → ¬ WellMade lot form m number
  dir-misled d bad made = misled-unmade lot m (inode_of m number) (entry_blocks form (inode_of m number).size) bad (made-dir d made)

  module _ (at : ℕ) (file : ReachesTo form at (inode_of m number)) where
    made-file : WellMade lot form m number → MadeOf lot m (inode_of m number) (blocks_for (inode_of m number).size)
    made-file made = subst (MadeOf lot m (inode_of m number)) (map-file form (inode_of m number) file.kind) (made-short lot form one m number made)

    pub file-confused : Confuses lot m (inode_of m number) (blocks_for (inode_of m number).size) → ¬ WellMade lot form m number
    file-confused bad made = confused-unmade lot m (inode_of m number) (blocks_for (inode_of m number).size) bad (made-file made)

    pub file-misled : Misleads lot m (inode_of m number) (blocks_for (inode_of m number).size) → ¬ WellMade lot form m number
    file-misled bad made = misled-unmade lot m (inode_of m number) (blocks_for (inode_of m number).size) bad (made-file made)

    pub file-free : FreeOrTwice m (cut_off m (inode_of m number) (blocks_for (inode_of m number).size) (blocks_for at)) → ¬ WellMade lot form m number
    file-free bad made =
        free-unmade lot m (inode_of m number) (blocks_for (inode_of m number).size)
        (off-free m (inode_of m number) (blocks_for (inode_of m number).size) (blocks_for at)
        (count-less at (inode_of m number).size file.reaches) bad) (made-file made)
