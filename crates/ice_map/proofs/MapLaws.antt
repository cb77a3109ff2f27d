-- The blocks of maps.
use Rattle.std.proofs.Common.{◌≡◌, ◌≤◌, ◌<◌, ◌-◌, ◌*◌, ℕ, true, false, List, slice_index, arith}
use Rattle.std.proofs.lemmas.Bool.Decides.{nat_tests}
use Rattle.ice_base.specs.Fields.{word_at}
use Rattle.ice_base.specs.Lots.{LotView}
use Rattle.ice_base.specs.Used.{is_data}
use Rattle.ice_map.specs.declared.codec.Inode.{Inode}
use Rattle.ice_map.specs.Maps.{nth_block, leads}

-- the inode itself names the first twelve blocks of its map
pub nth-direct : (m : ℕ → List ℕ) (inode : Inode) (n : ℕ) → n < 12 → nth_block m inode n ≡ slice_index inode.direct n
unfolding nth_block
nth-direct m inode n h = grind (arith, nat_tests)

-- the indirect block names the blocks from 12 on
pub nth-single : (m : ℕ → List ℕ) (inode : Inode) (n : ℕ) → 12 ≤ n → nth_block m inode n ≡ word_at (m inode.single) (4 * (n - 12))
unfolding nth_block
nth-single m inode n h = grind (arith, nat_tests)

-- one of the first twelve blocks leads to a data place where its pointer does
pub leads-direct : (lot : LotView) (m : ℕ → List ℕ) (inode : Inode) (n : ℕ) → n < 12 → leads lot m inode n ≡ is_data lot (slice_index inode.direct n)
unfolding leads
leads-direct lot m inode n h = let e = nth-direct m inode n h in grind (arith, nat_tests)

-- so does a later one, where the indirect block is a data place
pub leads-single : (lot : LotView) (m : ℕ → List ℕ) (inode : Inode) (n : ℕ) → 12 ≤ n → is_data lot inode.single ≡ true
    → leads lot m inode n ≡ is_data lot (nth_block m inode n)
unfolding leads
leads-single lot m inode n h d = grind (arith, nat_tests)

-- where the indirect block is no data place, none of the later blocks leads to one
pub leads-lost : (lot : LotView) (m : ℕ → List ℕ) (inode : Inode) (n : ℕ) → 12 ≤ n → is_data lot inode.single ≡ false → leads lot m inode n ≡ false
unfolding leads
leads-lost lot m inode n h d = grind (arith, nat_tests)

pub leads-bad : (lot : LotView) (m : ℕ → List ℕ) (inode : Inode) (n : ℕ) → is_data lot (nth_block m inode n) ≡ false → leads lot m inode n ≡ false
unfolding leads
leads-bad lot m inode n d = grind (arith, nat_tests)

-- what names a block of a map, and when it leads to a data place
pub ruleset nth_laws = (nth-direct, nth-single, leads-direct, leads-single, leads-lost)
