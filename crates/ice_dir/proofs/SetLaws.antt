-- What the blocks of a map hold after its inode was put.
use Rattle.std.proofs.Common.{◌≡◌, ◌≢◌, ◌<◌, ℕ, true, List, ◌∙◌, sym, ap, arith}
use Rattle.ice_base.specs.Inodes.{inode_address}
use Rattle.ice_base.specs.Lots.{LotView}
use Rattle.ice_base.specs.Used.{is_data}
use Rattle.ice_map.specs.declared.codec.Inode.{Inode}
use Rattle.ice_map.specs.Maps.{nth_block}
use Rattle.ice_map.proofs.GrowLaws.{inode_not_data}
use Rattle.ice_map.specs.Own.{MadeOf}
use Rattle.ice_map.specs.Moves.{content_of}
use Rattle.ice_map.proofs.OwnLaws.{nth-moves, uses-nth, uses-single}
use Rattle.ice_map.proofs.SetLaws.{resized, nth-resized}

-- a block of the map of an inode that was put with another size
pub set-content : (lot : LotView) (m0 m1 : ℕ → List ℕ) (y : Inode) (s d number : ℕ) → MadeOf lot m0 y d
    → ((b : ℕ) → b ≢ inode_address number → m1 b ≡ m0 b) → (n : ℕ) → n < d → content_of m1 (resized y s) n ≡ content_of m0 y n
set-content lot m0 m1 y s d number made only n h =
    let same : (b : ℕ) → is_data lot b ≡ true → m1 b ≡ m0 b = (λ b k. only b (λ e. inode_not_data lot number b k (sym e))) in
    let nth : nth_block m1 (resized y s) n ≡ nth_block m0 y n = nth-resized m1 y s n
    ∙ nth-moves m0 m1 y n (λ l. same y.single (made.holds y.single (uses-single m0 y d (omega arith))).0) in
    ap m1 nth ∙ same (nth_block m0 y n) (made.holds (nth_block m0 y n) (uses-nth m0 y d n h)).0
