use Rattle.std.proofs.Common.{ℕ, slice_set, ap}
use Rattle.ice_layout.specs.Geometry.{zero_block}
use Rattle.ice_layout.proofs.sub.fresh_bitmap_block.Goals as goal

pub returns : goal.returns
returns c = ap (λ (x : ℕ). slice_set (slice_set (slice_set zero_block 0 255) 1 1) 32 x) c.byte_if.ensures
