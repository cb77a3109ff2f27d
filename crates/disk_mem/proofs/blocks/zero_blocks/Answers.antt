use Rattle.std.proofs.Common.{arith, ◌∙◌, ◌++◌, ◌∷◌, [], List, ℕ, ap, replicate}
use Rattle.std.proofs.lemmas.List.{replicate_more}
use Rattle.disk_mem.proofs.blocks.zero_blocks.Goals as goal

pub loop-i-preserved : goal.loop-i-preserved
loop-i-preserved c = record {
  items = c.push_reserved.ensures.items ∙ ap (λ (x : List (List ℕ)). x ++ replicate 1024 0 ∷ []) c.loop-i.invariant.items ∙ replicate_more c.loop-i._i (replicate 1024 0);
  len = omega (arith, c.push_reserved.ensures.len, c.loop-i.invariant.len);
  room = omega (arith, c.push_reserved.ensures.capacity, c.loop-i.invariant.room);
}
