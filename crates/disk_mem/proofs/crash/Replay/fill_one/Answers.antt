use Rattle.std.proofs.Common.{List, ℕ, sym, subst, arith}
use Rattle.disk_mem.specs.Fill.{Filled}
use Rattle.ice_base.specs.Disk.{block}
use Rattle.disk_mem.proofs.Past.{block_set_same, block_set_other, read_block}
use Rattle.disk_mem.proofs.crash.Replay.fill_one.Goals as goal

pub returns-then-index-clause-others : goal.returns-then-index-clause-others
returns-then-index-clause-others c = λ j other. block_set_other c.args.self.now.blocks.items c.args.k c.filled_block.result j other

pub returns-then-index-clause-loose : goal.returns-then-index-clause-loose
returns-then-index-clause-loose c = λ loose. let self = c.args.self.now in
    subst (λ (x : List ℕ). Filled c.args.fill c.args.k (block self.settled.items c.args.k) (block self.blocks.items c.args.k) x) (sym (block_set_same self.blocks.items c.args.k c.filled_block.result c.requires.here))
    (subst (λ (x : List ℕ). Filled c.args.fill c.args.k (block self.settled.items c.args.k) x c.filled_block.result) (read_block self.blocks.items c.args.k _ c.requires.here c.index-then-index-2.ensures)
    (subst (λ (x : List ℕ). Filled c.args.fill c.args.k x c.index-then-index-2.result.now c.filled_block.result) (read_block self.settled.items c.args.k _ (omega (arith, c.requires.here, self.count)) c.index-then-index.ensures) c.filled_block.ensures))
