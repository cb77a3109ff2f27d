use Rattle.std.proofs.Common.{◌≡◌, ℕ, subst, arith}
use Rattle.ice_tables.specs.Tables.{AreNames, blocks_from}
use Rattle.ice_names.specs.Bytes.{IsReadTo}
use Rattle.ice_names.proofs.RowLaws.{read_names}
use Rattle.ice_names.proofs.table.Names.read.Goals as goal

pub returns-clause-accepted : goal.returns-clause-accepted
returns-clause-accepted c =
    let m = blocks_from 11 c.args.blocks.now in
    let all : c.loop-s.s ≡ 16 = omega (arith, c.loop-s-test.false, c.loop-s.auto.s-end) in
    subst (λ (n : ℕ). AreNames n m) c.loop-s.invariant.slots
    (read_names m c.loop-s.names c.loop-s.invariant.sound (subst (λ (n : ℕ). IsReadTo m n c.loop-s.names) all c.loop-s.invariant.read))
