use Rattle.std.proofs.Common.{◌<◌, ◌≤◌, ◌∙◌, arith}
use Rattle.ice_names.proofs.TableLaws.{inside_row, inside_cube, copy_alone, copied}
use Rattle.ice_names.proofs.table.Names.copy.Goals as goal

pub put-requires-clause-cube : goal.put-requires-clause-cube
put-requires-clause-cube c =
    let low : c.loop-s.s < 16 = omega (arith, c.loop-s-test.true, c.slots-s-end.ensures.value, c.slots-s-end.ensures.sound.few) in
    inside_cube _ c.args.self.now c.loop-s.s c.index-self-s.result c.copy_row.result c.self.view_is c.self.invariant low c.copy_row.ensures

pub put-requires-clause-alone : goal.put-requires-clause-alone
put-requires-clause-alone c =
    let low : c.loop-s.s < 16 = omega (arith, c.loop-s-test.true, c.slots-s-end.ensures.value, c.slots-s-end.ensures.sound.few) in
    let is = c.copy_row.ensures ∙ inside_row _ c.args.self.now c.loop-s.s c.index-self-s.result c.self.view_is c.self.invariant low in
    copy_alone c.args.self.now c.loop-s.copy c.loop-s.s c.copy_row.result c.slots.ensures.sound is c.loop-s.invariant.same c.loop-s.invariant.free

pub returns : goal.returns
returns c =
    let all : c.args.self.now.slots ≤ c.loop-s.s = omega (arith, c.loop-s-test.false, c.slots-s-end.ensures.value) in
    copied c.args.self.now c.loop-s.copy c.loop-s.s c.slots.ensures.sound c.loop-s.invariant.sound c.loop-s.invariant.slots all
    c.loop-s.invariant.same c.loop-s.invariant.free
