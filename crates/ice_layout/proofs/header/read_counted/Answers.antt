use Rattle.std.proofs.Common.{sym, ◌∙◌}
use Rattle.ice_layout.proofs.HeaderLaws.{refused-number, refused-equal, counted}
use Rattle.ice_layout.proofs.header.read_counted.Goals as goal

pub returns-then-not-is_between-clause-header : goal.returns-then-not-is_between-clause-header
returns-then-not-is_between-clause-header c =
    refused-number c.args.most c.args.from.now c.read_u32-count.result
    c.read_u32-count.ensures (sym c.is_between.ensures ∙ c.if-not-is_between.true)

pub returns-then-not-are_different-clause-header : goal.returns-then-not-are_different-clause-header
returns-then-not-are_different-clause-header c =
    refused-equal c.args.most c.args.from.now c.read_u32-count.result c.read_targets-targets.result
    c.read_u32-count.ensures (sym c.is_between.ensures ∙ c.if-not-is_between.false) c.read_targets-targets.ensures
    (sym c.are_different.ensures ∙ c.if-not-are_different.true)

pub returns-clause-header : goal.returns-clause-header
returns-clause-header c =
    counted c.args.most c.args.from.now c.read_u32-count.result c.read_targets-targets.result
    c.read_u32-count.ensures (sym c.is_between.ensures ∙ c.if-not-is_between.false) c.read_targets-targets.ensures
    (sym c.are_different.ensures ∙ c.if-not-are_different.false)
