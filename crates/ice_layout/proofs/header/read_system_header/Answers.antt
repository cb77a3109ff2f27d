use Rattle.std.proofs.Common.{sym, ◌∙◌}
use Rattle.ice_layout.specs.Headers.{is_table}
use Rattle.ice_layout.proofs.HeaderLaws.{refused-system, system-marked, refused-counted, refused-homes, accepted, read_right, read_proper}
use Rattle.ice_layout.proofs.header.read_system_header.Goals as goal

pub returns-then-read_u32-ne-SYSTEM_MAGIC-clause-header : goal.returns-then-read_u32-ne-SYSTEM_MAGIC-clause-header
returns-then-read_u32-ne-SYSTEM_MAGIC-clause-header c = refused-system c.args.from.now (λ e. c.if-read_u32-ne-SYSTEM_MAGIC.true (c.read_u32.ensures ∙ e))

pub returns-in_err-header-clause-header : goal.returns-in_err-header-clause-header
returns-in_err-header-clause-header c =
    let none = refused-counted 8 is_table c.args.from.now c.in_err-header.ensures.header in
    c.from_residual.ensures ∙ system-marked c.args.from.now _ (sym c.read_u32.ensures ∙ c.if-read_u32-ne-SYSTEM_MAGIC.false) none

pub returns-then-not-are_tables-clause-header : goal.returns-then-not-are_tables-clause-header
returns-then-not-are_tables-clause-header c =
    let away = sym c.are_tables.ensures ∙ c.if-not-are_tables.true in
    let none = refused-homes 8 is_table c.args.from.now c.in_ok-header.header c.in_ok-header.ensures.header away in
    system-marked c.args.from.now _ (sym c.read_u32.ensures ∙ c.if-read_u32-ne-SYSTEM_MAGIC.false) none

pub returns-clause-header : goal.returns-clause-header
returns-clause-header c =
    let homes = sym c.are_tables.ensures ∙ c.if-not-are_tables.false in
    let read = accepted 8 is_table c.args.from.now c.in_ok-header.header c.in_ok-header.ensures.header homes in
    system-marked c.args.from.now _ (sym c.read_u32.ensures ∙ c.if-read_u32-ne-SYSTEM_MAGIC.false) read

pub returns-clause-targets : goal.returns-clause-targets
returns-clause-targets c =
    let homes = sym c.are_tables.ensures ∙ c.if-not-are_tables.false in
    read_right 8 is_table c.args.from.now c.in_ok-header.header c.in_ok-header.ensures.header homes

pub returns-clause-proper : goal.returns-clause-proper
returns-clause-proper c =
    let homes = sym c.are_tables.ensures ∙ c.if-not-are_tables.false in
    read_proper 8 is_table c.args.from.now c.in_ok-header.header c.in_ok-header.ensures.header homes
    is_table (λ a is. is)
