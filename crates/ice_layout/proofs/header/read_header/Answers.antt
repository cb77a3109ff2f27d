use Rattle.std.proofs.Common.{sym, ◌∙◌}
use Rattle.ice_base.specs.Lots.{is_address}
use Rattle.ice_layout.specs.Headers.{may_be_address}
use Rattle.ice_layout.proofs.HeaderLaws.{refused-slot, slot-marked, refused-counted, refused-homes, accepted, read_right, read_proper, may_be}
use Rattle.ice_layout.proofs.header.read_header.Goals as goal

pub returns-then-not-is_of_lot-clause-header : goal.returns-then-not-is_of_lot-clause-header
returns-then-not-is_of_lot-clause-header c = refused-slot c.args.lot.now c.args.from.now (sym c.is_of_lot.ensures ∙ c.if-not-is_of_lot.true)

pub returns-in_err-header-clause-header : goal.returns-in_err-header-clause-header
returns-in_err-header-clause-header c =
    let none = refused-counted 240 (is_address c.args.lot.now) c.args.from.now c.in_err-header.ensures.header in
    c.from_residual.ensures ∙ slot-marked c.args.lot.now c.args.from.now _ (sym c.is_of_lot.ensures ∙ c.if-not-is_of_lot.false) none

pub returns-then-not-are_addresses-clause-header : goal.returns-then-not-are_addresses-clause-header
returns-then-not-are_addresses-clause-header c =
    let away = sym c.are_addresses.ensures.right ∙ c.if-not-are_addresses.true in
    let none = refused-homes 240 (is_address c.args.lot.now) c.args.from.now c.in_ok-header.header c.in_ok-header.ensures.header away in
    slot-marked c.args.lot.now c.args.from.now _ (sym c.is_of_lot.ensures ∙ c.if-not-is_of_lot.false) none

pub returns-clause-header : goal.returns-clause-header
returns-clause-header c =
    let homes = sym c.are_addresses.ensures.right ∙ c.if-not-are_addresses.false in
    let read = accepted 240 (is_address c.args.lot.now) c.args.from.now c.in_ok-header.header c.in_ok-header.ensures.header homes in
    slot-marked c.args.lot.now c.args.from.now _ (sym c.is_of_lot.ensures ∙ c.if-not-is_of_lot.false) read

pub returns-clause-targets : goal.returns-clause-targets
returns-clause-targets c =
    let homes = sym c.are_addresses.ensures.right ∙ c.if-not-are_addresses.false in
    read_right 240 (is_address c.args.lot.now) c.args.from.now c.in_ok-header.header c.in_ok-header.ensures.header homes

pub returns-clause-proper : goal.returns-clause-proper
returns-clause-proper c =
    let homes = sym c.are_addresses.ensures.right ∙ c.if-not-are_addresses.false in
    read_proper 240 (is_address c.args.lot.now) c.args.from.now c.in_ok-header.header c.in_ok-header.ensures.header homes
    may_be_address (λ a is. may_be c.args.lot.now a c.are_addresses.ensures.few is)
