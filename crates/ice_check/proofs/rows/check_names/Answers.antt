use Rattle.std.proofs.Common.{take, ◌≤◌, length, arith}
use Rattle.ice_check.specs.Names.{array_names}
use Rattle.ice_check.proofs.NameLaws.{cut_long, kept_take, names_alike, new_names}
use Rattle.ice_check.proofs.rows.check_names.Goals as goal

pub returns-then-not-names_differ-clause-broken : goal.returns-then-not-names_differ-clause-broken
returns-then-not-names_differ-clause-broken g c = λ m w number s hand looks e.
    let room : c.args.count ≤ length c.read_names.new.names = omega (arith, c.requires.room, c.in_ok-read_names.ensures.long) in
    names_alike c.args.lot.now m number c.args.count (array_names c.read_names.new.names) (array_names (take c.args.count c.read_names.new.names)) e (cut_long c.read_names.new.names c.args.count room)
    (λ k h. kept_take c.read_names.new.names c.args.count k room h) (c.in_ok-read_names.ensures.names m number s hand) w looks (c.names_differ.ensures.no c.if-not-names_differ.true)

pub returns-clause-new : goal.returns-clause-new
returns-clause-new g c = λ m number s hand e.
    let room : c.args.count ≤ length c.read_names.new.names = omega (arith, c.requires.room, c.in_ok-read_names.ensures.long) in
    new_names c.args.lot.now m number c.args.count (array_names c.read_names.new.names) (array_names (take c.args.count c.read_names.new.names)) e (cut_long c.read_names.new.names c.args.count room)
    (λ k h. kept_take c.read_names.new.names c.args.count k room h) (c.in_ok-read_names.ensures.names m number s hand) (c.names_differ.ensures.yes c.if-not-names_differ.false)
