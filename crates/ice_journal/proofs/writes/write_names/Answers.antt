use Rattle.std.proofs.Common.{◌≡◌, ◌≤◌, ℕ, true, Option, length, sym, subst}
use Rattle.ice_layout.specs.Headers.{is_table, may_be_address}
use Rattle.ice_txn.specs.Sets.{addresses}
use Rattle.ice_journal.specs.Areas.{NamesTargets, bodies_for, target_for}
use Rattle.ice_journal.proofs.SetLaws.{proper_header, system_names, slot_names}
use Rattle.ice_journal.proofs.writes.write_names.Goals as goal

pub write_system_header-requires : goal.write_system_header-requires
write_system_header-requires c =
    let header = c.header_of_set-header in
    record {
      proper = proper_header 8 is_table c.args.set.now.entries header.result header.ensures.header header.ensures.differ c.requires.some
          (subst (λ (o : Option ℕ). length c.args.set.now.entries ≤ bodies_for o) c.in-None.is c.requires.few)
          (λ a held. subst (λ (o : Option ℕ). target_for o a ≡ true) c.in-None.is (c.requires.targets a held));
    }

pub write_header-requires-clause-proper : goal.write_header-requires-clause-proper
write_header-requires-clause-proper c =
    let header = c.header_of_set-header in
    proper_header 240 may_be_address c.args.set.now.entries header.result header.ensures.header header.ensures.differ c.requires.some
    (subst (λ (o : Option ℕ). length c.args.set.now.entries ≤ bodies_for o) c.in-Some.is c.requires.few)
    (λ a held. subst (λ (o : Option ℕ). target_for o a ≡ true) c.in-Some.is (c.requires.targets a held))

pub returns-in-None : goal.returns-in-None
returns-in-None c =
    let ts = addresses c.args.set.now.entries in
    subst (λ (o : Option ℕ). NamesTargets o ts c.write_system_header.new.into) (sym c.in-None.is)
    (system_names ts c.write_system_header.new.into c.header_of_set-header.result c.header_of_set-header.ensures.header c.write_system_header.ensures.header)

pub returns-in-Some : goal.returns-in-Some
returns-in-Some c =
    let ts = addresses c.args.set.now.entries in
    subst (λ (o : Option ℕ). NamesTargets o ts c.write_header.new.into) (sym c.in-Some.is)
    (slot_names c.in-Some.slot ts c.write_header.new.into c.header_of_set-header.result c.header_of_set-header.ensures.header c.write_header.ensures.header)
