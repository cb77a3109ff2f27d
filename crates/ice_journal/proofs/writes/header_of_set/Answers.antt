use Rattle.std.proofs.Common.{◌<◌, length, sym, ◌∙◌, arith}
use Rattle.ice_txn.specs.Sets.{addresses}
use Rattle.ice_txn.proofs.SetLaws.{count_addresses, address_index}
use Rattle.ice_journal.proofs.SetLaws.{target_put}
use Rattle.ice_journal.proofs.writes.header_of_set.Goals as goal

pub loop-i-preserved : goal.loop-i-preserved
loop-i-preserved c =
    let entries = c.args.set.now.entries in
    let n = count_addresses entries in
    let less : c.loop-i.i < length entries = omega arith in
    record {
      targets = target_put (addresses entries) c.loop-i.targets c.loop-i.i c.address.result (omega (arith, less, n)) (omega (arith, n, c.requires)) (c.address.ensures ∙ sym (address_index entries c.loop-i.i)) c.loop-i.invariant.targets;
      within = omega arith;
    }
