use Rattle.std.proofs.Common.{◌^◌, ◌-◌, true, false, arith}
use Rattle.ice_base.specs.Lots.{homes, place}
use Rattle.ice_base.proofs.LotLaws.{inside_same}
use Rattle.ice_base.proofs.SpareLaws.{put-pays}
use Rattle.ice_keep.proofs.through.ThroughKeepKeep.put.Goals as goal

pub returns-in-Ok-clause-puts : goal.returns-in-Ok-clause-puts
returns-in-Ok-clause-puts g c = record {
  only = λ a ne. inside_same c.args.lot.now (homes c.args.lot.now (g.D.Disk.state c.args.disk.now).now) (homes c.args.lot.now (g.D.Disk.state c.write.new.self).now) a
      (λ is. c.write.ensures.within.same (place c.args.lot.now a) (λ e. ne (c.in-Some.ensures.apart a is e)));
  pays = put-pays (λ a. true) (λ a. true) (2 ^ 32 - 1) (2 ^ 32 - 1) c.args.at true (λ a h. h) (λ ok. ok) (omega arith) (λ h. omega arith);
}

pub returns-in-Err-clause-puts : goal.returns-in-Err-clause-puts
returns-in-Err-clause-puts g c = record {
  only = λ a ne. inside_same c.args.lot.now (homes c.args.lot.now (g.D.Disk.state c.args.disk.now).now) (homes c.args.lot.now (g.D.Disk.state c.write.new.self).now) a
      (λ is. c.write.ensures.within.same (place c.args.lot.now a) (λ e. ne (c.in-Some.ensures.apart a is e)));
  pays = put-pays (λ a. true) (λ a. true) (2 ^ 32 - 1) (2 ^ 32 - 1) c.args.at false (λ a h. h) (λ ok. absurd cc) (omega arith) (λ h. omega arith);
}
