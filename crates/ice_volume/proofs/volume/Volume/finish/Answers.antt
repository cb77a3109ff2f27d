use Rattle.std.proofs.Common.{◌≡◌, ◌∙◌, ◌≤◌, ◌+◌, Bool, true, sym, ap, subst, arith}
use Rattle.std.specs.Prelude.{◌&&◌, is_ok}
use Rattle.ice_volume.specs.Sessions.{HasPutAway}
use Rattle.ice_volume.specs.Volumes.{VolumeView}
use Rattle.ice_volume.proofs.Finishing.{away_all, away_more, finish_cause, finish_leaves, finish_spares, finish_within, tried_all}
use Rattle.ice_volume.proofs.volume.Volume.finish.Goals as goal

pub loop-slot-preserved : goal.loop-slot-preserved
loop-slot-preserved g c =
    let state = g.D.Disk.state in let left = g.D.Disk.left in let v = c.args.self.now in let z = c.loop-slot.self in let a = c.args.disk.now in let m = c.loop-slot.disk in let b = c.put_away.new.disk in
    let so = c.loop-slot.invariant in let put = c.put_away.ensures in
    let joined : c.both-ok.result ≡ (c.loop-slot.ok && is_ok c.put_away.result) = c.both-ok.ensures ∙ ap (λ (x : Bool). c.loop-slot.ok && x) c.is_ok-away.ensures.value in record {
      size = put.size ∙ so.size;
      within = finish_within state left v z a m b so.size so.within put.within;
      cause = λ is. finish_cause state left v z a m b so.size so.within put.within c.loop-slot.ok (is_ok c.put_away.result) (sym joined ∙ is) so.cause put.cause;
      lots = λ w stands x broken. let away = so.away w stands in
          put.lots away.next away.stands x (away.broken x broken) ∙ so.lots w stands x broken;
      spares = λ w stands. let away = so.away w stands in
          finish_spares state left v z a m b so.size so.within put.within w away.next (so.lots w stands) away.broken (so.spares w stands) (put.spares away.next away.stands);
      leaves = λ w stands. let away = so.away w stands in
          finish_leaves state left v z a m b so.size so.within put.within w c.loop-slot.slot c.loop-slot.ok away (so.leaves w stands) (put.leaves away.next away.stands);
      away = λ w stands. let away = so.away w stands in
          subst (λ (x : Bool). HasPutAway (c.loop-slot.slot + 1) x c.put_away.new.self (state b) w) (sym joined)
          (away_more z c.put_away.new.self (state m) (state b) w c.loop-slot.slot c.loop-slot.ok (is_ok c.put_away.result) away (put.puts away.next away.stands));
    }

pub returns-then-ok-clause-closes : goal.returns-then-ok-clause-closes
returns-then-ok-clause-closes g c = λ w stands.
    let away = c.loop-slot.invariant.away w stands in
    let few : c.args.self.now.system.names.slots ≤ 16 = subst (λ (v : VolumeView). v.system.names.slots ≤ 16) c.self.view_is c.slots.ensures.table.few in
    let all : HasPutAway c.loop-slot.slot true c.loop-slot.self (g.D.Disk.state c.loop-slot.disk) w = subst (λ (x : Bool). HasPutAway c.loop-slot.slot x c.loop-slot.self (g.D.Disk.state c.loop-slot.disk) w) c.if-ok.true away in
    away_all c.loop-slot.slot c.loop-slot.self (g.D.Disk.state c.loop-slot.disk) w
    (omega (arith, few, away.stands.shows.slots, away.slots, stands.shows.slots, c.loop-slot-test.false)) all

pub returns-then-ok-clause-tries : goal.returns-then-ok-clause-tries
returns-then-ok-clause-tries g c = λ w stands.
    let away = c.loop-slot.invariant.away w stands in
    let few : c.args.self.now.system.names.slots ≤ 16 = subst (λ (v : VolumeView). v.system.names.slots ≤ 16) c.self.view_is c.slots.ensures.table.few in
    tried_all c.loop-slot.slot c.loop-slot.ok c.loop-slot.self (g.D.Disk.state c.loop-slot.disk) w
    (omega (arith, few, away.stands.shows.slots, away.slots, stands.shows.slots, c.loop-slot-test.false)) away

pub returns-else-ok-clause-tries : goal.returns-else-ok-clause-tries
returns-else-ok-clause-tries g c = λ w stands.
    let away = c.loop-slot.invariant.away w stands in
    let few : c.args.self.now.system.names.slots ≤ 16 = subst (λ (v : VolumeView). v.system.names.slots ≤ 16) c.self.view_is c.slots.ensures.table.few in
    tried_all c.loop-slot.slot c.loop-slot.ok c.loop-slot.self (g.D.Disk.state c.loop-slot.disk) w
    (omega (arith, few, away.stands.shows.slots, away.slots, stands.shows.slots, c.loop-slot-test.false)) away
