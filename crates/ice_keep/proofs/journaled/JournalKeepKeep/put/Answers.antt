use Rattle.std.proofs.Common.{rules, ◌≡◌, ◌==◌, ◌+◌, ◌-◌, cond, true, ℕ, length, ap, ◌∙◌, refl}
use Rattle.ice_base.specs.Lots.{homes}
use Rattle.ice_base.proofs.LotLaws.{inside_at, inside_same}
use Rattle.ice_base.proofs.SpareLaws.{put-pays}
use Rattle.ice_txn.specs.Sets.{SetView, holds, over}
use Rattle.ice_keep.proofs.ListLaws.{put_here, put_else, put_grows, put_holds, put_falls, put_stays}
use Rattle.ice_keep.proofs.journaled.JournalKeepKeep.put.Goals as goal

pub returns-in-Some-clause-content : goal.returns-in-Some-clause-content
returns-in-Some-clause-content g c = λ told.
    let m = homes c.args.lot.now (g.D.Disk.state c.args.disk.now).now in
    let at = c.args.at in
    inside_at c.args.lot.now (over c.put.new.self.entries m) at (search rules)
    ∙ put_here (over c.self.inside.set.entries m) (over c.put.new.self.entries m) at c.args.from.now (c.put.ensures.map m at)

pub returns-in-Some-clause-puts : goal.returns-in-Some-clause-puts
returns-in-Some-clause-puts g c =
    let m = homes c.args.lot.now (g.D.Disk.state c.args.disk.now).now in
    let at = c.args.at in
    let v = c.args.self.now in
    let w = c.put.new.self in
    let is : c.self.inside.set ≡ v = c.self.view_is in
    let map : (a : ℕ) → over w.entries m a ≡ cond (at == a) c.args.from.now (over v.entries m a) =
    λ a. c.put.ensures.map m a ∙ ap (λ (x : SetView). cond (at == a) c.args.from.now (over x.entries m a)) is in
    let has : (a : ℕ) → holds w.entries a ≡ cond (at == a) true (holds v.entries a) =
    λ a. c.put.ensures.holds a ∙ ap (λ (x : SetView). cond (at == a) true (holds x.entries a)) is in
    let count : length w.entries ≡ length v.entries + cond (holds v.entries at) 0 1 =
    c.put.ensures.count ∙ ap (λ (x : SetView). length x.entries + cond (holds x.entries at) 0 1) is in
    record {
      only = λ a ne. inside_same c.args.lot.now (over v.entries m) (over w.entries m) a
          (λ is. put_else (over v.entries m) (over w.entries m) at a c.args.from.now ne (map a));
      pays = put-pays (holds v.entries) (holds w.entries) (240 - length v.entries) (240 - length w.entries) at true
          (put_grows (holds v.entries) (holds w.entries) at has)
          (λ ok. put_holds (holds v.entries) (holds w.entries) at has)
          (put_falls 240 240 (length v.entries) (length w.entries) (holds v.entries at) refl count)
          (put_stays 240 240 (length v.entries) (length w.entries) (holds v.entries at) refl count);
    }
