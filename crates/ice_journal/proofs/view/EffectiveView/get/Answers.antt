use Rattle.std.proofs.Common.{rules, ◌≡◌, ◌∙◌, ap, true}
use Rattle.ice_base.specs.Disk.{block}
use Rattle.ice_base.specs.Lots.{is_address}
use Rattle.ice_journal.proofs.JournalLaws.{shown_at, looked_still}
use Rattle.ice_journal.proofs.view.EffectiveView.get.Goals as goal

pub returns-in-Ok-clause-content : goal.returns-in-Ok-clause-content
returns-in-Ok-clause-content g c = λ told.
    let i = (g.D.Disk.state c.args.disk.now).now in
    let is : is_address c.args.lot.now c.args.at ≡ true = search rules in
    c.in-Ok.ensures.bytes told ∙ ap (block i) c.source.ensures.source ∙ shown_at c.args.self.now c.args.lot.now i c.args.at is

pub returns-in-Ok-clause-looked : goal.returns-in-Ok-clause-looked
returns-in-Ok-clause-looked g c = looked_still g.D.Disk.state g.D.Disk.left c.args.lot.now c.args.self.now c.args.disk.now c.look.new.disk c.in-Ok.ensures.still

pub returns-in-Err-clause-looked : goal.returns-in-Err-clause-looked
returns-in-Err-clause-looked g c = looked_still g.D.Disk.state g.D.Disk.left c.args.lot.now c.args.self.now c.args.disk.now c.look.new.disk c.in-Err.ensures.still
