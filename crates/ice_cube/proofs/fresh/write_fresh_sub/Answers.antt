use Rattle.std.proofs.Common.{◌≡◌, ℕ, ◌∙◌}
use Rattle.ice_base.specs.FrameLaws.{within_more}
use Rattle.ice_base.specs.Lots.{area}
use Rattle.ice_cube.proofs.FreshLaws.{sub_place, sub_wrote}
use Rattle.ice_cube.proofs.fresh.write_fresh_sub.Goals as goal

pub returns-clause-within : goal.returns-clause-within
returns-clause-within g c =
    within_more g.D.Disk.state g.D.Disk.left (λ (k : ℕ). k ≡ c.home.result) (λ (k : ℕ). k ≡ area c.args.lot.now) c.args.disk.now c.write.new.self
    (λ k e. e ∙ c.home.ensures.home ∙ sub_place c.args.lot.now) c.write.ensures.within

pub returns-clause-sub : goal.returns-clause-sub
returns-clause-sub g c = λ told.
    sub_wrote c.args.lot.now c.slot.result c.home.result c.write_sub.new.into (g.D.Disk.state c.write.new.self).now c.write.result
    c.slot.ensures.slot c.home.ensures.home c.write_sub.ensures.sub (c.write.ensures.bytes told)
