use Rattle.std.proofs.Common.{◌∙◌, arith}
use Rattle.ice_images.proofs.OpeningLaws.{fresh_opens}
use Rattle.ice_run.proofs.top.format_image.Goals as goal

pub returns-in-Ok-clause-opens : goal.returns-in-Ok-clause-opens
returns-in-Ok-clause-opens g c = λ told done.
    let new = c.format.new.disk in
    let whole = g.met.D.Disk.whole new (c.format.ensures.within.tells ∙ told) in
    fresh_opens c.args.sup.now (g.D.Disk.state new).now c.requires (c.in-Ok.ensures.fresh told) (omega (arith, whole, c.format.ensures.within.size))

pub returns-in-Ok-clause-starts : goal.returns-in-Ok-clause-starts
returns-in-Ok-clause-starts g c = λ told done. record { settled = c.in-Ok.ensures.settled told; opens = returns-in-Ok-clause-opens g c told done }
