use Rattle.ice_headline.proofs.Containing.{headline}
use Rattle.ice_headline.proofs.sessions.two_sessions.Goals as goal

pub returns : goal.returns
returns g c =
    let from = c.run-status.ensures in
    let second = c.run.ensures in
    let image = c.requires.0 in
    let is = c.requires.1 in
    headline (c.fits_but_opens.ensures.all, c.fits_but_opens.ensures.each)
    g.H.Disk.state g.H.Disk.left g.G.Disk.state g.G.Disk.left c.run-status.result c.run.result c.args.first.now c.run-status.new.host c.args.second.now c.run.new.host
    (λ w starts. record { ends = from.ends image w is starts; crash = from.crash image w is starts; damage = from.damage image w is starts })
    (λ u starts. record { ends = second.ends image u is starts; crash = second.crash image u is starts; damage = second.damage image u is starts })
