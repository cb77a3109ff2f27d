use Rattle.std.proofs.Common.{arith}
use Rattle.ice_base.proofs.LotLaws.{sited-few}
use Rattle.ice_check.proofs.ShownLaws.{handed, still_shows, shows_itself}
use Rattle.ice_check.proofs.WholeLaws.{blocks-counted, nodes-counted, broke_named, sums_here, named_none}
use Rattle.ice_check.proofs.check.Goals as goal

pub check_blank-requires-clause-inodes : goal.check_blank-requires-clause-inodes
check_blank-requires-clause-inodes g c = let few = sited-few c.args.lot.now (g.D.Disk.state c.args.disk.now).size c.requires.sited in omega arith

pub check_blank-requires-clause-blocks : goal.check_blank-requires-clause-blocks
check_blank-requires-clause-blocks g c = let few = sited-few c.args.lot.now (g.D.Disk.state c.args.disk.now).size c.requires.sited in omega arith

pub returns-in_err-sub-clause-named : goal.returns-in_err-sub-clause-named
returns-in_err-sub-clause-named g c = λ s.
    let m = g.V.View.map c.args.view.now c.args.disk.now c.args.lot.now in
    let here = shows_itself g.V.View c.args.lot.now c.args.view.now c.args.disk.now s in
    handed c.from_residual.result c.in_err-sub.field-0.0 _ c.from_residual.ensures (c.in_err-sub.ensures.named m here)

pub returns-in_err-sub-clause-exact : goal.returns-in_err-sub-clause-exact
returns-in_err-sub-clause-exact g c = λ f mode k t form s r.
    let m = g.V.View.map c.args.view.now c.args.disk.now c.args.lot.now in
    let here = shows_itself g.V.View c.args.lot.now c.args.view.now c.args.disk.now s in
    handed c.from_residual.result c.in_err-sub.field-0.0 _ c.from_residual.ensures (named_none c.args.lot.now m c.in_err-sub.field-0.0 f mode k t form (c.in_err-sub.ensures.named m here) r)

pub returns-in_err-check_blank-clause-named : goal.returns-in_err-check_blank-clause-named
returns-in_err-check_blank-clause-named g c = λ s.
    let m = g.V.View.map c.args.view.now c.args.disk.now c.args.lot.now in
    let here = shows_itself g.V.View c.args.lot.now c.args.view.now c.args.disk.now s in
    let later = still_shows g.D.Disk g.V.View _ _ _ _ _ m c.read_sub_super.ensures.looked here in
    let few = sited-few c.args.lot.now (g.D.Disk.state c.args.disk.now).size c.requires.sited in
    let is = c.in_ok-sub.ensures.sub m here in
    let bs = blocks-counted c.args.lot.now few m c.in_ok-sub.sub is in
    let ns = nodes-counted c.args.lot.now few m c.in_ok-sub.sub is in
    handed c.from_residual-in_err-check_blank.result c.in_err-check_blank.field-0.0 _ c.from_residual-in_err-check_blank.ensures
    (broke_named c.args.lot.now few m c.in_ok-sub.sub is c.in_err-check_blank.field-0.0 (c.in_err-check_blank.ensures.broken m later bs ns))

pub returns-in_err-check_blank-clause-exact : goal.returns-in_err-check_blank-clause-exact
returns-in_err-check_blank-clause-exact g c = λ f mode k t form s r.
    let m = g.V.View.map c.args.view.now c.args.disk.now c.args.lot.now in
    let here = shows_itself g.V.View c.args.lot.now c.args.view.now c.args.disk.now s in
    let later = still_shows g.D.Disk g.V.View _ _ _ _ _ m c.read_sub_super.ensures.looked here in
    let few = sited-few c.args.lot.now (g.D.Disk.state c.args.disk.now).size c.requires.sited in
    let is = c.in_ok-sub.ensures.sub m here in
    let bs = blocks-counted c.args.lot.now few m c.in_ok-sub.sub is in
    let ns = nodes-counted c.args.lot.now few m c.in_ok-sub.sub is in
    handed c.from_residual-in_err-check_blank.result c.in_err-check_blank.field-0.0 _ c.from_residual-in_err-check_blank.ensures
    (named_none c.args.lot.now m c.in_err-check_blank.field-0.0 f mode k t form (broke_named c.args.lot.now few m c.in_ok-sub.sub is c.in_err-check_blank.field-0.0 (c.in_err-check_blank.ensures.broken m later bs ns)) r)

pub returns-clause-recovers : goal.returns-clause-recovers
returns-clause-recovers g c = λ s.
    let m = g.V.View.map c.args.view.now c.args.disk.now c.args.lot.now in
    let here = shows_itself g.V.View c.args.lot.now c.args.view.now c.args.disk.now s in
    let later = still_shows g.D.Disk g.V.View _ _ _ _ _ m c.read_sub_super.ensures.looked here in
    let few = sited-few c.args.lot.now (g.D.Disk.state c.args.disk.now).size c.requires.sited in
    let is = c.in_ok-sub.ensures.sub m here in
    let bs = blocks-counted c.args.lot.now few m c.in_ok-sub.sub is in
    let ns = nodes-counted c.args.lot.now few m c.in_ok-sub.sub is in
    sums_here c.args.lot.now few m c.in_ok-sub.sub is (c.in_ok-check_blank.ensures.holds m later bs ns)
