use Rattle.std.proofs.Common.{◌∙◌, ◌++◌, ℕ, List, length, ap, subst}
use Rattle.ice_base.specs.Disk.{Everywhere}
use Rattle.ice_base.specs.Host.{Leaves, FirstOf, CutOf}
use Rattle.ice_base.proofs.Kept.{kept_same}
use Rattle.tree_spec.specs.Replies.{meant}
use Rattle.ice_script.specs.Grammar.{line_of}
use Rattle.ice_run.specs.Runs.{end}
use Rattle.ice_run.proofs.SessionLaws.{failed_late, answered_more, cut_short}
use Rattle.ice_volume.proofs.StandLaws.{stands_kept}
use Rattle.ice_run.proofs.session.answer.Goals as goal

pub returns-in-Err-clause-broken : goal.returns-in-Err-clause-broken
returns-in-Err-clause-broken g c = λ w script lines ahead start is so_far.
    let now = end w so_far.gave.steps in let al = c.in-Err.ensures in
    failed_late g.H.Disk.state g.H.Disk.left w script lines ahead (line_of c.args.session.now.reader.text) start c.args.host.now c.reply_to.new.disk c.args.volume.now so_far is al.within.streams (al.leaves now so_far.stands) (al.spares now so_far.stands)
    (al.cause c.requires.live) (al.stops now so_far.stands)

pub returns-in-Ok-give_all-clause-answered : goal.returns-in-Ok-give_all-clause-answered
returns-in-Ok-give_all-clause-answered g c = λ w script lines ahead start is so_far.
    let state = g.H.Disk.state in let left = g.H.Disk.left in let b = c.reply_to.new.disk in let new = c.give_all.new.host in let z = c.reply_to.new.volume in
    let now = end w so_far.gave.steps in let al = c.in-Ok.ensures in let r = meant c.in-Ok.reply c.reply_to.new.room in
    let go = al.goes now so_far.stands in let told = go.stands.tables.settled.told in let whole = c.bytes.ensures ∙ c.write_reply.ensures.text in
    answered_more state left w script lines ahead (line_of c.args.session.now.reader.text) start c.args.host.now b c.args.volume.now so_far is al.within.streams (al.leaves now so_far.stands) (al.spares now so_far.stands)
    z r go.then go.step go.stands go.lots c.write_reply.ensures.names al.faults new c.give_all.ensures.disk
    (subst (λ (x : List ℕ). Leaves state left (FirstOf (state b).streams.aside x (length x)) b new) whole (c.give_all.ensures.leaves told))
    (stands_kept z (state b) (state new) go.then (kept_same Everywhere (state b) (state new) c.give_all.ensures.disk) go.stands)
    (c.in-Ok-give_all.ensures.all told ∙ ap (λ (x : List ℕ). (state b).streams.aside ++ x) whole)

pub returns-in-Err-give_all-clause-broken : goal.returns-in-Err-give_all-clause-broken
returns-in-Err-give_all-clause-broken g c = λ w script lines ahead start is so_far.
    let state = g.H.Disk.state in let left = g.H.Disk.left in let b = c.reply_to.new.disk in let new = c.give_all.new.host in let z = c.reply_to.new.volume in
    let now = end w so_far.gave.steps in let al = c.in-Ok.ensures in let r = meant c.in-Ok.reply c.reply_to.new.room in
    let go = al.goes now so_far.stands in let told = go.stands.tables.settled.told in let whole = c.bytes.ensures ∙ c.write_reply.ensures.text in
    cut_short state left w script lines ahead (line_of c.args.session.now.reader.text) start c.args.host.now b c.args.volume.now so_far is al.within.streams (al.leaves now so_far.stands) (al.spares now so_far.stands)
    z r go.then go.step go.stands go.lots c.write_reply.ensures.names al.faults new c.give_all.ensures.disk
    (subst (λ (x : List ℕ). Leaves state left (FirstOf (state b).streams.aside x (length x)) b new) whole (c.give_all.ensures.leaves told))
    (stands_kept z (state b) (state new) go.then (kept_same Everywhere (state b) (state new) c.give_all.ensures.disk) go.stands)
    al.within.faults (subst (λ (x : List ℕ). CutOf (state b).streams.aside x (state new).streams.aside) whole (c.in-Err-give_all.ensures.cut told))
