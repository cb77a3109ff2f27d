-- What `Effective::read` shows is what the lot stands for, so each clause is that of `check` over it.
use Rattle.std.proofs.Common.{◌≡◌, ◌∙◌, true, Some, subst}
use Rattle.ice_base.specs.Still.{still_then}
use Rattle.ice_reads.specs.Tables.{Map}
use Rattle.ice_reads.specs.Recovers.{MapRecovers}
use Rattle.ice_tables.specs.Journals.{effective_of}
use Rattle.ice_journal.specs.Shown.{shown, same_refl}
use Rattle.ice_check.proofs.lots.check_lot.Goals as goal

pub returns-in-Ok-clause-exact : goal.returns-in-Ok-clause-exact
returns-in-Ok-clause-exact g c = λ f mode k t m form tells is recovers.
    let shows : (g.D.Disk.state c.read.new.disk).tells ≡ true = c.read.ensures.still.within.tells ∙ tells in
    let effective : effective_of c.args.lot.now (g.D.Disk.state c.args.disk.now).now ≡ Some (shown c.in-Ok.view c.args.lot.now (g.D.Disk.state c.read.new.disk).now) = c.in-Ok.ensures.effective tells in
    let same : m ≡ shown c.in-Ok.view c.args.lot.now (g.D.Disk.state c.read.new.disk).now = cc in
    let P : Map → Type 0 = λ n. MapRecovers f mode c.args.lot.now n t k in
    c.check.ensures.exact f mode k t form shows (subst P same recovers)

pub returns-in-Ok-clause-still : goal.returns-in-Ok-clause-still
returns-in-Ok-clause-still g c =
    let looked = c.check.ensures.looked.steady c.in-Ok.view c.read.new.disk (same_refl g.D.Disk.state g.D.Disk.left c.in-Ok.view c.read.new.disk) in
    still_then g.D.Disk.state g.D.Disk.left c.args.disk.now c.read.new.disk c.check.new.disk c.read.ensures.still looked.still
