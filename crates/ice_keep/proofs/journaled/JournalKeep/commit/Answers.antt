use Rattle.std.proofs.Common.{◌≡◌, ◌∙◌, length, ap, sym, inl, arith}
use Rattle.std.proofs.lemmas.Bool.Decides.{nat_tests}
use Rattle.ice_txn.specs.Sets.{SetView}
use Rattle.ice_journal.proofs.AreaLaws.{lot_below}
use Rattle.ice_keep.proofs.JournaledLaws.{sure_idle, held_crash, held_either, held_done, held_before, held_stands, held_idle, none_held, nothing_crash, nothing_done, nothing_idle}
use Rattle.ice_keep.proofs.journaled.JournalKeep.commit.Goals as goal

pub commit-requires-clause-few : goal.commit-requires-clause-few
commit-requires-clause-few g c = c.self.invariant.1

pub commit-requires-clause-below : goal.commit-requires-clause-below
commit-requires-clause-below g c = λ k is. lot_below c.args.lot.now (g.D.Disk.state c.args.disk.now).size k c.requires.sited is

pub returns-then-len-eq0-clause-crash : goal.returns-then-len-eq0-clause-crash
returns-then-len-eq0-clause-crash g c = λ map sure. nothing_crash g.D.Disk.state g.D.Disk.left c.args.lot.now c.args.self.now.entries map c.args.disk.now sure

pub returns-then-len-eq0-clause-done : goal.returns-then-len-eq0-clause-done
returns-then-len-eq0-clause-done g c = λ map sure.
    let number : length c.self.inside.set.entries ≡ 0 = grind (arith, nat_tests) in
    let none = none_held c.args.self.now.entries (ap (λ (x : SetView). length x.entries) (sym c.self.view_is) ∙ number) in
    nothing_done g.D.Disk.state g.D.Disk.left c.args.lot.now c.args.self.now.entries map c.args.disk.now none sure

pub returns-then-len-eq0-clause-idle : goal.returns-then-len-eq0-clause-idle
returns-then-len-eq0-clause-idle g c = λ map sure.
    let number : length c.self.inside.set.entries ≡ 0 = grind (arith, nat_tests) in
    let none = none_held c.args.self.now.entries (ap (λ (x : SetView). length x.entries) (sym c.self.view_is) ∙ number) in
    nothing_idle g.D.Disk.state g.D.Disk.left c.args.lot.now c.args.self.now.entries map c.args.disk.now none sure

pub returns-in-Ok-clause-crash : goal.returns-in-Ok-clause-crash
returns-in-Ok-clause-crash g c = λ map sure.
    let idle = sure_idle c.args.lot.now map (g.D.Disk.state c.args.disk.now) sure in
    held_crash g.D.Disk.state g.D.Disk.left c.args.lot.now c.self.inside.set c.args.self.now c.self.view_is
    c.requires.homes map c.args.disk.now c.commit.new.disk sure (c.commit.ensures.crash map idle)

pub returns-in-Ok-clause-either : goal.returns-in-Ok-clause-either
returns-in-Ok-clause-either g c = λ map sure.
    let idle = sure_idle c.args.lot.now map (g.D.Disk.state c.args.disk.now) sure in
    held_either g.D.Disk.state g.D.Disk.left c.args.lot.now c.self.inside.set c.args.self.now c.self.view_is
    c.requires.homes map c.args.disk.now c.commit.new.disk sure (c.commit.ensures.either map idle)

pub returns-in-Ok-clause-stands : goal.returns-in-Ok-clause-stands
returns-in-Ok-clause-stands g c = λ map sure.
    held_stands g.D.Disk.state g.D.Disk.left c.args.lot.now c.self.inside.set c.args.self.now c.self.view_is
    c.requires.homes map c.args.disk.now c.commit.new.disk (c.commit.ensures.crash map sure)

pub returns-in-Ok-clause-done : goal.returns-in-Ok-clause-done
returns-in-Ok-clause-done g c = λ map sure.
    let idle = sure_idle c.args.lot.now map (g.D.Disk.state c.args.disk.now) sure in
    held_done g.D.Disk.state g.D.Disk.left c.args.lot.now c.self.inside.set c.args.self.now c.self.view_is
    c.requires.homes map c.args.disk.now c.commit.new.disk sure (c.in-Ok.ensures.done map idle)

pub returns-in-Ok-clause-idle : goal.returns-in-Ok-clause-idle
returns-in-Ok-clause-idle g c = λ map sure.
    held_idle g.D.Disk.state g.D.Disk.left c.args.lot.now c.self.inside.set c.args.self.now c.self.view_is
    c.requires.homes map c.args.disk.now c.commit.new.disk (c.in-Ok.ensures.done map sure)

pub returns-in-Err-Before-clause-crash : goal.returns-in-Err-Before-clause-crash
returns-in-Err-Before-clause-crash g c = λ map sure.
    let idle = sure_idle c.args.lot.now map (g.D.Disk.state c.args.disk.now) sure in
    held_crash g.D.Disk.state g.D.Disk.left c.args.lot.now c.self.inside.set c.args.self.now c.self.view_is
    c.requires.homes map c.args.disk.now c.commit.new.disk sure (c.commit.ensures.crash map idle)

pub returns-in-Err-Before-clause-either : goal.returns-in-Err-Before-clause-either
returns-in-Err-Before-clause-either g c = λ map sure.
    let idle = sure_idle c.args.lot.now map (g.D.Disk.state c.args.disk.now) sure in
    held_either g.D.Disk.state g.D.Disk.left c.args.lot.now c.self.inside.set c.args.self.now c.self.view_is
    c.requires.homes map c.args.disk.now c.commit.new.disk sure (c.commit.ensures.either map idle)

pub returns-in-Err-Before-clause-stands : goal.returns-in-Err-Before-clause-stands
returns-in-Err-Before-clause-stands g c = λ map sure.
    held_stands g.D.Disk.state g.D.Disk.left c.args.lot.now c.self.inside.set c.args.self.now c.self.view_is
    c.requires.homes map c.args.disk.now c.commit.new.disk (c.commit.ensures.crash map sure)

pub returns-in-Err-Before-clause-failed : goal.returns-in-Err-Before-clause-failed
returns-in-Err-Before-clause-failed g c = λ map sure.
    let idle = sure_idle c.args.lot.now map (g.D.Disk.state c.args.disk.now) sure in
    inl (held_before g.D.Disk.state g.D.Disk.left c.args.lot.now c.self.inside.set c.args.self.now c.self.view_is
    c.requires.homes map c.args.disk.now c.commit.new.disk sure (c.in-Err-Before.ensures.before map idle (cc c.in-Err-Before.field-0-is)))

pub returns-in-Err-After-clause-crash : goal.returns-in-Err-After-clause-crash
returns-in-Err-After-clause-crash g c = λ map sure.
    let idle = sure_idle c.args.lot.now map (g.D.Disk.state c.args.disk.now) sure in
    held_crash g.D.Disk.state g.D.Disk.left c.args.lot.now c.self.inside.set c.args.self.now c.self.view_is
    c.requires.homes map c.args.disk.now c.commit.new.disk sure (c.commit.ensures.crash map idle)

pub returns-in-Err-After-clause-either : goal.returns-in-Err-After-clause-either
returns-in-Err-After-clause-either g c = λ map sure.
    let idle = sure_idle c.args.lot.now map (g.D.Disk.state c.args.disk.now) sure in
    held_either g.D.Disk.state g.D.Disk.left c.args.lot.now c.self.inside.set c.args.self.now c.self.view_is
    c.requires.homes map c.args.disk.now c.commit.new.disk sure (c.commit.ensures.either map idle)

pub returns-in-Err-After-clause-stands : goal.returns-in-Err-After-clause-stands
returns-in-Err-After-clause-stands g c = λ map sure.
    held_stands g.D.Disk.state g.D.Disk.left c.args.lot.now c.self.inside.set c.args.self.now c.self.view_is
    c.requires.homes map c.args.disk.now c.commit.new.disk (c.commit.ensures.crash map sure)
