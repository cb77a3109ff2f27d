use Rattle.std.proofs.Common.{◌+◌, ℕ, sym, ◌∙◌, ap, subst, ◌<◌}
use Rattle.ice_base.specs.Lots.{place}
use Rattle.ice_base.proofs.LotLaws.{place-sited}
use Rattle.ice_tables.specs.Journals.{lot_places}
use Rattle.ice_journal.specs.declared.area.Area.{Area}
use Rattle.ice_journal.proofs.JournalLaws.{source_none, source_first}
use Rattle.ice_journal.proofs.effective.Effective.source.Goals as goal

pub returns-in-None-clause-source : goal.returns-in-None-clause-source
returns-in-None-clause-source c = c.home.ensures.home ∙ sym (source_none (place c.args.lot.now) c.args.self.now (lot_places c.args.lot.now).body c.args.at c.in-None.ensures.first)

pub returns-in-Some-clause-source : goal.returns-in-Some-clause-source
returns-in-Some-clause-source c = ap (λ (a : Area). a.body + c.in-Some.j) c.area_of.ensures.area
    ∙ sym (source_first (place c.args.lot.now) c.args.self.now (lot_places c.args.lot.now).body c.args.at c.in-Some.j c.in-Some.ensures.first.0 c.in-Some.ensures.first.1 c.in-Some.ensures.first.2)

pub returns-in-None-clause-below : goal.returns-in-None-clause-below
returns-in-None-clause-below c = λ n sited. subst (λ (k : ℕ). k < n) (sym c.home.ensures.home) (place-sited c.args.lot.now n c.args.at sited c.requires)
