use Rattle.std.proofs.Common.{◌∙◌, ◌==◌, sym, ap, length}
use Rattle.std.specs.Prelude.{slice_index, filter}
use Rattle.std.specs.List.{range_with_len}
use Rattle.ice_owner.specs.Owners.{OwnersView}
use Rattle.ice_owner.proofs.Filters.{free_is}
use Rattle.ice_owner.proofs.owners.Owners.free.Goals as goal

pub returns-clause-free : goal.returns-clause-free
returns-clause-free c =
    let marks = c.marks-marks.result in
    c.count_free.ensures
    ∙ ap (λ (v : OwnersView). length (filter (λ g. slice_index marks g == 0) (range_with_len 0 v.groups))) c.self.view_is
    ∙ ap length (sym (free_is c.args.self.now marks c.marks-marks.ensures.holders))
