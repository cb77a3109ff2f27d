use Rattle.std.proofs.Common.{◌≡◌, ◌<◌, ℕ, true, ⊎_elim, subst, sym, arith}
use Rattle.ice_base.specs.Lots.{is_address}
use Rattle.ice_base.proofs.LotLaws.{is_address_sub, is_address_at}
use Rattle.ice_journal.proofs.AreaLaws.{lot_below}
use Rattle.journal_tests.proofs.commits.commit_lot.Goals as goal

pub commit-requires-clause-homes : goal.commit-requires-clause-homes
commit-requires-clause-homes g c = λ a held.
    let lot = c.lot.result in
    ⊎_elim
    (λ e. subst (λ (x : ℕ). is_address lot x ≡ true) (sym e) (is_address_sub lot))
    (λ e. subst (λ (x : ℕ). is_address lot x ≡ true) (sym e) (is_address_at lot 9 (omega (arith, c.lot.ensures.groups))))
    (c.requires.held a held)

pub commit-requires-clause-below : goal.commit-requires-clause-below
commit-requires-clause-below g c = λ k is. let low : k < 800 = lot_below c.lot.result 800 k c.lot.ensures.sited is in omega arith
