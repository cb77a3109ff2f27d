use Rattle.std.proofs.Common.{◌≡◌, List, ℕ, Some, subst}
use Rattle.ice_base.specs.Lots.{sub_address}
use Rattle.ice_layout.specs.Subs.{IsSub, sub_rule}
use Rattle.ice_check.proofs.WholeLaws.{sub_named, sub_fault}
use Rattle.ice_check.proofs.whole.read_sub_super.Goals as goal

pub returns-in-Ok-clause-sub : goal.returns-in-Ok-clause-sub
returns-in-Ok-clause-sub g c = λ m s.
    subst (λ n. IsSub n c.in-Ok.sub (m sub_address)) c.slot.ensures.slot (subst (λ (b : List ℕ). IsSub c.slot.result c.in-Ok.sub b) (c.in_ok-read_block.ensures.content m s) c.in-Ok.ensures.accepts)

pub returns-in-Err-clause-named : goal.returns-in-Err-clause-named
returns-in-Err-clause-named g c = λ m s.
    sub_named c.args.lot.now m c.in-Err.rule
    (subst (λ n. sub_rule n (m sub_address) ≡ Some c.in-Err.rule) c.slot.ensures.slot (subst (λ (b : List ℕ). sub_rule c.slot.result b ≡ Some c.in-Err.rule) (c.in_ok-read_block.ensures.content m s) c.in-Err.ensures.refuses))

pub returns-in-Err-clause-faults : goal.returns-in-Err-clause-faults
returns-in-Err-clause-faults g c = sub_fault c.slot.result c.read_block.new.into c.in-Err.rule c.in-Err.ensures.refuses
