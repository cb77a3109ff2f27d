use Rattle.std.proofs.Common.{arith, ◌∙◌, subst, ◌≡◌, ℕ, List, ◌++◌, length-drop, take}
use Rattle.std.proofs.lemmas.List.{take_rest}
use Rattle.ice_base.specs.Host.{Leaves, FirstOf}
use Rattle.ice_base.proofs.Gives.{same_then, gave_then, leaves_give, aside_give}
use Rattle.ice_base.proofs.host.give_all.Goals as goal

pub loop-at-preserved : goal.loop-at-preserved
loop-at-preserved g c =
    let state = g.H.Disk.state in let left = g.H.Disk.left in let inv = c.loop-at.invariant in record {
      disk = same_then (state c.args.host.now) (state c.loop-at.host) (state c.give.new.self) inv.disk c.give.ensures.disk;
      only = gave_then (state c.args.host.now).streams (state c.loop-at.host).streams (state c.give.new.self).streams inv.only c.give.ensures.gives.only;
      calm = c.in_ok-at.ensures.calm ∙ inv.calm;
      within = omega (arith, c.in_ok-at.ensures.gives.count, length-drop c.loop-at.at c.args.bytes.now);
      aside = λ told. aside_give (state c.args.host.now).streams.aside _ _ c.args.bytes.now c.loop-at.at c.in_ok-at.field-0 (inv.aside told) (subst (λ (x : List ℕ). (state c.give.new.self).streams.aside ≡ (state c.loop-at.host).streams.aside ++ take c.in_ok-at.field-0 x) (take_rest c.args.bytes.now c.loop-at.at) (c.in_ok-at.ensures.gives.aside (inv.disk.tells ∙ told)));
      leaves = λ told. leaves_give state left (state c.args.host.now).streams.aside c.args.bytes.now c.loop-at.at c.in_ok-at.field-0 c.args.host.now c.loop-at.host c.give.new.self inv.disk (inv.aside told) (inv.leaves told) (subst (λ (x : List ℕ). Leaves state left (FirstOf (state c.loop-at.host).streams.aside x c.in_ok-at.field-0) c.loop-at.host c.give.new.self) (take_rest c.args.bytes.now c.loop-at.at) c.in_ok-at.ensures.leaves);
    }
