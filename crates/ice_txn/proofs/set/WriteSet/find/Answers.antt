use Rattle.std.proofs.Common.{◌≡◌, ◌<◌, length, List, ap, sym, ◌∙◌, subst}
use Rattle.ice_txn.specs.declared.set.Entry.{Entry}
use Rattle.ice_txn.specs.Sets.{SetView, address, over}
use Rattle.ice_txn.proofs.SetLaws.{over_at}
use Rattle.ice_txn.proofs.set.WriteSet.find.Goals as goal

pub returns-in-Some : goal.returns-in-Some
returns-in-Some c =
    let s = c.self.inside.entries.items in
    let j = c.in-Some.j in
    let e : s ≡ c.args.self.now.entries = ap (λ (v : SetView). v.entries) c.self.view_is in
    let less : j < length s = subst (λ (x : List Entry). j < length x) (sym e) c.in-Some.ensures.0 in (
      c.in-Some.ensures.2,
      λ m. ap (λ (x : Entry). x.block) c.index.ensures ∙ sym (over_at s m j c.index.result.now c.self.invariant.differ less)
          ∙ ap (λ (x : List Entry). over x m (address x j)) e ∙ ap (over c.args.self.now.entries m) c.in-Some.ensures.1,
    )
