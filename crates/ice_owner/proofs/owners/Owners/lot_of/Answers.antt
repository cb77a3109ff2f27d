use Rattle.std.proofs.Common.{◌≢◌, ◌∙◌, ◌<◌, ◌+◌, ◌*◌, ◌++◌, ◌∷◌, [], List, ℕ, length, refl, sym, ap, subst}
use Rattle.std.specs.Prelude.{slice_index}
use Rattle.ice_base.specs.Lots.{LotView}
use Rattle.ice_owner.specs.Owners.{OwnersView, groups_at}
use Rattle.ice_owner.proofs.Kept.{is_taken, taken_small, lot_fresh, lot_more, lot_all, same_view}
use Rattle.ice_owner.proofs.owners.Owners.lot_of.Goals as goal

pub push-requires-clause-small : goal.push-requires-clause-small
push-requires-clause-small c =
    let i = c.self.inside in
    let at = is_taken i.groups i.counts i.places c.self.invariant.slots c.self.invariant.all c.self.invariant.few c.args.slot c.loop-o.o c.loop-o-test.true in
    taken_small i.groups i.counts i.places c.self.invariant (64 * c.args.slot + c.loop-o.o) at.0 at.1

pub push-requires-clause-fresh : goal.push-requires-clause-fresh
push-requires-clause-fresh c =
    let i = c.self.inside in
    subst (λ (xs : List ℕ). (k : ℕ) → k < length xs → slice_index xs k ≢ slice_index i.places (64 * c.args.slot + c.loop-o.o)) (sym c.loop-o.invariant.groups)
    (lot_fresh i.groups i.counts i.places c.self.invariant c.args.slot c.loop-o.o c.loop-o-test.true)

pub loop-o-preserved : goal.loop-o-preserved
loop-o-preserved c =
    let i = c.self.inside in record {
      end = refl;
      slot = ap (λ (l : LotView). l.slot) c.push.ensures ∙ c.loop-o.invariant.slot;
      base = ap (λ (l : LotView). l.base) c.push.ensures ∙ c.loop-o.invariant.base;
      groups = ap (λ (l : LotView). l.groups) c.push.ensures
          ∙ ap (λ (xs : List ℕ). xs ++ slice_index i.places (64 * c.args.slot + c.loop-o.o) ∷ []) c.loop-o.invariant.groups
          ∙ lot_more i.groups i.counts i.places c.self.invariant c.args.slot c.loop-o.o c.loop-o-test.true;
    }

pub returns-clause-lot : goal.returns-clause-lot
returns-clause-lot c =
    let i = c.self.inside in
    same_view c.loop-o.lot c.args.slot c.args.base (groups_at c.args.self.now c.args.slot) c.loop-o.invariant.slot c.loop-o.invariant.base
    (c.loop-o.invariant.groups ∙ lot_all i.groups i.counts i.places c.self.invariant c.args.slot c.loop-o.o c.loop-o-test.false
    ∙ ap (λ (v : OwnersView). groups_at v c.args.slot) c.self.view_is)
