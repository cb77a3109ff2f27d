use Rattle.std.proofs.Common.{◌≡◌, ◌<◌, ◌+◌, ◌*◌, ◌++◌, ◌∷◌, [], length, None, sym, subst, set, arith}
use Rattle.std.specs.Prelude.{slice_index}
use Rattle.ice_owner.specs.Owners.{OwnersView, Changes, groups_at, holder}
use Rattle.ice_owner.specs.Places.{view_of}
use Rattle.ice_owner.proofs.Kept.{lot_length, pushed_kept, pushed}
use Rattle.ice_owner.proofs.owners.Owners.push.Goals as goal

pub bounds-self-inside-slot-2 : goal.bounds-self-inside-slot-2
bounds-self-inside-slot-2 c =
    let i = c.self.inside in
    let room = subst (λ (v : OwnersView). length (groups_at v c.args.slot) < 64) (sym c.self.view_is) c.requires.room in
    omega (arith, c.requires.slot, room, lot_length i.groups i.counts i.places c.self.invariant.slots c.self.invariant.all c.self.invariant.few c.args.slot)

pub invariant_of-self : goal.invariant_of-self
invariant_of-self c =
    let i = c.self.inside in
    let room = subst (λ (v : OwnersView). length (groups_at v c.args.slot) < 64) (sym c.self.view_is) c.requires.room in
    let small = subst (λ (v : OwnersView). c.args.group < v.groups) (sym c.self.view_is) c.requires.small in
    let free = subst (λ (v : OwnersView). holder v c.args.group ≡ None) (sym c.self.view_is) c.requires.free in
    pushed_kept i.groups i.counts i.places c.self.invariant c.args.slot c.requires.slot c.args.group room small free

pub returns : goal.returns
returns c =
    let i = c.self.inside in
    let s = c.args.slot in
    let g = c.args.group in
    let room = subst (λ (v : OwnersView). length (groups_at v s) < 64) (sym c.self.view_is) c.requires.room in
    let small = subst (λ (v : OwnersView). g < v.groups) (sym c.self.view_is) c.requires.small in
    let free = subst (λ (v : OwnersView). holder v g ≡ None) (sym c.self.view_is) c.requires.free in
    record {
      pushed =
          subst (λ (v : OwnersView). Changes v (view_of i.groups (set i.counts s (slice_index i.counts s + 1))
          (set i.places (64 * s + slice_index i.counts s) g)) s (groups_at v s ++ g ∷ []))
          c.self.view_is (pushed i.groups i.counts i.places c.self.invariant s c.requires.slot g room small free);
    }
