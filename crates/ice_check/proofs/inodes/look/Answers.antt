use Rattle.std.proofs.Common.{◌≡◌, ◌<◌, ◌≤◌, sym, subst, arith}
use Rattle.ice_base.proofs.LotLaws.{sited-few}
use Rattle.ice_map.specs.Maps.{longest}
use Rattle.ice_map.specs.Own.{RestIsZero, map_length}
use Rattle.ice_check.proofs.ShownLaws.{still_shows}
use Rattle.ice_check.proofs.LookLaws.{size_small, map_short, single_broken, nth_broken, rest_broken, uses_data}
use Rattle.tree_spec.specs.Costs.{form_one}
use Rattle.ice_check.proofs.inodes.look.Goals as goal

pub map_blocks-count-requires : goal.map_blocks-count-requires
map_blocks-count-requires g c = size_small c.args.lot.now c.args.number c.in_ok-inode.inode (sited-few _ _ c.requires.sited) (c.kind_fits.ensures.yes c.if-not-kind_fits.false)

pub lead_to_data-requires : goal.lead_to_data-requires
lead_to_data-requires g c = subst (λ n. n ≤ longest) (sym c.map_blocks-count.ensures) (map_short c.args.lot.now c.args.number c.in_ok-inode.inode (sited-few _ _ c.requires.sited) (c.kind_fits.ensures.yes c.if-not-kind_fits.false))

pub rest_is_zero-requires : goal.rest_is_zero-requires
rest_is_zero-requires g c = subst (λ n. n ≤ longest) (sym c.map_blocks-count.ensures) (map_short c.args.lot.now c.args.number c.in_ok-inode.inode (sited-few _ _ c.requires.sited) (c.kind_fits.ensures.yes c.if-not-kind_fits.false))

pub returns-then-not-single_fits-clause-broken : goal.returns-then-not-single_fits-clause-broken
returns-then-not-single_fits-clause-broken g c = λ m w s by used.
    single_broken c.args.lot.now m c.args.number c.in_ok-inode.inode (c.in_ok-inode.ensures.value m s) w by used (c.kind_fits.ensures.yes c.if-not-kind_fits.false)
    (omega (arith, c.map_blocks-count.ensures, c.single_fits.ensures.long c.if-not-single_fits.true)) (c.single_fits.ensures.no c.if-not-single_fits.true)

pub returns-then-not-lead_to_data-clause-broken : goal.returns-then-not-lead_to_data-clause-broken
returns-then-not-lead_to_data-clause-broken g c = λ m w s by used.
    let bad = c.lead_to_data.ensures.no c.if-not-lead_to_data.true in
    let read : 12 < c.map_blocks-count.result → c.read_pointers.new.into ≡ m c.in_ok-inode.inode.single = c.in_ok-read_pointers.ensures.content m (still_shows g.D.Disk g.V.View _ _ _ _ _ m c.read_inode.ensures.looked s) in
    nth_broken c.args.lot.now m c.args.number c.in_ok-inode.inode (c.in_ok-inode.ensures.value m s) w by used (c.kind_fits.ensures.yes c.if-not-kind_fits.false)
    c.read_pointers.new.into (λ h. read (omega (arith, c.map_blocks-count.ensures, h))) bad.0 (omega (arith, c.map_blocks-count.ensures, bad.1)) bad.2

pub returns-then-not-rest_is_zero-clause-broken : goal.returns-then-not-rest_is_zero-clause-broken
returns-then-not-rest_is_zero-clause-broken g c = λ m w s by used.
    rest_broken c.args.lot.now m c.args.number c.in_ok-inode.inode (c.in_ok-inode.ensures.value m s) w by used (c.kind_fits.ensures.yes c.if-not-kind_fits.false)
    (subst (λ n. ¬ RestIsZero c.in_ok-inode.inode n) c.map_blocks-count.ensures (c.rest_is_zero.ensures.no c.if-not-rest_is_zero.true))

pub returns-clause-fits : goal.returns-clause-fits
returns-clause-fits g c = record {
  places = uses_data c.args.lot.now (λ _. c.read_pointers.new.into) c.in_ok-inode.inode (map_length form_one c.in_ok-inode.inode)
      (λ h. c.single_fits.ensures.yes c.if-not-single_fits.false (omega (arith, c.map_blocks-count.ensures, h)))
      (λ n h. c.lead_to_data.ensures.yes c.if-not-lead_to_data.false n (omega (arith, c.map_blocks-count.ensures, h)));
  rest = subst (λ n. RestIsZero c.in_ok-inode.inode n) c.map_blocks-count.ensures (c.rest_is_zero.ensures.yes c.if-not-rest_is_zero.false);
}

pub returns-clause-content : goal.returns-clause-content
returns-clause-content g c = λ m s h. c.in_ok-read_pointers.ensures.content m (still_shows g.D.Disk g.V.View _ _ _ _ _ m c.read_inode.ensures.looked s) (omega (arith, c.map_blocks-count.ensures, h))
