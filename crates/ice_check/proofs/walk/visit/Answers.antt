use Rattle.std.proofs.Common.{◌≡◌, ◌≤◌, true, sym, subst, arith}
use Rattle.ice_base.specs.Spare.{has}
use Rattle.ice_base.proofs.LotLaws.{sited-few}
use Rattle.ice_base.proofs.UsedLaws.{data_below}
use Rattle.ice_map.specs.Maps.{longest, uses}
use Rattle.ice_check.proofs.LookLaws.{size_small, map_short}
use Rattle.ice_check.proofs.VisitLaws.{dir_kind, sound_here, marks_here, file_here, dir_here, twice_here, unused_broke}
use Rattle.ice_check.proofs.ShownLaws.{still_shows, handed}
use Rattle.ice_check.proofs.walk.visit.Goals as goal

pub map_blocks-count-requires : goal.map_blocks-count-requires
map_blocks-count-requires g c = size_small c.args.lot.now c.args.number c.in_ok-inode.inode (sited-few _ _ c.requires.sited) c.in_ok-inode.ensures.kind

pub mark_blocks-requires-clause-short : goal.mark_blocks-requires-clause-short
mark_blocks-requires-clause-short g c = subst (λ n. n ≤ longest) (sym c.map_blocks-count.ensures) (map_short c.args.lot.now c.args.number c.in_ok-inode.inode (sited-few _ _ c.requires.sited) c.in_ok-inode.ensures.kind)

pub mark_blocks-requires-clause-below : goal.mark_blocks-requires-clause-below
mark_blocks-requires-clause-below g c = λ b h.
    let low = data_below c.args.lot.now b (c.in_ok-inode.ensures.fits.places b (subst (λ n. has (uses (λ _. c.look.new.pointers) c.in_ok-inode.inode n) b ≡ true) c.map_blocks-count.ensures h)) in
    omega (arith, low, c.requires.blocks)

pub returns-then-not-mark_blocks-clause-broken : goal.returns-then-not-mark_blocks-clause-broken
returns-then-not-mark_blocks-clause-broken g c = λ m w ins s by used seen.
    twice_here c.args.lot.now m c.args.number c.in_ok-inode.inode (c.in_ok-inode.ensures.value m s) c.in_ok-inode.ensures.kind c.look.new.pointers c.map_blocks-count.result c.map_blocks-count.ensures
    (c.in_ok-inode.ensures.content m s) c.in_ok-inode.ensures.fits w ins c.args.blocks.now by used seen (c.mark_blocks.ensures.twice c.if-not-mark_blocks.true)

pub returns-then-inode-eq1-clause-sound : goal.returns-then-inode-eq1-clause-sound
returns-then-inode-eq1-clause-sound g c = λ m s used.
    sound_here c.args.lot.now m c.args.number c.in_ok-inode.inode (c.in_ok-inode.ensures.value m s) c.in_ok-inode.ensures.kind c.look.new.pointers c.map_blocks-count.result c.map_blocks-count.ensures
    (c.in_ok-inode.ensures.content m s) c.in_ok-inode.ensures.fits used

pub returns-then-inode-eq1-clause-marks : goal.returns-then-inode-eq1-clause-marks
returns-then-inode-eq1-clause-marks g c = λ m s.
    marks_here c.args.lot.now m c.args.number c.in_ok-inode.inode (c.in_ok-inode.ensures.value m s) c.in_ok-inode.ensures.kind c.look.new.pointers c.map_blocks-count.result c.map_blocks-count.ensures
    (c.in_ok-inode.ensures.content m s) c.in_ok-inode.ensures.fits _ _ (c.mark_blocks.ensures.all c.if-not-mark_blocks.false)

pub returns-clause-sound : goal.returns-clause-sound
returns-clause-sound g c = λ m s used.
    sound_here c.args.lot.now m c.args.number c.in_ok-inode.inode (c.in_ok-inode.ensures.value m s) c.in_ok-inode.ensures.kind c.look.new.pointers c.map_blocks-count.result c.map_blocks-count.ensures
    (c.in_ok-inode.ensures.content m s) c.in_ok-inode.ensures.fits used

pub returns-clause-marks : goal.returns-clause-marks
returns-clause-marks g c = λ m s.
    marks_here c.args.lot.now m c.args.number c.in_ok-inode.inode (c.in_ok-inode.ensures.value m s) c.in_ok-inode.ensures.kind c.look.new.pointers c.map_blocks-count.result c.map_blocks-count.ensures
    (c.in_ok-inode.ensures.content m s) c.in_ok-inode.ensures.fits _ _ (c.mark_blocks.ensures.all c.if-not-mark_blocks.false)

pub returns-then-inode-eq1-clause-file : goal.returns-then-inode-eq1-clause-file
returns-then-inode-eq1-clause-file g c = λ m s.
    file_here c.args.lot.now m c.args.number c.in_ok-inode.inode (c.in_ok-inode.ensures.value m s) c.in_ok-inode.ensures.kind c.look.new.pointers c.map_blocks-count.result c.map_blocks-count.ensures
    (c.in_ok-inode.ensures.content m s) c.in_ok-inode.ensures.fits c.if-inode-eq1.true

pub returns-clause-is : goal.returns-clause-is
returns-clause-is g c =
    let dir = dir_kind c.args.lot.now c.args.number c.in_ok-inode.inode c.in_ok-inode.ensures.kind c.if-inode-eq1.false in
    record { kind = dir.0; few = dir.1 }

pub returns-clause-dir : goal.returns-clause-dir
returns-clause-dir g c = λ m s.
    dir_here c.args.lot.now m c.args.number c.in_ok-inode.inode (c.in_ok-inode.ensures.value m s) c.in_ok-inode.ensures.kind c.look.new.pointers c.map_blocks-count.result c.map_blocks-count.ensures
    (c.in_ok-inode.ensures.content m s) c.in_ok-inode.ensures.fits c.if-inode-eq1.false

pub check_bits-requires-clause-short : goal.check_bits-requires-clause-short
check_bits-requires-clause-short g c = subst (λ n. n ≤ longest) (sym c.map_blocks-count.ensures) (map_short c.args.lot.now c.args.number c.in_ok-inode.inode (sited-few _ _ c.requires.sited) c.in_ok-inode.ensures.kind)

pub check_bits-requires-clause-data : goal.check_bits-requires-clause-data
check_bits-requires-clause-data g c = λ b h. c.in_ok-inode.ensures.fits.places b (subst (λ n. has (uses (λ _. c.look.new.pointers) c.in_ok-inode.inode n) b ≡ true) c.map_blocks-count.ensures h)

pub returns-in_err-check_bits-clause-broken : goal.returns-in_err-check_bits-clause-broken
returns-in_err-check_bits-clause-broken g c = λ m w ins s by used seen.
    handed c.from_residual-in_err-check_bits.result c.in_err-check_bits.field-0.0 _ c.from_residual-in_err-check_bits.ensures
    (unused_broke c.args.lot.now m c.args.number c.in_ok-inode.inode (c.in_ok-inode.ensures.value m s) c.in_ok-inode.ensures.kind c.look.new.pointers c.map_blocks-count.result c.map_blocks-count.ensures
    (c.in_ok-inode.ensures.content m s) c.in_ok-inode.ensures.fits w c.in_err-check_bits.field-0.0 by used (c.in_err-check_bits.ensures.clear m (still_shows g.D.Disk g.V.View _ _ _ _ _ m c.look.ensures.looked s)))
