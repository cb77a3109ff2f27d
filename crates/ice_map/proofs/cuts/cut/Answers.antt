use Rattle.std.proofs.Common.{◌+◌, ◌-◌, ◌*◌, false, refl, sym, arith}
use Rattle.ice_base.proofs.LotLaws.{sited-few}
use Rattle.ice_base.proofs.PutsLaws.{puts_after}
use Rattle.ice_map.proofs.CutLaws.{all-self, give-room, gave-next, cut-length, cut-made, cut-none, puts-part, free-part, free-last, marked-from, cut-room-by, cut-run-whole, cut-run-last, last-puts, counted-from}
use Rattle.ice_map.proofs.DamageLaws.{misled-run, misled-single, placed-last, placed-uncut}
use Rattle.ice_map.proofs.GrowLaws.{stays-none, all-stay}
use Rattle.ice_map.proofs.PutsLaws.{puts-none, puts-then, puts-widen, puts-look, spent-then, spent-by, spent-after, bitmaps-one, bitmaps-only}
use Rattle.ice_map.proofs.MarkLaws.{data_not_bitmap, data_not_sub, marked-refl}
use Rattle.ice_map.proofs.cuts.cut.Goals as goal

pub returns-then-rest-count-clause-cut : goal.returns-then-rest-count-clause-cut
returns-then-rest-count-clause-cut g c = λ s.
    cut-made c.args.lot.now _ _ c.args.inode.now _ c.args.count c.args.rest c.shorten.ensures.shortened c.shorten.ensures.long c.requires.order (λ h. refl)
    (rw (cut-none (g.K.View.map c.args.keep.now c.args.disk.now c.args.lot.now) c.args.inode.now c.args.count c.args.rest (omega arith)) (marked-refl c.args.lot.now false _))

pub returns-then-rest-count-clause-placed : goal.returns-then-rest-count-clause-placed
returns-then-rest-count-clause-placed g c = λ s. placed-uncut c.args.lot.now _ c.args.inode.now c.args.count c.args.rest (omega arith)

pub returns-then-rest-count-clause-bitmaps : goal.returns-then-rest-count-clause-bitmaps
returns-then-rest-count-clause-bitmaps g c = puts-none g.K.View c.args.lot.now _ _ _

pub returns-in-Err-clause-puts : goal.returns-in-Err-clause-puts
returns-in-Err-clause-puts g c = λ s. puts-look g.D.Disk g.K.View c.args.lot.now _ _ _ _ _ _ c.read_indirect.ensures.looked

pub returns-in-Err-clause-bitmaps : goal.returns-in-Err-clause-bitmaps
returns-in-Err-clause-bitmaps g c = puts-look g.D.Disk g.K.View c.args.lot.now _ _ _ _ _ _ c.read_indirect.ensures.looked

pub returns-in-Err-clause-misled : goal.returns-in-Err-clause-misled
returns-in-Err-clause-misled g c = λ e s.
    let p = c.in-Err.ensures.pointer e in
    misled-single c.args.lot.now _ c.args.inode.now c.args.count p.0 p.1

pub returns-in-Err-give_between-clause-puts : goal.returns-in-Err-give_between-clause-puts
returns-in-Err-give_between-clause-puts g c = λ s. puts_after g.D.Disk g.K.View c.args.lot.now _ _ _ _ _ _ _ _ c.read_indirect.ensures.looked
    (puts-widen g.K.View c.args.lot.now _ _ _ _ _ _ _ c.in-Err-give_between.ensures.puts (puts-part _ c.read_indirect.new.into c.args.inode.now c.args.count c.args.rest (c.in-Ok.ensures.content s)))

pub returns-in-Err-give_between-clause-bitmaps : goal.returns-in-Err-give_between-clause-bitmaps
returns-in-Err-give_between-clause-bitmaps g c = puts_after g.D.Disk g.K.View c.args.lot.now _ _ _ _ _ _ _ _ c.read_indirect.ensures.looked c.in-Err-give_between.ensures.bitmaps

pub returns-in-Err-give_between-clause-spent : goal.returns-in-Err-give_between-clause-spent
returns-in-Err-give_between-clause-spent g c =
    let p = returns-in-Err-give_between-clause-bitmaps g c in
    let t = spent-after g.D.Disk g.K.View c.args.lot.now _ _ _ _ _ _ _ c.read_indirect.ensures.looked c.give_between.ensures.spent in
    spent-by g.D.Disk g.K.View c.args.lot.now _ _ _ _ _ _ t (cut-room-by g.K.View c.args.lot.now _ _ _ _ _ c.args.count c.args.rest _ (sited-few _ _ c.requires.sited) p t.room (λ h. omega arith))

pub returns-in-Err-give_between-clause-stays : goal.returns-in-Err-give_between-clause-stays
returns-in-Err-give_between-clause-stays g c = stays-none c.args.lot.now _ _ _ (sited-few _ _ c.requires.sited) (bitmaps-only g.K.View c.args.lot.now _ _ _ _ _ _ (returns-in-Err-give_between-clause-bitmaps g c))

pub returns-in-Err-give_between-clause-others : goal.returns-in-Err-give_between-clause-others
returns-in-Err-give_between-clause-others g c = λ other n owns. all-stay c.args.lot.now _ _ other n (returns-in-Err-give_between-clause-stays g c) owns

pub returns-in-Err-give_between-clause-zero : goal.returns-in-Err-give_between-clause-zero
returns-in-Err-give_between-clause-zero g c = λ e s.
    let z = c.in-Err-give_between.ensures.zero e (c.read_indirect.ensures.looked.shows s) in
    let l = cut-length (g.K.View.map c.args.keep.now c.args.disk.now c.args.lot.now) c.args.inode.now c.args.count c.args.rest in
    counted-from _ _ _ _ c.read_indirect.ensures.looked.map z l

pub returns-in-Err-give_between-clause-unused : goal.returns-in-Err-give_between-clause-unused
returns-in-Err-give_between-clause-unused g c = λ e s.
    free-part _ _ c.read_indirect.new.into c.args.inode.now c.args.count c.args.rest c.read_indirect.ensures.looked.map (c.in-Ok.ensures.content s)
    (c.in-Err-give_between.ensures.unused e (c.read_indirect.ensures.looked.shows s))

pub returns-in-Err-give_between-clause-misled : goal.returns-in-Err-give_between-clause-misled
returns-in-Err-give_between-clause-misled g c = λ e s.
    let p = c.in-Err-give_between.ensures.pointer e in
    misled-run c.args.lot.now _ c.read_indirect.new.into c.args.inode.now c.args.count p.0 (c.in-Ok.ensures.content s) p.2 p.3

pub returns-then-count-le12-clause-bitmaps : goal.returns-then-count-le12-clause-bitmaps
returns-then-count-le12-clause-bitmaps g c = puts_after g.D.Disk g.K.View c.args.lot.now _ _ _ _ _ _ _ _ c.read_indirect.ensures.looked c.in-Ok-give_between.ensures.bitmaps

pub returns-then-count-le12-clause-cut : goal.returns-then-count-le12-clause-cut
returns-then-count-le12-clause-cut g c = λ s.
    cut-made c.args.lot.now _ _ c.args.inode.now _ c.args.count c.args.rest c.shorten-then-count-le12.ensures.shortened c.shorten-then-count-le12.ensures.long c.requires.order
    (λ h. bitmaps-only g.K.View c.args.lot.now _ _ _ _ _ _ (returns-then-count-le12-clause-bitmaps g c) c.args.inode.now.single
    (λ e. data_not_sub c.args.lot.now _ (sited-few _ _ c.requires.sited) (c.in-Ok.ensures.data (omega arith)) (sym e)) (λ o e. data_not_bitmap c.args.lot.now _ o (c.in-Ok.ensures.data (omega arith)) (sym e)))
    (marked-from _ _ _ _ _ _ _ c.read_indirect.ensures.looked.map
    (cut-run-whole _ c.read_indirect.new.into c.args.inode.now c.args.count c.args.rest c.then-count-le12.either (c.in-Ok.ensures.content s))
    (c.in-Ok-give_between.ensures.gave (c.read_indirect.ensures.looked.shows s)))

pub returns-then-count-le12-clause-placed : goal.returns-then-count-le12-clause-placed
returns-then-count-le12-clause-placed g c = λ s. rw (cut-run-whole _ c.read_indirect.new.into c.args.inode.now c.args.count c.args.rest c.then-count-le12.either (c.in-Ok.ensures.content s)) c.in-Ok-give_between.ensures.placed

pub returns-then-count-le12-clause-puts : goal.returns-then-count-le12-clause-puts
returns-then-count-le12-clause-puts g c = λ s. puts_after g.D.Disk g.K.View c.args.lot.now _ _ _ _ _ _ _ _ c.read_indirect.ensures.looked
    (puts-widen g.K.View c.args.lot.now _ _ _ _ _ _ _ c.in-Ok-give_between.ensures.puts (puts-part _ c.read_indirect.new.into c.args.inode.now c.args.count c.args.rest (c.in-Ok.ensures.content s)))

pub returns-then-count-le12-clause-spent : goal.returns-then-count-le12-clause-spent
returns-then-count-le12-clause-spent g c =
    let p = returns-then-count-le12-clause-bitmaps g c in
    let t = spent-after g.D.Disk g.K.View c.args.lot.now _ _ _ _ _ _ _ c.read_indirect.ensures.looked c.give_between.ensures.spent in
    spent-by g.D.Disk g.K.View c.args.lot.now _ _ _ _ _ _ t (cut-room-by g.K.View c.args.lot.now _ _ _ _ _ c.args.count c.args.rest _ (sited-few _ _ c.requires.sited) p t.room (λ h. omega arith))

pub returns-then-count-le12-clause-stays : goal.returns-then-count-le12-clause-stays
returns-then-count-le12-clause-stays g c = stays-none c.args.lot.now _ _ _ (sited-few _ _ c.requires.sited) (bitmaps-only g.K.View c.args.lot.now _ _ _ _ _ _ (returns-then-count-le12-clause-bitmaps g c))

pub returns-then-count-le12-clause-others : goal.returns-then-count-le12-clause-others
returns-then-count-le12-clause-others g c = λ other n owns. all-stay c.args.lot.now _ _ other n (returns-then-count-le12-clause-stays g c) owns

pub give_block-requires-clause-room : goal.give_block-requires-clause-room
give_block-requires-clause-room g c =
    let r = c.read_indirect.ensures.looked.room in
    give-room g.K.View c.args.lot.now _ _ _ _ c.args.count c.args.rest c.args.count c.args.inode.now.single (let q = c.requires.room in omega arith) c.give_between.ensures.spent.room c.in-Ok-give_between.ensures.bitmaps (omega arith) (omega arith)
    (sited-few _ _ c.requires.sited) (c.in-Ok.ensures.data (omega arith))

pub returns-in-Ok-give_block-clause-bitmaps : goal.returns-in-Ok-give_block-clause-bitmaps
returns-in-Ok-give_block-clause-bitmaps g c = puts_after g.D.Disk g.K.View c.args.lot.now _ _ _ _ _ _ _ _ c.read_indirect.ensures.looked
    (puts-then g.K.View c.args.lot.now _ _ _ _ _ _ _ _ _ _ c.in-Ok-give_between.ensures.bitmaps c.in-Ok-give_block.ensures.puts (all-self _) (bitmaps-one c.args.lot.now c.args.inode.now.single (c.in-Ok.ensures.data (omega arith))))

pub returns-in-Err-give_block-clause-bitmaps : goal.returns-in-Err-give_block-clause-bitmaps
returns-in-Err-give_block-clause-bitmaps g c = puts_after g.D.Disk g.K.View c.args.lot.now _ _ _ _ _ _ _ _ c.read_indirect.ensures.looked
    (puts-then g.K.View c.args.lot.now _ _ _ _ _ _ _ _ _ _ c.in-Ok-give_between.ensures.bitmaps c.in-Err-give_block.ensures.puts (all-self _) (bitmaps-one c.args.lot.now c.args.inode.now.single (c.in-Ok.ensures.data (omega arith))))

pub returns-in-Ok-give_block-clause-cut : goal.returns-in-Ok-give_block-clause-cut
returns-in-Ok-give_block-clause-cut g c = λ s.
    let t = c.read_indirect.ensures.looked.shows s in
    cut-made c.args.lot.now _ _ c.args.inode.now _ c.args.count c.args.rest c.shorten-in-Ok-give_block.ensures.shortened c.shorten-in-Ok-give_block.ensures.long c.requires.order (λ h. absurd (omega arith))
    (marked-from _ _ _ _ _ _ _ c.read_indirect.ensures.looked.map (cut-run-last _ c.read_indirect.new.into c.args.inode.now c.args.count c.args.rest (omega arith) (omega arith) (c.in-Ok.ensures.content s))
    (gave-next c.args.lot.now _ _ _ _ c.args.inode.now.single (c.in-Ok.ensures.data (omega arith)) (c.in-Ok-give_between.ensures.gave t) (c.in-Ok-give_block.ensures.gave (c.give_between.ensures.spent.shows t)) c.in-Ok-give_block.ensures.puts.only))

pub returns-in-Ok-give_block-clause-placed : goal.returns-in-Ok-give_block-clause-placed
returns-in-Ok-give_block-clause-placed g c = λ s.
    placed-last c.args.lot.now _ c.read_indirect.new.into c.args.inode.now c.args.count c.args.rest (omega arith) (omega arith) (c.in-Ok.ensures.content s) (c.in-Ok.ensures.data (omega arith)) c.in-Ok-give_between.ensures.placed

pub returns-in-Ok-give_block-clause-puts : goal.returns-in-Ok-give_block-clause-puts
returns-in-Ok-give_block-clause-puts g c = λ s. puts_after g.D.Disk g.K.View c.args.lot.now _ _ _ _ _ _ _ _ c.read_indirect.ensures.looked
    (last-puts g.K.View c.args.lot.now _ _ c.read_indirect.new.into c.args.inode.now c.args.count c.args.rest _ _ _ _ _ _ (omega arith) (omega arith) (c.in-Ok.ensures.content s) c.in-Ok-give_between.ensures.puts c.in-Ok-give_block.ensures.puts)

pub returns-in-Err-give_block-clause-puts : goal.returns-in-Err-give_block-clause-puts
returns-in-Err-give_block-clause-puts g c = λ s. puts_after g.D.Disk g.K.View c.args.lot.now _ _ _ _ _ _ _ _ c.read_indirect.ensures.looked
    (last-puts g.K.View c.args.lot.now _ _ c.read_indirect.new.into c.args.inode.now c.args.count c.args.rest _ _ _ _ _ _ (omega arith) (omega arith) (c.in-Ok.ensures.content s) c.in-Ok-give_between.ensures.puts c.in-Err-give_block.ensures.puts)

pub returns-in-Ok-give_block-clause-spent : goal.returns-in-Ok-give_block-clause-spent
returns-in-Ok-give_block-clause-spent g c =
    let p = returns-in-Ok-give_block-clause-bitmaps g c in
    let t = spent-after g.D.Disk g.K.View c.args.lot.now _ _ _ _ _ _ _ c.read_indirect.ensures.looked (spent-then g.D.Disk g.K.View c.args.lot.now _ _ (2 * (c.args.count - c.args.rest) + 2) _ _ _ _ _ _ c.give_between.ensures.spent c.give_block.ensures.spent (omega arith)) in
    spent-by g.D.Disk g.K.View c.args.lot.now _ _ _ _ _ _ t (cut-room-by g.K.View c.args.lot.now _ _ _ _ _ c.args.count c.args.rest _ (sited-few _ _ c.requires.sited) p t.room (λ h. omega arith))

pub returns-in-Err-give_block-clause-spent : goal.returns-in-Err-give_block-clause-spent
returns-in-Err-give_block-clause-spent g c =
    let p = returns-in-Err-give_block-clause-bitmaps g c in
    let t = spent-after g.D.Disk g.K.View c.args.lot.now _ _ _ _ _ _ _ c.read_indirect.ensures.looked (spent-then g.D.Disk g.K.View c.args.lot.now _ _ (2 * (c.args.count - c.args.rest) + 2) _ _ _ _ _ _ c.give_between.ensures.spent c.give_block.ensures.spent (omega arith)) in
    spent-by g.D.Disk g.K.View c.args.lot.now _ _ _ _ _ _ t (cut-room-by g.K.View c.args.lot.now _ _ _ _ _ c.args.count c.args.rest _ (sited-few _ _ c.requires.sited) p t.room (λ h. omega arith))

pub returns-in-Ok-give_block-clause-stays : goal.returns-in-Ok-give_block-clause-stays
returns-in-Ok-give_block-clause-stays g c = stays-none c.args.lot.now _ _ _ (sited-few _ _ c.requires.sited) (bitmaps-only g.K.View c.args.lot.now _ _ _ _ _ _ (returns-in-Ok-give_block-clause-bitmaps g c))

pub returns-in-Err-give_block-clause-stays : goal.returns-in-Err-give_block-clause-stays
returns-in-Err-give_block-clause-stays g c = stays-none c.args.lot.now _ _ _ (sited-few _ _ c.requires.sited) (bitmaps-only g.K.View c.args.lot.now _ _ _ _ _ _ (returns-in-Err-give_block-clause-bitmaps g c))

pub returns-in-Ok-give_block-clause-others : goal.returns-in-Ok-give_block-clause-others
returns-in-Ok-give_block-clause-others g c = λ other n owns. all-stay c.args.lot.now _ _ other n (returns-in-Ok-give_block-clause-stays g c) owns

pub returns-in-Err-give_block-clause-others : goal.returns-in-Err-give_block-clause-others
returns-in-Err-give_block-clause-others g c = λ other n owns. all-stay c.args.lot.now _ _ other n (returns-in-Err-give_block-clause-stays g c) owns

pub returns-in-Err-give_block-clause-unused : goal.returns-in-Err-give_block-clause-unused
returns-in-Err-give_block-clause-unused g c = λ e s.
    let t = c.read_indirect.ensures.looked.shows s in
    free-last c.args.lot.now _ _ _ c.read_indirect.new.into c.args.inode.now c.args.count c.args.rest c.read_indirect.ensures.looked.map (omega arith) (omega arith) (c.in-Ok.ensures.content s)
    (c.in-Ok-give_between.ensures.gave t) (c.in-Err-give_block.ensures.unused e (c.give_between.ensures.spent.shows t))
