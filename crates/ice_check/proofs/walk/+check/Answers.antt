use Rattle.std.proofs.Common.{◌≡◌, ◌+◌, [], ◌∷◌, ◌++◌, length, refl, sym, ◌∙◌, subst, arith}
use Rattle.std.specs.Prelude.{IfNone, IfSome}
use Rattle.tree_spec.specs.Costs.{form_one}
use Rattle.ice_map.specs.declared.codec.Inode.{Inode}
use Rattle.ice_map.specs.Inodes.{inode_of}
use Rattle.ice_map.specs.Own.{own}
use Rattle.ice_reads.specs.Tables.{rows_in}
use Rattle.ice_check.proofs.Checks.{file_checked, dir_checked, none_checked, more_checked}
use Rattle.ice_check.proofs.ShownLaws.{handed, ok-then, still_shows, looked_then}
use Rattle.ice_check.proofs.Walking.{bit_broken, deep_broken, twice_broken, looks, walks_to, seen_file, seen_dir, at_child, seen_next, seen_whole}
use Rattle.ice_check.proofs.walk.+check.Goals as goal

pub check_inode-returns-then-not-used-clause-broken : goal.check_inode-returns-then-not-used-clause-broken
check_inode-returns-then-not-used-clause-broken g t c = λ m w s at seen.
    bit_broken form_one c.args.lot.now m w c.args.number c.args.depth at c.requires.depth c.requires.number (sym (c.in_ok-used.ensures.value m s) ∙ c.if-not-used.true)

pub check_inode-returns-then-depth-gt24-clause-broken : goal.check_inode-returns-then-depth-gt24-clause-broken
check_inode-returns-then-depth-gt24-clause-broken g t c = λ m w s at seen.
    deep_broken form_one c.args.lot.now m w c.args.number c.args.depth at c.requires.depth c.if-depth-gt24.true (sym (c.in_ok-used.ensures.value m s) ∙ c.if-not-used.false)

pub check_inode-returns-then-not-mark-clause-broken : goal.check_inode-returns-then-not-mark-clause-broken
check_inode-returns-then-not-mark-clause-broken g t c = λ m w s at seen.
    twice_broken form_one c.args.lot.now m w c.args.number c.args.depth at c.args.inodes.now c.args.blocks.now c.requires.depth (sym (c.in_ok-used.ensures.value m s) ∙ c.if-not-used.false) seen (c.mark.ensures.twice c.if-not-mark.true)

pub check_inode-returns-in_err-visit-clause-broken : goal.check_inode-returns-in_err-visit-clause-broken
check_inode-returns-in_err-visit-clause-broken g t c = λ m w s at seen.
    handed c.from_residual-in_err-visit.result c.in_err-visit.field-0.0 _ c.from_residual-in_err-visit.ensures
    (c.in_err-visit.ensures.broken m w c.args.inodes.now (still_shows g.D.Disk g.V.View _ _ _ _ _ m c.is_used.ensures.looked s) (walks_to form_one c.args.lot.now m w c.args.number c.args.depth at c.requires.depth) (sym (c.in_ok-used.ensures.value m s) ∙ c.if-not-used.false) seen)

pub check_inode-returns-in-None-clause-checked : goal.check_inode-returns-in-None-clause-checked
check_inode-returns-in-None-clause-checked g t c = λ m s.
    let used = sym (c.in_ok-used.ensures.value m s) ∙ c.if-not-used.false in
    let later = still_shows g.D.Disk g.V.View _ _ _ _ _ m c.is_used.ensures.looked s in
    file_checked form_one c.args.lot.now m c.args.number c.args.depth _ _ _ _ c.requires.number c.if-depth-gt24.false (c.in_ok-visit.ensures.sound m later used) (subst (λ o. IfNone o ((own form_one m c.args.number).inode.kind ≡ 1)) c.in-None.is (c.in_ok-visit.ensures.file m later))
    (c.mark.ensures.new c.if-not-mark.false) (c.in_ok-visit.ensures.marks m later)

pub check_inode-returns-in-None-clause-seen : goal.check_inode-returns-in-None-clause-seen
check_inode-returns-in-None-clause-seen g t c = λ m w s at seen.
    let used = sym (c.in_ok-used.ensures.value m s) ∙ c.if-not-used.false in
    let later = still_shows g.D.Disk g.V.View _ _ _ _ _ m c.is_used.ensures.looked s in
    seen_file form_one c.args.lot.now m w c.args.number c.args.depth at c.args.inodes.now _ c.args.blocks.now _ c.if-depth-gt24.false used (c.in_ok-visit.ensures.sound m later used) seen
    (c.mark.ensures.new c.if-not-mark.false) (c.in_ok-visit.ensures.marks m later)

pub check_inode-returns-in-Some-clause-checked : goal.check_inode-returns-in-Some-clause-checked
check_inode-returns-in-Some-clause-checked g t c = λ m s.
    let used = sym (c.in_ok-used.ensures.value m s) ∙ c.if-not-used.false in
    let later = still_shows g.D.Disk g.V.View _ _ _ _ _ m c.is_used.ensures.looked s in
    let dir = subst (λ o. IfSome o (λ (n : Inode). ((own form_one m c.args.number).inode.kind ≡ 2) × (n.size ≡ length (rows_in form_one (own form_one m c.args.number))))) c.in-Some.is (c.in_ok-visit.ensures.dir m later) in
    let own = c.mark.ensures.new c.if-not-mark.false in
    let sound = c.in_ok-visit.ensures.sound m later used in
    let further = still_shows g.D.Disk g.V.View _ _ _ _ _ m c.visit.ensures.looked later in
    ok-then c.check_rows.result _ _ (λ rows. dir_checked form_one c.args.lot.now m c.args.number c.args.depth c.in-Some.node.size _ _ _ _ _ _ c.requires.number c.if-depth-gt24.false sound dir.0 dir.1 own (c.in_ok-visit.ensures.marks m later) rows)
    (c.check_rows.ensures.checked m c.args.number further (subst (λ o. IfSome o (λ (n : Inode). n ≡ inode_of m c.args.number)) c.in-Some.is (c.in_ok-visit.ensures.hand m later)) (record { sound = sound; dir = dir.0 }) dir.1)

pub check_inode-returns-in-Some-clause-broken : goal.check_inode-returns-in-Some-clause-broken
check_inode-returns-in-Some-clause-broken g t c = λ m w s at seen.
    let used = sym (c.in_ok-used.ensures.value m s) ∙ c.if-not-used.false in
    let later = still_shows g.D.Disk g.V.View _ _ _ _ _ m c.is_used.ensures.looked s in
    let dir = subst (λ o. IfSome o (λ (n : Inode). ((own form_one m c.args.number).inode.kind ≡ 2) × (n.size ≡ length (rows_in form_one (own form_one m c.args.number))))) c.in-Some.is (c.in_ok-visit.ensures.dir m later) in
    let own = c.mark.ensures.new c.if-not-mark.false in
    let sound = c.in_ok-visit.ensures.sound m later used in
    let further = still_shows g.D.Disk g.V.View _ _ _ _ _ m c.visit.ensures.looked later in
    c.check_rows.ensures.broken m w c.args.number further (subst (λ o. IfSome o (λ (n : Inode). n ≡ inode_of m c.args.number)) c.in-Some.is (c.in_ok-visit.ensures.hand m later)) (record { sound = sound; dir = dir.0 }) dir.1 at
    (seen_dir form_one c.args.lot.now m w c.args.number c.args.depth at c.args.inodes.now _ c.args.blocks.now _ c.if-depth-gt24.false used sound seen own (c.in_ok-visit.ensures.marks m later))

pub check_inode-returns-in-Some-clause-seen : goal.check_inode-returns-in-Some-clause-seen
check_inode-returns-in-Some-clause-seen g t c = λ m w s at seen.
    let used = sym (c.in_ok-used.ensures.value m s) ∙ c.if-not-used.false in
    let later = still_shows g.D.Disk g.V.View _ _ _ _ _ m c.is_used.ensures.looked s in
    let dir = subst (λ o. IfSome o (λ (n : Inode). ((own form_one m c.args.number).inode.kind ≡ 2) × (n.size ≡ length (rows_in form_one (own form_one m c.args.number))))) c.in-Some.is (c.in_ok-visit.ensures.dir m later) in
    let own = c.mark.ensures.new c.if-not-mark.false in
    let sound = c.in_ok-visit.ensures.sound m later used in
    let further = still_shows g.D.Disk g.V.View _ _ _ _ _ m c.visit.ensures.looked later in
    c.check_rows.ensures.seen m w c.args.number further (subst (λ o. IfSome o (λ (n : Inode). n ≡ inode_of m c.args.number)) c.in-Some.is (c.in_ok-visit.ensures.hand m later)) (record { sound = sound; dir = dir.0 }) dir.1 at
    (seen_dir form_one c.args.lot.now m w c.args.number c.args.depth at c.args.inodes.now _ c.args.blocks.now _ c.if-depth-gt24.false used sound seen own (c.in_ok-visit.ensures.marks m later))

pub check_rows-loop-k-init : goal.check_rows-loop-k-init
check_rows-loop-k-init g t c = record {
  looked = c.check_names.ensures.looked;
  long = refl;
  wide = refl;
  room = c.check_names.ensures.long;
  checked = λ m number s hand o e. none_checked form_one _ m _ _ _ _;
  seen = λ m w number s hand o e at seen. seen;
}

pub check_rows-returns-in_err-check_names-clause-broken : goal.check_rows-returns-in_err-check_names-clause-broken
check_rows-returns-in_err-check_names-clause-broken g t c = λ m w number s hand o e at seen.
    handed c.from_residual.result c.in_err-check_names.field-0.0 _ c.from_residual.ensures
    (c.in_err-check_names.ensures.broken m w number s hand (looks form_one c.args.lot.now m w number c.args.depth at c.requires.depth o) e)

pub check_rows-returns-in_err-next-clause-broken : goal.check_rows-returns-in_err-next-clause-broken
check_rows-returns-in_err-next-clause-broken g t c = λ m w number s hand o e at seen.
    handed c.from_residual-in_err-next.result c.in_err-next.field-0.0 _ c.from_residual-in_err-next.ensures
    (c.in_err-next.ensures.broken m w number (still_shows g.D.Disk g.V.View _ _ _ _ _ m c.loop-k.invariant.looked s) hand (looks form_one c.args.lot.now m w number c.args.depth at c.requires.depth o) (omega (arith, e, c.loop-k-test.true)))

pub check_rows-returns-in_err-check_inode-clause-broken : goal.check_rows-returns-in_err-check_inode-clause-broken
check_rows-returns-in_err-check_inode-clause-broken g t c = λ m w number s hand o e at seen.
    let here = still_shows g.D.Disk g.V.View _ _ _ _ _ m c.loop-k.invariant.looked s in
    let good = c.in_ok-next.ensures.good m number here hand (c.in_ok-check_names.ensures.new m number s hand e) in
    handed c.from_residual-in_err-check_inode.result c.in_err-check_inode.field-0.0 _ c.from_residual-in_err-check_inode.ensures
    (c.in_err-check_inode.ensures.broken m (w ++ c.loop-k.k ∷ []) (still_shows g.D.Disk g.V.View _ _ _ _ _ m c.next_inode.ensures.looked here) (at_child form_one c.args.lot.now m w number c.args.depth at c.loop-k.k c.in_ok-next.next o good) (c.loop-k.invariant.seen m w number s hand o e at seen))

pub check_rows-loop-k-preserved : goal.check_rows-loop-k-preserved
check_rows-loop-k-preserved g t c =
    record {
      looked = looked_then g.D.Disk g.V.View _ _ _ _ _ _ _ c.loop-k.invariant.looked (looked_then g.D.Disk g.V.View _ _ _ _ _ _ _ c.next_inode.ensures.looked c.check_inode.ensures.looked);
      long = c.check_inode.ensures.long ∙ c.loop-k.invariant.long;
      wide = c.check_inode.ensures.wide ∙ c.loop-k.invariant.wide;
      room = c.check_inode.ensures.room ∙ c.loop-k.invariant.room;
      checked = λ m number s hand o e.
          let here = still_shows g.D.Disk g.V.View _ _ _ _ _ m c.loop-k.invariant.looked s in
          let good = c.in_ok-next.ensures.good m number here hand (c.in_ok-check_names.ensures.new m number s hand e) in
          more_checked form_one c.args.lot.now m number (c.args.depth + 1) c.loop-k.k c.in_ok-next.next _ _ _ _ _ _ good
          (c.in_ok-check_inode.ensures.checked m (still_shows g.D.Disk g.V.View _ _ _ _ _ m c.next_inode.ensures.looked here)) (c.loop-k.invariant.checked m number s hand o e);
      seen = λ m w number s hand o e at seen.
          let here = still_shows g.D.Disk g.V.View _ _ _ _ _ m c.loop-k.invariant.looked s in
          let good = c.in_ok-next.ensures.good m number here hand (c.in_ok-check_names.ensures.new m number s hand e) in
          seen_next form_one c.args.lot.now m w c.loop-k.k _ _
          (c.in_ok-check_inode.ensures.seen m (w ++ c.loop-k.k ∷ []) (still_shows g.D.Disk g.V.View _ _ _ _ _ m c.next_inode.ensures.looked here) (at_child form_one c.args.lot.now m w number c.args.depth at c.loop-k.k c.in_ok-next.next o good) (c.loop-k.invariant.seen m w number s hand o e at seen));
    }

pub check_rows-returns-clause-seen : goal.check_rows-returns-clause-seen
check_rows-returns-clause-seen g t c = λ m w number s hand o e at seen. seen_whole form_one c.args.lot.now m w c.loop-k.k _ _ (c.loop-k.invariant.seen m w number s hand o e at seen)
