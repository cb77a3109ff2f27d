use Rattle.std.proofs.Common.{◌≡◌, ◌*◌, ◌-◌, ℕ, true, false, ◌∷◌, length}
use Rattle.ice_base.specs.Lots.{sub_address}
use Rattle.ice_base.specs.Spare.{has, bitmaps}
use Rattle.ice_base.specs.Used.{is_data}
use Rattle.ice_base.specs.Views.{Spent, Puts}
use Rattle.ice_map.specs.Maps.{blocks_between, given_puts, Marked}
use Rattle.ice_map.proofs.cuts.give_between.Given as goal

abbrev pub invariant-loop-k : goal.invariant-loop-k
invariant-loop-k g l = record {
  spent : Spent g.D.Disk g.K.View l.lot (2 * (l.k - l.fn.rest)) l.initial.keep l.initial.disk l.keep l.disk;
  puts : Puts g.K.View l.lot true (given_puts (blocks_between (λ _. l.block) l.inode l.fn.rest l.k)) l.initial.keep l.initial.disk l.keep l.disk;
  bitmaps : Puts g.K.View l.lot true (sub_address ∷ bitmaps (length l.lot.groups)) l.initial.keep l.initial.disk l.keep l.disk;
  gave : g.K.View.shows l.lot l.initial.keep l.initial.disk → Marked l.lot false (g.K.View.map l.initial.keep l.initial.disk l.lot) (g.K.View.map l.keep l.disk l.lot) (blocks_between (λ _. l.block) l.inode l.fn.rest l.k);
  placed : (b : ℕ) → has (blocks_between (λ _. l.block) l.inode l.fn.rest l.k) b ≡ true → is_data l.lot b ≡ true;
}
