-- Where the journals lie: their blocks are apart, and lie among those of the tables or of the lot.
use Rattle.std.proofs.Common.{◌≡◌, inl, inr, ◌<◌, ◌+◌, ◌-◌, ◌*◌, ℕ, true, refl, sym, subst, arith}
use Rattle.ice_base.specs.Lots.{LotView, IsLot, place, is_sited, extent}
use Rattle.ice_base.proofs.LotLaws.{place-in, place-apart, place-sited, area_in, area_below, sited-below, gate_in, header_in, home_not_gate, home_not_header, home_not_body}
use Rattle.ice_layout.specs.Headers.{slot_targets, system_targets}
use Rattle.ice_layout.proofs.HeaderLaws.{may_be}
use Rattle.ice_tables.specs.Journals.{lot_places, system_places}
use Rattle.ice_tables.proofs.JournalLaws.{table-range}
use Rattle.ice_journal.specs.declared.area.Area.{Area}
use Rattle.ice_journal.specs.Areas.{tables_area, slot_area, IsAreaOf}
use Rattle.ice_journal.specs.Blocks.{AreApart, JournalExtent}

-- The blocks of the tables' journal are different ones.
pub system_apart : AreApart system_places 8
system_apart = record {
  gate_header = λ e. omega (arith, e);
  gate_body = λ e. omega (arith, e.0);
  header_body = λ e. omega (arith, e.0);
  home_gate = λ a is e. omega (arith, (table-range a is).0, e);
  home_header = λ a is e. omega (arith, (table-range a is).0, e);
  home_body = λ a is e. omega (arith, (table-range a is).0, e.1);
  home_home = λ a b p q e. e;
}

-- The blocks of a lot's journal are different ones.
pub lot_apart : (lot : LotView) → IsLot lot → AreApart (lot_places lot) 240
lot_apart lot l = record {
  gate_header = λ e. omega (arith, e);
  gate_body = λ e. omega (arith, e.0);
  header_body = λ e. omega (arith, e.0);
  home_gate = λ a is e. home_not_gate lot a l is e;
  home_header = λ a is e. home_not_header lot a l is e;
  home_body = λ a is e. home_not_body lot a (place lot a - (35 + 256 * lot.slot)) l (omega (arith, e.0, e.1)) is (omega (arith, e.0));
  home_home = λ a b p q e. place-apart lot a b l p q e;
}

-- The area of the tables is that of their journal.
pub system_area_of : (area : Area) → area ≡ tables_area → IsAreaOf area system_targets system_places 8
system_area_of area e = subst (λ (x : Area). IsAreaOf x system_targets system_places 8) (sym e) (record {
  gate = refl;
  header = refl;
  body = refl;
  is_area = inl refl;
  bodies = refl;
  targets = λ a is. is;
  apart = system_apart;
  names = λ targets header named all. named;
})

-- The area of a lot's slot is that of its journal.
pub lot_area_of : (lot : LotView) (area : Area) → IsLot lot → area ≡ slot_area lot → IsAreaOf area (slot_targets lot) (lot_places lot) 240
lot_area_of lot area l e = subst (λ (x : Area). IsAreaOf x (slot_targets lot) (lot_places lot) 240) (sym e) (record {
  gate = refl;
  header = refl;
  body = refl;
  is_area = inr (lot.slot, l.slot, refl);
  bodies = refl;
  targets = λ a is. may_be lot a l.few is;
  apart = lot_apart lot l;
  names = λ targets header named all. named lot refl all;
})

pub ruleset area_laws = (system_area_of, lot_area_of)

-- The blocks of a lot's journal are blocks of the lot.
pub lot_extent : (lot : LotView) (k : ℕ) → JournalExtent (lot_places lot) 240 k → extent lot k
lot_extent lot k (inl gate) = subst (extent lot) (sym gate) (gate_in lot)
lot_extent lot k (inr (inl (inl header))) = subst (extent lot) (sym header) (header_in lot)
lot_extent lot k (inr (inl (inr body))) = area_in lot k (omega (arith, body.0)) (omega (arith, body.1))
lot_extent lot k (inr (inr home)) = subst (extent lot) (sym home.2) (place-in lot home.0 home.1)

-- They lie on the disk of a lot that is sited there.
pub lot_below : (lot : LotView) (n k : ℕ) → is_sited lot n ≡ true → JournalExtent (lot_places lot) 240 k → k < n
lot_below lot n k sited (inl gate) = omega (arith, gate, area_below lot n (sited-below lot n sited))
lot_below lot n k sited (inr (inl (inl header))) = omega (arith, header, area_below lot n (sited-below lot n sited))
lot_below lot n k sited (inr (inl (inr body))) = omega (arith, body.1, area_below lot n (sited-below lot n sited))
lot_below lot n k sited (inr (inr home)) = subst (λ (x : ℕ). x < n) (sym home.2) (place-sited lot n home.0 sited home.1)
