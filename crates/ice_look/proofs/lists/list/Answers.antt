use Rattle.std.proofs.Common.{ℕ, ◌+◌, ◌≡◌, List, Ok, length, map, drop, ◌∙◌, ap, sym, subst, arith}
use Rattle.std.specs.List.Sorted.{IsPermutation}
use Rattle.ice_base.proofs.LotLaws.{sited-few}
use Rattle.tree_spec.specs.Costs.{form_of}
use Rattle.tree_spec.specs.Replies.{accepted_of, Tallies}
use Rattle.tree_spec.specs.Trees.{Dir}
use Rattle.ice_reads.specs.Reads.{Reads}
use Rattle.ice_map.specs.Inodes.{inode_of}
use Rattle.ice_map.specs.Own.{own}
use Rattle.ice_reads.specs.Tables.{rows_in}
use Rattle.ice_reads.proofs.Focus.{Reads-part}
use Rattle.ice_look.specs.Listings.{listed_as}
use Rattle.ice_look.proofs.ListLaws.{sorted-listing}
use Rattle.ice_look.proofs.LookLaws.{list-paths, list-walk, list-value, fault_model}
use Rattle.ice_map.specs.declared.codec.Inode.{Inode}
use Rattle.ice_look.specs.Broken.{BadEntry, IsBroken, IsBrokenBy}
use Rattle.ice_look.proofs.FaultLaws.{fault-names}
use Rattle.ice_look.specs.Places.{IsReached}
use Rattle.ice_look.proofs.SoundLaws.{no-bad-entry}
use Rattle.ice_look.proofs.lists.list.Goals as goal

pub add_entries-requires-clause-few : goal.add_entries-requires-clause-few
add_entries-requires-clause-few g c = let few = sited-few _ _ c.requires.sited in let below = c.in-Ok.ensures.fits.count in omega (arith, few, below)

pub returns-in-Err-clause-answers : goal.returns-in-Err-clause-answers
returns-in-Err-clause-answers g c = λ mode k t s recovers. list-paths t k (length c.args.lot.now.groups) (form_of g.F.Form.VERSION) (drop c.args.depth c.args.path.now) _ c.in-Err.ensures.refusal

pub returns-in-Err-dir_at-clause-answers : goal.returns-in-Err-dir_at-clause-answers
returns-in-Err-dir_at-clause-answers g c = λ mode k t s recovers.
    list-walk t k (length c.args.lot.now.groups) (form_of g.F.Form.VERSION) (drop c.args.depth c.args.path.now) c.in_default.ensures.refusal _ (c.in-Err-dir_at.ensures.found mode k t s recovers)

pub returns-in-Err-add_entries-clause-answers : goal.returns-in-Err-add_entries-clause-answers
returns-in-Err-add_entries-clause-answers g c = λ mode k t s recovers.
    let f = form_of g.F.Form.VERSION in
    let m : ℕ → List ℕ = g.V.View.map c.args.view.now c.args.disk.now c.args.lot.now in
    let names = drop c.args.depth c.args.path.now in
    let x = c.in-Ok.ensures.found mode k t s recovers in
    let looked = c.dir_at.ensures.looked in
    let r : Reads f c.args.lot.now (own f m) c.in-Ok.dir.number (0 + length names) (Dir x.inside) =
    subst (λ j. Reads f c.args.lot.now (own f m) j (0 + length names) (Dir x.inside)) (sym x.number) (Reads-part f c.args.lot.now (own f m) names 0 0 t (Dir x.inside) x.there recovers.holds.reads) in
    fault_model _ c.in-Err-add_entries.fault _ c.refusal_of.ensures
    (c.in-Err-add_entries.ensures.sound c.in-Ok.dir.number (0 + length names) x.inside (looked.shows s) (subst (λ (m : ℕ → List ℕ). c.in-Ok.dir.node ≡ inode_of m c.in-Ok.dir.number) (sym looked.map) (c.in-Ok.ensures.node_is s)) (subst (λ (m : ℕ → List ℕ). Reads f c.args.lot.now (own f m) c.in-Ok.dir.number (0 + length names) (Dir x.inside)) (sym looked.map) r) x.count
    (subst (λ (m : ℕ → List ℕ). IsReached (form_of g.F.Form.VERSION) c.args.lot.now m c.in-Ok.dir.number) (sym looked.map) (c.in-Ok.ensures.reached s))
    (λ b. no-bad-entry f (ap form_of g.F.Form.is_one.0) (form_of g.F.Form.VERSION) (ap form_of g.F.Form.is_one.0) mode c.args.lot.now m t k recovers (subst (BadEntry (form_of g.F.Form.VERSION) c.args.lot.now) looked.map b)))

pub returns-in-Ok-add_entries-clause-answers : goal.returns-in-Ok-add_entries-clause-answers
returns-in-Ok-add_entries-clause-answers g c = λ mode k t s recovers.
    let f = form_of g.F.Form.VERSION in
    let m : ℕ → List ℕ = g.V.View.map c.args.view.now c.args.disk.now c.args.lot.now in
    let names = drop c.args.depth c.args.path.now in
    let x = c.in-Ok.ensures.found mode k t s recovers in
    let looked = c.dir_at.ensures.looked in
    let r : Reads f c.args.lot.now (own f m) c.in-Ok.dir.number (0 + length names) (Dir x.inside) =
    subst (λ j. Reads f c.args.lot.now (own f m) j (0 + length names) (Dir x.inside)) (sym x.number) (Reads-part f c.args.lot.now (own f m) names 0 0 t (Dir x.inside) x.there recovers.holds.reads) in
    let there = c.in-Ok-add_entries.ensures.listed c.in-Ok.dir.number (0 + length names) x.inside (looked.shows s) (subst (λ (m : ℕ → List ℕ). c.in-Ok.dir.node ≡ inode_of m c.in-Ok.dir.number) (sym looked.map) (c.in-Ok.ensures.node_is s)) (subst (λ (m : ℕ → List ℕ). Reads f c.args.lot.now (own f m) c.in-Ok.dir.number (0 + length names) (Dir x.inside)) (sym looked.map) r) x.count
    (subst (λ (m : ℕ → List ℕ). IsReached (form_of g.F.Form.VERSION) c.args.lot.now m c.in-Ok.dir.number) (sym looked.map) (c.in-Ok.ensures.reached s))
    (λ b. no-bad-entry f (ap form_of g.F.Form.is_one.0) (form_of g.F.Form.VERSION) (ap form_of g.F.Form.is_one.0) mode c.args.lot.now m t k recovers (subst (BadEntry (form_of g.F.Form.VERSION) c.args.lot.now) looked.map b)) in
    let here : c.add_entries.new.room.entries ≡ map (listed_as x.inside) (rows_in f (own f m c.in-Ok.dir.number)) = there ∙ ap (λ (m : ℕ → List ℕ). map (listed_as x.inside) (rows_in f (own f m c.in-Ok.dir.number))) looked.map in
    ap (λ v. Ok (accepted_of v c.in_order.new.room)) c.in_order.ensures.number
    ∙ list-value t k (length c.args.lot.now.groups) f names c.in_default.ensures.refusal x.inside x.there c.in_order.new.room.entries c.in_order.new.room.rows
    (sorted-listing x.inside (rows_in f (own f m c.in-Ok.dir.number)) c.in_order.new.room.entries r.1.sorted r.1.differ r.1.maps (subst (λ es. IsPermutation es c.in_order.new.room.entries) here c.in_order.ensures.permutation) c.in_order.ensures.sorted)
    c.in_order.ensures.rows

pub returns-in-Ok-add_entries-clause-tallies : goal.returns-in-Ok-add_entries-clause-tallies
returns-in-Ok-add_entries-clause-tallies g c =
    subst (λ v. Tallies (Ok v) c.in_order.new.room) (sym c.in_order.ensures.number) (omega (arith, ap length c.in_order.ensures.rows))

pub returns-in-Err-add_entries-clause-damaged : goal.returns-in-Err-add_entries-clause-damaged
returns-in-Err-add_entries-clause-damaged g c = λ n named s.
    let f = form_of g.F.Form.VERSION in
    let m : ℕ → List ℕ = g.V.View.map c.args.view.now c.args.disk.now c.args.lot.now in
    let looked = c.dir_at.ensures.looked in
    let number = c.in-Ok.dir.number in
    let is = c.in-Ok.ensures.is s in
    let size = ap (λ (i : Inode). i.size) (c.in-Ok.ensures.node_is s) in
    let broken = c.in-Err-add_entries.ensures.broken number (looked.shows s)
    (subst (λ (m : ℕ → List ℕ). c.in-Ok.dir.node ≡ inode_of m number) (sym looked.map) (c.in-Ok.ensures.node_is s))
    (subst (λ (m : ℕ → List ℕ). IsReached f c.args.lot.now m number) (sym looked.map) (c.in-Ok.ensures.reached s)) (omega (arith, size, is.1)) in
    fault-names (IsBroken f c.args.lot.now m) c.in-Err-add_entries.fault _ c.refusal_of.ensures
    (subst (λ (m : ℕ → List ℕ). IsBrokenBy f c.args.lot.now m c.in-Err-add_entries.fault) looked.map broken) n named
