use Rattle.std.proofs.Common.{◌≡◌, ℕ, List, map, ◌∙◌, ap, sym, subst, arith, rules}
use Rattle.std.proofs.lemmas.List.{take_all}
use Rattle.std.specs.Prelude.{slice_get}
use Rattle.tree_spec.specs.Costs.{form_of}
use Rattle.tree_spec.specs.Trees.{Dir}
use Rattle.ice_reads.specs.Reads.{Reads}
use Rattle.ice_map.specs.Inodes.{inode_of}
use Rattle.ice_map.specs.Own.{own}
use Rattle.ice_reads.specs.Tables.{rows_in}
use Rattle.ice_look.specs.Broken.{BadEntry}
use Rattle.ice_look.specs.Places.{IsReached}
use Rattle.ice_look.specs.Listings.{listed_as}
use Rattle.ice_look.proofs.ListLaws.{listed-more, rows-long}
use Rattle.ice_look.proofs.lists.add_entries.Goals as goal

pub loop-k-preserved : goal.loop-k-preserved
loop-k-preserved g c =
    let i = c.loop-k.invariant in
    let e = c.in_ok-add_entry.ensures in
    let f = form_of g.F.Form.VERSION in
    record {
      looked = search rules;
      all = omega (arith, i.all, e.one);
      bytes = c.add_entry.ensures.bytes ∙ i.bytes;
      cube_rows = c.add_entry.ensures.rows ∙ i.cube_rows;
      listed = λ number h es s hand r count reached sound.
          let m : ℕ → List ℕ = g.V.View.map c.args.view.now c.args.disk.now c.args.lot.now in
          let long = rows-long f (ap form_of g.F.Form.is_one.0) c.args.lot.now m number h es r (form_of g.F.Form.VERSION) (ap form_of g.F.Form.is_one.0) in
          listed-more es (rows_in f (own f m number)) c.loop-k.k c.loop-k.room.entries c.add_entry.new.room.entries (omega (arith, long, count)) (i.listed number h es s hand r count reached sound)
          (λ row is. e.added number h es row (i.looked.shows s) (subst (λ (m : ℕ → List ℕ). c.args.node.now ≡ inode_of m number) (sym i.looked.map) hand) (subst (λ (m : ℕ → List ℕ). Reads f c.args.lot.now (own f m) number h (Dir es)) (sym i.looked.map) r)
          (ap (λ (m : ℕ → List ℕ). slice_get (rows_in f (own f m number)) c.loop-k.k) i.looked.map ∙ is)
          (subst (λ (m : ℕ → List ℕ). IsReached (form_of g.F.Form.VERSION) c.args.lot.now m number) (sym i.looked.map) reached) (λ b. sound (subst (BadEntry (form_of g.F.Form.VERSION) c.args.lot.now) i.looked.map b)));
    }

pub returns-clause-listed : goal.returns-clause-listed
returns-clause-listed g c = λ number h es s hand r count reached sound.
    let f = form_of g.F.Form.VERSION in
    let m : ℕ → List ℕ = g.V.View.map c.args.view.now c.args.disk.now c.args.lot.now in
    let long = rows-long f (ap form_of g.F.Form.is_one.0) c.args.lot.now m number h es r (form_of g.F.Form.VERSION) (ap form_of g.F.Form.is_one.0) in
    c.loop-k.invariant.listed number h es s hand r count reached sound ∙ ap (map (listed_as es)) (take_all c.loop-k.k (rows_in f (own f m number)) (omega (arith, long, count)))
