use Rattle.std.proofs.Common.{ap, rules, ◌≡◌, ◌++◌, ◌∙◌, arith}
use Rattle.tree_spec.specs.Costs.{form_of}
use Rattle.std.proofs.lemmas.Grind.{common_steps}
use Rattle.ice_file.specs.Files.{bytes_from}
use Rattle.ice_file.proofs.ByteLaws.{more, read_bytes}
use Rattle.ice_file.proofs.reads.read_in.Goals as goal

pub loop-from-preserved : goal.loop-from-preserved
loop-from-preserved g c =
    let l = c.loop-from.invariant in
    let moves = c.in_ok-from.ensures.moves in
    let long = c.in_ok-from.ensures.long in
    record {
      looked = grind (arith, common_steps);
      after = omega arith;
      before = omega (arith, moves);
      long = omega (arith, moves, long);
      bytes = λ s.
          let m = l.looked.map in
          let b = c.in_ok-from.ensures.bytes (l.looked.shows s) in
          let e : c.read_piece.new.room.bytes ≡ c.loop-from.room.bytes ++ bytes_from (g.V.View.map c.args.view.now c.args.disk.now c.args.lot.now) c.args.inode.now c.loop-from.from c.in_ok-from.field-0 = (cc) in
          e ∙ more (g.V.View.map c.args.view.now c.args.disk.now c.args.lot.now) c.args.inode.now c.loop-from.room.bytes c.args.at c.loop-from.from c.in_ok-from.field-0 l.after (l.bytes s);
      entries = cc;
      rows = cc;
    }

pub returns-clause-bytes : goal.returns-clause-bytes
returns-clause-bytes g c = λ s.
    let l = c.loop-from.invariant in
    let r = c.requires.reaches in
    read_bytes (form_of g.F.Form.VERSION) (ap form_of g.F.Form.is_one.0) (g.V.View.map c.args.view.now c.args.disk.now c.args.lot.now) c.args.at c.args.len c.min-end.result c.args.inode.now r.kind r.reaches (search rules)
    c.loop-from.room.bytes c.loop-from.from (omega arith) (l.bytes s)
