use Rattle.std.proofs.Common.{ℕ, List, Err, false, ◌<◌, ◌*◌, length, drop, take, ◌≡◌, ◌+◌, ◌∙◌, ap, sym, arith, subst}
use Rattle.tree_spec.specs.Costs.{form_of, Form}
use Rattle.tree_spec.specs.Trees.{File}
use Rattle.ice_map.specs.Own.{own, own_at, file_bytes}
use Rattle.ice_map.specs.declared.codec.Inode.{Inode}
use Rattle.ice_map.specs.Maps.{leads}
use Rattle.ice_look.proofs.NodeLaws.{not-kind, read-fault}
use Rattle.ice_reads.specs.Reads.{Reads}
use Rattle.ice_reads.proofs.Focus.{Reads-part}
use Rattle.ice_look.proofs.LookLaws.{read-paths, read-walk, read-beyond, read-value, read-fails, file-bytes, fault_model}
use Rattle.ice_map.specs.Inodes.{inode_of}
use Rattle.ice_file.specs.Files.{ReachesTo}
use Rattle.ice_look.specs.Broken.{IsBroken, IsBrokenBy}
use Rattle.ice_look.specs.Places.{IsReached}
use Rattle.ice_look.proofs.FaultLaws.{fault-names}
use Rattle.ice_look.proofs.MapDamage.{read-blamed}
use Rattle.ice_look.proofs.looks.read.Goals as goal

pub returns-in-Err-clause-answers : goal.returns-in-Err-clause-answers
returns-in-Err-clause-answers g c = λ mode k t s recovers. read-paths t k (length c.args.lot.now.groups) (form_of g.F.Form.VERSION) (drop c.args.depth c.args.path.now) c.args.at c.args.len _ c.in-Err.ensures.refusal

pub returns-then-at-file-clause-answers : goal.returns-then-at-file-clause-answers
returns-then-at-file-clause-answers g c = λ mode k t s recovers.
    let x = c.in-Ok.ensures.found mode k t s recovers in
    read-beyond t k (length c.args.lot.now.groups) (form_of g.F.Form.VERSION) (drop c.args.depth c.args.path.now) c.args.at c.args.len c.in_default.ensures.refusal x.0 x.1 (omega (arith, x.3))

pub returns-in-Err-file_at-clause-answers : goal.returns-in-Err-file_at-clause-answers
returns-in-Err-file_at-clause-answers g c = λ mode k t s recovers.
    read-walk t k (length c.args.lot.now.groups) (form_of g.F.Form.VERSION) (drop c.args.depth c.args.path.now) c.args.at c.args.len c.in_default.ensures.refusal _ (c.in-Err-file_at.ensures.found mode k t s recovers)

pub returns-in-Ok-read_in-clause-answers : goal.returns-in-Ok-read_in-clause-answers
returns-in-Ok-read_in-clause-answers g c = λ mode k t s recovers.
    let f = form_of g.F.Form.VERSION in
    let m : ℕ → List ℕ = g.V.View.map c.args.view.now c.args.disk.now c.args.lot.now in
    let names = drop c.args.depth c.args.path.now in
    let x = c.in-Ok.ensures.found mode k t s recovers in
    let looked = c.file_at.ensures.looked in
    let r : Reads f c.args.lot.now (own f m) c.in-Ok.file.number (0 + length names) (File x.0) =
    subst (λ j. Reads f c.args.lot.now (own f m) j (0 + length names) (File x.0)) (sym x.2) (Reads-part f c.args.lot.now (own f m) names 0 0 t (File x.0) x.1 recovers.holds.reads) in
    read-value t k (length c.args.lot.now.groups) f names c.args.at c.args.len c.in_default.ensures.refusal x.0 x.1 (omega (arith, x.3)) c.read_in.new.room.bytes
    (c.in-Ok-read_in.ensures.bytes (looked.shows s)
    ∙ ap (λ (m : ℕ → List ℕ). take c.args.len (drop c.args.at (file_bytes (own_at f m c.in-Ok.file.node)))) looked.map
    ∙ ap (λ (i : Inode). take c.args.len (drop c.args.at (file_bytes (own_at f m i)))) (c.in-Ok.ensures.node_is s)
    ∙ ap (λ bytes. take c.args.len (drop c.args.at bytes)) (file-bytes f (ap form_of g.F.Form.is_one.0) c.args.lot.now m c.in-Ok.file.number (0 + length names) x.0 r (form_of g.F.Form.VERSION) (ap form_of g.F.Form.is_one.0)))

pub returns-in-Err-read_in-clause-answers : goal.returns-in-Err-read_in-clause-answers
returns-in-Err-read_in-clause-answers g c = λ mode k t s recovers.
    let f = form_of g.F.Form.VERSION in
    let names = drop c.args.depth c.args.path.now in
    let x = c.in-Ok.ensures.found mode k t s recovers in
    let looked = c.file_at.ensures.looked in
    let e = c.in-Err-read_in.ensures in
    let r : (m : ℕ → List ℕ) → m ≡ g.V.View.map c.args.view.now c.args.disk.now c.args.lot.now → Reads f c.args.lot.now (own f m) c.in-Ok.file.number (0 + length names) (File x.0) =
    (λ m is. subst (λ (m : ℕ → List ℕ). Reads f c.args.lot.now (own f m) c.in-Ok.file.number (0 + length names) (File x.0)) (sym is)
    (subst (λ j. Reads f c.args.lot.now (own f (g.V.View.map c.args.view.now c.args.disk.now c.args.lot.now)) j (0 + length names) (File x.0)) (sym x.2)
    (Reads-part f c.args.lot.now (own f (g.V.View.map c.args.view.now c.args.disk.now c.args.lot.now)) names 0 0 t (File x.0) x.1 recovers.holds.reads))) in
    fault_model _ c.in-Err-read_in.fault _ c.refusal_of.ensures
    (read-fails f (ap form_of g.F.Form.is_one.0) c.args.lot.now (g.V.View.map c.file_at.new.view c.file_at.new.disk c.args.lot.now) c.in-Ok.file.number (0 + length names) x.0 (r _ looked.map)
    c.args.at (omega (arith, x.3)) c.in-Err-read_in.fault (read-fault _ e.faults) (λ q r. not-kind _ e.faults q) (λ q. subst (λ (i : Inode). (k : ℕ) × (1024 * k < i.size) × (leads c.args.lot.now (g.V.View.map c.file_at.new.view c.file_at.new.disk c.args.lot.now) i k ≡ false))
    (subst (λ (m : ℕ → List ℕ). c.in-Ok.file.node ≡ inode_of m c.in-Ok.file.number) (sym looked.map) (c.in-Ok.ensures.node_is s)) (e.pointer (ap (λ y. Err y) q) (looked.shows s))))

pub returns-in-Err-read_in-clause-damaged : goal.returns-in-Err-read_in-clause-damaged
returns-in-Err-read_in-clause-damaged g c = λ n named s.
    let form = (form_of g.F.Form.VERSION) in
    let lot = c.args.lot.now in
    let m0 : ℕ → List ℕ = g.V.View.map c.args.view.now c.args.disk.now lot in
    let m1 : ℕ → List ℕ = g.V.View.map c.file_at.new.view c.file_at.new.disk lot in
    let looked = c.file_at.ensures.looked in
    let number = c.in-Ok.file.number in
    let is = c.in-Ok.ensures.is s in
    let reaches : ReachesTo form c.args.at (inode_of m0 number) = record { kind = is.0; small = omega (arith, is.1, c.in-Ok.ensures.fits.1, ap (λ (g : Form). g.longest_file) (ap form_of g.F.Form.is_one.0)); reaches = omega (arith, is.1) } in
    let e = c.in-Err-read_in.ensures in
    let broken = read-blamed form (ap form_of g.F.Form.is_one.0) lot m1 c.args.at number (subst (λ (m : ℕ → List ℕ). IsReached form lot m number) (sym looked.map) (c.in-Ok.ensures.reached s))
    (subst (λ (m : ℕ → List ℕ). ReachesTo form c.args.at (inode_of m number)) (sym looked.map) reaches)
    c.in-Err-read_in.fault (read-fault _ e.faults) (λ q r. not-kind _ e.faults q) (λ q. subst (λ (i : Inode). (k : ℕ) × (1024 * k < i.size) × (leads c.args.lot.now (g.V.View.map c.file_at.new.view c.file_at.new.disk c.args.lot.now) i k ≡ false))
    (subst (λ (m : ℕ → List ℕ). c.in-Ok.file.node ≡ inode_of m c.in-Ok.file.number) (sym looked.map) (c.in-Ok.ensures.node_is s)) (e.pointer (ap (λ y. Err y) q) (looked.shows s))) in
    fault-names (IsBroken form lot m0) c.in-Err-read_in.fault c.refusal_of.result c.refusal_of.ensures (subst (λ (m : ℕ → List ℕ). IsBrokenBy form lot m c.in-Err-read_in.fault) looked.map broken) n named
