use Rattle.std.proofs.Common.{◌≡◌, ◌∙◌, ◌/◌, ap, sym, subst, Some, Err, false}
use Rattle.std.specs.Prelude.{IfSome, slice_get}
use Rattle.ice_map.specs.declared.codec.Inode.{Inode}
use Rattle.ice_map.specs.Maps.{leads}
use Rattle.ice_dir.specs.Rows.{HasEntry, rows_at}
use Rattle.tree_spec.specs.Costs.{form_one}
use Rattle.tree_spec.specs.Names.{is_name}
use Rattle.ice_reads.specs.Tables.{Map}
use Rattle.ice_check.specs.Shown.{Broke, IsCheckFault}
use Rattle.ice_check.specs.declared.fault.CheckFault.TheVariants as check
use Rattle.ice_check.proofs.EntryLaws.{entry_broken, told_fault, told_disk}
use Rattle.ice_check.proofs.rows.read_entry.Goals as goal

pub returns-in-Ok-clause-row : goal.returns-in-Ok-clause-row
returns-in-Ok-clause-row g c = λ m number s hand.
    subst (λ (i : Inode). slice_get (rows_at form_one m i) c.args.k ≡ Some (c.entry_in.new.into, c.in-Ok.next)) hand
    (subst (λ (n : Map). slice_get (rows_at form_one n c.args.node.now) c.args.k ≡ Some (c.entry_in.new.into, c.in-Ok.next)) s.is (c.in-Ok.ensures.row s.shows))

pub returns-in-Ok-clause-fits : goal.returns-in-Ok-clause-fits
returns-in-Ok-clause-fits g c = record { is = c.bytes-proper.ensures.name; short = c.in-Ok.ensures.fits }

pub returns-in-Err-clause-broken : goal.returns-in-Err-clause-broken
returns-in-Err-clause-broken g c = λ m w number s hand looks below.
    subst (Broke c.args.lot.now m) (sym c.told.ensures) (entry_broken c.args.lot.now m w number c.args.k looks below c.in-Err.fault c.in-Err.ensures.faults
    (λ e. subst (λ (i : Inode). ¬ HasEntry c.args.lot.now c.args.k i) hand (c.in-Err.ensures.kind (ap Err e)))
    (λ e. subst (λ (i : Inode). leads c.args.lot.now m i (c.args.k / 16) ≡ false) hand
    (subst (λ (n : Map). leads c.args.lot.now n c.args.node.now (c.args.k / 16) ≡ false) s.is (c.in-Err.ensures.pointer (ap Err e) s.shows)))
    (λ e. subst (λ (i : Inode). IfSome (slice_get (rows_at form_one m i) c.args.k) (λ row. is_name row.0 ≡ false)) hand
    (subst (λ (n : Map). IfSome (slice_get (rows_at form_one n c.args.node.now) c.args.k) (λ row. is_name row.0 ≡ false)) s.is (c.in-Err.ensures.name (ap Err e) s.shows))))

pub returns-in-Err-clause-faults : goal.returns-in-Err-clause-faults
returns-in-Err-clause-faults g c = subst IsCheckFault (sym c.told.ensures) (told_fault c.in-Err.fault c.in-Err.ensures.faults)

pub returns-in-Err-clause-failed : goal.returns-in-Err-clause-failed
returns-in-Err-clause-failed g c = λ e.
    let one : c.told.result ≡ check.Disk = cc in
    c.in-Err.ensures.failed (ap Err (told_disk c.in-Err.fault c.in-Err.ensures.faults (sym c.told.ensures ∙ one)))
