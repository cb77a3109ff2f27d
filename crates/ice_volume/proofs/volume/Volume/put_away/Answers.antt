use Rattle.std.proofs.Common.{◌≡◌, ◌∙◌, ℕ, List, [], Result, Ok, Err, Some, true, sym, ap, subst, arith}
use Rattle.std.specs.Prelude.{◌<◌, is_ok}
use Rattle.tree_spec.specs.Held.{RoomContent}
use Rattle.tree_spec.specs.Replies.{meant}
use Rattle.tree_spec.specs.declared.reply.Refusal.{Refusal}
use Rattle.tree_spec.specs.declared.reply.Value.{Value}
use Rattle.ice_names.specs.Names.{NamesView, path_at}
use Rattle.ice_volume.specs.Volumes.{VolumeView}
use Rattle.ice_volume.proofs.Finishing.{failed_of, fine_of, fine_said, leaves_fit, line_lots, line_puts, rose_said}
use Rattle.ice_volume.proofs.volume.Volume.put_away.Goals as goal

empty : RoomContent
empty = record { bytes = []; entries = []; rows = [] }

abbrev or_refusal : Refusal → Result Value Refusal → Refusal
or_refusal d (Ok x) = d
or_refusal d (Err e) = e

err_same : (a b : Refusal) → ◌≡◌ {A = Result Value Refusal} (Err a) (Err b) → a ≡ b
err_same a b is = ap (or_refusal a) is

pub returns-in-Ok-clause-within : goal.returns-in-Ok-clause-within
returns-in-Ok-clause-within g c = (c.unmount.ensures empty).within

pub returns-in-Ok-clause-size : goal.returns-in-Ok-clause-size
returns-in-Ok-clause-size g c = (c.unmount.ensures empty).size

pub returns-in-Ok-clause-leaves : goal.returns-in-Ok-clause-leaves
returns-in-Ok-clause-leaves g c = λ w stands.
    leaves_fit c.args.self.now (g.D.Disk.state c.args.disk.now) w stands c.copy_path-path.result c.args.slot (subst (λ (v : VolumeView). c.args.slot < v.system.names.slots) c.self.view_is (omega (arith, c.if-slot-slots.false, c.slots.ensures.value))) (subst (λ (v : VolumeView). path_at v.system.names c.args.slot ≡ Some c.copy_path-path.result) c.self.view_is
    (subst (λ (n : NamesView). path_at n c.args.slot ≡ Some c.copy_path-path.result) c.names.ensures (c.in-Some.ensures ∙ ap (λ (p : List (List ℕ)). Some p) (sym c.copy_path-path.ensures))))
    g.D.Disk.left c.args.disk.now c.unmount.new.disk (g.D.Disk.state c.args.disk.now).streams.aside ((c.unmount.ensures empty).leaves w stands)

pub returns-in-Ok-clause-puts : goal.returns-in-Ok-clause-puts
returns-in-Ok-clause-puts g c = λ w stands.
    line_puts c.args.self.now (g.D.Disk.state c.args.disk.now) w stands c.copy_path-path.result c.args.slot (subst (λ (v : VolumeView). c.args.slot < v.system.names.slots) c.self.view_is (omega (arith, c.if-slot-slots.false, c.slots.ensures.value))) (subst (λ (v : VolumeView). path_at v.system.names c.args.slot ≡ Some c.copy_path-path.result) c.self.view_is
    (subst (λ (n : NamesView). path_at n c.args.slot ≡ Some c.copy_path-path.result) c.names.ensures (c.in-Some.ensures ∙ ap (λ (p : List (List ℕ)). Some p) (sym c.copy_path-path.ensures))))
    c.unmount.new.self (g.D.Disk.state c.unmount.new.disk) (meant c.unmount.result empty) true (λ ok. fine_said c.unmount.result empty (λ is. absurd (cc (sym c.in-Ok.is ∙ is)))) ((c.unmount.ensures empty).goes w stands)

pub returns-in-Err-clause-within : goal.returns-in-Err-clause-within
returns-in-Err-clause-within g c = (c.unmount.ensures empty).within

pub returns-in-Err-clause-size : goal.returns-in-Err-clause-size
returns-in-Err-clause-size g c = (c.unmount.ensures empty).size

pub returns-in-Err-clause-cause : goal.returns-in-Err-clause-cause
returns-in-Err-clause-cause g c = λ is.
    rose_said c.unmount.result empty (g.D.Disk.state c.args.disk.now).faults (g.D.Disk.state c.unmount.new.disk).faults
    (c.in-Err.is ∙ ap (λ r. Err r) (failed_of c.fault_of.result c.in-Err.refusal c.fault_of.ensures.failed is)) (c.unmount.ensures empty).faults

pub returns-in-Err-clause-leaves : goal.returns-in-Err-clause-leaves
returns-in-Err-clause-leaves g c = λ w stands.
    leaves_fit c.args.self.now (g.D.Disk.state c.args.disk.now) w stands c.copy_path-path.result c.args.slot (subst (λ (v : VolumeView). c.args.slot < v.system.names.slots) c.self.view_is (omega (arith, c.if-slot-slots.false, c.slots.ensures.value))) (subst (λ (v : VolumeView). path_at v.system.names c.args.slot ≡ Some c.copy_path-path.result) c.self.view_is
    (subst (λ (n : NamesView). path_at n c.args.slot ≡ Some c.copy_path-path.result) c.names.ensures (c.in-Some.ensures ∙ ap (λ (p : List (List ℕ)). Some p) (sym c.copy_path-path.ensures))))
    g.D.Disk.left c.args.disk.now c.unmount.new.disk (g.D.Disk.state c.args.disk.now).streams.aside ((c.unmount.ensures empty).leaves w stands)

pub returns-in-Err-clause-puts : goal.returns-in-Err-clause-puts
returns-in-Err-clause-puts g c = λ w stands.
    line_puts c.args.self.now (g.D.Disk.state c.args.disk.now) w stands c.copy_path-path.result c.args.slot (subst (λ (v : VolumeView). c.args.slot < v.system.names.slots) c.self.view_is (omega (arith, c.if-slot-slots.false, c.slots.ensures.value))) (subst (λ (v : VolumeView). path_at v.system.names c.args.slot ≡ Some c.copy_path-path.result) c.self.view_is
    (subst (λ (n : NamesView). path_at n c.args.slot ≡ Some c.copy_path-path.result) c.names.ensures (c.in-Some.ensures ∙ ap (λ (p : List (List ℕ)). Some p) (sym c.copy_path-path.ensures))))
    c.unmount.new.self (g.D.Disk.state c.unmount.new.disk) (meant c.unmount.result empty) (is_ok c.fault_of.result)
    (λ ok. fine_said c.unmount.result empty (λ is. absurd (fine_of c.fault_of.result c.in-Err.refusal c.fault_of.ensures.other ok (err_same c.in-Err.refusal _ (sym c.in-Err.is ∙ is))))) ((c.unmount.ensures empty).goes w stands)

pub returns-in-Ok-clause-lots : goal.returns-in-Ok-clause-lots
returns-in-Ok-clause-lots g c = λ w stands.
    line_lots c.args.self.now (g.D.Disk.state c.args.disk.now) w stands c.copy_path-path.result c.args.slot (subst (λ (v : VolumeView). c.args.slot < v.system.names.slots) c.self.view_is (omega (arith, c.if-slot-slots.false, c.slots.ensures.value))) (subst (λ (v : VolumeView). path_at v.system.names c.args.slot ≡ Some c.copy_path-path.result) c.self.view_is
    (subst (λ (n : NamesView). path_at n c.args.slot ≡ Some c.copy_path-path.result) c.names.ensures (c.in-Some.ensures ∙ ap (λ (p : List (List ℕ)). Some p) (sym c.copy_path-path.ensures))))
    c.unmount.new.self (g.D.Disk.state c.unmount.new.disk) (meant c.unmount.result empty) ((c.unmount.ensures empty).goes w stands)

pub returns-in-Ok-clause-spares : goal.returns-in-Ok-clause-spares
returns-in-Ok-clause-spares g c = (c.unmount.ensures empty).spares

pub returns-in-Err-clause-lots : goal.returns-in-Err-clause-lots
returns-in-Err-clause-lots g c = λ w stands.
    line_lots c.args.self.now (g.D.Disk.state c.args.disk.now) w stands c.copy_path-path.result c.args.slot (subst (λ (v : VolumeView). c.args.slot < v.system.names.slots) c.self.view_is (omega (arith, c.if-slot-slots.false, c.slots.ensures.value))) (subst (λ (v : VolumeView). path_at v.system.names c.args.slot ≡ Some c.copy_path-path.result) c.self.view_is
    (subst (λ (n : NamesView). path_at n c.args.slot ≡ Some c.copy_path-path.result) c.names.ensures (c.in-Some.ensures ∙ ap (λ (p : List (List ℕ)). Some p) (sym c.copy_path-path.ensures))))
    c.unmount.new.self (g.D.Disk.state c.unmount.new.disk) (meant c.unmount.result empty) ((c.unmount.ensures empty).goes w stands)

pub returns-in-Err-clause-spares : goal.returns-in-Err-clause-spares
returns-in-Err-clause-spares g c = (c.unmount.ensures empty).spares
