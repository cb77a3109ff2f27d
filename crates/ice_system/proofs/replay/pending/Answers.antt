use Rattle.std.proofs.Common.{refl, sym, ap, ◌∙◌}
use Rattle.ice_layout.specs.Headers.{is_open, system_targets}
use Rattle.ice_layout.proofs.HeaderLaws.{no-header}
use Rattle.ice_system.proofs.Finishing.{no_blocks, still_block}
use Rattle.ice_system.proofs.replay.pending.Goals as goal

pub returns-in-None-clause-refused : goal.returns-in-None-clause-refused
returns-in-None-clause-refused g c = (
  refl,
  λ told.
      let i = (g.D.Disk.state c.args.disk.now).now in
      let same = still_block g.D.Disk.state g.D.Disk.left c.args.disk.now c.look.new.disk c.in_ok-look.ensures.within in
      no_blocks i
      (ap is_open (sym (c.in_ok-look.ensures.bytes told)) ∙ sym c.gate_is_on.ensures ∙ c.if-not-gate_is_on.false)
      (ap system_targets (sym (c.in_ok-look-2.ensures.bytes (c.in_ok-look.ensures.within.tells ∙ told) ∙ same 2))
      ∙ no-header (system_targets c.look-2.new.into) (sym c.in-None.ensures.header)),
)
