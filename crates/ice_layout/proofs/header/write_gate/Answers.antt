use Rattle.std.proofs.Common.{ap, ◌∙◌, slice_set, ℕ}
use Rattle.ice_layout.specs.Geometry.{zero_block}
use Rattle.ice_layout.specs.Headers.{is_open}
use Rattle.ice_layout.proofs.HeaderLaws.{gate_reads}
use Rattle.ice_layout.proofs.header.write_gate.Goals as goal

pub returns-clause-bytes : goal.returns-clause-bytes
returns-clause-bytes c = ap (λ (x : ℕ). slice_set zero_block 0 x) c.byte_if.ensures

pub returns-clause-reads : goal.returns-clause-reads
returns-clause-reads c = ap (λ (x : ℕ). is_open (slice_set zero_block 0 x)) c.byte_if.ensures ∙ gate_reads c.args.on
