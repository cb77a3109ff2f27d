use Rattle.std.proofs.Common.{arith, refl, ◌∙◌, inl, inr, ⊎_elim, []}
use Rattle.std.proofs.lemmas.List.{get_or_default}
use Rattle.ice_base.specs.Disk.{block}
use Rattle.disk_mem.proofs.Past.{pass_left, pass_kept}
use Rattle.disk_mem.proofs.mem_host.MemHostDisk.read.Goals as goal

pub returns-then-fails-clause-within : goal.returns-then-fails-clause-within
returns-then-fails-clause-within c = let self = c.args.self.now in record {
  size = refl;
  tells = refl;
  streams = refl;
  faults = omega arith;
  clock = omega arith;
  barriers = omega arith;
  writes = omega arith;
  same = λ k not. refl;
  settled = λ k not s. s;
  left_new = λ t i o l. ⊎_elim (λ before. inl before) (λ now. inr (record { count = now.0; same = λ k not flag. now.1 k flag }, now.2)) (pass_left _ _ _ _ _ _ self.linked c.saturating_add-self.result t i o l);
  left_old = λ t i o l. pass_kept _ _ _ _ _ _ self.linked c.saturating_add-self.result t i o (omega arith) l;
}

pub returns-clause-within : goal.returns-clause-within
returns-clause-within c = let self = c.args.self.now in record {
  size = refl;
  tells = refl;
  streams = refl;
  faults = omega arith;
  clock = omega arith;
  barriers = omega arith;
  writes = omega arith;
  same = λ k not. refl;
  settled = λ k not s. s;
  left_new = λ t i o l. ⊎_elim (λ before. inl before) (λ now. inr (record { count = now.0; same = λ k not flag. now.1 k flag }, now.2)) (pass_left _ _ _ _ _ _ self.linked c.saturating_add-self.result t i o l);
  left_old = λ t i o l. pass_kept _ _ _ _ _ _ self.linked c.saturating_add-self.result t i o (omega arith) l;
}

pub returns-clause-bytes : goal.returns-clause-bytes
unfolding block
returns-clause-bytes c = λ told. c.index.ensures ∙ get_or_default c.args.self.now.blocks.items c.args.at c.index.result.now [] (omega (arith, c.requires))
