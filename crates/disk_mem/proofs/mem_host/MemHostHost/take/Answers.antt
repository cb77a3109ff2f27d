use Rattle.std.proofs.Common.{arith, inl, inr, ⊎_elim}
use Rattle.disk_mem.proofs.Past.{pass_left, pass_kept}
use Rattle.disk_mem.proofs.mem_host.MemHostHost.take.Goals as goal

pub returns-then-fails-clause-leaves : goal.returns-then-fails-clause-leaves
returns-then-fails-clause-leaves c = let self = c.args.self.now in let d = c.saturating_add-self.result in record {
  left_new = λ t i o l. ⊎_elim (λ before. inl before) (λ now. inr (record { count = now.0; same = λ k inside flag. now.1 k flag }, now.2)) (pass_left _ _ _ _ _ _ self.linked d t i o l);
  left_old = λ t i o l. pass_kept _ _ _ _ _ _ self.linked d t i o (omega arith) l;
}

pub returns-clause-leaves : goal.returns-clause-leaves
returns-clause-leaves c = let self = c.args.self.now in let d = c.saturating_add-self.result in record {
  left_new = λ t i o l. ⊎_elim (λ before. inl before) (λ now. inr (record { count = now.0; same = λ k inside flag. now.1 k flag }, now.2)) (pass_left _ _ _ _ _ _ self.linked d t i o l);
  left_old = λ t i o l. pass_kept _ _ _ _ _ _ self.linked d t i o (omega arith) l;
}
