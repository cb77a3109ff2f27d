use Rattle.std.proofs.Common.{false, List, slice_index_or, inl, inr, sym, ◌∙◌, ap, arith}
use Rattle.std.proofs.lemmas.Bool.{false≢true, cases_Bool}
use Rattle.disk_mem.specs.Memory.{past_of}
use Rattle.disk_mem.specs.declared.step.Step.{Step}
use Rattle.disk_mem.proofs.mem_host.MemHost.set_block.Goals as goal

pub returns-clause-loose : goal.returns-clause-loose
returns-clause-loose c = let self = c.args.self.now in λ k. elim (cases_Bool (slice_index_or self.loose.items k false)) [
  | inl set ↦ absurd (false≢true (sym (ap (λ (x : List Step). (past_of self.first.items x self.calls).loose k) (self.start c.requires.early)) ∙ self.linked.exact (omega (arith, c.requires.early)) (omega (arith, c.requires.early)) self.calls k (omega arith) set))
  | inr clear ↦ clear
]
