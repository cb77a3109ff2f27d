use Rattle.std.proofs.Common.{arith, refl, sym, ◌∙◌, ap, subst, inl, inr, ⊎_elim, List}
use Rattle.disk_mem.specs.Memory.{Linked, LeftSince, Moment, past_of}
use Rattle.disk_mem.proofs.Past.{grows, linked_pass, pass_left, pass_kept, linked_barrier, barrier_left, grown_kept}
use Rattle.disk_mem.specs.declared.step.Step.{Step}
use Rattle.disk_mem.specs.declared.step.Step.TheVariants.{Barrier}
use Rattle.disk_mem.proofs.mem_host.MemHostDisk.barrier.Goals as goal

pub returns-then-fails-clause-within : goal.returns-then-fails-clause-within
returns-then-fails-clause-within c = let self = c.args.self.now in record {
  size = refl;
  tells = refl;
  streams = refl;
  faults = omega arith;
  clock = omega arith;
  barriers = omega arith;
  writes = omega arith;
  same = λ k not. refl;
  settled = λ k not s. s;
  left_new = λ t i o l. ⊎_elim (λ before. inl before) (λ now. inr (record { count = now.0; same = λ k not flag. now.1 k flag }, now.2)) (pass_left _ _ _ _ _ _ self.linked c.saturating_add-self.result t i o l);
  left_old = λ t i o l. pass_kept _ _ _ _ _ _ self.linked c.saturating_add-self.result t i o (omega arith) l;
}

pub returns-then-fails-clause-settled : goal.returns-then-fails-clause-settled
returns-then-fails-clause-settled c = c.args.self.now.linked.still c.saturating_add-self.result (omega arith)

pub invariant_of-self-in-Ok-clause-linked : goal.invariant_of-self-in-Ok-clause-linked
invariant_of-self-in-Ok-clause-linked c = let self = c.args.self.now in
    linked_barrier _ _ _ _ _ _ self.linked (past_of self.first.items c.record.new.steps.items) c.saturating_add-self.result c.clear.new.flags.items (grows self.first.items self.steps.items c.record.new.steps.items (Barrier self.calls) self.calls refl c.in-Ok.ensures.added) (omega arith) c.clear.ensures.all c.clear.ensures.len

pub invariant_of-self-in-Err-clause-linked : goal.invariant_of-self-in-Err-clause-linked
invariant_of-self-in-Err-clause-linked c = let self = c.args.self.now in
    subst (λ (x : List Step). Linked (past_of self.first.items x) c.saturating_add-self.result self.remembered self.blocks.items self.loose.items self.output.items) (sym c.in-Err.ensures.none) (linked_pass _ _ _ _ _ _ self.linked c.saturating_add-self.result (omega arith))

pub returns-in-Ok-clause-within : goal.returns-in-Ok-clause-within
returns-in-Ok-clause-within c = let self = c.args.self.now in let d = c.saturating_add-self.result in let grown = grows self.first.items self.steps.items c.record.new.steps.items (Barrier self.calls) self.calls refl c.in-Ok.ensures.added in record {
  size = refl;
  tells = refl;
  streams = refl;
  faults = omega arith;
  clock = omega arith;
  barriers = omega arith;
  writes = omega arith;
  same = λ k not. refl;
  settled = λ k not s. c.clear.ensures.all k;
  left_new = λ t i o l. ⊎_elim (λ before. inl before) (λ now. inr (record { count = now.0; same = λ k not flag. now.1 k flag }, now.2)) (barrier_left _ _ _ _ _ _ self.linked (past_of self.first.items c.record.new.steps.items) d grown t i o l);
  left_old = λ t i o l. grown_kept _ _ _ _ _ _ self.linked (Barrier self.calls) (past_of self.first.items c.record.new.steps.items) d grown (omega arith) t i o l;
}

pub returns-in-Ok-clause-past : goal.returns-in-Ok-clause-past
returns-in-Ok-clause-past c = let self = c.args.self.now in λ t le. let grown = grows self.first.items self.steps.items c.record.new.steps.items (Barrier self.calls) self.calls refl c.in-Ok.ensures.added in grown.old t le

pub returns-in-Ok-clause-settles : goal.returns-in-Ok-clause-settles
returns-in-Ok-clause-settles c = let self = c.args.self.now in let grown = grows self.first.items self.steps.items c.record.new.steps.items (Barrier self.calls) self.calls refl c.in-Ok.ensures.added in
    ap (λ (m : Moment). m.settled) (grown.new c.saturating_add-self.result (omega arith)) ∙ self.linked.now c.saturating_add-self.result (omega arith)

pub returns-in-Err-clause-within : goal.returns-in-Err-clause-within
returns-in-Err-clause-within c = let self = c.args.self.now in let d = c.saturating_add-self.result in record {
  size = refl;
  tells = refl;
  streams = refl;
  faults = omega arith;
  clock = omega arith;
  barriers = omega arith;
  writes = omega arith;
  same = λ k not. refl;
  settled = λ k not s. s;
  left_new = λ t i o l. ⊎_elim (λ before. inl before) (λ now. inr (record { count = now.0; same = λ k not flag. now.1 k flag }, now.2)) (pass_left _ _ _ _ _ _ self.linked d t i o (subst (λ (x : List Step). LeftSince (past_of self.first.items x) d self.output.items t i o) c.in-Err.ensures.none l));
  left_old = λ t i o l. subst (λ (x : List Step). LeftSince (past_of self.first.items x) d self.output.items t i o) (sym c.in-Err.ensures.none) (pass_kept _ _ _ _ _ _ self.linked d t i o (omega arith) l);
}

pub returns-in-Err-clause-settled : goal.returns-in-Err-clause-settled
returns-in-Err-clause-settled c = let self = c.args.self.now in ap (λ (x : List Step). (past_of self.first.items x c.saturating_add-self.result).settled) c.in-Err.ensures.none ∙ self.linked.still c.saturating_add-self.result (omega arith)
