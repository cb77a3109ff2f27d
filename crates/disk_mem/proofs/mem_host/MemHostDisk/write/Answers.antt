use Rattle.std.proofs.Common.{arith, refl, ◌∙◌, subst, inl, inr, ⊎_elim, List}
use Rattle.std.proofs.lemmas.List.{length-set}
use Rattle.disk_mem.specs.Memory.{past_of}
use Rattle.disk_mem.specs.Record.{FailedNoted}
use Rattle.disk_mem.proofs.Past.{grows, block_set_same, block_set_other, flag_other, linked_write, write_left, write_settled, grown_kept, failed_linked, failed_left, failed_kept, failed_past, failed_settled}
use Rattle.disk_mem.specs.declared.step.Step.{Step}
use Rattle.disk_mem.specs.declared.step.Step.TheVariants.{Write}
use Rattle.disk_mem.proofs.mem_host.MemHostDisk.write.Goals as goal

pub invariant_of-self-clause-linked : goal.invariant_of-self-clause-linked
invariant_of-self-clause-linked c = let self = c.args.self.now in
    failed_linked self.first.items self.steps.items _ self.calls self.remembered _ _ _ _ self.linked c.args.at c.saturating_add-self.result c.note_failed.ensures.noted (omega arith) (omega arith) c.requires

pub invariant_of-self-in-Ok-clause-linked : goal.invariant_of-self-in-Ok-clause-linked
invariant_of-self-in-Ok-clause-linked c = let self = c.args.self.now in
    linked_write _ _ _ _ _ _ self.linked (past_of self.first.items c.record.new.steps.items) c.saturating_add-self.result c.args.at c.args.from.now
    (grows self.first.items self.steps.items c.record.new.steps.items (Write self.calls c.args.at c.args.from.now) self.calls refl c.in-Ok.ensures.added) (omega arith) c.requires

pub invariant_of-self-in-Ok-clause-few : goal.invariant_of-self-in-Ok-clause-few
invariant_of-self-in-Ok-clause-few c = omega (arith, length-set c.args.self.now.blocks.items c.args.at c.args.from.now)

pub invariant_of-self-in-Err-clause-linked : goal.invariant_of-self-in-Err-clause-linked
invariant_of-self-in-Err-clause-linked c = let self = c.args.self.now in
    let noted = subst (λ (x : List Step). FailedNoted self.calls c.args.at x c.note_failed-in-Err.new.steps.items self.remembered c.note_failed-in-Err.new.remembered) c.in-Err.ensures.none c.note_failed-in-Err.ensures.noted in
    failed_linked self.first.items self.steps.items _ self.calls self.remembered _ _ _ _ self.linked c.args.at c.saturating_add-self.result noted (omega arith) (omega arith) c.requires

pub returns-then-fails-clause-within : goal.returns-then-fails-clause-within
returns-then-fails-clause-within c = let self = c.args.self.now in record {
  size = refl;
  tells = refl;
  streams = refl;
  faults = omega arith;
  clock = omega arith;
  barriers = omega arith;
  writes = omega arith;
  same = λ k not. refl;
  settled = λ k not s. flag_other self.loose.items c.args.at k not ∙ s;
  left_new = λ t i o l. ⊎_elim (λ before. inl before) (λ but. inr (record { count = but.0; same = but.1 }, but.2))
      (failed_left self.first.items self.steps.items _ self.calls self.remembered _ _ _ _ self.linked c.args.at c.saturating_add-self.result c.note_failed.ensures.noted (omega arith) (omega arith) t i o l);
  left_old = λ t i o l. failed_kept self.first.items self.steps.items _ self.calls self.remembered _ _ _ _ self.linked c.args.at c.saturating_add-self.result c.note_failed.ensures.noted (omega arith) (omega arith) t i o l;
}

pub returns-then-fails-clause-past : goal.returns-then-fails-clause-past
returns-then-fails-clause-past c = let self = c.args.self.now in
    failed_past self.first.items self.steps.items _ self.calls self.remembered _ _ _ _ self.linked c.args.at c.saturating_add-self.result c.note_failed.ensures.noted (omega arith) (omega arith)

pub returns-then-fails-clause-settled : goal.returns-then-fails-clause-settled
returns-then-fails-clause-settled c = let self = c.args.self.now in
    failed_settled self.first.items self.steps.items _ self.calls self.remembered _ _ _ _ self.linked c.args.at c.saturating_add-self.result c.note_failed.ensures.noted (omega arith) (omega arith)

pub returns-in-Ok-clause-within : goal.returns-in-Ok-clause-within
returns-in-Ok-clause-within c = let self = c.args.self.now in let d = c.saturating_add-self.result in
    let grown = grows self.first.items self.steps.items c.record.new.steps.items (Write self.calls c.args.at c.args.from.now) self.calls refl c.in-Ok.ensures.added in record {
      size = length-set self.blocks.items c.args.at c.args.from.now;
      tells = refl;
      streams = refl;
      faults = omega arith;
      clock = omega arith;
      barriers = omega arith;
      writes = omega arith;
      same = λ k not. block_set_other self.blocks.items c.args.at c.args.from.now k not;
      settled = λ k not s. flag_other self.loose.items c.args.at k not ∙ s;
      left_new = λ t i o l. ⊎_elim (λ before. inl before) (λ but. inr (record { count = but.0; same = but.1 }, but.2))
          (write_left _ _ _ _ _ _ self.linked (past_of self.first.items c.record.new.steps.items) d c.args.at c.args.from.now grown t i o l);
      left_old = λ t i o l. grown_kept _ _ _ _ _ _ self.linked (Write self.calls c.args.at c.args.from.now) (past_of self.first.items c.record.new.steps.items) d grown (omega arith) t i o l;
    }

pub returns-in-Ok-clause-bytes : goal.returns-in-Ok-clause-bytes
returns-in-Ok-clause-bytes c = λ told. block_set_same c.args.self.now.blocks.items c.args.at c.args.from.now c.requires

pub returns-in-Ok-clause-past : goal.returns-in-Ok-clause-past
returns-in-Ok-clause-past c = let self = c.args.self.now in λ t le.
    let grown = grows self.first.items self.steps.items c.record.new.steps.items (Write self.calls c.args.at c.args.from.now) self.calls refl c.in-Ok.ensures.added in grown.old t le

pub returns-in-Ok-clause-settled : goal.returns-in-Ok-clause-settled
returns-in-Ok-clause-settled c = let self = c.args.self.now in let low = c.fails-fails.ensures.low c.if-fails.false in
    write_settled _ _ _ _ _ _ self.linked (past_of self.first.items c.record.new.steps.items) c.saturating_add-self.result c.args.at c.args.from.now
    (grows self.first.items self.steps.items c.record.new.steps.items (Write self.calls c.args.at c.args.from.now) self.calls refl c.in-Ok.ensures.added) (omega arith)

pub returns-in-Err-clause-within : goal.returns-in-Err-clause-within
returns-in-Err-clause-within c = let self = c.args.self.now in
    let noted = subst (λ (x : List Step). FailedNoted self.calls c.args.at x c.note_failed-in-Err.new.steps.items self.remembered c.note_failed-in-Err.new.remembered) c.in-Err.ensures.none c.note_failed-in-Err.ensures.noted in record {
      size = refl;
      tells = refl;
      streams = refl;
      faults = omega arith;
      clock = omega arith;
      barriers = omega arith;
      writes = omega arith;
      same = λ k not. refl;
      settled = λ k not s. flag_other self.loose.items c.args.at k not ∙ s;
      left_new = λ t i o l. ⊎_elim (λ before. inl before) (λ but. inr (record { count = but.0; same = but.1 }, but.2))
          (failed_left self.first.items self.steps.items _ self.calls self.remembered _ _ _ _ self.linked c.args.at c.saturating_add-self.result noted (omega arith) (omega arith) t i o l);
      left_old = λ t i o l. failed_kept self.first.items self.steps.items _ self.calls self.remembered _ _ _ _ self.linked c.args.at c.saturating_add-self.result noted (omega arith) (omega arith) t i o l;
    }

pub returns-in-Err-clause-past : goal.returns-in-Err-clause-past
returns-in-Err-clause-past c = let self = c.args.self.now in
    let noted = subst (λ (x : List Step). FailedNoted self.calls c.args.at x c.note_failed-in-Err.new.steps.items self.remembered c.note_failed-in-Err.new.remembered) c.in-Err.ensures.none c.note_failed-in-Err.ensures.noted in
    failed_past self.first.items self.steps.items _ self.calls self.remembered _ _ _ _ self.linked c.args.at c.saturating_add-self.result noted (omega arith) (omega arith)

pub returns-in-Err-clause-settled : goal.returns-in-Err-clause-settled
returns-in-Err-clause-settled c = let self = c.args.self.now in
    let noted = subst (λ (x : List Step). FailedNoted self.calls c.args.at x c.note_failed-in-Err.new.steps.items self.remembered c.note_failed-in-Err.new.remembered) c.in-Err.ensures.none c.note_failed-in-Err.ensures.noted in
    failed_settled self.first.items self.steps.items _ self.calls self.remembered _ _ _ _ self.linked c.args.at c.saturating_add-self.result noted (omega arith) (omega arith)
