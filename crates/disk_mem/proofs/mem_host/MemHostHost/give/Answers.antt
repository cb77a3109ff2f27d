use Rattle.std.proofs.Common.{arith, refl, sym, ◌∙◌, subst, inl, inr, ⊎_elim, take, length, ◌+◌, List, ℕ}
use Rattle.std.proofs.lemmas.List.{append-nil}
use Rattle.disk_mem.specs.Memory.{Linked, LeftSince, past_of}
use Rattle.disk_mem.proofs.Past.{grows, linked_pass, pass_left, pass_kept, linked_give, give_left, give_kept, give_settled, some_first}
use Rattle.disk_mem.specs.declared.step.Step.{Step}
use Rattle.disk_mem.specs.declared.step.Step.TheVariants.{Give}
use Rattle.disk_mem.proofs.mem_host.MemHostHost.give.Goals as goal

pub returns-then-fails-clause-leaves : goal.returns-then-fails-clause-leaves
returns-then-fails-clause-leaves c = let self = c.args.self.now in let d = c.saturating_add-self.result in record {
  left_new = λ t i o l. ⊎_elim (λ before. inl before) (λ now. inr (record { count = now.0; same = λ k inside flag. now.1 k flag }, (0, omega arith, now.2 ∙ sym (append-nil self.output.items)))) (pass_left _ _ _ _ _ _ self.linked d t i o l);
  left_old = λ t i o l. pass_kept _ _ _ _ _ _ self.linked d t i o (omega arith) l;
}

pub invariant_of-self-in-Ok-clause-linked : goal.invariant_of-self-in-Ok-clause-linked
invariant_of-self-in-Ok-clause-linked c = let self = c.args.self.now in let low = c.fails-fails.ensures.low c.if-fails.false in
    let more = take c.min-n.result c.args.bytes.now in
    let grown = grows self.first.items self.steps.items c.add.new.steps.items (Give self.calls (length self.output.items + length more)) self.calls refl c.in-Ok.ensures.noted in
    linked_give _ _ _ _ _ _ self.linked (past_of self.first.items c.add.new.steps.items) c.saturating_add-self.result more c.add.new.output.items grown c.in-Ok.ensures.added (omega arith)

pub invariant_of-self-in-Err-clause-linked : goal.invariant_of-self-in-Err-clause-linked
invariant_of-self-in-Err-clause-linked c = let self = c.args.self.now in
    subst (λ (x : List ℕ). Linked (past_of self.first.items c.add.new.steps.items) c.saturating_add-self.result self.remembered self.blocks.items self.loose.items x) (sym c.in-Err.ensures.none.0)
    (subst (λ (x : List Step). Linked (past_of self.first.items x) c.saturating_add-self.result self.remembered self.blocks.items self.loose.items self.output.items) (sym c.in-Err.ensures.none.1)
    (linked_pass _ _ _ _ _ _ self.linked c.saturating_add-self.result (omega arith)))

pub returns-in-Ok-clause-leaves : goal.returns-in-Ok-clause-leaves
returns-in-Ok-clause-leaves c = let self = c.args.self.now in let d = c.saturating_add-self.result in
    let more = take c.min-n.result c.args.bytes.now in
    let grown = grows self.first.items self.steps.items c.add.new.steps.items (Give self.calls (length self.output.items + length more)) self.calls refl c.in-Ok.ensures.noted in
    record {
      left_new = λ t i o l. ⊎_elim (λ before. inl before) (λ now. inr (record { count = now.0; same = λ k inside flag. now.1 k flag }, some_first self.output.items c.args.bytes.now c.min-n.result o (omega arith) now.2))
          (give_left _ _ _ _ _ _ self.linked (past_of self.first.items c.add.new.steps.items) d more c.add.new.output.items grown c.in-Ok.ensures.added t i o l);
      left_old = λ t i o l. give_kept _ _ _ _ _ _ self.linked (past_of self.first.items c.add.new.steps.items) d more c.add.new.output.items grown c.in-Ok.ensures.added (omega arith) t i o l;
    }

pub returns-in-Ok-clause-past : goal.returns-in-Ok-clause-past
returns-in-Ok-clause-past c = let self = c.args.self.now in
    let more = take c.min-n.result c.args.bytes.now in
    let grown = grows self.first.items self.steps.items c.add.new.steps.items (Give self.calls (length self.output.items + length more)) self.calls refl c.in-Ok.ensures.noted in
    λ t le. grown.old t le

pub returns-in-Ok-clause-settled : goal.returns-in-Ok-clause-settled
returns-in-Ok-clause-settled c = let self = c.args.self.now in let low = c.fails-fails.ensures.low c.if-fails.false in
    let more = take c.min-n.result c.args.bytes.now in
    let grown = grows self.first.items self.steps.items c.add.new.steps.items (Give self.calls (length self.output.items + length more)) self.calls refl c.in-Ok.ensures.noted in
    give_settled _ _ _ _ _ _ self.linked (past_of self.first.items c.add.new.steps.items) c.saturating_add-self.result (length self.output.items + length more) grown (omega arith)

pub returns-in-Err-clause-leaves : goal.returns-in-Err-clause-leaves
returns-in-Err-clause-leaves c = let self = c.args.self.now in let d = c.saturating_add-self.result in record {
  left_new = λ t i o l. ⊎_elim (λ before. inl before) (λ now. inr (record { count = now.0; same = λ k inside flag. now.1 k flag }, (0, omega arith, now.2 ∙ sym (append-nil self.output.items))))
      (pass_left _ _ _ _ _ _ self.linked d t i o (subst (λ (x : List ℕ). LeftSince (past_of self.first.items self.steps.items) d x t i o) c.in-Err.ensures.none.0
      (subst (λ (x : List Step). LeftSince (past_of self.first.items x) d c.add.new.output.items t i o) c.in-Err.ensures.none.1 l)));
  left_old = λ t i o l. subst (λ (x : List ℕ). LeftSince (past_of self.first.items c.add.new.steps.items) d x t i o) (sym c.in-Err.ensures.none.0)
      (subst (λ (x : List Step). LeftSince (past_of self.first.items x) d self.output.items t i o) (sym c.in-Err.ensures.none.1) (pass_kept _ _ _ _ _ _ self.linked d t i o (omega arith) l));
}
