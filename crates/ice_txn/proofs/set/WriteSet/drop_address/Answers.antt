use Rattle.std.proofs.Common.{rules, ◌≡◌, ◌<◌, ◌≤◌, ◌==◌, cond, false, List, ℕ, length, ap, sym, ◌∙◌, subst, arith}
use Rattle.std.specs.List.{remove}
use Rattle.ice_txn.specs.declared.set.Entry.{Entry}
use Rattle.ice_txn.specs.Sets.{address, holds, over, Differ}
use Rattle.ice_txn.proofs.SetLaws.{count_removed, differ_removed, holds_removed, over_removed, over_none}
use Rattle.ice_txn.proofs.set.WriteSet.drop_address.Goals as goal

pub invariant_of-self : goal.invariant_of-self
invariant_of-self c =
    let s = c.self.inside.entries.items in
    let j = c.in-Some.j in
    let e : s ≡ c.args.self.now.entries = cc in
    let less : j < length s = subst (λ (x : List Entry). j < length x) (sym e) c.in-Some.ensures.0 in
    let i : c.remove.new.self.items ≡ remove s j = c.remove.ensures.items in
    let n = count_removed s j less in
    record {
      differ = subst (λ (x : List Entry). Differ x) (sym i) (differ_removed s j less c.self.invariant.differ);
      few = subst (λ (x : List Entry). length x ≤ c.self.inside.most) (sym i) (omega (arith, n, c.self.invariant.few));
      small = c.self.invariant.small;
      reserved = search rules;
    }

pub returns-in-Some-clause-map : goal.returns-in-Some-clause-map
returns-in-Some-clause-map c = λ m a.
    let s = c.self.inside.entries.items in
    let j = c.in-Some.j in
    let e : s ≡ c.args.self.now.entries = cc in
    let less : j < length s = subst (λ (x : List Entry). j < length x) (sym e) c.in-Some.ensures.0 in
    let here = ap (λ (x : List Entry). address x j) e ∙ c.in-Some.ensures.1 in
    ap (λ (x : List Entry). over x m a) c.remove.ensures.items ∙ over_removed s m j a c.self.invariant.differ less
    ∙ ap (λ (x : ℕ). cond (x == a) (m a) (over s m a)) here
    ∙ ap (λ (x : List Entry). cond (c.args.at == a) (m a) (over x m a)) e

pub returns-in-Some-clause-holds : goal.returns-in-Some-clause-holds
returns-in-Some-clause-holds c = λ a.
    let s = c.self.inside.entries.items in
    let j = c.in-Some.j in
    let e : s ≡ c.args.self.now.entries = cc in
    let less : j < length s = subst (λ (x : List Entry). j < length x) (sym e) c.in-Some.ensures.0 in
    let here = ap (λ (x : List Entry). address x j) e ∙ c.in-Some.ensures.1 in
    ap (λ (x : List Entry). holds x a) c.remove.ensures.items ∙ holds_removed s j a c.self.invariant.differ less
    ∙ ap (λ (x : ℕ). cond (x == a) false (holds s a)) here
    ∙ ap (λ (x : List Entry). cond (c.args.at == a) false (holds x a)) e

pub returns-in_default-clause-map : goal.returns-in_default-clause-map
returns-in_default-clause-map c = λ m a. over_none c.args.self.now.entries m c.args.at a c.in_default.ensures
