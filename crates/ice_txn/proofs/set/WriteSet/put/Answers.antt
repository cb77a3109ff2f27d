use Rattle.std.proofs.Common.{rules, ◌≡◌, ◌==◌, ◌<◌, ◌≤◌, cond, true, false, [], ◌∷◌, ◌++◌, List, ℕ, length, ap, sym, ◌∙◌, subst, arith}
use Rattle.ice_txn.specs.declared.set.Entry.{Entry}
use Rattle.ice_txn.specs.Sets.{address, holds, over, Differ}
use Rattle.ice_txn.proofs.SetLaws.{at_of, over_set, holds_set, differ_set, count_set, over_push, holds_push, differ_push, count_push}
use Rattle.ice_txn.proofs.set.WriteSet.put.Goals as goal

pub invariant_of-self : goal.invariant_of-self
invariant_of-self c =
    let s = c.self.inside.entries.items in
    let j = c.in-Some.j in
    let e : s ≡ c.args.self.now.entries = cc in
    let less : j < length s = subst (λ (x : List Entry). j < length x) (sym e) c.in-Some.ensures.0 in
    let t = at_of s j c.index_mut.result.now c.index_mut.result.now less c.index_mut.ensures.value in
    let new : Entry = record { at = c.index_mut.result.now.at; block = c.args.from.now } in
    let n = count_set s j new in
    record { differ = differ_set s j new less t c.self.invariant.differ; few = omega (arith, n, c.self.invariant.few); small = c.self.invariant.small; reserved = c.self.invariant.reserved }

pub invariant_of-self-in-None : goal.invariant_of-self-in-None
invariant_of-self-in-None c =
    let s = c.self.inside.entries.items in
    let e : s ≡ c.args.self.now.entries = cc in
    let free : holds s c.args.at ≡ false = ap (λ (x : List Entry). holds x c.args.at) e ∙ c.in-None.ensures in
    let new : Entry = record { at = c.args.at; block = c.args.from.now } in
    let n = count_push s new in
    let i : c.push_reserved.new.self.items ≡ s ++ new ∷ [] = c.push_reserved.ensures.items in
    let room : length c.args.self.now.entries < c.args.self.now.most = c.requires.space c.in-None.ensures in
    let most : c.self.inside.most ≡ c.args.self.now.most = cc in
    let few : length s < c.self.inside.most = subst (λ (m : ℕ). length s < m) (sym most) (subst (λ (x : List Entry). length x < c.args.self.now.most) (sym e) room) in
    record {
      differ = subst (λ (x : List Entry). Differ x) (sym i) (differ_push s new free c.self.invariant.differ);
      few = subst (λ (x : List Entry). length x ≤ c.self.inside.most) (sym i) (omega arith);
      small = c.self.invariant.small;
      reserved = search rules;
    }

pub returns-in-Some-clause-map : goal.returns-in-Some-clause-map
returns-in-Some-clause-map c = λ m a.
    let s = c.self.inside.entries.items in
    let j = c.in-Some.j in
    let e : s ≡ c.args.self.now.entries = cc in
    let less : j < length s = subst (λ (x : List Entry). j < length x) (sym e) c.in-Some.ensures.0 in
    let t = at_of s j c.index_mut.result.now c.index_mut.result.now less c.index_mut.ensures.value in
    let here = t ∙ ap (λ (x : List Entry). address x j) e ∙ c.in-Some.ensures.1 in
    let new : Entry = record { at = c.index_mut.result.now.at; block = c.args.from.now } in
    over_set s j new m a c.self.invariant.differ less t
    ∙ ap (λ (x : ℕ). cond (x == a) c.args.from.now (over s m a)) here
    ∙ ap (λ (x : List Entry). cond (c.args.at == a) c.args.from.now (over x m a)) e

pub returns-in-Some-clause-holds : goal.returns-in-Some-clause-holds
returns-in-Some-clause-holds c = λ a.
    let s = c.self.inside.entries.items in
    let j = c.in-Some.j in
    let e : s ≡ c.args.self.now.entries = cc in
    let less : j < length s = subst (λ (x : List Entry). j < length x) (sym e) c.in-Some.ensures.0 in
    let t = at_of s j c.index_mut.result.now c.index_mut.result.now less c.index_mut.ensures.value in
    let here = t ∙ ap (λ (x : List Entry). address x j) e ∙ c.in-Some.ensures.1 in
    let new : Entry = record { at = c.index_mut.result.now.at; block = c.args.from.now } in
    holds_set s j new a less t
    ∙ ap (λ (x : ℕ). cond (x == a) true (holds s a)) here
    ∙ ap (λ (x : List Entry). cond (c.args.at == a) true (holds x a)) e

pub returns-in-None-clause-map : goal.returns-in-None-clause-map
returns-in-None-clause-map c = λ m a.
    let s = c.self.inside.entries.items in
    let e : s ≡ c.args.self.now.entries = cc in
    let free : holds s c.args.at ≡ false = ap (λ (x : List Entry). holds x c.args.at) e ∙ c.in-None.ensures in
    let new : Entry = record { at = c.args.at; block = c.args.from.now } in
    ap (λ (x : List Entry). over x m a) c.push_reserved.ensures.items ∙ over_push s new m a free
    ∙ ap (λ (x : List Entry). cond (c.args.at == a) c.args.from.now (over x m a)) e

pub returns-in-None-clause-holds : goal.returns-in-None-clause-holds
returns-in-None-clause-holds c = λ a.
    let s = c.self.inside.entries.items in
    let e : s ≡ c.args.self.now.entries = cc in
    let new : Entry = record { at = c.args.at; block = c.args.from.now } in
    ap (λ (x : List Entry). holds x a) c.push_reserved.ensures.items ∙ holds_push s new a
    ∙ ap (λ (x : List Entry). cond (c.args.at == a) true (holds x a)) e
