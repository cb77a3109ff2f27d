use Rattle.std.proofs.Common.{◌≡◌, ℕ, List, ap, sym, ◌∙◌, inl, ⊎_elim, nat_eq}
use Rattle.std.specs.List.{list_any}
use Rattle.disk_mem.proofs.Planned.{contains_any, any_contains}
use Rattle.disk_mem.proofs.mem_host.MemHost.fails.Goals as goal

pub returns-clause-planned : goal.returns-clause-planned
returns-clause-planned c =
    let here : c.contains.result ≡ list_any (λ y. nat_eq y c.args.self.now.calls) c.args.self.now.failing.items = c.contains.ensures.value ∙ ap (λ (x : List ℕ). list_any (λ y. nat_eq y c.args.self.now.calls) x) c.deref.ensures.value in (
      λ is. inl (contains_any c.args.self.now.failing.items c.args.self.now.calls (sym here ∙ is)),
      λ planned. ⊎_elim (λ in_list. here ∙ any_contains c.args.self.now.failing.items c.args.self.now.calls in_list.0 in_list.1 in_list.2) (λ last. absurd (c.if-self.false last)) planned,
    )
