use Rattle.std.proofs.Common.{◌≡◌, length, drop, nat_lt}
use Rattle.std.specs.List.{list_any}
use Rattle.tree_spec.specs.Costs.{form_of}
use Rattle.ice_look.proofs.paths.has_long_name.Given as goal

-- the names so far are short
abbrev pub invariant-loop-k : goal.invariant-loop-k
invariant-loop-k g l =
    list_any (λ c. nat_lt (form_of g.F.Form.VERSION).longest_name (length c)) (drop l.depth l.path)
    ≡ list_any (λ c. nat_lt (form_of g.F.Form.VERSION).longest_name (length c)) (drop l.k l.path)
