use Rattle.std.proofs.Common.{◌≡◌, ◌∙◌, ◌<◌, ◌++◌, ◌∷◌, [], ℕ, List, true, map, length, slice_index, refl, sym, ap, subst, arith}
use Rattle.std.specs.List.{range_with_len}
use Rattle.std.proofs.lemmas.List.FromFn.{length-map-range_with_len, get_or-map-range_with_len, map-range_with_len_more}
use Rattle.ice_base.specs.Lots.{LotView, is_sited, lies_below}
use Rattle.check_calls.proofs.lot.all_groups.Goals as goal

-- the lot of these groups, and a lot with one more
abbrev of_groups : List ℕ → LotView
of_groups gs = record { slot = 0; base = 288; groups = gs }

abbrev with_group : ℕ → LotView → LotView
with_group g x = record { slot = x.slot; base = x.base; groups = x.groups ++ g ∷ [] }

-- the first groups
abbrev first : ℕ → List ℕ
first n = map (λ k. k) (range_with_len 0 n)

all-sited : is_sited (of_groups (first 64)) 16672 ≡ true
unfolding is_sited lies_below
all-sited = refl

pub loop-group-preserved : goal.loop-group-preserved
loop-group-preserved c =
    c.push.ensures ∙ ap (with_group c.loop-group.group) c.loop-group.invariant
    ∙ ap of_groups (sym (map-range_with_len_more (λ k. k) 0 c.loop-group.group c.loop-group.group (omega arith)))

pub returns-clause-sited : goal.returns-clause-sited
returns-clause-sited c =
    let end : c.loop-group.group ≡ 64 = omega arith in
    let all : c.loop-group.lot ≡ of_groups (first 64) = c.loop-group.invariant ∙ ap (λ n. of_groups (first n)) end in
    let P : LotView → Type 0 = λ x. is_sited x 16672 ≡ true in
    subst P (sym all) all-sited

pub push-requires-clause-room : goal.push-requires-clause-room
push-requires-clause-room c = omega (arith, ap (λ (x : LotView). length x.groups) c.loop-group.invariant, length-map-range_with_len {X = ℕ} (λ k. k) 0 c.loop-group.group, c.loop-group-test.true)

pub push-requires-clause-fresh : goal.push-requires-clause-fresh
push-requires-clause-fresh c = λ i h e.
    let long = ap (λ (x : LotView). length x.groups) c.loop-group.invariant in
    let low : i < c.loop-group.group = omega (arith, long, length-map-range_with_len {X = ℕ} (λ k. k) 0 c.loop-group.group, h) in
    let here : slice_index c.loop-group.lot.groups i ≡ i = ap (λ (x : LotView). slice_index x.groups i) c.loop-group.invariant ∙ get_or-map-range_with_len {X = ℕ} (λ k. k) 0 c.loop-group.group i i 0 low (omega arith) in
    omega (arith, here, e, low)
