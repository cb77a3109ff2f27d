-- Looking into and putting into a list of entries.
use Rattle.std.proofs.Common.{◌≡◌, ◌≢◌, ◌⊎◌, inl, inr, ℕ, zero, suc, ◌+◌, ◌<◌, ◌≤◌, ◌==◌, Bool, true, false, cond, List, [], ◌∷◌, ◌++◌, length, slice_set, slice_index, slice_index_or, refl, sym, ap, ◌∙◌, subst, arith}
use Rattle.std.proofs.lemmas.Bool.Decides.{nat_tests}
use Rattle.std.specs.List.{remove}
use Rattle.ice_txn.specs.declared.set.Entry.{Entry}
use Rattle.ice_txn.specs.Sets.{address, addresses, contents, holds, over, Differ}

-- what is not held is not covered
pub over_free : (entries : List Entry) (m : ℕ → List ℕ) (a : ℕ) → holds entries a ≡ false → over entries m a ≡ m a
unfolding holds over
over_free [] m a h = refl
over_free (e ∷ entries) m a h = let r = over_free entries m a in grind (arith, nat_tests)

-- what a list of entries leaves of a map
pub ruleset set_laws = (over_free)

-- what a search finds
pub not_held : (entries : List Entry) (at : ℕ) → ((i : ℕ) → i < length entries → address entries i ≢ at) → holds entries at ≡ false
unfolding holds address
not_held [] at h = refl
not_held (e ∷ entries) at h =
    let r : holds entries at ≡ false = not_held entries at (λ i less. h (suc i) (omega (arith, less))) in
    let f : e.at ≢ at = h zero (omega arith) in
    grind (arith, nat_tests)

-- a list of entries holds the address of each entry
pub held_at : (entries : List Entry) (j : ℕ) → j < length entries → holds entries (address entries j) ≡ true
unfolding holds address
held_at [] j less = absurd (omega arith)
held_at (e ∷ entries) zero less = grind (arith, nat_tests)
held_at (e ∷ entries) (suc j) less = let r = held_at entries j (omega arith) in grind (arith, nat_tests)

-- a list of entries holds an address that is the address of one of them
pub held_here : (entries : List Entry) (j at : ℕ) → j < length entries → address entries j ≡ at → holds entries at ≡ true
held_here entries j at less e = subst (λ a. holds entries a ≡ true) e (held_at entries j less)

pub ruleset find_laws = (held_here, not_held)

pub over_at : (entries : List Entry) (m : ℕ → List ℕ) (j : ℕ) (d : Entry) → Differ entries → j < length entries
    → over entries m (address entries j) ≡ (slice_index_or entries j d).block
unfolding over address
over_at [] m j d differ less = absurd (omega arith)
over_at (e ∷ entries) m zero d differ less = grind (arith, nat_tests)
over_at (e ∷ entries) m (suc j) d differ less =
    let r : over entries m (address entries j) ≡ (slice_index_or entries j d).block = over_at entries m j d
    (λ x y h k q. differ (suc x) (suc y) (omega (arith, h)) (omega (arith, k)) q) (omega arith) in
    let f : e.at ≢ address entries j = differ zero (suc j) (omega arith) less in
    grind (arith, nat_tests)

pub at_of : (entries : List Entry) (j : ℕ) (e d : Entry) → j < length entries → e ≡ slice_index_or entries j d → e.at ≡ address entries j
unfolding address
at_of [] j e d less t = absurd (omega arith)
at_of (f ∷ entries) zero e d less t = ap (λ (x : Entry). x.at) t
at_of (f ∷ entries) (suc j) e d less t = at_of entries j e d (omega arith) t

-- an entry with another block in its place
pub address_set : (entries : List Entry) (j : ℕ) (e : Entry) (i : ℕ) → j < length entries → e.at ≡ address entries j
    → address (slice_set entries j e) i ≡ address entries i
unfolding address
address_set [] j e i less t = absurd (omega arith)
address_set (f ∷ entries) zero e zero less t = t
address_set (f ∷ entries) zero e (suc i) less t = refl
address_set (f ∷ entries) (suc j) e zero less t = refl
address_set (f ∷ entries) (suc j) e (suc i) less t = address_set entries j e i (omega arith) t

pub count_set : (entries : List Entry) (j : ℕ) (e : Entry) → length (slice_set entries j e) ≡ length entries
count_set [] j e = refl
count_set (f ∷ entries) zero e = refl
count_set (f ∷ entries) (suc j) e = let r = count_set entries j e in omega arith

pub differ_set : (entries : List Entry) (j : ℕ) (e : Entry) → j < length entries → e.at ≡ address entries j → Differ entries → Differ (slice_set entries j e)
differ_set entries j e less t differ = λ x y h k q.
    let n = count_set entries j e in
    differ x y h (omega (arith, k, n)) (sym (address_set entries j e x less t) ∙ q ∙ address_set entries j e y less t)

pub holds_set : (entries : List Entry) (j : ℕ) (e : Entry) (a : ℕ) → j < length entries → e.at ≡ address entries j
    → holds (slice_set entries j e) a ≡ cond (e.at == a) true (holds entries a)
unfolding holds address
holds_set [] j e a less t = absurd (omega arith)
holds_set (f ∷ entries) zero e a less t = let s : e.at ≡ f.at = t in grind (arith, nat_tests)
holds_set (f ∷ entries) (suc j) e a less t =
    let r : holds (slice_set entries j e) a ≡ cond (e.at == a) true (holds entries a) = holds_set entries j e a (omega arith) t in grind (arith, nat_tests)

pub over_set : (entries : List Entry) (j : ℕ) (e : Entry) (m : ℕ → List ℕ) (a : ℕ) → Differ entries → j < length entries
    → e.at ≡ address entries j → over (slice_set entries j e) m a ≡ cond (e.at == a) e.block (over entries m a)
unfolding over address
over_set [] j e m a differ less t = absurd (omega arith)
over_set (f ∷ entries) zero e m a differ less t = let s : e.at ≡ f.at = t in grind (arith, nat_tests)
over_set (f ∷ entries) (suc j) e m a differ less t =
    let r : over (slice_set entries j e) m a ≡ cond (e.at == a) e.block (over entries m a) = over_set entries j e m a
    (λ x y h k q. differ (suc x) (suc y) (omega (arith, h)) (omega (arith, k)) q) (omega arith) t in
    let g : f.at ≢ e.at = λ q. differ zero (suc j) (omega arith) less (q ∙ t) in
    grind (arith, nat_tests)

-- one more entry
pub holds_push : (entries : List Entry) (e : Entry) (a : ℕ) → holds (entries ++ e ∷ []) a ≡ cond (e.at == a) true (holds entries a)
unfolding holds
holds_push [] e a = grind (arith, nat_tests)
holds_push (f ∷ entries) e a = let r = holds_push entries e a in grind (arith, nat_tests)

pub over_push : (entries : List Entry) (e : Entry) (m : ℕ → List ℕ) (a : ℕ) → holds entries e.at ≡ false
    → over (entries ++ e ∷ []) m a ≡ cond (e.at == a) e.block (over entries m a)
unfolding holds over
over_push [] e m a free = grind (arith, nat_tests)
over_push (f ∷ entries) e m a free = let r = over_push entries e m a in grind (arith, nat_tests)

pub count_push : (entries : List Entry) (e : Entry) → length (entries ++ e ∷ []) ≡ length entries + 1
count_push [] e = refl
count_push (f ∷ entries) e = let r = count_push entries e in omega arith

address_left : (entries : List Entry) (e : Entry) (i : ℕ) → i < length entries → address (entries ++ e ∷ []) i ≡ address entries i
unfolding address
address_left [] e i less = absurd (omega arith)
address_left (f ∷ entries) e zero less = refl
address_left (f ∷ entries) e (suc i) less = address_left entries e i (omega arith)

address_last : (entries : List Entry) (e : Entry) (i : ℕ) → i ≡ length entries → address (entries ++ e ∷ []) i ≡ e.at
unfolding address
address_last [] e zero t = refl
address_last [] e (suc i) t = absurd (omega arith)
address_last (f ∷ entries) e zero t = absurd (omega arith)
address_last (f ∷ entries) e (suc i) t = address_last entries e i (omega arith)

pub differ_push : (entries : List Entry) (e : Entry) → holds entries e.at ≡ false → Differ entries → Differ (entries ++ e ∷ [])
differ_push entries e free differ = λ x y h k q.
    let n = count_push entries e in
    let split : (y < length entries) ⊎ (y ≡ length entries) = grind arith in
    elim split [
      | inl less ↦ differ x y h less (sym (address_left entries e x (omega arith)) ∙ q ∙ address_left entries e y less)
      | inr last ↦
          let less : x < length entries = omega arith in
          let t : address entries x ≡ e.at = sym (address_left entries e x less) ∙ q ∙ address_last entries e y last in
          let f = held_here entries x e.at less t in absurd (let z : true ≡ false = sym f ∙ free in cc)
    ]

-- an entry taken out
out_of : (x a : ℕ) (b : Bool) → (x ≡ a → b ≡ false) → b ≡ cond (x == a) false (cond (x == a) true b)
out_of x a b h =
    let split : (x ≡ a) ⊎ (x ≢ a) = grind arith in
    elim split [
      | inl q ↦ let f = h q in grind (arith, nat_tests)
      | inr n ↦ grind (arith, nat_tests)
    ]

from_under : (x a : ℕ) (b y z : List ℕ) → (x ≡ a → b ≡ z) → b ≡ cond (x == a) z (cond (x == a) y b)
from_under x a b y z h =
    let split : (x ≡ a) ⊎ (x ≢ a) = grind arith in
    elim split [
      | inl q ↦ let f = h q in grind (arith, nat_tests)
      | inr n ↦ grind (arith, nat_tests)
    ]

-- the first address stands in no later entry
first_apart : (e : Entry) (entries : List Entry) → Differ (e ∷ entries) → holds entries e.at ≡ false
unfolding address
first_apart e entries differ = not_held entries e.at (λ i less q. differ zero (suc i) (omega arith) (omega (arith, less)) (sym q))

later : (e : Entry) (entries : List Entry) → Differ (e ∷ entries) → Differ entries
unfolding address
later e entries differ = λ x y h k q. differ (suc x) (suc y) (omega (arith, h)) (omega (arith, k)) q

pub holds_removed : (entries : List Entry) (j a : ℕ) → Differ entries → j < length entries
    → holds (remove entries j) a ≡ cond (address entries j == a) false (holds entries a)
unfolding holds address
holds_removed [] j a differ less = absurd (omega arith)
holds_removed (e ∷ entries) zero a differ less = out_of e.at a (holds entries a) (λ q. subst (λ x. holds entries x ≡ false) q (first_apart e entries differ))
holds_removed (e ∷ entries) (suc j) a differ less =
    let r : holds (remove entries j) a ≡ cond (address entries j == a) false (holds entries a) = holds_removed entries j a
    (later e entries differ) (omega arith) in
    let f : e.at ≢ address entries j = differ zero (suc j) (omega arith) less in
    grind (arith, nat_tests)

pub over_removed : (entries : List Entry) (m : ℕ → List ℕ) (j a : ℕ) → Differ entries → j < length entries
    → over (remove entries j) m a ≡ cond (address entries j == a) (m a) (over entries m a)
unfolding over address
over_removed [] m j a differ less = absurd (omega arith)
over_removed (e ∷ entries) m zero a differ less =
    from_under e.at a (over entries m a) e.block (m a) (λ q. over_free entries m a (subst (λ x. holds entries x ≡ false) q (first_apart e entries differ)))
over_removed (e ∷ entries) m (suc j) a differ less =
    let r : over (remove entries j) m a ≡ cond (address entries j == a) (m a) (over entries m a) = over_removed entries m j a
    (later e entries differ) (omega arith) in
    let f : e.at ≢ address entries j = differ zero (suc j) (omega arith) less in
    grind (arith, nat_tests)

pub count_removed : (entries : List Entry) (j : ℕ) → j < length entries → length (remove entries j) + 1 ≡ length entries
count_removed [] j less = absurd (omega arith)
count_removed (e ∷ entries) zero less = omega arith
count_removed (e ∷ entries) (suc j) less = let r = count_removed entries j (omega arith) in omega arith

address_before : (entries : List Entry) (j i : ℕ) → j < length entries → i < j → address (remove entries j) i ≡ address entries i
unfolding address
address_before [] j i less h = absurd (omega arith)
address_before (e ∷ entries) zero i less h = absurd (omega (arith, h))
address_before (e ∷ entries) (suc j) zero less h = refl
address_before (e ∷ entries) (suc j) (suc i) less h = address_before entries j i (omega arith) (omega (arith, h))

address_behind : (entries : List Entry) (j i : ℕ) → j < length entries → j ≤ i → address (remove entries j) i ≡ address entries (suc i)
unfolding address
address_behind [] j i less h = absurd (omega arith)
address_behind (e ∷ entries) zero i less h = refl
address_behind (e ∷ entries) (suc j) zero less h = absurd (omega (arith, h))
address_behind (e ∷ entries) (suc j) (suc i) less h = address_behind entries j i (omega arith) (omega (arith, h))

pub differ_removed : (entries : List Entry) (j : ℕ) → j < length entries → Differ entries → Differ (remove entries j)
differ_removed entries j less differ = λ x y h k q.
    let n = count_removed entries j less in
    let split : (y < j) ⊎ ((x < j) × (j ≤ y)) ⊎ (j ≤ x) = grind arith in
    elim split [
      | inl before ↦ differ x y h (omega (arith, k, n))
          (sym (address_before entries j x less (omega arith)) ∙ q ∙ address_before entries j y less before)
      | inr (inl (a, b)) ↦ differ x (suc y) (omega arith) (omega (arith, k, n))
          (sym (address_before entries j x less a) ∙ q ∙ address_behind entries j y less b)
      | inr (inr behind) ↦ differ (suc x) (suc y) (omega arith) (omega (arith, k, n))
          (sym (address_behind entries j x less behind) ∙ q ∙ address_behind entries j y less (omega arith))
    ]

-- what is not held reads as the map below, also where it is taken out
pub over_none : (entries : List Entry) (m : ℕ → List ℕ) (at a : ℕ) → holds entries at ≡ false → over entries m a ≡ cond (at == a) (m a) (over entries m a)
over_none entries m at a h =
    let split : (at ≡ a) ⊎ (at ≢ a) = grind arith in
    elim split [
      | inl q ↦ let f : over entries m a ≡ m a = over_free entries m a (subst (λ x. holds entries x ≡ false) q h) in grind (arith, nat_tests)
      | inr n ↦ grind (arith, nat_tests)
    ]

-- ---- entry by entry

-- an address that is held is that of an entry
pub held_entry : (entries : List Entry) (a : ℕ) → holds entries a ≡ true → (j : ℕ) × (j < length entries) × (address entries j ≡ a)
unfolding holds address
held_entry [] a h = absurd (cc h)
held_entry (e ∷ entries) a h =
    elim (e.at == a) as (λ b. (e.at == a) ≡ b → (j : ℕ) × (j < length (e ∷ entries)) × (address (e ∷ entries) j ≡ a)) [
      | true ↦ λ q. let same : e.at ≡ a = grind (arith, nat_tests) in (zero, omega arith, same)
      | false ↦ λ q.
          let rest : holds entries a ≡ true = grind (arith, nat_tests) in
          let r = held_entry entries a rest in
          (suc r.0, omega (arith, r.1), r.2)
    ] refl

-- the block of an entry stands at its address
pub over_here : (entries : List Entry) (m : ℕ → List ℕ) (j : ℕ) → Differ entries → j < length entries → over entries m (address entries j) ≡ contents entries j
unfolding contents
over_here entries m j differ less = over_at entries m j (record { at = 0; block = [] }) differ less

-- there are as many addresses as entries
pub count_addresses : (entries : List Entry) → length (addresses entries) ≡ length entries
count_addresses [] = refl
count_addresses (e ∷ entries) = ap suc (count_addresses entries)

-- the address at a position is that of the entry there
pub address_index : (entries : List Entry) (j : ℕ) → slice_index (addresses entries) j ≡ address entries j
unfolding address
address_index [] j = refl
address_index (e ∷ entries) zero = refl
address_index (e ∷ entries) (suc j) = address_index entries j
