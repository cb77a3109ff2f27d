-- Where a path's directory ends, and the path itself.
use Rattle.std.proofs.Common.{◌≡◌, ◌≤◌, ◌+◌, ◌-◌, ℕ, List, [], ◌∷◌, ◌++◌, length, take, drop, get_or, refl, sym, ap, ◌∙◌, arith, Bool, true, false, None, Some, nat_lt, if◌then◌else◌}
use Rattle.std.proofs.lemmas.List.{take_all, length-drop, nil_from_length}
use Rattle.tree_spec.specs.Trees.{Tree, parent, last_name}
use Rattle.tree_spec.specs.Costs.{Form}
use Rattle.ice_map.specs.declared.codec.Inode.{Inode}
use Rattle.ice_reads.specs.Tables.{Table}
use Rattle.ice_look.specs.Ends.{IsEnds}
use Rattle.ice_look.specs.Places.{place_at}
use Rattle.ice_look.specs.declared.place.Place.{Place}
use Rattle.ice_path.proofs.Prefixes.{names-next}
use Rattle.std.specs.List.{list_any}
use Rattle.std.proofs.lemmas.Bool.Decides.{nat_tests}
use Rattle.tree_spec.specs.Why as why
use Rattle.tree_spec.proofs.Accepted.{first_false, second_false}
use Rattle.ice_look.specs.Stages.{paths_refusal}

-- the names from the depth on end with the last name
pub names-last : (path : List (List ℕ)) (depth last : ℕ) (name : List ℕ) → depth ≤ last → last + 1 ≡ length path
    → name ≡ get_or path last [] → drop depth path ≡ take (last - depth) (drop depth path) ++ name ∷ []
names-last path depth last name h e is =
    let long = length-drop depth path in
    sym (take_all (last + 1 - depth) (drop depth path) (omega arith)) ∙ names-next path depth last name h (omega arith) is

parent-more : (names : List (List ℕ)) (c : List ℕ) → parent (names ++ c ∷ []) ≡ names
parent-more [] c = refl
parent-more (d ∷ []) c = refl
parent-more (d ∷ e ∷ names) c = ap (λ q. d ∷ q) (parent-more (e ∷ names) c)

module _ (f : Form) (o : Table) (t : Tree) where
  -- of the root both are the root
  pub ends-root : (path : List (List ℕ)) (depth n : ℕ) (root : Place) (node : Inode) → length path ≡ depth
      → root ≡ place_at f o (take n (drop depth path)) t → IsEnds f o (drop depth path) t (record { parent = root; end = root; above = node; node = node })
  ends-root path depth n root node e is =
      let long = length-drop depth path in
      let none : drop depth path ≡ [] = nil_from_length (drop depth path) (omega arith) in
      let all : take n (drop depth path) ≡ drop depth path = take_all n (drop depth path) (omega arith) in
      record {
        at_parent = is ∙ ap (λ ns. place_at f o ns t) (all ∙ none ∙ sym (ap parent none));
        at_end = is ∙ ap (λ ns. place_at f o ns t) all;
      }

  -- of any other path
  pub ends-more : (names whole : List (List ℕ)) (c : List ℕ) (p e : Place) (above node : Inode) → whole ≡ names ++ c ∷ [] → p ≡ place_at f o names t
      → e ≡ place_at f o (names ++ c ∷ []) t → IsEnds f o whole t (record { parent = p; end = e; above = above; node = node })
  ends-more names whole c p e above node is at_p at_e = record {
    at_parent = at_p ∙ ap (λ ns. place_at f o ns t) (sym (ap parent is ∙ parent-more names c));
    at_end = at_e ∙ ap (λ ns. place_at f o ns t) (sym is);
  }

-- ---- the last name

last-more : (names : List (List ℕ)) (c : List ℕ) → last_name (names ++ c ∷ []) ≡ c
last-more [] c = refl
last-more (d ∷ []) c = refl
last-more (d ∷ e ∷ names) c = last-more (e ∷ names) c

any-end : (test : List ℕ → Bool) (names : List (List ℕ)) (c : List ℕ) → list_any test (names ++ c ∷ []) ≡ false → test c ≡ false
any-end test [] c h = first_false (test c) false h
any-end test (d ∷ names) c h = any-end test names c (second_false (test d) (list_any test (names ++ c ∷ [])) h)

none-long : (a b : Bool) → (if a then Some why.NameLong else (if b then Some why.TooDeep else None)) ≡ None → a ≡ false
none-long true b h = absurd cc
none-long false b h = refl

-- it is name `last` of the path
pub last-is : (path : List (List ℕ)) (depth last : ℕ) (name : List ℕ) → depth ≤ last → last + 1 ≡ length path → name ≡ get_or path last []
    → name ≡ last_name (drop depth path)
last-is path depth last name h e is =
    let whole = names-last path depth last name h e is in
    sym (ap last_name whole ∙ last-more (take (last - depth) (drop depth path)) name)

-- and not too long, where no name is
pub last-short : (f : Form) (path : List (List ℕ)) (depth last : ℕ) (name : List ℕ) → depth ≤ last → last + 1 ≡ length path
    → name ≡ get_or path last [] → paths_refusal f (drop depth path ∷ []) ≡ None → length name ≤ f.longest_name
last-short f path depth last name h e is none =
    let long : List ℕ → Bool = λ (c : List ℕ). nat_lt f.longest_name (length c) in
    let whole = names-last path depth last name h e is in
    let each : list_any long (drop depth path) ≡ false = first_false (list_any long (drop depth path)) false
    (none-long (list_any (λ p. list_any (λ c. nat_lt f.longest_name (length c)) p) (drop depth path ∷ [])) _ none) in
    let one : nat_lt f.longest_name (length name) ≡ false = any-end long (take (last - depth) (drop depth path)) name (sym (ap (list_any long) whole) ∙ each) in
    grind (arith, nat_tests)
