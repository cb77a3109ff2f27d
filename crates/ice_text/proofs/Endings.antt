-- Lines that are each ended by an LF.
use Rattle.std.proofs.Common.{◌≡◌, ◌∙◌, ℕ, ◌+◌, ◌<◌, List, [], ◌∷◌, ◌++◌, length, map, get_or, take, refl, sym, ap, append_assoc}
use Rattle.std.proofs.lemmas.List.{map_more}
use Rattle.ice_text.specs.Text.{ended}

pub ended-append : (xs ys : List (List ℕ)) → ended (xs ++ ys) ≡ ended xs ++ ended ys
ended-append [] ys = refl
ended-append (x ∷ xs) ys = ap (λ t. x ++ 10 ∷ t) (ended-append xs ys) ∙ sym (append_assoc x (10 ∷ ended xs) (ended ys))

-- one more item, with its line
pub ended-more : {X : Type 0} (line : X → List ℕ) (xs : List X) (i : ℕ) (x : X) → i < length xs → x ≡ get_or xs i x
    → ended (map line (take (i + 1) xs)) ≡ ended (map line (take i xs)) ++ (line x ++ 10 ∷ [])
ended-more line xs i x h is =
    ap ended (map_more line xs i x h ∙ ap (λ y. map line (take i xs) ++ line y ∷ []) (sym is))
    ∙ ended-append (map line (take i xs)) (line x ∷ [])

-- one more item of a loop, behind what stood there at its start
pub ended-step : {X : Type 0} (line : X → List ℕ) (xs : List X) (i : ℕ) (x : X) (start old new : List ℕ) → i < length xs → x ≡ get_or xs i x
    → old ≡ start ++ ended (map line (take i xs)) → new ≡ old ++ line x ++ 10 ∷ [] → new ≡ start ++ ended (map line (take (i + 1) xs))
ended-step line xs i x start old new h is so_far adds =
    adds ∙ append_assoc old (line x) (10 ∷ []) ∙ ap (λ t. t ++ (line x ++ 10 ∷ [])) so_far
    ∙ append_assoc start (ended (map line (take i xs))) (line x ++ 10 ∷ []) ∙ ap (λ t. start ++ t) (sym (ended-more line xs i x h is))

-- two runs of lines, and a last one
pub ended-two : (xs ys : List (List ℕ)) (last : List ℕ) → ended (xs ++ ys ++ last ∷ []) ≡ ended xs ++ ended ys ++ (last ++ 10 ∷ [])
ended-two xs ys last = ended-append (xs ++ ys) (last ∷ []) ∙ ap (λ t. t ++ (last ++ 10 ∷ [])) (ended-append xs ys)
