-- A line of which only the first 40,001 bytes are kept.
use Rattle.std.proofs.Common.{◌≡◌, ◌∙◌, ℕ, ◌<◌, ◌≤◌, List, [], ◌∷◌, ◌++◌, length, length-append, take, if◌then◌else◌, ◌==◌, true, false, refl, sym, ap, arith, zero, suc}
use Rattle.std.specs.Prelude.{nat_lt}
use Rattle.std.proofs.lemmas.List.{take_all, length-take}
use Rattle.std.proofs.lemmas.Grind.{common_steps}
use Rattle.std.proofs.lemmas.Bool.Decides.{nat_tests}
use Rattle.tree_spec.specs.Why.{Long}
use Rattle.tree_spec.specs.Lines.{Bad}
use Rattle.ice_script.specs.Grammar.{line_of, words_of, tokens, longest_line}

-- a line that is full stays as it is
kept_full : (xs : List ℕ) (b n : ℕ) → length xs ≡ n → xs ≡ take n (xs ++ b ∷ [])
kept_full xs b n h = grind (arith, common_steps)

kept_more : (xs : List ℕ) (b n : ℕ) → length xs < n → xs ++ b ∷ [] ≡ take n (xs ++ b ∷ [])
kept_more xs b n h = sym (take_all n (xs ++ b ∷ []) (simp length-append (omega arith)))

not_ten : (b : ℕ) → (b ≡ 10 → ⊥) → (b == 10) ≡ false
not_ten b h = grind (arith, nat_tests)

pub more : (t line new : List ℕ) (b len : ℕ) → line ≡ t → (b ≡ 10 → ⊥) → len ≡ length line → len < 40001 → new ≡ line ++ b ∷ []
    → new ≡ (if b == 10 then t else take 40001 (t ++ b ∷ []))
more t line new b len e n l lt is =
    let room : length t < 40001 = omega (arith, ap length e) in
    rw (not_ten b n) (is ∙ ap (λ xs. xs ++ b ∷ []) e ∙ kept_more t b 40001 room)

pub full : (t line : List ℕ) (b len : ℕ) → line ≡ t → (b ≡ 10 → ⊥) → len ≡ length line → length line ≤ 40001 → 40001 ≤ len
    → t ≡ (if b == 10 then t else take 40001 (t ++ b ∷ []))
full t line b len e n l le ge =
    let whole : length t ≡ 40001 = omega (arith, ap length e) in
    rw (not_ten b n) (kept_full t b 40001 whole)

long : (line : List ℕ) → longest_line < length line → nat_lt longest_line (length line) ≡ true
long line h = grind (arith, nat_tests)

-- a line of more than 40,000 bytes is too long
pub line_of-long : (line : List ℕ) → longest_line < length line → line_of line ≡ Bad Long
line_of-long line h = rw (long line h) refl

pub line_of-kept : (line : List ℕ) → 40001 ≤ length line → line_of line ≡ Bad Long
line_of-kept line h = line_of-long line (omega arith)

is_long : (line : List ℕ) → nat_lt longest_line (length line) ≡ true → longest_line < length line
is_long line h = grind (arith, nat_tests)

is_short : (line : List ℕ) → nat_lt longest_line (length line) ≡ false → length line ≤ 40001
is_short line h =
    let few : length line ≤ longest_line = grind (arith, nat_tests) in
    omega arith

kept_long : (line : List ℕ) → longest_line < length line → 40001 ≤ length (take 40001 line)
kept_long line h = omega (arith, length-take 40001 line)

-- a line that isn't too long says what its tokens say
pub line_of-short : (line kept : List ℕ) (len : ℕ) → kept ≡ line → len ≡ length kept → len < 40001 → line_of line ≡ words_of (tokens kept)
line_of-short line kept len same long less =
    let few : length line < 40001 = omega (arith, ap length same) in
    rw (not_long line few) (ap (λ t. words_of (tokens t)) (sym same))
  where
    not_long : (line : List ℕ) → length line < 40001 → nat_lt longest_line (length line) ≡ false
    not_long line h =
        let most : length line ≤ longest_line = omega arith in
        grind (arith, nat_tests)

-- the first 40,001 bytes say all that the line says
pub line_of-take : (line : List ℕ) → line_of (take 40001 line) ≡ line_of line
line_of-take line = (elim (nat_lt longest_line (length line)) as (λ y. nat_lt longest_line (length line) ≡ y → line_of (take 40001 line) ≡ line_of line) [
  | true ↦ λ h. line_of-kept (take 40001 line) (kept_long line (is_long line h)) ∙ sym (line_of-long line (is_long line h))
  | false ↦ λ h. ap line_of (take_all 40001 line (is_short line h))
]) refl

-- what is kept of a kept line and a further byte is what is kept of the line and the byte
pub take-take-push : (line : List ℕ) (b n : ℕ) → take n (take n line ++ b ∷ []) ≡ take n (line ++ b ∷ [])
take-take-push line b zero = refl
take-take-push [] b (suc n) = refl
take-take-push (x ∷ line) b (suc n) = ap (λ xs. x ∷ xs) (take-take-push line b n)
