-- Runs that grow by a line.
use Rattle.std.proofs.Common.{◌≡◌, ◌∙◌, ◌<◌, ◌+◌, ℕ, suc, List, [], ◌∷◌, ◌++◌, length, take, drop, refl, sym, ap, append_assoc, length-drop, arith}
use Rattle.std.proofs.lemmas.List.{take-append-drop}
use Rattle.tree_spec.specs.Lines.{Line}
use Rattle.tree_spec.specs.Replies.{Response, HasNames}
use Rattle.tree_spec.specs.World.{World, Step}
use Rattle.ice_text.specs.Text.{text, closings, lines_in}
use Rattle.ice_text.proofs.Closings.{closings-text-append}
use Rattle.ice_volume.specs.Lines.{fault_in}
use Rattle.ice_run.specs.Runs.{Answered, AllNamed, Runs, RunsFirst, end, lines_of, reply_texts, faults_of, IsProperPrefix}

-- one more line
unfoldable pub push : List Answered → Line → Response → World → List Answered
push steps line r v = steps ++ record { line = line; reply = r; then = v } ∷ []

pub runs-push : (w : World) (steps : List Answered) (line : Line) (r : Response) (v : World) → Runs w steps → Step (end w steps) line r v
    → Runs w (push steps line r v)
unfolding push
runs-push w [] line r v runs step = (step, tt)
runs-push w (a ∷ rest) line r v runs step = (runs.0, runs-push a.then rest line r v runs.1 step)

pub end-push : (w : World) (steps : List Answered) (line : Line) (r : Response) (v : World) → end w (push steps line r v) ≡ v
unfolding push
end-push w [] line r v = refl
end-push w (a ∷ rest) line r v = end-push a.then rest line r v

pub lines_of-push : (steps : List Answered) (line : Line) (r : Response) (v : World) → lines_of (push steps line r v) ≡ lines_of steps ++ line ∷ []
unfolding push
lines_of-push [] line r v = refl
lines_of-push (a ∷ rest) line r v = ap (λ (x : List Line). a.line ∷ x) (lines_of-push rest line r v)

pub texts-push : (steps : List Answered) (line : Line) (r : Response) (v : World) → reply_texts (push steps line r v) ≡ reply_texts steps ++ text r
unfolding push
texts-push [] line r v = append_nil (text r)
  where
    append_nil : (xs : List ℕ) → xs ++ [] ≡ xs
    append_nil [] = refl
    append_nil (x ∷ xs) = ap (λ (y : List ℕ). x ∷ y) (append_nil xs)
texts-push (a ∷ rest) line r v =
    ap (λ (x : List ℕ). text a.reply ++ x) (texts-push rest line r v) ∙ sym (append_assoc (text a.reply) (reply_texts rest) (text r))

pub named-push : (steps : List Answered) (line : Line) (r : Response) (v : World) → AllNamed steps → HasNames r → AllNamed (push steps line r v)
unfolding push
named-push [] line r v named has_names = (has_names, tt)
named-push (a ∷ rest) line r v named has_names = (named.0, named-push rest line r v named.1 has_names)

pub faults-push : (steps : List Answered) (line : Line) (r : Response) (v : World) → faults_of (push steps line r v) ≡ faults_of steps + fault_in r
unfolding push
faults-push [] line r v = omega arith
faults-push (a ∷ rest) line r v = omega (arith, faults-push rest line r v)

-- a run of the first lines of a script, with the next one
pub first-push : (w : World) (script : List Line) (steps : List Answered) (line : Line) (ahead : List Line) (r : Response) (v : World)
    → RunsFirst w script steps → script ≡ lines_of steps ++ line ∷ ahead → Step (end w steps) line r v
    → RunsFirst w script (push steps line r v)
first-push w script steps line ahead r v first is step = record {
  runs = runs-push w steps line r v first.runs step;
  ahead = ahead;
  lines = is ∙ sym (append_assoc (lines_of steps) (line ∷ []) ahead) ∙ ap (λ (x : List Line). x ++ ahead) (sym (lines_of-push steps line r v));
}

-- no byte has no closing line
pub closings-none : closings [] ≡ 0
unfolding lines_in
closings-none = refl

-- as many closing lines as whole replies
pub closings-texts : (steps : List Answered) (tail : List ℕ) → AllNamed steps → closings tail ≡ 0 → closings (reply_texts steps ++ tail) ≡ length steps
closings-texts [] tail named none = none
closings-texts (a ∷ rest) tail named none =
    ap closings (append_assoc (text a.reply) (reply_texts rest) tail) ∙ closings-text-append a.reply (reply_texts rest ++ tail) named.0
    ∙ ap suc (closings-texts rest tail named.1 none)

-- a front of a text that is shorter than it
pub front : (xs : List ℕ) (m : ℕ) → m < length xs → IsProperPrefix (take m xs) xs
front xs m less = (drop m xs, omega (arith, length-drop m xs), sym (take-append-drop m xs))
