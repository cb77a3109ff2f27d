-- Runs of lines, and what they give.
use Rattle.std.specs.Prelude.{◌≡◌, ◌<◌, ℕ, ◌+◌, List, [], ◌∷◌, ◌++◌, length, map, ⊤}
use Rattle.tree_spec.specs.Lines.{Line}
use Rattle.tree_spec.specs.Replies.{Response, HasNames}
use Rattle.tree_spec.specs.World.{World, Step}
use Rattle.ice_text.specs.Text.{text}
use Rattle.ice_volume.specs.Lines.{fault_in}

-- a line with its reply and the world after it
pub record Answered : Type 0 where
  pub line : Line
  pub reply : Response
  pub then : World

-- a run: each line's reply and next world follow by a step from the world before
abbrev pub Runs : World → List Answered → Type 0
Runs w [] = ⊤
Runs w (a ∷ rest) = Step w a.line a.reply a.then × Runs a.then rest

-- the world after the last line
abbrev pub end : World → List Answered → World
end w [] = w
end w (a ∷ rest) = end a.then rest

-- the lines of a run
abbrev pub lines_of : List Answered → List Line
lines_of steps = map (λ (a : Answered). a.line) steps

-- the text of its replies
abbrev pub reply_texts : List Answered → List ℕ
reply_texts [] = []
reply_texts (a ∷ rest) = text a.reply ++ reply_texts rest

-- how many replies are a fault
abbrev pub faults_of : List Answered → ℕ
faults_of [] = 0
faults_of (a ∷ rest) = fault_in a.reply + faults_of rest

-- the names in the replies are names
abbrev pub AllNamed : List Answered → Type 0
AllNamed [] = ⊤
AllNamed (a ∷ rest) = HasNames a.reply × AllNamed rest

-- the first bytes, but not all
abbrev pub IsProperPrefix : List ℕ → List ℕ → Type 0
IsProperPrefix xs ys = (rest : List ℕ) × (0 < length rest) × (ys ≡ xs ++ rest)

-- a run of the first lines of a script
pub record RunsFirst (w : World) (script : List Line) (steps : List Answered) : Type 0 where
  pub runs : Runs w steps
  pub ahead : List Line
  pub lines : script ≡ lines_of steps ++ ahead

-- a reply to the line after these
pub record Next (w : World) (script : List Line) (steps : List Answered) (r : Response) (v : World) : Type 0 where
  pub line : Line
  pub ahead : List Line
  pub lines : script ≡ lines_of steps ++ line ∷ ahead
  pub step : Step (end w steps) line r v
