-- What the cube of a slot acknowledged in a run, and what of it the cube's history has from there on.
use Rattle.std.specs.Prelude.{◌≡◌, ◌≢◌, ◌⊎◌, ◌≤◌, ℕ, ◌-◌, nat_eq, max, if◌then◌else◌, List, [], ◌∷◌, ◌++◌, take, Option, None, Some, Ok, IsOk}
use Rattle.tree_spec.specs.Replies.{Response, Number}
use Rattle.tree_spec.specs.Operations.{Operation}
use Rattle.tree_spec.specs.Records.{Cube, Sound, History, floor}
use Rattle.tree_spec.specs.Own.{Sync, Unmount}
use Rattle.tree_spec.specs.Alone.{count_in}
use Rattle.tree_spec.specs.World.{World, Aim, Refuse, Listing, At, aim}
use Rattle.ice_run.specs.Runs.{Answered, end}

-- ---- how many commands

-- what the slot's cube has acknowledged after a line, where it had acknowledged n
abbrev pub acknowledged_at : ℕ → Aim → Response → ℕ → ℕ
acknowledged_at s (Refuse why) r n = n
acknowledged_at s Listing r n = n
acknowledged_at s (At x o) r n = if nat_eq x s then max n (count_in r) else n

-- a slot without a cube has acknowledged nothing
abbrev pub if_live : Option Cube → ℕ → ℕ
if_live None n = 0
if_live (Some c) n = n

-- the greatest count that the cube which stands in the slot at the end has acknowledged in the run, from n on
abbrev pub acknowledged_from : ℕ → ℕ → World → List Answered → ℕ
acknowledged_from n s w [] = n
acknowledged_from n s w (a ∷ rest) = acknowledged_from (if_live (a.then.cube s) (acknowledged_at s (aim w a.line) a.reply n)) s a.then rest

-- ---- which commands

-- the slot has a cube before and after each line
abbrev pub LivesOn : ℕ → World → List Answered → Type 0
LivesOn s w [] = w.cube s ≢ None
LivesOn s w (a ∷ rest) = (w.cube s ≢ None) × LivesOn s a.then rest

-- the second history goes on from the first: on the same base, all that was sure is, and comes first
pub record Extends (g h : History) : Type 0 where
  pub base : h.base ≡ g.base
  pub from : h.from ≡ g.from
  pub more : List Operation
  pub sure : h.sure ≡ g.sure ++ more

-- a moment at which all that was accepted was acknowledged: the cube's history then, with nothing that an image may lack
pub record Acknowledges (x : ℕ) (a : Answered) : Type 0 where
  pub cube : Cube
  pub history : History
  pub there : a.then.cube x ≡ Some cube
  pub content : cube.content ≡ Sound history
  pub all : history.since ≡ []
  pub reply : a.reply ≡ Ok (Number (floor history))

-- the first k accepted commands, but for those that the base has
abbrev pub first_commands : History → ℕ → List Operation
first_commands h k = take (k - h.from) (h.sure ++ h.since)

-- the first k accepted commands begin with those that were sure in the history g
pub record BeginsWith (h : History) (k : ℕ) (g : History) : Type 0 where
  pub on : Extends g h
  pub count : floor g ≤ k
  pub more : List Operation
  pub first : first_commands h k ≡ g.sure ++ more

-- a line that acknowledges all that the slot's cube accepted
abbrev pub IsSettling : ℕ → Aim → Type 0
IsSettling x a = (a ≡ At x Sync) ⊎ (a ≡ At x Unmount)

-- Whatever an Ok of `sync` or `unmount` acknowledged, where the cube lived on from there: it is in the first k accepted commands of the
-- history, and comes first.
abbrev pub Includes : ℕ → World → List Answered → History → ℕ → Type 0
Includes x w steps h k = (before rest : List Answered) (a : Answered) → steps ≡ before ++ a ∷ rest → LivesOn x a.then rest
    → IsSettling x (aim (end w before) a.line) → IsOk a.reply
    → (moment : Acknowledges x a) × BeginsWith h k moment.history
