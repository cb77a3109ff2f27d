-- Worked examples: what is acknowledged, which commands come first, how many groups were added.
use Rattle.std.proofs.Common.{◌≡◌, ℕ, nat_eq, List, [], ◌∷◌, None, Some, Ok, Err, refl}
use Rattle.std.specs.Prelude.{if◌then◌else◌}
use Rattle.tree_spec.specs.Why as why
use Rattle.tree_spec.specs.Trees.{Dir, Nil}
use Rattle.tree_spec.specs.Lines.{Request, Asks}
use Rattle.tree_spec.specs.Lines as line
use Rattle.tree_spec.specs.Replies.{Response, Because, Number, Plain}
use Rattle.tree_spec.specs.Operations.{Mkdir, Make}
use Rattle.tree_spec.specs.Own.{Grow, Sync}
use Rattle.tree_spec.specs.Records.{History, new_cube}
use Rattle.tree_spec.specs.World.{World, with_slot, slot_with_path, free_slot, free_groups}
use Rattle.ice_run.specs.Runs.{Answered}
use Rattle.ice_headline.specs.Acknowledged.{acknowledged_from, first_commands}
use Rattle.ice_headline.specs.Later.{added}

-- the paths /a and /b
abbrev path_a : List (List ℕ)
path_a = (97 ∷ []) ∷ []

abbrev path_b : List (List ℕ)
path_b = (98 ∷ []) ∷ []

-- /a in slot 0 and /b in slot 1; /b alone
abbrev both : World
both = record { slots = 2; groups = 8; cube = λ s. if nat_eq s 0 then Some (new_cube path_a 1) else if nat_eq s 1 then Some (new_cube path_b 1) else None }

abbrev only_b : World
only_b = with_slot both 0 None

abbrev answered : Request → Response → World → Answered
answered q r v = record { line = Asks q; reply = r; then = v }

-- /a was synced with 3 commands and again with 5, /b with 7, and a mount of /a was refused
abbrev synced : List Answered
synced = answered (line.Sync path_a) (Ok (Number 3)) both ∷ answered (line.Sync path_b) (Ok (Number 7)) both ∷ answered (line.Sync path_a) (Ok (Number 5)) both
    ∷ answered (line.Mount path_a) (Err (Because why.Mounted)) both ∷ []

-- the greatest count of the cube itself
a_acknowledged : acknowledged_from 0 0 both synced ≡ 5
unfolding slot_with_path
a_acknowledged = refl

b_acknowledged : acknowledged_from 0 1 both synced ≡ 7
unfolding slot_with_path
b_acknowledged = refl

-- a cube that was deleted binds none that is made in its slot
abbrev made_again : List Answered
made_again =
    answered (line.Sync path_a) (Ok (Number 3)) both ∷ answered (line.Delete path_a) (Ok Plain) only_b ∷ answered (line.Create path_a 1) (Ok Plain) both
    ∷ answered (line.Sync path_a) (Ok (Number 1)) both ∷ []

new_acknowledged : acknowledged_from 0 0 both made_again ≡ 1
unfolding slot_with_path free_slot free_groups
new_acknowledged = refl

-- a base of two commands, one that is sure and two that an image may lack
abbrev history : History
history = record { base = Dir Nil; from = 2; sure = Mkdir path_a ∷ []; since = Make path_b ∷ Mkdir path_b ∷ [] }

four_commands : first_commands history 4 ≡ Mkdir path_a ∷ Make path_b ∷ []
four_commands = refl

-- two orders that added groups, and one that was refused
added_groups : added (record { order = Grow 2; reply = Ok Plain } ∷ record { order = Grow 9; reply = Err (Because why.NoGroups) } ∷ record { order = Sync; reply = Ok (Number 4) } ∷ record { order = Grow 3; reply = Ok Plain } ∷ []) ≡ 5
added_groups = refl
