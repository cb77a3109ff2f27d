-- Commands of a tree that no one cube answers.
use Rattle.std.proofs.Common.{◌≡◌, ◌≢◌, ℕ, List, map, None, Ok, Err}
use Rattle.ice_base.specs.Disk.{Image, DiskState}
use Rattle.tree_spec.specs.Held.{RoomContent}
use Rattle.tree_spec.specs.Lines.{Asks, Request}
use Rattle.tree_spec.specs.Operations.{operation}
use Rattle.tree_spec.specs.declared.reply.Refusal.{Refusal}
use Rattle.ice_volume.specs.Lines.{AnswersLine}
use Rattle.ice_volume.specs.Targets.{one_slot, paths_asked, routed}
use Rattle.ice_volume.specs.Volumes.{VolumeView}
use Rattle.ice_volume.proofs.Aiming.{refusal_line}
use Rattle.ice_volume.proofs.Routing.{aims_refused, no_fault}

-- a command that is refused by its routes
pub tree_refused : {D X : Type 0} (state : D → DiskState) (left : D → ℕ → Image → List ℕ → Type 0) (req : Request) → operation 0 req ≢ None
    → (v : VolumeView) (room : RoomContent) (a : D) (r : Refusal)
    → one_slot (map (routed v.system.names) (paths_asked req)) ≡ Err r → AnswersLine {X = X} state left (Asks req) v v room (Ok (Err r)) a a
tree_refused state left req tree v room a r is = refusal_line state left (Asks req) v room a r (no_fault (map (routed v.system.names) (paths_asked req)) r is)
    (λ u stands. aims_refused v (state a) u stands req tree r is)
