-- What the calls of a tree promise over a keep that holds all changes back, in words over what it holds.
use Rattle.std.specs.Prelude.{◌≡◌, ◌≤◌, ℕ, ◌+◌, Bool, true, false, List, ⊤, Result, OnOk, IfErr, IsErrOf, length}
use Rattle.ice_base.specs.Disk.{Image, DiskState, Caused}
use Rattle.ice_base.specs.Frames.{Sure}
use Rattle.ice_base.specs.Lots.{LotView, homes, inside}
use Rattle.ice_base.specs.declared.fault.Rule.{Rule}
use Rattle.tree_spec.specs.Answers.{answer}
use Rattle.tree_spec.specs.Costs.{form_one}
use Rattle.tree_spec.specs.Held.{RoomContent}
use Rattle.tree_spec.specs.Lines.{Request, Read, ListDir, Stat}
use Rattle.tree_spec.specs.Operations.{Operation, paths}
use Rattle.tree_spec.specs.Replies.{Tallies, meant, refusal_number}
use Rattle.tree_spec.specs.Trees.{Tree}
use Rattle.tree_spec.specs.declared.reply.Refusal.{Refusal}
use Rattle.tree_spec.specs.declared.reply.Refusal.TheVariants.{Damaged, Fault}
use Rattle.tree_spec.specs.declared.reply.Value.{Value}
use Rattle.ice_journal.specs.Rests.{LotAtRest, RestsLot}
use Rattle.ice_keep.specs.Journaled.{HeldBack}
use Rattle.ice_look.specs.Broken.{IsBroken}
use Rattle.ice_look.specs.Calls.{RefusesPaths}
use Rattle.ice_look.specs.Outcomes.{AsModel, meant_plain}
use Rattle.ice_reads.specs.Recovers.{MapRecovers}
use Rattle.ice_rules.specs.Rules.{rule_number}
use Rattle.ice_txn.specs.declared.set.Entry.{Entry}
use Rattle.ice_txn.specs.Sets.{SetView, over}
use Rattle.ice_cube.specs.Commands.{IsTreeRefusal}

-- whether a request looks at a tree without changing it
abbrev pub is_look : Request → Bool
is_look (Read p at len) = true
is_look (ListDir p) = true
is_look (Stat p) = true
is_look _ = false

-- the blocks of the lot with what the keep holds in place
abbrev pub shown_by : LotView → SetView → DiskState → ℕ → List ℕ
shown_by lot v s = inside lot (over v.entries (homes lot s.now))

-- where what the keep shows recovers a tree, this holds of the tree and its count
abbrev pub IfHeld : LotView → SetView → DiskState → (ℕ → Tree → ℕ → Type 0) → Type 0
IfHeld lot v s P = (mode k : ℕ) (t : Tree) → s.tells ≡ true → MapRecovers form_one mode lot (shown_by lot v s) t k → P mode t k

-- the lot is at rest, and with these entries in place it has the blocks of the map
pub record RestsWith (lot : LotView) (entries : List Entry) (map : ℕ → List ℕ) (s : DiskState) : Type 0 where
  pub under : ℕ → List ℕ
  pub rest : Sure (RestsLot lot) (LotAtRest lot under) s
  pub same : over entries under ≡ map

-- What each call promises: damage that it names is there, names alone refuse by themselves, no block of the disk changes, and a fault has its cause.
pub record Called {D T : Type 0} (state : D → DiskState) (left : D → ℕ → Image → List ℕ → Type 0) (lot : LotView) (op : Operation)
    (v : SetView) (a : D) (result : Result T Refusal) (w : SetView) (b : D) : Type 0 where
  pub damaged : (n : ℕ) → IsErrOf result (Damaged n) → (state a).tells ≡ true
      → (r : Rule) × (n ≡ rule_number r) × IsBroken form_one lot (shown_by lot v (state a)) r
  pub paths : RefusesPaths 1 (paths op) result
  pub held : HeldBack state left lot v a w b
  pub set : IfErr result IsTreeRefusal
  pub failed : Caused state Fault result a b

-- a look answers as the tree that the keep shows, and the keep shows the same after it
pub record LookedAt {D : Type 0} (state : D → DiskState) (left : D → ℕ → Image → List ℕ → Type 0) (lot : LotView) (op : Operation)
    (v : SetView) (a : D) (result : Result Value Refusal) (room : RoomContent) (w : SetView) (b : D) : Type 0 where
  pub called : Called state left lot op v a result w b
  pub answers : IfHeld lot v (state a) (λ mode t k. AsModel (meant result room) (answer t k (length lot.groups) form_one op).0)
  pub tallies : Tallies result room
  pub same : shown_by lot w (state b) ≡ shown_by lot v (state a)

-- A changing call answers as the tree that the keep shows. An Ok shows the next tree, with one operation more; a refusal of a sound tree shows the same.
pub record ChangedAs {D : Type 0} (state : D → DiskState) (left : D → ℕ → Image → List ℕ → Type 0) (lot : LotView) (op : Operation)
    (v : SetView) (a : D) (result : Result ⊤ Refusal) (w : SetView) (b : D) : Type 0 where
  pub called : Called state left lot op v a result w b
  pub answers : IfHeld lot v (state a) (λ mode t k. AsModel (meant_plain result) (answer t k (length lot.groups) form_one op).0)
  pub changed : IfHeld lot v (state a)
      (λ mode t k. OnOk result (MapRecovers form_one mode lot (shown_by lot w (state b)) (answer t k (length lot.groups) form_one op).1 (k + 1)))
  pub same : IfErr result (λ r. refusal_number r ≤ 14 → shown_by lot w (state b) ≡ shown_by lot v (state a))
