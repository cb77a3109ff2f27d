-- What a mounted cube answers to its lines, in words over its record in the world.
use Rattle.std.specs.Prelude.{◌≡◌, ◌≤◌, ℕ, Bool, length, Some, Result, Ok, Err, if◌then◌else◌}
use Rattle.ice_base.specs.Disk.{DiskState}
use Rattle.tree_spec.specs.Held.{most_bytes}
use Rattle.tree_spec.specs.Lines.{Request, Mkdir, Make, Write, Read, Trunc, Remove, Rename, ListDir, Stat}
use Rattle.tree_spec.specs.Own.{Order, Own}
use Rattle.tree_spec.specs.Records.{Cube, History, Sound}
use Rattle.tree_spec.specs.Replies.{Response, Because, Fault, Checked, refusal_number}
use Rattle.tree_spec.specs.Why as why
use Rattle.tree_spec.specs.declared.reply.Refusal.{Refusal}
use Rattle.tree_spec.specs.declared.reply.StateWord.{StateWord}
use Rattle.tree_spec.specs.declared.reply.StateWord.TheVariants.{Mounted, Stopped}
use Rattle.ice_check.specs.declared.fault.CheckFault.{CheckFault}
use Rattle.ice_check.specs.declared.fault.CheckFault.TheVariants as check
use Rattle.ice_check.specs.declared.fault.Summary.{Summary}
use Rattle.ice_rules.specs.Rules.{rule_number}
use Rattle.ice_cube.specs.Cubes.{CubeView, Holds}

-- ---- the record

-- the state of a cube that a session has
abbrev pub open_state : Bool → StateWord
open_state stopped = if stopped then Stopped else Mounted

-- the cube holds what its record in the world says
pub record HoldsRecord (e : CubeView) (s : DiskState) (c : Cube) : Type 0 where
  pub groups : c.groups ≡ length e.lot.groups
  pub state : c.state ≡ open_state e.stopped
  pub history : History
  pub sound : c.content ≡ Sound history
  pub holds : Holds c.form c.mode history e s

-- the reply is one of the record to this order, and the cube holds the record after it
abbrev pub AnswersOwn : CubeView → DiskState → Cube → Order → Response → Type 0
AnswersOwn e s c o r = (d : Cube) × Own (Some c) o r (Some d) × HoldsRecord e s d

-- ---- commands

-- a request of one tree whose paths begin with so many names, with no more bytes than one line has
abbrev pub IsCommand : ℕ → Request → Type 0
IsCommand depth (Mkdir p) = depth ≤ length p
IsCommand depth (Make p) = depth ≤ length p
IsCommand depth (Write p at bytes) = (depth ≤ length p) × (length bytes ≤ most_bytes)
IsCommand depth (Read p at len) = (depth ≤ length p) × (len ≤ most_bytes)
IsCommand depth (Trunc p len) = depth ≤ length p
IsCommand depth (Remove p) = depth ≤ length p
IsCommand depth (Rename p q) = (depth ≤ length p) × (depth ≤ length q)
IsCommand depth (ListDir p) = depth ≤ length p
IsCommand depth (Stat p) = depth ≤ length p
IsCommand depth _ = ⊥

-- a refusal of a tree, damage, or a fault of the disk
abbrev pub IsTreeRefusal : Refusal → Type 0
IsTreeRefusal r = refusal_number r ≤ 16

-- ---- checks

-- what an answer of the checker means as a reply
abbrev pub meant_check : Result Summary CheckFault → Response
meant_check (Ok s) = Ok (Checked s.blocks s.nodes s.done)
meant_check (Err check.Disk) = Err Fault
meant_check (Err (check.Damaged r)) = Err (Because (why.Damaged (rule_number r)))
