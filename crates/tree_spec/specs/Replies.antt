-- Replies with their content, and what the code's replies mean.
use Rattle.std.specs.Prelude.{◌≡◌, ℕ, ◌+◌, true, List, length, Result, Ok, Err, All, ⊤}
use Rattle.tree_spec.specs.Names.{is_name, IsNameList}
use Rattle.tree_spec.specs.Why as why
use Rattle.tree_spec.specs.Why.{Why}
use Rattle.tree_spec.specs.Held.{RoomContent}
use Rattle.tree_spec.specs.declared.reply.Entry.{Entry}
use Rattle.tree_spec.specs.declared.reply.CubeRow.{CubeRow}
use Rattle.tree_spec.specs.declared.reply.Refusal.{Refusal}
use Rattle.tree_spec.specs.declared.reply.Refusal.TheVariants as code
use Rattle.tree_spec.specs.declared.reply.Value.{Value}
use Rattle.tree_spec.specs.declared.reply.Value.TheVariants as given

-- a refusal in three classes: with its reason, a fault of the disk, want of memory
pub data Refused : Type 0 where
  Because : Why → Refused
  Fault : Refused
  Memory : Refused

-- the value of an accepted command, with its content
pub data Accepted : Type 0 where
  Plain : Accepted
  Number : ℕ → Accepted
  Bytes : List ℕ → Accepted
  Dir : ℕ → Accepted
  File : ℕ → Accepted
  Listed : List Entry → List CubeRow → Accepted
  Checked : ℕ → ℕ → ℕ → Accepted

-- a reply with its content
abbrev pub Response : Type 0
Response = Result Accepted Refused

-- the number of a refusal, by the order of the variants
abbrev pub refusal_number : Refusal → ℕ
refusal_number code.NameLong = 1
refusal_number code.TooDeep = 2
refusal_number code.NotFound = 3
refusal_number code.NotDir = 4
refusal_number code.IsDir = 5
refusal_number code.IsRoot = 6
refusal_number code.Exists = 7
refusal_number code.NotEmpty = 8
refusal_number code.IntoItself = 9
refusal_number code.BeyondEnd = 10
refusal_number code.FileBig = 11
refusal_number code.NoNodes = 12
refusal_number code.NoSpace = 13
refusal_number code.Spent = 14
refusal_number (code.Damaged rule) = 15
refusal_number code.Fault = 16
refusal_number code.Memory = 17
refusal_number code.Word = 18
refusal_number code.Args = 19
refusal_number code.Number = 20
refusal_number code.Hex = 21
refusal_number code.Long = 22
refusal_number code.Path = 23
refusal_number code.NoCube = 24
refusal_number code.CrossCube = 25
refusal_number code.Offline = 26
refusal_number code.Stopped = 27
refusal_number code.Unmounted = 28
refusal_number code.Mounted = 29
refusal_number code.State = 30
refusal_number code.NoSlot = 31
refusal_number code.CubeFull = 32
refusal_number code.NoGroups = 33

-- what a refusal of the code means
abbrev pub refused_of : Refusal → Refused
refused_of code.NameLong = Because why.NameLong
refused_of code.TooDeep = Because why.TooDeep
refused_of code.NotFound = Because why.NotFound
refused_of code.NotDir = Because why.NotDir
refused_of code.IsDir = Because why.IsDir
refused_of code.IsRoot = Because why.IsRoot
refused_of code.Exists = Because why.Exists
refused_of code.NotEmpty = Because why.NotEmpty
refused_of code.IntoItself = Because why.IntoItself
refused_of code.BeyondEnd = Because why.BeyondEnd
refused_of code.FileBig = Because why.FileBig
refused_of code.NoNodes = Because why.NoNodes
refused_of code.NoSpace = Because why.NoSpace
refused_of code.Spent = Because why.Spent
refused_of (code.Damaged rule) = Because (why.Damaged rule)
refused_of code.Fault = Fault
refused_of code.Memory = Memory
refused_of code.Word = Because why.Word
refused_of code.Args = Because why.Args
refused_of code.Number = Because why.Number
refused_of code.Hex = Because why.Hex
refused_of code.Long = Because why.Long
refused_of code.Path = Because why.Path
refused_of code.NoCube = Because why.NoCube
refused_of code.CrossCube = Because why.CrossCube
refused_of code.Offline = Because why.Offline
refused_of code.Stopped = Because why.Stopped
refused_of code.Unmounted = Because why.Unmounted
refused_of code.Mounted = Because why.Mounted
refused_of code.State = Because why.State
refused_of code.NoSlot = Because why.NoSlot
refused_of code.CubeFull = Because why.CubeFull
refused_of code.NoGroups = Because why.NoGroups

-- what a value of the code means, with what the room holds
abbrev pub accepted_of : Value → RoomContent → Accepted
accepted_of given.Plain room = Plain
accepted_of (given.Number n) room = Number n
accepted_of given.Bytes room = Bytes room.bytes
accepted_of (given.Dir n) room = Dir n
accepted_of (given.File n) room = File n
accepted_of (given.Listed n) room = Listed room.entries room.rows
accepted_of (given.Checked blocks nodes done) room = Checked blocks nodes done

-- what a reply of the code means, with what the room holds
abbrev pub meant : Result Value Refusal → RoomContent → Response
meant (Ok value) room = Ok (accepted_of value room)
meant (Err refusal) room = Err (refused_of refusal)

-- a listing's number is that of the room's entries and rows
abbrev pub Tallies : Result Value Refusal → RoomContent → Type 0
Tallies (Ok given.Plain) room = ⊤
Tallies (Ok (given.Number n)) room = ⊤
Tallies (Ok given.Bytes) room = ⊤
Tallies (Ok (given.Dir n)) room = ⊤
Tallies (Ok (given.File n)) room = ⊤
Tallies (Ok (given.Listed n)) room = n ≡ length room.entries + length room.rows
Tallies (Ok (given.Checked blocks nodes done)) room = ⊤
Tallies (Err refusal) room = ⊤

-- the names of the entries and of the rows' paths are names
abbrev pub HasNames : Response → Type 0
HasNames (Ok Plain) = ⊤
HasNames (Ok (Number n)) = ⊤
HasNames (Ok (Bytes bytes)) = ⊤
HasNames (Ok (Dir n)) = ⊤
HasNames (Ok (File n)) = ⊤
HasNames (Ok (Listed entries rows)) = All (λ e. is_name e.name ≡ true) entries × All (λ row. IsNameList row.path) rows
HasNames (Ok (Checked blocks nodes done)) = ⊤
HasNames (Err refused) = ⊤
