-- What a reader of lines holds, and what its parts answer.
use Rattle.std.specs.Prelude.{◌≡◌, ◌≤◌, ℕ, List, [], Bool, Option, None, Some, Result, Ok, Err, length, take, ⊤}
use denote.Bor.{Bor}
use Rattle.tree_spec.specs.Why.{Why}
use Rattle.tree_spec.specs.Replies.{Refused, Because, refused_of}
use Rattle.tree_spec.specs.Lines.{Line, Bad, Asks, Request, asked}
use Rattle.tree_spec.specs.Lines as ask
use Rattle.tree_spec.specs.declared.command.Command.{Command}
use Rattle.tree_spec.specs.declared.reply.Refusal.{Refusal}
use Rattle.ice_script.specs.declared.command.PathWord.{PathWord}
use Rattle.ice_script.specs.declared.command.PathWord.TheVariants.{Delete, Offline, Online, Mount, Unmount, Check, Sync, Mkdir, Make, Remove, List as ListDir, Stat}
use Rattle.ice_script.specs.declared.command.Parsed.{Parsed}
use Rattle.ice_script.specs.declared.command.Parsed.TheVariants.{Whole, Write}
use Rattle.ice_script.specs.Grammar.{tokens, bytes_of}

-- the first 40,001 bytes of the line that is gathered, and whether it was ended
pub record Gathered : Type 0 where
  pub text : List ℕ
  pub ended : Bool

-- the line is bad for the reason of this refusal
abbrev pub IsRefusedAs : Line → Refusal → Type 0
IsRefusedAs line e = (why : Why) × (line ≡ Bad why) × (refused_of e ≡ Because why)

-- the tokens of what stands behind a blank; none where no blank follows
abbrev pub tokens_behind : Option (Bor (List ℕ)) → List (List ℕ)
tokens_behind None = []
tokens_behind (Some rest) = tokens rest.now

-- what stands behind a blank has at most so many bytes
abbrev pub IsShortBehind : ℕ → Option (Bor (List ℕ)) → Type 0
IsShortBehind limit None = ⊤
IsShortBehind limit (Some rest) = length rest.now ≤ limit

-- how a line is refused, where it is
abbrev pub refusal_in : Line → Option Refused
refusal_in (Bad why) = Some (Because why)
refusal_in (Asks request) = None

-- the answer is what the line asks for, or its refusal
abbrev pub Answers : Line → Result Command Refusal → Type 0
Answers line (Ok command) = line ≡ Asks (asked command)
Answers line (Err e) = refusal_in line ≡ Some (refused_of e)

-- the request of a word that stands before one path
abbrev pub path_request : PathWord → List (List ℕ) → Request
path_request Delete = ask.Delete
path_request Offline = ask.Offline
path_request Online = ask.Online
path_request Mount = ask.Mount
path_request Unmount = ask.Unmount
path_request Check = ask.Check
path_request Sync = ask.Sync
path_request Mkdir = ask.Mkdir
path_request Make = ask.Make
path_request Remove = ask.Remove
path_request ListDir = ask.ListDir
path_request Stat = ask.Stat

-- what a command asks for, whose bytes stand at the front of a buffer
abbrev pub parsed_asked : List ℕ → Parsed → Request
parsed_asked buffer (Whole command) = asked command
parsed_asked buffer (Write path at count) = ask.Write path at (take count buffer)

-- the bytes stand in the buffer
abbrev pub IsWithin : List ℕ → Parsed → Type 0
IsWithin buffer (Whole command) = ⊤
IsWithin buffer (Write path at count) = count ≤ length buffer

-- the bytes of a hex token stand at the front of the buffer, or it is none
abbrev pub Decodes : List ℕ → List ℕ → Option ℕ → Type 0
Decodes token buffer None = bytes_of token ≡ None
Decodes token buffer (Some count) = (count ≤ length buffer) × (bytes_of token ≡ Some (take count buffer))

-- the answer is what the line asks for, with its bytes at the front of the buffer, or its refusal
abbrev pub AnswersFrom : Line → List ℕ → Result Parsed Refusal → Type 0
AnswersFrom line buffer (Ok parsed) = IsWithin buffer parsed × (line ≡ Asks (parsed_asked buffer parsed))
AnswersFrom line buffer (Err e) = refusal_in line ≡ Some (refused_of e)
