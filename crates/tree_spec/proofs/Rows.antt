-- Worked examples: what a tree answers, one operation after another.
use Rattle.std.proofs.Common.{◌≡◌, ℕ, zero, suc, ◌+◌, ◌-◌, ◌*◌, ◌^◌, nat_eq, if◌then◌else◌, true, false, List, [], ◌∷◌, length, refl, ap, arith}
use Rattle.std.specs.Prelude.{Ok, Err, Option, None, Some, replicate, map, slice_get}
use Rattle.tree_spec.specs.Replies.{Response, Because, Plain, Bytes, Listed}
use Rattle.tree_spec.specs.Replies as value
use Rattle.tree_spec.specs.Why as why
use Rattle.tree_spec.specs.Trees.{Tree, File, Dir, Nil, Entry}
use Rattle.tree_spec.specs.Costs.{form_one, form_two, blocks, nodes, map_cost, file_blocks, dir_blocks}
use Rattle.tree_spec.specs.Lines as line
use Rattle.tree_spec.specs.Operations.{Operation, Mkdir, Make, Write, Read, Trunc, Remove, Rename, ListDir, Stat, operation}
use Rattle.tree_spec.specs.Answers.{answer, refusal, tree_after}
use Rattle.tree_spec.specs.Records.{Cube}
use Rattle.tree_spec.specs.World.{cube_rows}
use Rattle.tree_spec.specs.Routes.{route}
use Rattle.tree_spec.proofs.Writes.{length-written}

-- the names `a` to `g`
abbrev a : List ℕ
a = 97 ∷ []

abbrev b : List ℕ
b = 98 ∷ []

abbrev d : List ℕ
d = 100 ∷ []

abbrev e : List ℕ
e = 101 ∷ []

abbrev f : List ℕ
f = 102 ∷ []

abbrev g : List ℕ
g = 103 ∷ []

-- what a cube of one group answers, with the tree after it
abbrev asks : Tree → Operation → Response × Tree
asks t op = answer t 0 1 form_one op

abbrev replies : Tree → List Operation → List Response
replies t [] = []
replies t (op ∷ ops) = (asks t op).0 ∷ replies (asks t op).1 ops

abbrev ends : Tree → List Operation → Tree
ends t [] = t
ends t (op ∷ ops) = ends (asks t op).1 ops

abbrev ok : Response
ok = Ok Plain

abbrev empty : Tree
empty = Dir Nil

-- ---- files: a write past the end, reads, truncation, and what is refused of files and directories

files : replies empty (
    Make (f ∷ []) ∷ Write (f ∷ []) 0 (0 ∷ 255 ∷ []) ∷ Write (f ∷ []) 2 [] ∷ Write (f ∷ []) 3 (0 ∷ []) ∷ Read (f ∷ []) 2 5 ∷ Read
    (f ∷ []) 1 9 ∷ Read (f ∷ []) 3 0 ∷
    Trunc (f ∷ []) 3 ∷ Trunc (f ∷ []) 1 ∷ Stat (f ∷ []) ∷ Stat [] ∷ Read [] 0 1 ∷ ListDir (f ∷ []) ∷ Make (f ∷ []) ∷ Make (f ∷ g ∷ []) ∷ [])
    ≡ ok ∷ ok ∷ ok ∷ Err (Because why.BeyondEnd) ∷ Ok (Bytes []) ∷ Ok (Bytes (255 ∷ [])) ∷ Err (Because why.BeyondEnd) ∷
    Err (Because why.BeyondEnd) ∷ ok ∷ Ok (value.File 1) ∷ Ok (value.Dir 1) ∷ Err (Because why.IsDir) ∷ Err (Because why.NotDir) ∷ Err
    (Because why.Exists) ∷ Err (Because why.NotDir) ∷ []
unfolding refusal
files = refl

-- a write that reaches past the end replaces bytes and extends the file
written_over_the_end : ends empty (Make (f ∷ []) ∷ Write (f ∷ []) 0 (1 ∷ 2 ∷ 3 ∷ []) ∷ Write (f ∷ []) 2 (8 ∷ 9 ∷ []) ∷ [])
    ≡ Dir (Entry f (File (1 ∷ 2 ∷ 8 ∷ 9 ∷ [])) Nil)
unfolding refusal
written_over_the_end = refl

-- a write in the middle keeps what stands behind it
written_in_the_middle : ends empty (Make (f ∷ []) ∷ Write (f ∷ []) 0 (1 ∷ 2 ∷ 3 ∷ []) ∷ Write (f ∷ []) 1 (8 ∷ []) ∷ [])
    ≡ Dir (Entry f (File (1 ∷ 8 ∷ 3 ∷ [])) Nil)
unfolding refusal
written_in_the_middle = refl

-- ---- renames: into itself, onto itself, across directories

renames : replies empty (
    Make (f ∷ []) ∷ Mkdir (d ∷ []) ∷ Rename (d ∷ []) (d ∷ e ∷ []) ∷ Rename (d ∷ []) (d ∷ []) ∷ Rename (f ∷ []) (d ∷ f ∷ []) ∷ Remove
    (d ∷ []) ∷ Rename (f ∷ []) (g ∷ []) ∷ [])
    ≡ ok ∷ ok ∷ Err (Because why.IntoItself) ∷ ok ∷ ok ∷ Err (Because why.NotEmpty) ∷ Err (Because why.NotFound) ∷ []
unfolding refusal
renames = refl

across : ends empty (Make (f ∷ []) ∷ Mkdir (d ∷ []) ∷ Write (f ∷ []) 0 (7 ∷ []) ∷ Rename (f ∷ []) (d ∷ g ∷ []) ∷ [])
    ≡ Dir (Entry d (Dir (Entry g (File (7 ∷ [])) Nil)) Nil)
unfolding refusal
across = refl

onto_itself : ends empty (Mkdir (d ∷ []) ∷ Make (d ∷ f ∷ []) ∷ Rename (d ∷ []) (d ∷ []) ∷ []) ≡ Dir (Entry d (Dir (Entry f (File []) Nil)) Nil)
unfolding refusal
onto_itself = refl

-- a directory moves with all that is below it
whole_trees_move : ends empty (Mkdir (d ∷ []) ∷ Mkdir (d ∷ e ∷ []) ∷ Make (d ∷ e ∷ f ∷ []) ∷ Mkdir (a ∷ []) ∷ Rename (d ∷ e ∷ []) (a ∷ b ∷ []) ∷ [])
    ≡ Dir (Entry a (Dir (Entry b (Dir (Entry f (File []) Nil)) Nil)) (Entry d (Dir Nil) Nil))
unfolding refusal
whole_trees_move = refl

-- several refusals at once: the lowest number is answered
lowest : replies empty (Make (f ∷ []) ∷ Mkdir (d ∷ []) ∷ Rename [] (f ∷ []) ∷ Rename [] [] ∷ Rename (d ∷ []) (g ∷ e ∷ []) ∷ Rename (f ∷ []) (f ∷ e ∷ []) ∷ Rename (d ∷ []) (f ∷ e ∷ []) ∷ Mkdir [] ∷ Remove [] ∷ Remove (g ∷ f ∷ []) ∷ Remove (f ∷ g ∷ []) ∷ [])
    ≡ ok ∷ ok ∷ Err (Because why.IsRoot) ∷ Err (Because why.IsRoot) ∷ Err (Because why.NotFound) ∷ Err (Because why.NotDir) ∷ Err
    (Because why.NotDir) ∷ Err (Because why.IsRoot) ∷ Err (Because why.IsRoot) ∷ Err (Because why.NotFound) ∷ Err (Because why.NotDir) ∷ []
unfolding refusal
lowest = refl

-- a listing is in the order of the names' bytes, a prefix first
listing : replies empty (Mkdir (b ∷ []) ∷ Make ((97 ∷ 98 ∷ []) ∷ []) ∷ Mkdir (a ∷ []) ∷ ListDir [] ∷ [])
    ≡ ok ∷ ok ∷ ok ∷ Ok (Listed (record { name = a; dir = true } ∷ record { name = 97 ∷ 98 ∷ []; dir = false } ∷ record { name = b; dir = true } ∷ []) []) ∷ []
unfolding refusal
listing = refl

-- ---- depth and names

-- a path of n names `d`
abbrev deep : ℕ → List (List ℕ)
deep zero = []
deep (suc n) = d ∷ deep n

-- directories on a path of n names
abbrev chain : ℕ → Tree
chain zero = Dir Nil
chain (suc n) = Dir (Entry d (chain n) Nil)

-- a 24th level is made
level_24 : asks (chain 23) (Mkdir (deep 24)) ≡ (ok, chain 24)
unfolding refusal
level_24 = refl

-- and a 25th is too deep
level_25 : asks (chain 24) (Mkdir (deep 25)) ≡ (Err (Because why.TooDeep), chain 24)
unfolding refusal
level_25 = refl

-- a rename counts the height of what moves: below one name more it stands 24 deep, below two it would stand 25 deep
moved_to_24 : (asks (Dir (Entry a (Dir Nil) (Entry d (chain 22) Nil))) (Rename (d ∷ []) (a ∷ d ∷ []))).0 ≡ ok
unfolding refusal
moved_to_24 = refl

moved_to_25 : (asks (Dir (Entry a (Dir Nil) (Entry d (chain 23) Nil))) (Rename (d ∷ []) (a ∷ d ∷ []))).0 ≡ Err (Because why.TooDeep)
unfolding refusal
moved_to_25 = refl

-- too deep comes before the root
root_too_deep : (asks (chain 24) (Rename [] (a ∷ []))).0 ≡ Err (Because why.TooDeep)
unfolding refusal
root_too_deep = refl

-- names of 59 bytes and of 60
name_59 : (asks empty (Mkdir (replicate 59 97 ∷ []))).0 ≡ ok
unfolding refusal
name_59 = refl

name_60 : (asks empty (Mkdir (replicate 60 97 ∷ []))).0 ≡ Err (Because why.NameLong)
unfolding refusal
name_60 = refl

-- in the other form the longest name has 123 bytes
name_123 : (answer empty 0 1 form_two (Mkdir (replicate 123 97 ∷ []))).0 ≡ ok
unfolding refusal
name_123 = refl

name_124 : (answer empty 0 1 form_two (Mkdir (replicate 124 97 ∷ []))).0 ≡ Err (Because why.NameLong)
unfolding refusal
name_124 = refl

-- a long name is refused before a deep path
long_and_deep : (asks empty (Mkdir (replicate 60 97 ∷ deep 24))).0 ≡ Err (Because why.NameLong)
unfolding refusal
long_and_deep = refl

-- ---- quotas

-- mkdir of the names 48, 49, ..
abbrev mkdirs : ℕ → ℕ → List Operation
mkdirs from zero = []
mkdirs from (suc n) = Mkdir ((from ∷ []) ∷ []) ∷ mkdirs (suc from) n

-- a group has room for 63 directories below the root, which cost the root 4 blocks
room_for_63 : nodes (ends empty (mkdirs 48 63)) ≡ 64
unfolding refusal
room_for_63 = refl

cost_of_63 : blocks form_one (ends empty (mkdirs 48 63)) ≡ 4
unfolding refusal
cost_of_63 = refl

no_64th : (asks (ends empty (mkdirs 48 63)) (Mkdir ((120 ∷ []) ∷ []))).0 ≡ Err (Because why.NoNodes)
unfolding refusal
no_64th = refl

-- after 2^63 - 1 accepted operations no change is accepted, but a read is
spent : (answer empty (2 ^ 63 - 1) 1 form_one (Mkdir (d ∷ []))).0 ≡ Err (Because why.Spent)
unfolding refusal
spent = refl

read_when_spent : (answer empty (2 ^ 63 - 1) 1 form_one (Stat [])).0 ≡ Ok (value.Dir 0)
unfolding refusal
read_when_spent = refl

-- the costs of maps: the indirect block at 13, the double-indirect block and its first one at 269, one more at 525
map_costs : map_cost 0 ∷ map_cost 12 ∷ map_cost 13 ∷ map_cost 268 ∷ map_cost 269 ∷ map_cost 524 ∷ map_cost 525 ∷ [] ≡ 0 ∷ 12 ∷ 14 ∷ 269 ∷ 272 ∷ 527 ∷ 529 ∷ []
map_costs = refl

-- version 2: the longest file has just the blocks of the longest map, and an entry takes twice the place
form_two_rows : file_blocks form_two.longest_file ∷ form_two.entries_per_block ∷ form_two.longest_name ∷ dir_blocks form_one 9 ∷ dir_blocks form_two 8 ∷ dir_blocks form_two 9 ∷ []
    ≡ 65804 ∷ 8 ∷ 123 ∷ 1 ∷ 1 ∷ 2 ∷ []
form_two_rows = refl

longest_files : form_one.longest_file ∷ form_two.longest_file ∷ 1024 * (12 + 256 + 256 * 256) ∷ [] ≡ 274432 ∷ 67383296 ∷ 67383296 ∷ []
longest_files = refl

-- what a root costs with one file of so many bytes
abbrev with_file : List ℕ → Tree
with_file bytes = Dir (Entry f (File bytes) Nil)

cost_by_size : (bytes : List ℕ) (size : ℕ) → length bytes ≡ size → blocks form_one (with_file bytes) ≡ 1 + (map_cost (file_blocks size) + 0)
cost_by_size bytes size h = ap (λ n. 1 + (map_cost (file_blocks n) + 0)) h

-- 12 blocks in the inode, and a 13th with its indirect block
cost_of_12_blocks : (bytes : List ℕ) → length bytes ≡ 12288 → blocks form_one (with_file bytes) ≡ 13
cost_of_12_blocks bytes h = cost_by_size bytes 12288 h

cost_of_13_blocks : (bytes : List ℕ) → length bytes ≡ 12289 → blocks form_one (with_file bytes) ≡ 15
cost_of_13_blocks bytes h = cost_by_size bytes 12289 h

-- the largest file of a cube of one group, beside its root
cost_of_245_blocks : (bytes : List ℕ) → length bytes ≡ 250880 → blocks form_one (with_file bytes) ≡ 247
cost_of_245_blocks bytes h = cost_by_size bytes 250880 h

-- one byte written at the end of a file of this size, in so many groups
abbrev one_more : List ℕ → ℕ → ℕ → ℕ → Response
one_more bytes size n byte = (answer (with_file bytes) 0 n form_one (Write (f ∷ []) size (byte ∷ []))).0

no_space : (bytes : List ℕ) (byte : ℕ) → length bytes ≡ 250880 → one_more bytes 250880 1 byte ≡ Err (Because why.NoSpace)
unfolding refusal
no_space bytes byte h = rw (length-written bytes 250880 (byte ∷ []) (omega arith), one_more, answer, refusal) (rw (h, one_more, answer, refusal) refl)

-- the last block of a group is given
full_group : (bytes : List ℕ) → length bytes ≡ 250880 → (answer (with_file bytes) 0 1 form_one (Write (f ∷ []) 250880 [])).0 ≡ ok
unfolding refusal
full_group bytes h = rw (length-written bytes 250880 [] (omega arith), answer, refusal) (rw (h, answer, refusal) refl)

space_in_2_groups : (bytes : List ℕ) (byte : ℕ) → length bytes ≡ 250880 → one_more bytes 250880 2 byte ≡ ok
unfolding refusal
space_in_2_groups bytes byte h = rw (length-written bytes 250880 (byte ∷ []) (omega arith), one_more, answer, refusal) (rw (h, one_more, answer, refusal) refl)

file_big : (bytes : List ℕ) (byte : ℕ) → length bytes ≡ 274432 → one_more bytes 274432 2 byte ≡ Err (Because why.FileBig)
unfolding refusal
file_big bytes byte h = rw (h, one_more, answer, refusal) refl

-- ---- routes

-- cubes at /a, /a/b and /d in the slots 0, 1 and 2
abbrev cubes : ℕ → Option (List (List ℕ))
cubes s = slice_get ((a ∷ []) ∷ (a ∷ b ∷ []) ∷ (d ∷ []) ∷ []) s

-- the longest prefix by whole names: /a/b/e, /a/e, /ab/e, /a, /a/b, the root, /d/a/b
routes : map (route cubes 3) ((a ∷ b ∷ e ∷ []) ∷ (a ∷ e ∷ []) ∷ ((97 ∷ 98 ∷ []) ∷ e ∷ []) ∷ (a ∷ []) ∷ (a ∷ b ∷ []) ∷ [] ∷ (d ∷ a ∷ b ∷ []) ∷ [])
    ≡ Some 1 ∷ Some 0 ∷ None ∷ Some 0 ∷ Some 1 ∷ None ∷ Some 2 ∷ []
unfolding route
routes = refl

-- a cube with the path / catches what no longer path catches
routes_of_the_root : map (route (λ s. slice_get ([] ∷ (a ∷ []) ∷ []) s) 2) ((b ∷ []) ∷ [] ∷ (a ∷ b ∷ []) ∷ []) ≡ Some 0 ∷ Some 0 ∷ Some 1 ∷ []
unfolding route
routes_of_the_root = refl

-- ---- what a request asks of a cube's tree: its paths lose the names of the cube's path

asks_below : operation 1 (line.Rename (a ∷ b ∷ []) (a ∷ d ∷ e ∷ [])) ∷ operation 1 (line.Mkdir (a ∷ b ∷ [])) ∷ operation 2 (line.Write (a ∷ b ∷ f ∷ []) 3 (7 ∷ [])) ∷ operation 0 (line.Make (f ∷ [])) ∷ []
    ≡ Some (Rename (b ∷ []) (d ∷ e ∷ [])) ∷ Some (Mkdir (b ∷ [])) ∷ Some (Write (f ∷ []) 3 (7 ∷ [])) ∷ Some (Make (f ∷ [])) ∷ []
asks_below = refl

asks_each : operation 1 (line.Read (a ∷ f ∷ []) 1 2) ∷ operation 1 (line.Trunc (a ∷ f ∷ []) 3) ∷ operation 1 (line.Remove (a ∷ f ∷ [])) ∷ operation 1 (line.ListDir (a ∷ d ∷ [])) ∷ operation 1 (line.Stat (a ∷ d ∷ [])) ∷ []
    ≡ Some (Read (f ∷ []) 1 2) ∷ Some (Trunc (f ∷ []) 3) ∷ Some (Remove (f ∷ [])) ∷ Some (ListDir (d ∷ [])) ∷ Some (Stat (d ∷ [])) ∷ []
asks_each = refl

-- ---- operations one after another

after_two : tree_after (Mkdir (a ∷ []) ∷ Make (a ∷ f ∷ []) ∷ []) empty ≡ Dir (Entry a (Dir (Entry f (File []) Nil)) Nil)
after_two = refl

-- ---- the rows of a world with one cube, in slot 1 of 3

world_rows : (c : Cube)
    → cube_rows (record { slots = 3; groups = 9; cube = λ s. if nat_eq s 1 then Some c else None })
    ≡ record { slot = 1; groups = c.groups; state = c.state; path = c.path } ∷ []
unfolding cube_rows
world_rows c = refl
