-- What a tree answers to an operation, and the tree after it.
use Rattle.std.specs.Prelude.{ℕ, ◌+◌, ◌-◌, ◌^◌, Bool, true, false, not, ◌&&◌, ◌||◌, List, [], ◌∷◌, ◌++◌, map, length, Option, None, Some, nat_lt, nat_eq, take, drop, Ok, Err, if◌then◌else◌}
use Rattle.std.specs.List.{list_any, find}
use Rattle.tree_spec.specs.Why.{Why}
use Rattle.tree_spec.specs.Why as why
use Rattle.tree_spec.specs.Replies.{Response, Accepted, Because, Plain, Bytes, Listed}
use Rattle.tree_spec.specs.Replies as value
use Rattle.tree_spec.specs.Trees.{Tree, File, Dir, Nil, Entry, rows, Walk, Found, NotFound, NotDir, walk, parent, last_name, parent_walk, height, at, with_entry, without_entry}
use Rattle.tree_spec.specs.Costs.{Form, blocks, nodes, block_quota, node_quota}
use Rattle.tree_spec.specs.Routes.{is_prefix, is_same_path}
use Rattle.tree_spec.specs.Operations.{Operation, Mkdir, Make, Write, Read, Trunc, Remove, Rename, ListDir, Stat, paths, is_change}
use Rattle.tree_spec.specs.declared.reply.Entry as code

-- the most names of a path below the root
abbrev pub deepest : ℕ
deepest = 24

-- the most operations that a cube may accept
abbrev pub most_done : ℕ
most_done = 2 ^ 63 - 1

-- ---- what a walk found

abbrev pub is_root : List (List ℕ) → Bool
is_root [] = true
is_root (c ∷ cs) = false

abbrev pub is_found : Walk → Bool
is_found (Found t) = true
is_found NotFound = false
is_found NotDir = false

abbrev pub is_not_found : Walk → Bool
is_not_found (Found t) = false
is_not_found NotFound = true
is_not_found NotDir = false

abbrev pub is_not_dir : Walk → Bool
is_not_dir (Found t) = false
is_not_dir NotFound = false
is_not_dir NotDir = true

abbrev pub is_file_found : Walk → Bool
is_file_found (Found (File bytes)) = true
is_file_found (Found (Dir es)) = false
is_file_found NotFound = false
is_file_found NotDir = false

abbrev pub is_dir_found : Walk → Bool
is_dir_found (Found (File bytes)) = false
is_dir_found (Found (Dir es)) = true
is_dir_found NotFound = false
is_dir_found NotDir = false

-- a directory with entries was found
abbrev pub is_full_found : Walk → Bool
is_full_found (Found (File bytes)) = false
is_full_found (Found (Dir Nil)) = false
is_full_found (Found (Dir (Entry c t es))) = true
is_full_found NotFound = false
is_full_found NotDir = false

-- the bytes of a tree that is a file
abbrev pub bytes_of : Tree → List ℕ
bytes_of (File bytes) = bytes
bytes_of (Dir es) = []

-- the tree that was found, and else an empty file
abbrev pub tree_found : Walk → Tree
tree_found (Found t) = t
tree_found NotFound = File []
tree_found NotDir = File []

-- the bytes of the file that was found
abbrev pub bytes_found : Walk → List ℕ
bytes_found w = bytes_of (tree_found w)

-- ---- the tree that an operation makes

-- the bytes from an offset on are replaced, and the file grows where they reach past its end
abbrev pub written : List ℕ → ℕ → List ℕ → List ℕ
written old off new = take off old ++ new ++ drop (off + length new) old

-- the tree with what stood at p standing at q
abbrev pub moved_tree : List (List ℕ) → List (List ℕ) → Tree → Tree
moved_tree p q t = at (parent q) (with_entry (last_name q) (tree_found (walk p t))) (at (parent p) (without_entry (last_name p)) t)

-- the tree that the operation would make
abbrev pub next_tree : Operation → Tree → Tree
next_tree (Mkdir p) t = at (parent p) (with_entry (last_name p) (Dir Nil)) t
next_tree (Make p) t = at (parent p) (with_entry (last_name p) (File [])) t
next_tree (Write p off bytes) t = at p (λ s. File (written (bytes_of s) off bytes)) t
next_tree (Read p off len) t = t
next_tree (Trunc p len) t = at p (λ s. File (take len (bytes_of s))) t
next_tree (Remove p) t = at (parent p) (without_entry (last_name p)) t
next_tree (Rename p q) t = if is_same_path p q then t else moved_tree p q t
next_tree (ListDir p) t = t
next_tree (Stat p) t = t

-- ---- the refusals

-- the walks that have to end at a tree
abbrev pub walks : Operation → Tree → List Walk
walks (Mkdir p) t = parent_walk p t ∷ []
walks (Make p) t = parent_walk p t ∷ []
walks (Write p off bytes) t = walk p t ∷ []
walks (Read p off len) t = walk p t ∷ []
walks (Trunc p len) t = walk p t ∷ []
walks (Remove p) t = walk p t ∷ []
walks (Rename p q) t = walk p t ∷ parent_walk q t ∷ []
walks (ListDir p) t = walk p t ∷ []
walks (Stat p) t = walk p t ∷ []

-- a name of a path is longer than the form's longest one
abbrev pub has_long_name : Form → Operation → Bool
has_long_name f op = list_any (λ p. list_any (λ c. nat_lt f.longest_name (length c)) p) (paths op)

-- a path has more than 24 names
abbrev pub has_deep_path : Operation → Bool
has_deep_path op = list_any (λ p. nat_lt deepest (length p)) (paths op)

-- what is moved would have an entry below 24 names
abbrev pub moves_too_deep : Operation → Tree → Bool
moves_too_deep (Rename p q) t = is_found (walk p t) && nat_lt deepest (length q + height (tree_found (walk p t)))
moves_too_deep _ t = false

-- a file is listed
abbrev pub lists_file : Operation → Tree → Bool
lists_file (ListDir p) t = is_file_found (walk p t)
lists_file _ t = false

-- a directory stands where a file is needed
abbrev pub needs_file : Operation → Tree → Bool
needs_file (Write p off bytes) t = is_dir_found (walk p t)
needs_file (Read p off len) t = is_dir_found (walk p t)
needs_file (Trunc p len) t = is_dir_found (walk p t)
needs_file _ t = false

-- the root would be made, removed, moved or moved onto
abbrev pub takes_root : Operation → Bool
takes_root (Mkdir p) = is_root p
takes_root (Make p) = is_root p
takes_root (Remove p) = is_root p
takes_root (Rename p q) = is_root p || is_root q
takes_root _ = false

-- something else stands where the operation makes something
abbrev pub is_taken : Operation → Tree → Bool
is_taken (Mkdir p) t = is_found (walk p t)
is_taken (Make p) t = is_found (walk p t)
is_taken (Rename p q) t = is_found (walk q t) && not (is_same_path p q)
is_taken _ t = false

-- a directory with entries would be removed
abbrev pub removes_full : Operation → Tree → Bool
removes_full (Remove p) t = is_full_found (walk p t)
removes_full _ t = false

-- a tree would be moved below itself
abbrev pub moves_into_itself : Operation → Bool
moves_into_itself (Rename p q) = is_prefix p q && not (is_same_path p q)
moves_into_itself _ = false

-- an offset or a length lies above the size of the file
abbrev pub is_beyond_end : Operation → Tree → Bool
is_beyond_end (Write p off bytes) t = nat_lt (length (bytes_found (walk p t))) off
is_beyond_end (Read p off len) t = nat_lt (length (bytes_found (walk p t))) off
is_beyond_end (Trunc p len) t = nat_lt (length (bytes_found (walk p t))) len
is_beyond_end _ t = false

-- what is written would reach past the form's longest file
abbrev pub is_too_big : Form → Operation → Bool
is_too_big f (Write p off bytes) = nat_lt f.longest_file (off + length bytes)
is_too_big f _ = false

-- whether a refusal's condition holds; an operation that changes nothing makes no tree, and so it meets no quota
abbrev pub applies : Tree → ℕ → ℕ → Form → Operation → Why → Bool
applies t done n f op why.NameLong = has_long_name f op
applies t done n f op why.TooDeep = has_deep_path op || moves_too_deep op t
applies t done n f op why.NotFound = list_any is_not_found (walks op t)
applies t done n f op why.NotDir = list_any is_not_dir (walks op t) || lists_file op t
applies t done n f op why.IsDir = needs_file op t
applies t done n f op why.IsRoot = takes_root op
applies t done n f op why.Exists = is_taken op t
applies t done n f op why.NotEmpty = removes_full op t
applies t done n f op why.IntoItself = moves_into_itself op
applies t done n f op why.BeyondEnd = is_beyond_end op t
applies t done n f op why.FileBig = is_too_big f op
applies t done n f op why.NoNodes = is_change op && nat_lt (node_quota n) (nodes (next_tree op t))
applies t done n f op why.NoSpace = is_change op && nat_lt (block_quota n) (blocks f (next_tree op t))
applies t done n f op why.Spent = is_change op && nat_eq done most_done
applies t done n f op _ = false

-- the refusals that the paths show, the walks, the place, and the tree that would be made, each in the order of their numbers
abbrev pub of_paths : List Why
of_paths = why.NameLong ∷ why.TooDeep ∷ []

abbrev pub of_walks : List Why
of_walks = why.NotFound ∷ why.NotDir ∷ why.IsDir ∷ why.IsRoot ∷ []

abbrev pub of_place : List Why
of_place = why.Exists ∷ why.NotEmpty ∷ why.IntoItself ∷ why.BeyondEnd ∷ why.FileBig ∷ []

abbrev pub of_quota : List Why
of_quota = why.NoNodes ∷ why.NoSpace ∷ why.Spent ∷ []

-- the fourteen refusals of a tree, in the order of their numbers
abbrev pub by_number : List Why
by_number = of_paths ++ of_walks ++ of_place ++ of_quota

-- the refusal of the lowest number whose condition holds
unfoldable pub refusal : Tree → ℕ → ℕ → Form → Operation → Option Why
refusal t done n f op = find (applies t done n f op) by_number

-- ---- the answer

abbrev pub is_dir : Tree → Bool
is_dir (File bytes) = false
is_dir (Dir es) = true

-- the entry of a directory as a listing has it
abbrev pub listed : List ℕ × Tree → code.Entry
listed e = record { name = e.0; dir = is_dir e.1 }

-- the entries of a directory, by the bytes of their names
abbrev pub list_value : Tree → Accepted
list_value (File bytes) = Plain
list_value (Dir es) = Listed (map listed (rows es)) []

-- the kind of a tree, with the number of its bytes or entries
abbrev pub stat_value : Tree → Accepted
stat_value (File bytes) = value.File (length bytes)
stat_value (Dir es) = value.Dir (length (rows es))

-- the value of an operation that is accepted
abbrev pub accepted_value : Operation → Tree → Accepted
accepted_value (Read p off len) t = Bytes (take len (drop off (bytes_found (walk p t))))
accepted_value (ListDir p) t = list_value (tree_found (walk p t))
accepted_value (Stat p) t = stat_value (tree_found (walk p t))
accepted_value _ t = Plain

-- a refused operation leaves the tree, an accepted one makes the next tree
abbrev pub answer_by : Option Why → Operation → Tree → Response × Tree
answer_by (Some r) op t = (Err (Because r), t)
answer_by None op t = (Ok (accepted_value op t), next_tree op t)

-- the reply of a tree with `done` accepted operations in n groups of a form, and the tree after it
abbrev pub answer : Tree → ℕ → ℕ → Form → Operation → Response × Tree
answer t done n f op = answer_by (refusal t done n f op) op t

-- the tree after these operations, each accepted
abbrev pub tree_after : List Operation → Tree → Tree
tree_after [] t = t
tree_after (op ∷ ops) t = tree_after ops (next_tree op t)
