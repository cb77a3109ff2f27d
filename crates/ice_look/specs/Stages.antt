-- The refusals of a tree, stage by stage.
use Rattle.std.specs.Prelude.{ℕ, List, length, nat_lt, Option, Some, None, if◌then◌else◌}
use Rattle.std.specs.List.{list_any}
use Rattle.tree_spec.specs.Why.{Why}
use Rattle.tree_spec.specs.Why as why
use Rattle.tree_spec.specs.Trees.{Walk, Found, NotFound, NotDir, File, Dir}
use Rattle.tree_spec.specs.Costs.{Form}
use Rattle.tree_spec.specs.Answers.{deepest}

-- the first refusal, and where there is none the second
abbrev pub or_else : Option Why → Option Why → Option Why
or_else (Some r) later = Some r
or_else None later = later

-- the refusal that the names of these paths show
abbrev pub paths_refusal : Form → List (List (List ℕ)) → Option Why
paths_refusal f ps =
    if list_any (λ p. list_any (λ c. nat_lt f.longest_name (length c)) p) ps then Some why.NameLong
    else (if list_any (λ p. nat_lt deepest (length p)) ps then Some why.TooDeep else None)

-- the refusal of a walk that has to end at a tree
abbrev pub walk_refusal : Walk → Option Why
walk_refusal (Found t) = None
walk_refusal NotFound = Some why.NotFound
walk_refusal NotDir = Some why.NotDir

-- the refusal of a walk that has to end at a file
abbrev pub file_refusal : Walk → Option Why
file_refusal (Found (File bytes)) = None
file_refusal (Found (Dir es)) = Some why.IsDir
file_refusal NotFound = Some why.NotFound
file_refusal NotDir = Some why.NotDir

-- the refusal of a walk that has to end at a directory
abbrev pub dir_refusal : Walk → Option Why
dir_refusal (Found (File bytes)) = Some why.NotDir
dir_refusal (Found (Dir es)) = None
dir_refusal NotFound = Some why.NotFound
dir_refusal NotDir = Some why.NotDir
