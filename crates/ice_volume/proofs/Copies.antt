-- The text of a path names it again.
use Rattle.std.proofs.Common.{◌≡◌, ◌≤◌, ℕ, List, length, None}
use Rattle.tree_spec.specs.Names.{text_of, IsNameList, longest_text}
use Rattle.ice_path.specs.Paths.{path_names, path_fault}
use Rattle.ice_names.proofs.TextLaws.{text_names, text_proper}

pub names_again : (p : List (List ℕ)) → IsNameList p → path_names (text_of p) ≡ p
names_again = text_names

pub text_accepted : (p : List (List ℕ)) → IsNameList p → length (text_of p) ≤ longest_text → path_fault (text_of p) ≡ None
text_accepted = text_proper
