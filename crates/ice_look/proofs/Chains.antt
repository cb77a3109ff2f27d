-- What refuses each look, as a chain of stages.
use Rattle.std.proofs.Common.{◌≡◌, ℕ, Bool, true, false, List, [], ◌∷◌, length, Some, None, Option, refl}
use Rattle.std.specs.Prelude.{◌||◌, nat_lt, if◌then◌else◌}
use Rattle.tree_spec.specs.Why.{Why}
use Rattle.tree_spec.specs.Why as why
use Rattle.tree_spec.specs.Trees.{Tree, File, Dir, Walk, Found, NotFound, NotDir, walk}
use Rattle.tree_spec.specs.Costs.{Form}
use Rattle.tree_spec.specs.Operations.{Read, ListDir, Stat}
use Rattle.tree_spec.specs.Answers.{refusal, has_long_name, has_deep_path, is_not_found, is_not_dir, is_file_found, is_dir_found, bytes_found}
use Rattle.ice_look.specs.Stages.{or_else, paths_refusal, walk_refusal, file_refusal, dir_refusal}

abbrev Names : Type 0
Names = List (List ℕ)

-- the refusal of the lowest number, by fourteen tests
abbrev pub lowest : Bool → Bool → Bool → Bool → Bool → Bool → Bool → Bool → Bool → Bool → Bool → Bool → Bool → Bool → Option Why
lowest a b c d e f g h i j k l m n =
    if a then Some why.NameLong else (if b then Some why.TooDeep else (
    if c then Some why.NotFound else (if d then Some why.NotDir else (if e then Some why.IsDir else (if f then Some why.IsRoot else (
    if g then Some why.Exists else (if h then Some why.NotEmpty else (if i then Some why.IntoItself else (if j then Some why.BeyondEnd else (if k then Some why.FileBig else (
    if l then Some why.NoNodes else (if m then Some why.NoSpace else (if n then Some why.Spent else None)))))))))))))

-- the refusals of the paths
abbrev pub by_paths : Bool → Bool → Option Why
by_paths long deep = if long then Some why.NameLong else (if deep then Some why.TooDeep else None)

-- ---- over plain tests

stat_by : (long deep : Bool) (w : Walk)
    → lowest long (deep || false) (is_not_found w || false) ((is_not_dir w || false) || false) false false false false false false false false false false
    ≡ or_else (by_paths long deep) (walk_refusal w)
stat_by true deep w = refl
stat_by false true w = refl
stat_by false false (Found t) = refl
stat_by false false NotFound = refl
stat_by false false NotDir = refl

list_by : (long deep : Bool) (w : Walk)
    → lowest long (deep || false) (is_not_found w || false) ((is_not_dir w || false) || is_file_found w) false false false false false false false false false false ≡ or_else (by_paths long deep) (dir_refusal w)
list_by true deep w = refl
list_by false true w = refl
list_by false false (Found (File bytes)) = refl
list_by false false (Found (Dir es)) = refl
list_by false false NotFound = refl
list_by false false NotDir = refl

read_by : (long deep : Bool) (w : Walk) (beyond : Bool)
    → lowest long (deep || false) (is_not_found w || false) ((is_not_dir w || false) || false) (is_dir_found w) false false false false beyond false false false false
    ≡ or_else (by_paths long deep) (or_else (file_refusal w) (if beyond then Some why.BeyondEnd else None))
read_by true deep w beyond = refl
read_by false true w beyond = refl
read_by false false (Found (File bytes)) beyond = refl
read_by false false (Found (Dir es)) beyond = refl
read_by false false NotFound beyond = refl
read_by false false NotDir beyond = refl

-- ---- of each look

module _ (t : Tree) (k n : ℕ) (f : Form) where
  pub refusal_stat : (p : Names) → refusal t k n f (Stat p) ≡ or_else (paths_refusal f (p ∷ [])) (walk_refusal (walk p t))
  unfolding refusal
  refusal_stat p = stat_by (has_long_name f (Stat p)) (has_deep_path (Stat p)) (walk p t)

  pub refusal_list : (p : Names) → refusal t k n f (ListDir p) ≡ or_else (paths_refusal f (p ∷ [])) (dir_refusal (walk p t))
  unfolding refusal
  refusal_list p = list_by (has_long_name f (ListDir p)) (has_deep_path (ListDir p)) (walk p t)

  pub refusal_read : (p : Names) (at len : ℕ)
      → refusal t k n f (Read p at len)
      ≡ or_else (paths_refusal f (p ∷ [])) (or_else (file_refusal (walk p t)) (if nat_lt (length (bytes_found (walk p t))) at then Some why.BeyondEnd else None))
  unfolding refusal
  refusal_read p at len = read_by (has_long_name f (Read p at len)) (has_deep_path (Read p at len)) (walk p t) (nat_lt (length (bytes_found (walk p t))) at)
