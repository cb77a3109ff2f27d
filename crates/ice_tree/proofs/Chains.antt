-- What refuses each change, as a chain of stages.
use Rattle.std.proofs.Common.{◌≡◌, ℕ, ◌+◌, Bool, true, false, List, [], ◌∷◌, length, Some, None, Option, refl}
use Rattle.std.specs.Prelude.{◌||◌, nat_lt, nat_eq, if◌then◌else◌}
use Rattle.tree_spec.specs.Why.{Why}
use Rattle.tree_spec.specs.Why as why
use Rattle.tree_spec.specs.Trees.{Tree, File, Dir, Walk, Found, NotFound, NotDir, walk, parent_walk}
use Rattle.tree_spec.specs.Costs.{Form, nodes, blocks, node_quota, block_quota}
use Rattle.tree_spec.specs.Operations.{Mkdir, Make, Write, Trunc, Remove, Rename}
use Rattle.tree_spec.specs.Answers.{refusal, next_tree, most_done, has_long_name, has_deep_path, is_root, is_found, is_not_found, is_not_dir, is_dir_found, is_full_found, bytes_found, moves_too_deep, is_taken, moves_into_itself}
use Rattle.ice_look.proofs.Chains.{lowest, by_paths}
use Rattle.ice_look.specs.Stages.{or_else, paths_refusal, walk_refusal, file_refusal}
use Rattle.ice_tree.specs.Quotas.{quota_refusal}

abbrev Names : Type 0
Names = List (List ℕ)

-- the refusals of the quota
abbrev by_quota : Bool → Bool → Bool → Option Why
by_quota few full spent =
    or_else (if few then Some why.NoNodes else None) (or_else (if full then Some why.NoSpace else None) (if spent then Some why.Spent else None))

quota_by : (few full spent : Bool)
    → (if few then Some why.NoNodes else (if full then Some why.NoSpace else (if spent then Some why.Spent else None))) ≡ by_quota few full spent
quota_by true full spent = refl
quota_by false true spent = refl
quota_by false false spent = refl

-- ---- over plain tests

new_by : (long deep : Bool) (w : Walk) (root taken few full spent : Bool)
    → lowest long (deep || false) (is_not_found w || false) ((is_not_dir w || false) || false) false root taken false false false false few full spent
    ≡ or_else (by_paths long deep)
    (or_else (walk_refusal w)
    (or_else (if root then Some why.IsRoot else None) (or_else (if taken then Some why.Exists else None) (by_quota few full spent))))
new_by true deep w root taken few full spent = refl
new_by false true w root taken few full spent = refl
new_by false false NotFound root taken few full spent = refl
new_by false false NotDir root taken few full spent = refl
new_by false false (Found t) true taken few full spent = refl
new_by false false (Found t) false true few full spent = refl
new_by false false (Found t) false false few full spent = quota_by few full spent

write_by : (long deep : Bool) (w : Walk) (beyond big few full spent : Bool)
    → lowest long (deep || false) (is_not_found w || false) ((is_not_dir w || false) || false) (is_dir_found w) false false false false beyond big few full spent
    ≡ or_else (by_paths long deep)
    (or_else (file_refusal w)
    (or_else (if beyond then Some why.BeyondEnd else None) (or_else (if big then Some why.FileBig else None) (by_quota few full spent))))
write_by true deep w beyond big few full spent = refl
write_by false true w beyond big few full spent = refl
write_by false false NotFound beyond big few full spent = refl
write_by false false NotDir beyond big few full spent = refl
write_by false false (Found (Dir es)) beyond big few full spent = refl
write_by false false (Found (File bytes)) true big few full spent = refl
write_by false false (Found (File bytes)) false true few full spent = refl
write_by false false (Found (File bytes)) false false few full spent = quota_by few full spent

trunc_by : (long deep : Bool) (w : Walk) (beyond few full spent : Bool)
    → lowest long (deep || false) (is_not_found w || false) ((is_not_dir w || false) || false) (is_dir_found w) false false false false beyond false few full spent
    ≡ or_else (by_paths long deep) (or_else (file_refusal w) (or_else (if beyond then Some why.BeyondEnd else None) (by_quota few full spent)))
trunc_by true deep w beyond few full spent = refl
trunc_by false true w beyond few full spent = refl
trunc_by false false NotFound beyond few full spent = refl
trunc_by false false NotDir beyond few full spent = refl
trunc_by false false (Found (Dir es)) beyond few full spent = refl
trunc_by false false (Found (File bytes)) true few full spent = refl
trunc_by false false (Found (File bytes)) false few full spent = quota_by few full spent

remove_by : (long deep : Bool) (w : Walk) (root some few full spent : Bool)
    → lowest long (deep || false) (is_not_found w || false) ((is_not_dir w || false) || false) false root false some false false false few full spent
    ≡ or_else (by_paths long deep)
    (or_else (walk_refusal w)
    (or_else (if root then Some why.IsRoot else None) (or_else (if some then Some why.NotEmpty else None) (by_quota few full spent))))
remove_by true deep w root some few full spent = refl
remove_by false true w root some few full spent = refl
remove_by false false NotFound root some few full spent = refl
remove_by false false NotDir root some few full spent = refl
remove_by false false (Found t) true some few full spent = refl
remove_by false false (Found t) false true few full spent = refl
remove_by false false (Found t) false false few full spent = quota_by few full spent

rename_by : (long deep below : Bool) (v w : Walk) (root taken into few full spent : Bool)
    → lowest long (deep || below) (is_not_found v || (is_not_found w || false)) ((is_not_dir v || (is_not_dir w || false)) || false) false root taken false into false false few full spent
    ≡ or_else (by_paths long deep) (or_else (if below then Some why.TooDeep else None) (
    or_else (if is_not_found v || is_not_found w then Some why.NotFound else None) (or_else (if is_not_dir v || is_not_dir w then Some why.NotDir else None) (
    or_else (if root then Some why.IsRoot else None)
    (or_else (if taken then Some why.Exists else None) (or_else (if into then Some why.IntoItself else None) (by_quota few full spent)))))))
rename_by true deep below v w root taken into few full spent = refl
rename_by false true below v w root taken into few full spent = refl
rename_by false false true v w root taken into few full spent = refl
rename_by false false false NotFound w root taken into few full spent = refl
rename_by false false false NotDir NotFound root taken into few full spent = refl
rename_by false false false NotDir NotDir root taken into few full spent = refl
rename_by false false false NotDir (Found s) root taken into few full spent = refl
rename_by false false false (Found t) NotFound root taken into few full spent = refl
rename_by false false false (Found t) NotDir root taken into few full spent = refl
rename_by false false false (Found t) (Found s) true taken into few full spent = refl
rename_by false false false (Found t) (Found s) false true into few full spent = refl
rename_by false false false (Found t) (Found s) false false true few full spent = refl
rename_by false false false (Found t) (Found s) false false false few full spent = quota_by few full spent

-- ---- of each change

module _ (t : Tree) (k n : ℕ) (f : Form) where
  abbrev few : Tree → Bool
  few u = nat_lt (node_quota n) (nodes u)

  abbrev full : Tree → Bool
  full u = nat_lt (block_quota n) (blocks f u)

  abbrev spent : Bool
  spent = nat_eq k most_done

  pub refusal_mkdir : (p : Names)
      → refusal t k n f (Mkdir p)
      ≡ or_else (paths_refusal f (p ∷ [])) (or_else (walk_refusal (parent_walk p t)) (or_else (if is_root p then Some why.IsRoot else None) (
      or_else (if is_found (walk p t) then Some why.Exists else None) (quota_refusal n f k (next_tree (Mkdir p) t)))))
  unfolding refusal
  refusal_mkdir p =
      let op = Mkdir p in let u = next_tree op t in
      new_by (has_long_name f op) (has_deep_path op) (parent_walk p t) (is_root p) (is_found (walk p t)) (few u) (full u) spent

  pub refusal_make : (p : Names)
      → refusal t k n f (Make p)
      ≡ or_else (paths_refusal f (p ∷ [])) (or_else (walk_refusal (parent_walk p t)) (or_else (if is_root p then Some why.IsRoot else None) (
      or_else (if is_found (walk p t) then Some why.Exists else None) (quota_refusal n f k (next_tree (Make p) t)))))
  unfolding refusal
  refusal_make p =
      let op = Make p in let u = next_tree op t in
      new_by (has_long_name f op) (has_deep_path op) (parent_walk p t) (is_root p) (is_found (walk p t)) (few u) (full u) spent

  pub refusal_write : (p : Names) (at : ℕ) (bytes : List ℕ)
      → refusal t k n f (Write p at bytes)
      ≡ or_else (paths_refusal f (p ∷ []))
      (or_else (file_refusal (walk p t)) (or_else (if nat_lt (length (bytes_found (walk p t))) at then Some why.BeyondEnd else None) (
      or_else (if nat_lt f.longest_file (at + length bytes) then Some why.FileBig else None) (quota_refusal n f k (next_tree (Write p at bytes) t)))))
  unfolding refusal
  refusal_write p at bytes =
      let op = Write p at bytes in
      let u = next_tree op t in
      write_by (has_long_name f op) (has_deep_path op) (walk p t) (nat_lt (length (bytes_found (walk p t))) at)
      (nat_lt f.longest_file (at + length bytes)) (few u) (full u) spent

  pub refusal_trunc : (p : Names) (len : ℕ)
      → refusal t k n f (Trunc p len)
      ≡ or_else (paths_refusal f (p ∷ []))
      (or_else (file_refusal (walk p t)) (or_else (if nat_lt (length (bytes_found (walk p t))) len then Some why.BeyondEnd else None) (
      quota_refusal n f k (next_tree (Trunc p len) t))))
  unfolding refusal
  refusal_trunc p len =
      let op = Trunc p len in let u = next_tree op t in
      trunc_by (has_long_name f op) (has_deep_path op) (walk p t) (nat_lt (length (bytes_found (walk p t))) len) (few u) (full u) spent

  pub refusal_remove : (p : Names)
      → refusal t k n f (Remove p)
      ≡ or_else (paths_refusal f (p ∷ [])) (or_else (walk_refusal (walk p t)) (or_else (if is_root p then Some why.IsRoot else None) (
      or_else (if is_full_found (walk p t) then Some why.NotEmpty else None) (quota_refusal n f k (next_tree (Remove p) t)))))
  unfolding refusal
  refusal_remove p =
      let op = Remove p in let u = next_tree op t in
      remove_by (has_long_name f op) (has_deep_path op) (walk p t) (is_root p) (is_full_found (walk p t)) (few u) (full u) spent

  pub refusal_rename : (p q : Names)
      → refusal t k n f (Rename p q)
      ≡ or_else (paths_refusal f (p ∷ q ∷ [])) (or_else (if moves_too_deep (Rename p q) t then Some why.TooDeep else None) (
      or_else (if is_not_found (walk p t) || is_not_found (parent_walk q t) then Some why.NotFound else None) (
      or_else (if is_not_dir (walk p t) || is_not_dir (parent_walk q t) then Some why.NotDir else None) (
      or_else (if is_root p || is_root q then Some why.IsRoot else None) (or_else (if is_taken (Rename p q) t then Some why.Exists else None) (
      or_else (if moves_into_itself (Rename p q) then Some why.IntoItself else None) (quota_refusal n f k (next_tree (Rename p q) t))))))))
  unfolding refusal
  refusal_rename p q =
      let op = Rename p q in
      let u = next_tree op t in
      rename_by (has_long_name f op) (has_deep_path op) (moves_too_deep op t) (walk p t) (parent_walk q t) (is_root p || is_root q)
      (is_taken op t) (moves_into_itself op) (few u) (full u) spent
