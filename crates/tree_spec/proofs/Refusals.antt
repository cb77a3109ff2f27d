-- The refusal of the lowest number, list by list, and what an answer is in each case.
use Rattle.std.proofs.Common.{◌≡◌, ◌≢◌, ℕ, ◌≤◌, Bool, true, false, cond, T, List, [], ◌∷◌, ◌++◌, Some, None, Option, sym, refl, ap, ◌∙◌, subst, arith}
use Rattle.std.specs.Prelude.{is_some, ◌&&◌, nat_lt, Ok, Err}
use Rattle.std.specs.List.{find}
use Rattle.std.proofs.lemmas.Bool.Decides.{nat_tests}
use Rattle.tree_spec.specs.Why.{Why}
use Rattle.tree_spec.specs.Why as why
use Rattle.tree_spec.specs.Replies.{Fault, Plain}
use Rattle.tree_spec.specs.Trees.{Tree}
use Rattle.tree_spec.specs.Costs.{Form, nodes, blocks, node_quota, block_quota}
use Rattle.tree_spec.specs.Operations.{Operation, Mkdir, Make, Write, Read, Trunc, Remove, Rename, ListDir, Stat, is_change}
use Rattle.tree_spec.specs.Answers.{applies, refusal, of_paths, of_walks, of_place, of_quota, by_number, answer, answer_by, accepted_value, next_tree}

pub find-now : (test : Why → Bool) (xs ys : List Why) (r : Why) → find test xs ≡ Some r → find test (xs ++ ys) ≡ Some r
find-now test [] ys r h = absurd (subst T (sym (ap is_some h)) tt)
find-now test (x ∷ xs) ys r h =
    elim (test x) as (λ b. cond b (Some x) (find test xs) ≡ Some r → cond b (Some x) (find test (xs ++ ys)) ≡ Some r) [
      | true ↦ λ h. h
      | false ↦ λ h. find-now test xs ys r h
    ] h

-- the first one passes the test
pub find-passes : (test : Why → Bool) (xs : List Why) (r : Why) → find test xs ≡ Some r → test r ≡ true
find-passes test [] r h = absurd (subst T (sym (ap is_some h)) tt)
find-passes test (x ∷ xs) r h =
    elim (test x) as (λ b. test x ≡ b → cond b (Some x) (find test xs) ≡ Some r → test r ≡ true) [
      | true ↦ λ e is. ap test (sym (same x r is)) ∙ e
      | false ↦ λ e is. find-passes test xs r is
    ] refl h
  where
    same : (x r : Why) → Some x ≡ Some r → x ≡ r
    same x r e = cc

-- where there is none, none passes
pub find-none : (test : Why → Bool) (xs : List Why) (r : Why) (ys : List Why) → find test (xs ++ r ∷ ys) ≡ None → test r ≡ false
find-none test [] r ys h =
    elim (test r) as (λ b. cond b (Some r) (find test ys) ≡ None → b ≡ false) [
      | true ↦ λ h. absurd (subst T (ap is_some h) tt)
      | false ↦ λ h. refl
    ] h
find-none test (x ∷ xs) r ys h =
    elim (test x) as (λ b. cond b (Some x) (find test (xs ++ r ∷ ys)) ≡ None → test r ≡ false) [
      | true ↦ λ h. absurd (subst T (ap is_some h) tt)
      | false ↦ λ h. find-none test xs r ys h
    ] h

module _ (t : Tree) (done n : ℕ) (f : Form) (op : Operation) where
  abbrev test : Why → Bool
  test = applies t done n f op

  -- a refusal of each list, where the lists before it have none
  pub refusal-of_paths : (r : Why) → find (applies t done n f op) of_paths ≡ Some r → refusal t done n f op ≡ Some r
  unfolding refusal
  refusal-of_paths r a = find-now test of_paths (of_walks ++ of_place ++ of_quota) r a

  -- the condition of the refusal holds
  pub refusal-applies : (r : Why) → refusal t done n f op ≡ Some r → applies t done n f op r ≡ true
  unfolding refusal
  refusal-applies r h = find-passes test by_number r h

  -- where there is no refusal, no condition holds
  pub refusal-none : (r : Why) → refusal t done n f op ≡ None → applies t done n f op r ≡ false
  unfolding refusal
  refusal-none why.NameLong h = find-none test [] why.NameLong (why.TooDeep ∷ of_walks ++ of_place ++ of_quota) h
  refusal-none why.TooDeep h = find-none test (why.NameLong ∷ []) why.TooDeep (of_walks ++ of_place ++ of_quota) h
  refusal-none why.NotFound h = find-none test of_paths why.NotFound (why.NotDir ∷ why.IsDir ∷ why.IsRoot ∷ of_place ++ of_quota) h
  refusal-none why.NotDir h = find-none test (of_paths ++ why.NotFound ∷ []) why.NotDir (why.IsDir ∷ why.IsRoot ∷ of_place ++ of_quota) h
  refusal-none why.IsDir h = find-none test (of_paths ++ why.NotFound ∷ why.NotDir ∷ []) why.IsDir (why.IsRoot ∷ of_place ++ of_quota) h
  refusal-none why.IsRoot h = find-none test (of_paths ++ why.NotFound ∷ why.NotDir ∷ why.IsDir ∷ []) why.IsRoot (of_place ++ of_quota) h
  refusal-none why.Exists h = find-none test (of_paths ++ of_walks) why.Exists (why.NotEmpty ∷ why.IntoItself ∷ why.BeyondEnd ∷ why.FileBig ∷ of_quota) h
  refusal-none why.NotEmpty h =
      find-none test (of_paths ++ of_walks ++ why.Exists ∷ []) why.NotEmpty (why.IntoItself ∷ why.BeyondEnd ∷ why.FileBig ∷ of_quota) h
  refusal-none why.IntoItself h =
      find-none test (of_paths ++ of_walks ++ why.Exists ∷ why.NotEmpty ∷ []) why.IntoItself (why.BeyondEnd ∷ why.FileBig ∷ of_quota) h
  refusal-none why.BeyondEnd h =
      find-none test (of_paths ++ of_walks ++ why.Exists ∷ why.NotEmpty ∷ why.IntoItself ∷ []) why.BeyondEnd (why.FileBig ∷ of_quota) h
  refusal-none why.FileBig h = find-none test (of_paths ++ of_walks ++ why.Exists ∷ why.NotEmpty ∷ why.IntoItself ∷ why.BeyondEnd ∷ []) why.FileBig of_quota h
  refusal-none why.NoNodes h = find-none test (of_paths ++ of_walks ++ of_place) why.NoNodes (why.NoSpace ∷ why.Spent ∷ []) h
  refusal-none why.NoSpace h = find-none test (of_paths ++ of_walks ++ of_place ++ why.NoNodes ∷ []) why.NoSpace (why.Spent ∷ []) h
  refusal-none why.Spent h = find-none test (of_paths ++ of_walks ++ of_place ++ why.NoNodes ∷ why.NoSpace ∷ []) why.Spent [] h
  refusal-none _ h = refl

  -- an accepted one gives its value and makes the next tree
  pub answer-accepted : refusal t done n f op ≡ None → answer t done n f op ≡ (Ok (accepted_value op t), next_tree op t)
  answer-accepted h = ap (λ o. answer_by o op t) h

  -- no tree answers a fault of the disk, want of memory or damage
  pub answer-no_fault : (answer t done n f op).0 ≢ Err Fault
  answer-no_fault h = by (refusal t done n f op) h
    where
      by : (o : Option Why) → (answer_by o op t).0 ≡ Err Fault → ⊥
      by None h = cc
      by (Some r) h = cc

  -- the model refuses no operation for damage
  pub refusal-no_damage : (rule : ℕ) → refusal t done n f op ≢ Some (why.Damaged rule)
  refusal-no_damage rule h = subst T (sym (refusal-applies (why.Damaged rule) h)) tt

  -- an accepted change keeps the quotas
  within : (b : Bool) (x y : ℕ) → b ≡ true → (b && nat_lt y x) ≡ false → x ≤ y
  within b x y h e = few (nat_lt y x) refl (ap (λ z. z && nat_lt y x) (sym h) ∙ e)
    where
      few : (z : Bool) → nat_lt y x ≡ z → z ≡ false → x ≤ y
      few z i j = grind (arith, nat_tests)

  -- an accepted change leaves no more nodes than the quota
  pub nodes-next : refusal t done n f op ≡ None → is_change op ≡ true → nodes (next_tree op t) ≤ node_quota n
  nodes-next h c = within (is_change op) (nodes (next_tree op t)) (node_quota n) c (refusal-none why.NoNodes h)

  -- an accepted change leaves no more blocks than the quota
  pub blocks-next : refusal t done n f op ≡ None → is_change op ≡ true → blocks f (next_tree op t) ≤ block_quota n
  blocks-next h c = within (is_change op) (blocks f (next_tree op t)) (block_quota n) c (refusal-none why.NoSpace h)

-- a change has no value
pub accepted_value-change : (op : Operation) (t : Tree) → is_change op ≡ true → accepted_value op t ≡ Plain
accepted_value-change (Mkdir p) t h = refl
accepted_value-change (Make p) t h = refl
accepted_value-change (Write p off bytes) t h = refl
accepted_value-change (Read p off len) t h = absurd (subst T (sym h) tt)
accepted_value-change (Trunc p len) t h = refl
accepted_value-change (Remove p) t h = refl
accepted_value-change (Rename p q) t h = refl
accepted_value-change (ListDir p) t h = absurd (subst T (sym h) tt)
accepted_value-change (Stat p) t h = absurd (subst T (sym h) tt)
