-- A tree that loses an entry, and a tree that moves.
use Rattle.std.proofs.Common.{◌≡◌, ℕ, ◌+◌, ◌<◌, ◌≤◌, ◌≢◌, List, [], ◌∷◌, ◌++◌, length, Some, None, sym, refl, ap, subst, arith}
use Rattle.std.specs.FinMap.{find}
use Rattle.ice_base.specs.Lots.{LotView}
use Rattle.ice_map.specs.Maps.{times}
use Rattle.ice_map.proofs.ListLaws.{times-append}
use Rattle.tree_spec.specs.Trees.{Tree, Dir, Entries, rows, by_bytes, walk, Found, at, without, without_entry, height}
use Rattle.tree_spec.specs.Costs.{Form}
use Rattle.tree_spec.specs.Answers.{deepest}
use Rattle.ice_reads.specs.Tables.{Table, rows_in, IsNameOf, inode_named}
use Rattle.ice_reads.specs.Reads.{Reads, tree_uses, used_inodes, inode_on}
use Rattle.ice_reads.proofs.Frames.{SameAt, inodes_in, Reads-frame, uses-frame, times-here}
use Rattle.ice_reads.proofs.Focus.{Reads-at, Reads-part, uses-part, uses-at, entry_reads, uses-entry}
use Rattle.ice_reads.proofs.Steps.{IsOnce, SameBut, AddsRow, in_dir, outside_dir}
use Rattle.ice_reads.proofs.Losses.{LosesRow, Reads-loses, uses-loses, uses_in-without}

abbrev one : ℕ → List ℕ
one i = i ∷ []

module _ (f : Form) (lot : LotView) (o p : Table) (q : List (List ℕ)) (c : List ℕ) (v t : Tree) (es : Entries)
    (r : Reads f lot o 0 0 t) (found : walk q t ≡ Found (Dir es)) (is : find by_bytes c (rows es) ≡ Some v) (once : IsOnce (used_inodes f o 0 t))
    (same : SameBut o p (inode_on f o 0 q) (used_inodes f o 0 t))
    (a : LosesRow f lot (o (inode_on f o 0 q)) (p (inode_on f o 0 q)) (inode_on f o 0 q) (length q) c) where
  abbrev pub here : ℕ
  here = inode_on f o 0 q

  -- the inode of the entry that goes
  abbrev pub gone : ℕ
  gone = inode_named c (rows_in f (o here))

  level : 0 + length q ≡ length q
  level = omega arith

  dir_reads : Reads f lot o here (length q) (Dir es)
  dir_reads = subst (λ x. Reads f lot o here x (Dir es)) level (Reads-part f lot o q 0 0 t (Dir es) found r)

  kept_same : SameAt o p (inodes_in f o (rows_in f (o here)) (without c es))
  kept_same =
      record { at = λ k h. (in_dir f o p q 0 t es found once same).at k (omega (arith, uses_in-without f o one (rows_in f (o here)) (λ xs. times xs k) (λ xs ys. times-append xs ys k) c v es dir_reads.1.sorted is)) }

  -- the root stands for the tree without the entry
  pub Reads-without_entry : Reads f lot p 0 0 (at q (without_entry c) t)
  Reads-without_entry = Reads-at f lot o p q 0 0 (without_entry c) t (Dir es) found r
      (subst (λ x. Reads f lot p here x (without_entry c (Dir es))) (sym level) (Reads-loses f lot o p here (length q) c v es dir_reads is a kept_same))
      (outside_dir f o p q 0 t es found once same)

  -- the tree uses less by what the entry's tree used, and more or less by what the directory's own inode does
  pub uses-without_entry : (mine yours : ℕ → List ℕ) → ((k : ℕ) → p k ≡ o k → yours k ≡ mine k) → (measure : List ℕ → ℕ)
      → ((xs ys : List ℕ) → measure (xs ++ ys) ≡ measure xs + measure ys)
      → measure (tree_uses f p yours 0 (at q (without_entry c) t)) + measure (tree_uses f o mine gone v) + measure (mine here)
      ≡ measure (tree_uses f o mine 0 t) + measure (yours here)
  uses-without_entry mine yours like measure adds =
      omega (
        arith,
        uses-at f o p mine yours like measure adds q 0 (without_entry c) t (Dir es) found (outside_dir f o p q 0 t es found once same),
        uses-loses f lot o p here (length q) c v es mine yours like measure adds dir_reads.1.sorted is a kept_same,
      )

  -- the entry that went still stands for its tree
  gone_same : SameAt o p (used_inodes f o gone v)
  gone_same = record { at = λ k h. (in_dir f o p q 0 t es found once same).at k (omega (arith, uses-entry f o one k (rows_in f (o here)) c es v is)) }

  -- its inode stands for the tree that it stood for
  pub Reads-gone : Reads f lot p gone (length q + 1) v
  Reads-gone = Reads-frame f lot o p gone (length q + 1) v gone_same (entry_reads f lot o (rows_in f (o here)) (length q + 1) c es v is dir_reads.2)

  -- this tree uses what it used
  pub uses-gone : (mine yours : ℕ → List ℕ) → ((k : ℕ) → p k ≡ o k → yours k ≡ mine k) → tree_uses f p yours gone v ≡ tree_uses f o mine gone v
  uses-gone mine yours like = uses-frame f o p mine yours like gone v gone_same

  -- no inode is used both by what is left and by what went
  pub apart : (k : ℕ) → times (used_inodes f p 0 (at q (without_entry c) t)) k + times (used_inodes f p gone v) k ≤ 1
  apart k =
      omega (arith, once k, uses-without_entry one one (λ k e. refl) (λ xs. times xs k) (λ xs ys. times-append xs ys k), ap (λ xs. times xs k) (uses-gone one one (λ k e. refl)))

  -- ---- and joins a directory of what is left
  module _ (z : Table) (to : List (List ℕ)) (d : List ℕ) (fs : Entries) (there : walk to (at q (without_entry c) t) ≡ Found (Dir fs))
      (free : find by_bytes d (rows fs) ≡ None) (name : IsNameOf f d)
      (second : SameBut p z (inode_on f p 0 to) (used_inodes f p 0 (at q (without_entry c) t) ++ used_inodes f p gone v))
      (adds : AddsRow f lot (p (inode_on f p 0 to)) (z (inode_on f p 0 to)) (inode_on f p 0 to) (length to) d gone)
      (fits : length to + 1 + height v ≤ deepest) where
    left_once : IsOnce (used_inodes f p 0 (at q (without_entry c) t))
    left_once k = omega (arith, apart k)

    left_second : SameBut p z (inode_on f p 0 to) (used_inodes f p 0 (at q (without_entry c) t))
    left_second =
        record { at = λ k ne h. second.at k ne (omega (arith, times-append (used_inodes f p 0 (at q (without_entry c) t)) (used_inodes f p gone v) k)) }

    not_to : (k : ℕ) → 0 < times (used_inodes f p gone v) k → k ≢ inode_on f p 0 to
    not_to k h e = absurd (omega (
      arith,
      apart k,
      uses-part f p one k to 0 (at q (without_entry c) t) (Dir fs) there,
      times-here k (inodes_in f p (rows_in f (p (inode_on f p 0 to))) fs),
      ap (λ x. times (x ∷ inodes_in f p (rows_in f (p (inode_on f p 0 to))) fs) k) e,
    ))

    moved_same : SameAt p z (used_inodes f p gone v)
    moved_same =
        record { at = λ k h. second.at k (not_to k h) (omega (arith, times-append (used_inodes f p 0 (at q (without_entry c) t)) (used_inodes f p gone v) k)) }
