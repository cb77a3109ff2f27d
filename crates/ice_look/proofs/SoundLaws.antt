-- A lot that recovers a tree breaks none of the rules that a command of a tree can name.
use Rattle.std.proofs.Common.{◌≡◌, ◌≢◌, ◌⊎◌, ℕ, suc, zero, ◌+◌, ◌*◌, ◌<◌, ◌≤◌, ◌==◌, Bool, true, false, cond, List, [], ◌∷◌, ◌++◌, length, get_or, Some, None, sym, refl, ap, ◌∙◌, subst, arith, inl, inr, ⊎_elim}
use Rattle.std.specs.Prelude.{Contains, flat_map, All}
use Rattle.std.specs.Cmp.{eq_by_cmp_equiv}
use Rattle.std.specs.Cmp.Lexicographic.{nat_list_cmp_total}
use Rattle.std.specs.FinMap.{find}
use Rattle.std.specs.List.{sum_by}
use Rattle.std.specs.Map.{lookup}
use Rattle.std.specs.Ordering.{eq_by_cmp}
use Rattle.std.proofs.lemmas.Bool.Decides.{nat_tests}
use Rattle.std.proofs.lemmas.List.{length-append}
use Rattle.std.proofs.lemmas.List.Elements.{All-contains, All-tail}
use Rattle.std.proofs.lemmas.List.Sums.{sum_by-cons}
use Rattle.std.proofs.lemmas.Map.Views.{lookup-from_Contains}
use Rattle.std.proofs.lemmas.Option.{slice_get-get_or}
use Rattle.ice_base.specs.Lots.{LotView, sub_address}
use Rattle.ice_base.specs.Spare.{has}
use Rattle.ice_base.specs.Used.{used_block, used_inode, is_data, counted}
use Rattle.ice_base.specs.declared.fault.Rule.{Rule}
use Rattle.ice_base.specs.declared.fault.Rule.TheVariants as rule
use Rattle.ice_layout.specs.Subs.{sub_rule, sub_of}
use Rattle.ice_rules.specs.Rules.{MayName, form_in}
use Rattle.ice_rules.proofs.Complete.{only_form}
use Rattle.ice_rules.proofs.Naming.{recovers_or_named}
use Rattle.ice_map.specs.Inodes.{inode_of}
use Rattle.ice_map.specs.Maps.{times}
use Rattle.ice_map.proofs.ListLaws.{times-append, has-times}
use Rattle.ice_map.specs.Own.{mark, map_length, own}
use Rattle.ice_dir.specs.Rows.{DirRow, dir_rows_of}
use Rattle.tree_spec.specs.Trees.{Tree, File, Dir, Entries, Nil, Entry, rows, by_bytes, walk, child, and_on, found_or_not, Found, total_in, at}
use Rattle.tree_spec.specs.Costs.{Form, form_one, nodes}
use Rattle.tree_spec.specs.Names.{is_name}
use Rattle.tree_spec.proofs.Trees.{walk-on}
use Rattle.tree_spec.proofs.Sums.{total-at}
use Rattle.ice_reads.specs.Reads.{Reads, ReadsEach, tree_uses, entries_use, used_blocks, used_inodes, inode_on}
use Rattle.ice_reads.specs.Recovers.{MapRecovers}
use Rattle.ice_reads.specs.Tables.{Map, Table, rows_in, inode_named, IsInode}
use Rattle.ice_reads.proofs.Focus.{None≢Some, Found≢NotDir, Found≢NotFound, Reads-part, uses-part, uses-entry}
use Rattle.ice_reads.proofs.Frames.{times-here, times-other}
use Rattle.ice_reads.proofs.LookUps.{child-found, look_up-find}
use Rattle.ice_reads.proofs.Numbers.{used-one, used-apart, uses-flat}
use Rattle.ice_steps.proofs.Quotas.{free_nodes_are, counts_small}
use Rattle.ice_map.proofs.UsesLaws.{times-has}
use Rattle.ice_look.specs.Broken.{BadInode, BadPointer, node_uses, TwiceUsed, BadEntry, Overfull, LeadsToTooMany, count_within, BadName, ManyCounted, FewCounted, FreeBlock, FreeInode, IsBroken}
use Rattle.ice_look.specs.declared.looks.DirAt.{DirAt}
use Rattle.ice_look.specs.Ends.{IsDirAt}
use Rattle.ice_look.specs.Places.{IsNode, Reached, Root, Named, IsReached}
use Rattle.ice_look.proofs.PlaceLaws.{places-lead, Reads-node, inode_on-more}
use Rattle.ice_look.proofs.HeightLaws.{many, many_of, sum-many, row-child as row-under}
use Rattle.ice_look.proofs.WithinLaws.{by_row, within-dir, within-file}

no_file : (k : ℕ) → k ≡ 1 → k ≡ 2 → ⊥
no_file k a b = omega arith

no_true : false ≡ true → ⊥
no_true h = cc

-- ---- how many entries the directories of a tree have

zeros : ℕ → List ℕ
zeros zero = []
zeros (suc n) = 0 ∷ zeros n

times-zeros : (n : ℕ) → times (zeros n) 0 ≡ n
unfolding zeros
times-zeros zero = refl
times-zeros (suc n) = times-here 0 (zeros n) ∙ ap suc (times-zeros n)

-- a number for each entry of a directory
abbrev entries_of : Table → ℕ → List ℕ
entries_of o i = cond ((o i).inode.kind == 2) (zeros (o i).inode.size) []

module _ (lot : LotView) (o : Table) where
  entries-dir : (i : ℕ) → (o i).inode.kind ≡ 2 → times (entries_of o i) 0 ≡ (o i).inode.size
  entries-dir i two =
      let t : ((o i).inode.kind == 2) ≡ true = grind (arith, nat_tests) in
      ap (λ b. times (cond b (zeros (o i).inode.size) []) 0) t ∙ times-zeros (o i).inode.size

  entries-file : (i : ℕ) → (o i).inode.kind ≡ 1 → times (entries_of o i) 0 ≡ 0
  entries-file i one =
      let t : ((o i).inode.kind == 2) ≡ false = grind (arith, nat_tests) in
      ap (λ b. times (cond b (zeros (o i).inode.size) []) 0) t

  mutual
    count-nodes : (i h : ℕ) (t : Tree) → Reads form_one lot o i h t → nodes t ≡ 1 + times (tree_uses form_one o (entries_of o) i t) 0
    count-nodes i h (File bytes) r = omega (arith, entries-file i r.1.is_file)
    count-nodes i h (Dir es) r =
        omega (
          arith,
          entries-dir i r.1.is_dir,
          r.1.count,
          times-append (entries_of o i) (entries_use form_one o (entries_of o) (rows_in form_one (o i)) es) 0,
          count-each (rows_in form_one (o i)) (h + 1) es r.2,
        )

    count-each : (rs : List DirRow) (h : ℕ) (es : Entries) → ReadsEach form_one lot o rs h es
        → total_in (λ _. 1) (λ _. 1) es ≡ length (rows es) + times (entries_use form_one o (entries_of o) rs es) 0
    count-each rs h Nil r = refl
    count-each rs h (Entry c t es) r =
        omega (
          arith,
          count-nodes (inode_named c rs) h t r.0,
          count-each rs h es r.1,
          times-append (tree_uses form_one o (entries_of o) (inode_named c rs) t) (entries_use form_one o (entries_of o) rs es) 0,
        )

find-lookup : (q : List ℕ) (rs : List DirRow) → find by_bytes q rs ≡ lookup (eq_by_cmp by_bytes q) rs
find-lookup q [] = refl
find-lookup q (e ∷ rs) = ap (λ r. cond (eq_by_cmp by_bytes q e.0) (Some e.1) r) (find-lookup q rs)

-- a used inode uses no more than all do
length-one : (mine : ℕ → List ℕ) (i : ℕ) (is : List ℕ) → 0 < times is i → length (mine i) ≤ length (flat_map mine is)
length-one mine i [] h = absurd (omega (arith, h))
length-one mine i (x ∷ is) h =
    elim (x == i) as (λ b. (x == i) ≡ b → length (mine i) ≤ length (mine x ++ flat_map mine is)) [
      | true ↦ λ e. let same : x ≡ i = grind (arith, nat_tests) in omega (arith, length-append (mine x) (flat_map mine is), ap (λ y. length (mine y)) same)
      | false ↦ λ e. omega (arith, length-append (mine x) (flat_map mine is), length-one mine i is (omega (arith, h, times-other i x is e)))
    ] refl

-- nor two more than all do
length-two : (mine : ℕ → List ℕ) (i j : ℕ) (is : List ℕ) → i ≢ j → 0 < times is i → 0 < times is j
    → length (mine i) + length (mine j) ≤ length (flat_map mine is)
length-two mine i j [] ne h g = absurd (omega (arith, h))
length-two mine i j (x ∷ is) ne h g =
    elim (x == i) as (λ b. (x == i) ≡ b → length (mine i) + length (mine j) ≤ length (mine x ++ flat_map mine is)) [
      | true ↦ λ e.
          let same : x ≡ i = grind (arith, nat_tests) in
          let other : (x == j) ≡ false = differs x j (λ q. ne (sym same ∙ q)) in
          omega (arith, length-append (mine x) (flat_map mine is), ap (λ y. length (mine y)) same, length-one mine j is (omega (arith, g, times-other j x is other)))
      | false ↦ λ e. elim (x == j) as (λ b. (x == j) ≡ b → length (mine i) + length (mine j) ≤ length (mine x ++ flat_map mine is)) [
        | true ↦ λ d.
            let same : x ≡ j = grind (arith, nat_tests) in
            omega (arith, length-append (mine x) (flat_map mine is), ap (λ y. length (mine y)) same, length-one mine i is (omega (arith, h, times-other i x is e)))
        | false ↦ λ d.
            omega (arith, length-append (mine x) (flat_map mine is), length-two mine i j is ne (omega (arith, h, times-other i x is e)) (omega (arith, g, times-other j x is d)))
      ] refl
    ] refl
  where
    differs : (a b : ℕ) → a ≢ b → (a == b) ≡ false
    differs a b ne = grind (arith, nat_tests)

mark-small : (b : Bool) → mark b ≤ 1
mark-small true = omega arith
mark-small false = omega arith

nodes-some : (t : Tree) → 1 ≤ nodes t
nodes-some (File bytes) = omega arith
nodes-some (Dir es) = omega arith

nodes-within : (p : List (List ℕ)) (t s : Tree) → walk p t ≡ Found s → nodes s ≤ nodes t
nodes-within p t s found = let e = total-at (λ _. 1) (λ _. 1) p (λ _. File []) t s found in let n = nodes-some (at p (λ _. File []) t) in omega arith

rows-nodes : (es : Entries) → length (rows es) ≤ total_in (λ _. 1) (λ _. 1) es
rows-nodes Nil = omega arith
rows-nodes (Entry c t es) = omega (arith, nodes-some t, rows-nodes es)

-- a tree has more nodes than a directory of it has entries
pub spot-nodes : (f : Form) (o : Table) (names : List (List ℕ)) (t : Tree) (spot : DirAt) → IsDirAt f o names t spot → spot.entries + 1 ≤ nodes t
spot-nodes f o names t spot is = omega (arith, is.count, rows-nodes is.inside, nodes-within names t (Dir is.inside) is.there)

module _ (mode : ℕ) (lot : LotView) (m : Map) (t : Tree) (k : ℕ) (r : MapRecovers form_one mode lot m t k) where
  abbrev o : Table
  o = own form_one m

  -- an inode is what a walk of names comes to
  record Stands (i : ℕ) : Type 0 where
    names : List (List ℕ)
    part : Tree
    found : walk names t ≡ Found part
    ends : inode_on form_one o 0 names ≡ i

  stands-reads : (i : ℕ) → (s : Stands i) → Reads form_one lot o i (0 + length s.names) s.part
  stands-reads i s =
      subst (λ n. Reads form_one lot o n (0 + length s.names) s.part) s.ends (Reads-part form_one lot o s.names 0 0 t s.part s.found r.holds.reads)

  stands-used : (i : ℕ) → Stands i → 0 < times (used_inodes form_one o 0 t) i
  stands-used i s =
      omega (arith, uses-part form_one o (λ n. n ∷ []) i s.names 0 t s.part s.found, uses-it (inode_on form_one o 0 s.names) s.part, ap (λ n. times (n ∷ []) i) s.ends, times-here i [])
    where
      uses-it : (j : ℕ) (u : Tree) → times (j ∷ []) i ≤ times (used_inodes form_one o j u) i
      uses-it j (File bytes) = omega arith
      uses-it j (Dir es) = omega (arith, times-append (j ∷ []) (entries_use form_one o (λ n. n ∷ []) (rows_in form_one (o j)) es) i)

  inode-part : (u : Tree) (i h : ℕ) → Reads form_one lot o i h u → IsInode form_one lot (o i) i h
  inode-part (File bytes) i h x = x.0
  inode-part (Dir es) i h x = x.0

  -- what a row of a directory names
  row-child : (u : Tree) (i h : ℕ) (name : List ℕ) (j : ℕ) → Reads form_one lot o i h u → (o i).inode.kind ≡ 2 → Contains (dir_rows_of form_one m i) (name, j)
      → (s : Tree) × (child name u ≡ Found s) × Reads form_one lot o j (h + 1) s × (inode_named name (rows_in form_one (o i)) ≡ j)
  row-child (File bytes) i h name j x two c = absurd (no_file (o i).inode.kind x.1.is_file two)
  row-child (Dir es) i h name j x two c =
      child-found form_one lot o i h name es j x (
      look_up-find name (dir_rows_of form_one m i) ∙ find-lookup name (dir_rows_of form_one m i)
      ∙ lookup-from_Contains (eq_by_cmp_equiv nat_list_cmp_total) name j (dir_rows_of form_one m i) x.1.differ c
      )

  stands-row : (dir : ℕ) (name : List ℕ) (j : ℕ) → Stands dir → (inode_of m dir).kind ≡ 2 → Contains (dir_rows_of form_one m dir) (name, j) → Stands j
  stands-row dir name j s two c =
      let y = row-child s.part dir (0 + length s.names) name j (stands-reads dir s) two c in
      record {
        names = s.names ++ name ∷ [];
        part = y.0;
        found = walk-on s.names (name ∷ []) t s.part s.found ∙ ap (λ w. and_on w (λ u. Found u)) y.1;
        ends = inode_on-more form_one lot o 0 s.names name ∙ ap (λ n. inode_named name (rows_in form_one (o n))) s.ends ∙ y.3;
      }

  -- each inode to which the directories lead is one
  stands : {i : ℕ} → Reached form_one lot m i → Stands i
  stands Root = record { names = []; part = t; found = refl; ends = refl }
  stands (Named dir number name d is c) = stands-row dir name number (stands d) is.kind c

  node-at : (i : ℕ) → IsReached form_one lot m i → IsNode lot (inode_of m i)
  node-at i x = let s = stands x.by in Reads-node form_one refl lot m i (0 + length s.names) s.part (stands-reads i s)

  places-at : (i : ℕ) → IsReached form_one lot m i → (b : ℕ) → has (o i).uses b ≡ true → is_data lot b ≡ true
  places-at i x = let s = stands x.by in (inode-part s.part i (0 + length s.names) (stands-reads i s)).places

  -- ---- inodes

  no-inode : ¬ BadInode form_one lot m
  no-inode x = x.bad (node-at x.number x.reached)

  no-pointer : ¬ BadPointer form_one lot m
  no-pointer x =
      no_true (sym x.bad.bad ∙ places-lead lot m (inode_of m x.number) (map_length form_one (inode_of m x.number)) x.bad.block
      (places-at x.number x.reached) x.bad.below)

  -- a block that stands in what an inode uses stands there once, and in what no other one uses
  once : (b : ℕ) → is_data lot b ≡ true → times (used_blocks form_one o 0 t) b ≤ 1
  once b d = omega (arith, r.holds.blocks b d, mark-small (used_block m b))

  no-twice : ¬ TwiceUsed form_one lot m
  no-twice x = by x.twice
    where
      by : ((x.one ≡ x.other) × (2 ≤ times (node_uses form_one m x.one) x.block))
          ⊎ ((x.one ≢ x.other) × (has (node_uses form_one m x.one) x.block ≡ true) × (has (node_uses form_one m x.other) x.block ≡ true)) → ⊥
      by (inl two) =
          omega (
            arith,
            two.1,
            once x.block (places-at x.one x.reached x.block (times-has (node_uses form_one m x.one) x.block (omega (arith, two.1)))),
            used-one form_one o (λ n. (o n).uses) x.block x.one x.one 0 t (stands-used x.one (stands x.reached.by)),
          )
      by (inr y) =
          omega (
            arith,
            has-times (node_uses form_one m x.one) x.block y.1,
            has-times (node_uses form_one m x.other) x.block y.2,
            once x.block (places-at x.one x.reached x.block y.1),
            used-apart form_one o (λ n. (o n).uses) x.block x.one x.other 0 t y.0 (stands-used x.one (stands x.reached.by))
                (stands-used x.other (stands x.reached_too.by)),
          )

  -- ---- entries

  no-overfull : ¬ Overfull form_one lot m
  no-overfull x =
      omega (
        arith,
        used-apart form_one o (entries_of o) 0 x.one x.other 0 t x.apart (stands-used x.one (stands x.reached.by))
            (stands-used x.other (stands x.reached_too.by)),
        entries-dir lot o x.one x.dir.kind,
        entries-dir lot o x.other x.dir_too.kind,
        count-nodes lot o 0 0 t r.holds.reads,
        x.many,
        free_nodes_are mode lot m t k r,
      )

  uses-it : (i j : ℕ) (u : Tree) → times (j ∷ []) i ≤ times (used_inodes form_one o j u) i
  uses-it i j (File bytes) = omega arith
  uses-it i j (Dir es) = omega (arith, times-append (j ∷ []) (entries_use form_one o (λ n. n ∷ []) (rows_in form_one (o j)) es) i)

  -- no entry leads to the root
  root-above : (c : List ℕ) (q : List (List ℕ)) (u s : Tree) → walk (c ∷ q) u ≡ Found s → inode_on form_one o 0 (c ∷ q) ≡ 0
      → 2 ≤ times (used_inodes form_one o 0 u) 0
  root-above c q (File bytes) s found ends = absurd (Found≢NotDir s (sym found))
  root-above c q (Dir es) s found ends =
      elim (find by_bytes c (rows es)) as (λ x. find by_bytes c (rows es) ≡ x → and_on (found_or_not x) (λ u. walk q u) ≡ Found s
      → 2 ≤ times (used_inodes form_one o 0 (Dir es)) 0) [
        | None ↦ λ e is. absurd (Found≢NotFound s (sym is))
        | Some u ↦ λ e is.
            let j = inode_on form_one o (inode_named c (rows_in form_one (o 0))) q in
            omega (
              arith,
              times-here 0 (entries_use form_one o (λ n. n ∷ []) (rows_in form_one (o 0)) es),
              uses-entry form_one o (λ n. n ∷ []) 0 (rows_in form_one (o 0)) c es u e,
              uses-part form_one o (λ n. n ∷ []) 0 q (inode_named c (rows_in form_one (o 0))) u s is,
              uses-it 0 j s,
              ap (λ n. times (n ∷ []) 0) ends,
              times-here 0 [],
            )
      ] refl found

  no-root : (names : List (List ℕ)) (name : List ℕ) (s : Tree) → walk (names ++ name ∷ []) t ≡ Found s → inode_on form_one o 0 (names ++ name ∷ []) ≡ 0 → ⊥
  no-root [] name s found ends = twice-marked (root-above name [] t s found ends)
    where
      twice-marked : 2 ≤ times (used_inodes form_one o 0 t) 0 → ⊥
      twice-marked h = omega (arith, h, r.holds.inodes 0 (inode-part t 0 0 r.holds.reads).number, mark-small (used_inode m 0))
  no-root (c ∷ q) name s found ends = twice-marked (root-above c (q ++ name ∷ []) t s found ends)
    where
      twice-marked : 2 ≤ times (used_inodes form_one o 0 t) 0 → ⊥
      twice-marked h = omega (arith, h, r.holds.inodes 0 (inode-part t 0 0 r.holds.reads).number, mark-small (used_inode m 0))

  no-entry : ¬ BadEntry form_one lot m
  unfolding stands stands-row
  no-entry x = by x.bad
    where
      by : (x.row.1 ≡ 0) ⊎ (64 * length lot.groups ≤ x.row.1) → ⊥
      by (inl z) =
          let s = stands x.reached.by in
          let y = row-child s.part x.number (0 + length s.names) x.row.0 x.row.1 (stands-reads x.number s) x.dir.kind x.has in
          let child = stands-row x.number x.row.0 x.row.1 s x.dir.kind x.has in
          no-root s.names x.row.0 child.part child.found (child.ends ∙ z)
      by (inr past) =
          let s = stands x.reached.by in
          let y = row-child s.part x.number (0 + length s.names) x.row.0 x.row.1 (stands-reads x.number s) x.dir.kind x.has in
          omega (arith, past, (inode-part y.0 x.row.1 (0 + length s.names + 1) y.2).number)

  no-name : ¬ BadName form_one lot m
  no-name x = let s = stands x.reached.by in fits s.part (0 + length s.names) (stands-reads x.number s)
    where
      fits : (u : Tree) (h : ℕ) → Reads form_one lot o x.number h u → ⊥
      fits (File bytes) h y = no_file (inode_of m x.number).kind y.1.is_file x.dir.kind
      fits (Dir es) h y =
          no_true (sym x.bad ∙ All-contains (λ (row : DirRow). is_name row.0 ≡ true) (dir_rows_of form_one m x.number) x.row
          (λ j d low. (y.1.fit j d low).is) x.has)

  -- ---- counts and bitmaps

  no-many : ¬ ManyCounted lot m
  no-many x = by x.inodes x.many
    where
      by : (b : Bool) → cond b 64 256 * length lot.groups < counted b m → ⊥
      by true h = omega (arith, h, (counts_small mode lot m t k r).1)
      by false h = omega (arith, h, (counts_small mode lot m t k r).0)

  no-zero : ¬ (counted true m ≡ 0)
  no-zero e = omega (arith, e, r.holds.inode_count, some t)
    where
      some : (u : Tree) → 1 ≤ length (used_inodes form_one o 0 u)
      some (File bytes) = omega arith
      some (Dir es) = omega arith

  no-few : ¬ FewCounted form_one lot m
  no-few x =
      elim (x.one == x.other) as (λ b. (x.one == x.other) ≡ b
      → counted false m < length (node_uses form_one m x.one) + cond b 0 (length (node_uses form_one m x.other)) → ⊥) [
        | true ↦ λ e few. omega (arith, few, all, length-one (λ n. (o n).uses) x.one (used_inodes form_one o 0 t) here)
        | false ↦ λ e few.
            let apart : x.one ≢ x.other = grind (arith, nat_tests) in
            omega (arith, few, all, length-two (λ n. (o n).uses) x.one x.other (used_inodes form_one o 0 t) apart here there)
      ] refl x.few
    where
      all : counted false m ≡ length (flat_map (λ n. (o n).uses) (used_inodes form_one o 0 t))
      all = r.holds.block_count ∙ ap length (uses-flat form_one o (λ n. (o n).uses) 0 t)

      here : 0 < times (used_inodes form_one o 0 t) x.one
      here = stands-used x.one (stands x.reached.by)

      there : 0 < times (used_inodes form_one o 0 t) x.other
      there = stands-used x.other (stands x.reached_too.by)

  no-free_block : ¬ FreeBlock form_one lot m
  no-free_block x =
      omega (
        arith,
        r.holds.blocks x.bad.block (places-at x.number x.reached x.bad.block x.bad.uses),
        ap mark x.bad.unmarked,
        has-times (o x.number).uses x.bad.block x.bad.uses,
        used-one form_one o (λ n. (o n).uses) x.bad.block x.number x.number 0 t (stands-used x.number (stands x.reached.by)),
      )

  no-free_inode : ¬ FreeInode form_one lot m
  no-free_inode x = omega (arith, r.holds.inodes x.number x.reached.below, ap mark x.free, stands-used x.number (stands x.reached.by))

  -- ---- what directories lead to

  sum-le : (p q : DirRow → ℕ) (rs : List DirRow) → All (λ (row : DirRow). p row ≤ q row) rs → sum_by p rs ≤ sum_by q rs
  sum-le p q [] h = omega arith
  sum-le p q (e ∷ rs) h =
      omega (arith, sum_by-cons p e rs, sum_by-cons q e rs, h 0 ([], 0) (omega arith), sum-le p q rs (All-tail (λ (row : DirRow). p row ≤ q row) e rs h))

  within-nodes : (levels i h : ℕ) (u : Tree) → Reads form_one lot o i h u → count_within form_one m levels i ≤ nodes u
  within-nodes zero i h u x = nodes-some u
  within-nodes (suc levels) i h (File bytes) x = omega (arith, within-file form_one m (suc levels) i x.1.is_file)
  within-nodes (suc levels) i h (Dir es) x =
      let each : All (λ (row : DirRow). by_row form_one m levels row ≤ many es row) (rows_in form_one (o i)) = (λ n d low.
      let row : DirRow = get_or (rows_in form_one (o i)) n d in
      let c = row-under form_one lot o i h es x n row.0 row.1 (slice_get-get_or (rows_in form_one (o i)) n d low) in
      omega (arith, within-nodes levels row.1 (h + 1) c.there c.reads, ap many_of c.entry)) in
      omega (
        arith,
        within-dir form_one m levels i x.1.is_dir,
        ap (λ n. count_within form_one m n i) (one_more levels),
        sum-le (by_row form_one m levels) (many es) (rows_in form_one (o i)) each,
        sum-many es (rows_in form_one (o i)) x.1.differ,
      )
    where
      one_more : (n : ℕ) → suc n ≡ n + 1
      one_more n = omega arith

  no-crowd : ¬ LeadsToTooMany form_one lot m
  no-crowd x =
      let s = stands x.reached.by in
      omega (arith, x.many, within-nodes x.levels x.number (0 + length s.names) s.part (stands-reads x.number s), nodes-within s.names t s.part s.found, free_nodes_are mode lot m t k r)

  -- ---- all rules

  no-sub : (x : Rule) → ¬ (sub_rule lot.slot (m sub_address) ≡ Some x)
  no-sub x e = None≢Some x (sym r.sub.sound ∙ e)

  breaks-none : (x : Rule) → ¬ IsBroken form_one lot m x
  breaks-none rule.Magic x = no-sub rule.Magic x
  breaks-none rule.Version x = no-sub rule.Version x
  breaks-none rule.Slot x = no-sub rule.Slot x
  breaks-none rule.Mode x = no-sub rule.Mode x
  breaks-none rule.Done x = no-sub rule.Done x
  breaks-none rule.Counts (inl x) = no-many x
  breaks-none rule.Counts (inr (inl x)) = no-zero x
  breaks-none rule.Counts (inr (inr x)) = no-few x
  breaks-none rule.Kind x = no-inode x
  breaks-none rule.Pointer (inl x) = no-pointer x
  breaks-none rule.Pointer (inr x) = no-twice x
  breaks-none rule.BlockTwice x = x
  breaks-none rule.InodeTwice (inl x) = no-entry x
  breaks-none rule.InodeTwice (inr (inl x)) = no-overfull x
  breaks-none rule.InodeTwice (inr (inr x)) = no-crowd x
  breaks-none rule.Name x = no-name x
  breaks-none rule.NameTwice x = x
  breaks-none rule.Bitmap (inl x) = x r.holds.reserved
  breaks-none rule.Bitmap (inr (inl x)) = no-free_block x
  breaks-none rule.Bitmap (inr (inr (inl x))) = no-free_inode x
  breaks-none rule.Bitmap (inr (inr (inr x))) = no-twice x
  breaks-none rule.Depth x = x
  breaks-none rule.Header x = x

-- a lot that recovers a tree breaks no rule
pub recovers_unbroken : (mode : ℕ) (lot : LotView) (m : Map) (t : Tree) (k : ℕ) (x : Rule) → MapRecovers form_one mode lot m t k → ¬ IsBroken form_one lot m x
recovers_unbroken mode lot m t k x r = breaks-none mode lot m t k r x

-- so no row names the root, or none of the lot
pub no-bad-entry : (f : Form) → f ≡ form_one → (form : Form) → form ≡ form_one → (mode : ℕ) (lot : LotView) (m : Map) (t : Tree) (k : ℕ)
    → MapRecovers f mode lot m t k → ¬ BadEntry form lot m
no-bad-entry f one form wide mode lot m t k r bad =
    recovers_unbroken mode lot m t k rule.InodeTwice (subst (λ g. MapRecovers g mode lot m t k) one r) (inl (subst (λ e. BadEntry e lot m) wide bad))

-- so where it breaks one, some rule may be named of it
pub broken_named : (lot : LotView) (m : Map) (x : Rule) → 0 < length lot.groups → IsBroken form_one lot m x → (r : Rule) × MayName (form_in m) lot m r
broken_named lot m x some bad = ⊎_elim
    (λ r. r)
    (λ y.
    let one : form_in m ≡ form_one = only_form lot m y.1.sub.sound in
    absurd (recovers_unbroken (sub_of (m sub_address)).mode lot m y.0 (sub_of (m sub_address)).done x
    (subst (λ f. MapRecovers f (sub_of (m sub_address)).mode lot m y.0 (sub_of (m sub_address)).done) one y.1) bad))
    (recovers_or_named lot m some)
