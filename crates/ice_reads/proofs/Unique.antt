-- An inode stands for one tree.
use Rattle.std.proofs.Common.{◌≡◌, ℕ, ◌+◌, true, false, cond, T, List, Some, None, Option, sym, refl, ap, ◌∙◌, subst, arith}
use Rattle.std.specs.Prelude.{is_some}
use Rattle.std.specs.Ordering.{eq_by_cmp}
use Rattle.std.specs.FinMap.{find}
use Rattle.ice_base.specs.Lots.{LotView}
use Rattle.ice_dir.specs.Rows.{DirRow}
use Rattle.tree_spec.specs.Trees.{Tree, File, Dir, Entries, Nil, Entry, rows, by_bytes}
use Rattle.tree_spec.specs.Costs.{Form}
use Rattle.tree_spec.proofs.Trees.{same_look_ups, same_name}
use Rattle.ice_reads.specs.Tables.{Table, rows_in, inode_named}
use Rattle.ice_reads.specs.Reads.{Reads, ReadsEach}
use Rattle.ice_reads.proofs.Focus.{entry_reads, same_Some, None≢Some}

one_not_two : (k : ℕ) → k ≡ 1 → k ≡ 2 → ⊥
one_not_two k a b = omega arith

same_option : (x y : Option Tree) → is_some x ≡ is_some y → ((v w : Tree) → x ≡ Some v → y ≡ Some w → v ≡ w) → x ≡ y
same_option None None e h = refl
same_option None (Some w) e h = absurd (subst T (sym e) tt)
same_option (Some v) None e h = absurd (subst T e tt)
same_option (Some v) (Some w) e h = ap (λ x. Some x) (h v w refl refl)

module _ (f : Form) (lot : LotView) (o : Table) where
  mutual
    pub Reads-unique : (t : Tree) (i h k : ℕ) (u : Tree) → Reads f lot o i h t → Reads f lot o i k u → t ≡ u
    Reads-unique (File bytes) i h k (File more) r s = ap (λ x. File x) (sym r.1.bytes_are ∙ s.1.bytes_are)
    Reads-unique (File bytes) i h k (Dir fs) r s = absurd (one_not_two _ r.1.is_file s.1.is_dir)
    Reads-unique (Dir es) i h k (File more) r s = absurd (one_not_two _ s.1.is_file r.1.is_dir)
    Reads-unique (Dir es) i h k (Dir fs) r s =
        ap (λ x. Dir x) (same_look_ups es fs r.1.sorted s.1.sorted (λ q.
        same_option (find by_bytes q (rows es)) (find by_bytes q (rows fs)) (r.1.maps q ∙ sym (s.1.maps q))
        (λ v w a b. ReadsEach-unique es (rows_in f (o i)) (h + 1) (k + 1) q v w r.2 a (entry_reads f lot o (rows_in f (o i)) (k + 1) q fs w b s.2))))

    ReadsEach-unique : (es : Entries) (rs : List DirRow) (h k : ℕ) (q : List ℕ) (v w : Tree) → ReadsEach f lot o rs h es
        → find by_bytes q (rows es) ≡ Some v → Reads f lot o (inode_named q rs) k w → v ≡ w
    ReadsEach-unique Nil rs h k q v w r is s = absurd (None≢Some v is)
    ReadsEach-unique (Entry c t es) rs h k q v w r is s =
        elim (eq_by_cmp by_bytes q c) as (λ b. eq_by_cmp by_bytes q c ≡ b → cond b (Some t) (find by_bytes q (rows es)) ≡ Some v → v ≡ w) [
          | true ↦ λ e is.
              sym (same_Some _ _ is) ∙ Reads-unique t (inode_named c rs) h k w r.0 (subst (λ x. Reads f lot o (inode_named x rs) k w) (same_name q c e) s)
          | false ↦ λ e is. ReadsEach-unique es rs h k q v w r.1 is s
        ] refl is
