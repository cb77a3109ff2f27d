-- What free nodes and blocks say of a quota, and how its stages follow one another.
use Rattle.std.proofs.Common.{◌≡◌, ◌≤◌, ◌<◌, ◌+◌, ◌-◌, ℕ, true, false, None, Some, length, refl, sym, subst, arith}
use Rattle.std.proofs.lemmas.Bool.Decides.{nat_tests}
use Rattle.ice_base.specs.Lots.{LotView}
use Rattle.ice_base.specs.Used.{free_count}
use Rattle.tree_spec.specs.Why as why
use Rattle.tree_spec.specs.Trees.{Tree}
use Rattle.tree_spec.specs.Costs.{Form, form_one, nodes, blocks, node_quota, block_quota}
use Rattle.ice_reads.specs.Tables.{Map}
use Rattle.ice_reads.specs.Recovers.{MapRecovers}
use Rattle.ice_steps.proofs.Quotas.{free_nodes_are, free_blocks_are}
use Rattle.ice_tree.specs.declared.quota.Need.{Need}
use Rattle.ice_tree.specs.Quotas.{Needs, nodes_refusal, blocks_refusal}

few_nodes : (n x : ℕ) → x ≤ node_quota n → (t : Tree) → nodes t ≡ x → nodes_refusal n t ≡ None
few_nodes n x h t e = grind (arith, nat_tests)

pub many_nodes : (n x : ℕ) → node_quota n < x → (t : Tree) → nodes t ≡ x → nodes_refusal n t ≡ Some why.NoNodes
many_nodes n x h t e = grind (arith, nat_tests)

few_blocks : (n x : ℕ) (f : Form) → x ≤ block_quota n → (t : Tree) → blocks f t ≡ x → blocks_refusal n f t ≡ None
few_blocks n x f h t e = grind (arith, nat_tests)

many_blocks : (n x : ℕ) (f : Form) → block_quota n < x → (t : Tree) → blocks f t ≡ x → blocks_refusal n f t ≡ Some why.NoSpace
many_blocks n x f h t e = grind (arith, nat_tests)

module _ (f : Form) (one : f ≡ form_one) (mode : ℕ) (lot : LotView) (m : Map) (t next : Tree) (k : ℕ) (need : Need)
    (r : MapRecovers f mode lot m t k) (n : Needs f t next need) where
  nodes_free : free_count true lot m + nodes t ≡ node_quota (length lot.groups)
  nodes_free = free_nodes_are mode lot m t k (subst (λ (g : Form). MapRecovers g mode lot m t k) one r)

  blocks_free : length lot.groups ≤ 64 → free_count false lot m + blocks f t ≡ block_quota (length lot.groups)
  blocks_free few =
      subst (λ (g : Form). free_count false lot m + blocks g t ≡ block_quota (length lot.groups)) (sym one)
      (free_blocks_are mode lot m t k (subst (λ (g : Form). MapRecovers g mode lot m t k) one r) few)

  -- the change needs no more nodes than it gives back
  pub nodes_shrink : need.nodes ≤ need.lost → nodes_refusal (length lot.groups) next ≡ None
  nodes_shrink h = let e = nodes_free in let v = n.nodes_move in few_nodes (length lot.groups) (nodes next) (omega arith) next refl

  -- so many are free
  pub nodes_fit : (free : ℕ) → free ≡ free_count true lot m → need.lost < need.nodes → need.nodes - need.lost ≤ free
      → nodes_refusal (length lot.groups) next ≡ None
  nodes_fit free is more h = let e = nodes_free in let v = n.nodes_move in few_nodes (length lot.groups) (nodes next) (omega arith) next refl

  -- fewer are free
  pub nodes_lack : (free : ℕ) → free ≡ free_count true lot m → need.lost < need.nodes → free < need.nodes - need.lost
      → nodes_refusal (length lot.groups) next ≡ Some why.NoNodes
  nodes_lack free is more h = let e = nodes_free in let v = n.nodes_move in many_nodes (length lot.groups) (nodes next) (omega arith) next refl

  -- the same of blocks
  pub blocks_shrink : length lot.groups ≤ 64 → need.blocks ≤ need.freed → blocks_refusal (length lot.groups) f next ≡ None
  blocks_shrink few h = let e = blocks_free few in let v = n.blocks_move in few_blocks (length lot.groups) (blocks f next) f (omega arith) next refl

  pub blocks_fit : length lot.groups ≤ 64 → (free : ℕ) → free ≡ free_count false lot m → need.freed < need.blocks
      → need.blocks - need.freed ≤ free → blocks_refusal (length lot.groups) f next ≡ None
  blocks_fit few free is more h = let e = blocks_free few in let v = n.blocks_move in few_blocks (length lot.groups) (blocks f next) f (omega arith) next refl

  pub blocks_lack : length lot.groups ≤ 64 → (free : ℕ) → free ≡ free_count false lot m → need.freed < need.blocks
      → free < need.blocks - need.freed → blocks_refusal (length lot.groups) f next ≡ Some why.NoSpace
  blocks_lack few free is more h = let e = blocks_free few in let v = n.blocks_move in many_blocks (length lot.groups) (blocks f next) f (omega arith) next refl
