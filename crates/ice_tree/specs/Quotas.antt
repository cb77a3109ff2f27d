-- What a change needs, and the refusals by it.
use Rattle.std.specs.Prelude.{◌≡◌, ◌≤◌, ◌<◌, ◌+◌, ℕ, true, false, List, nat_lt, Option, Some, None, if◌then◌else◌, ◌^◌, nat_eq}
use Rattle.ice_base.specs.Lots.{LotView, sub_address}
use Rattle.tree_spec.specs.Why.{Why}
use Rattle.tree_spec.specs.Why as why
use Rattle.tree_spec.specs.Trees.{Tree}
use Rattle.tree_spec.specs.Costs.{Form, nodes, blocks, node_quota, block_quota}
use Rattle.tree_spec.specs.Answers.{most_done}
use Rattle.ice_tree.specs.declared.quota.Need.{Need}
use Rattle.ice_look.specs.Stages.{or_else}
use Rattle.ice_base.specs.Fields.{long_at}
use Rattle.ice_base.specs.Used.{free_count}

-- the tree that would be made has so many nodes and blocks more, and so many fewer
pub record Needs (f : Form) (t next : Tree) (need : Need) : Type 0 where
  pub nodes_move : nodes next + need.lost ≡ nodes t + need.nodes
  pub blocks_move : blocks f next + need.freed ≡ blocks f t + need.blocks

-- one more operation can be counted
abbrev pub CanCount : (ℕ → List ℕ) → Type 0
CanCount m = long_at (m sub_address) 16 + 1 < 2 ^ 63

-- as many inodes and blocks are free as a change needs, and one more operation can be counted
pub record HasFree (lot : LotView) (m : ℕ → List ℕ) (need : Need) : Type 0 where
  pub nodes : need.nodes ≤ need.lost + free_count true lot m
  pub blocks : need.blocks ≤ need.freed + free_count false lot m
  pub done : CanCount m

-- the refusal by the number of nodes of the tree that would be made
abbrev pub nodes_refusal : ℕ → Tree → Option Why
nodes_refusal n t = if nat_lt (node_quota n) (nodes t) then Some why.NoNodes else None

-- by its blocks
abbrev pub blocks_refusal : ℕ → Form → Tree → Option Why
blocks_refusal n f t = if nat_lt (block_quota n) (blocks f t) then Some why.NoSpace else None

-- by the number of operations that were accepted
abbrev pub done_refusal : ℕ → Option Why
done_refusal done = if nat_eq done most_done then Some why.Spent else None

-- the refusal that a lot of n groups has for a tree of one operation more, after so many
abbrev pub quota_refusal : ℕ → Form → ℕ → Tree → Option Why
quota_refusal n f done t = or_else (nodes_refusal n t) (or_else (blocks_refusal n f t) (done_refusal done))
