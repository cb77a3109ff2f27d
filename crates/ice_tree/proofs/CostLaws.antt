-- What entries and bytes cost a map is what they cost a tree.
use Rattle.std.proofs.Common.{◌≡◌, ◌≤◌, ℕ, sym, ◌∙◌, ap}
use Rattle.tree_spec.specs.Costs.{Form, form_one, map_cost}
use Rattle.tree_spec.specs.Costs as tree
use Rattle.ice_map.specs.Moves.{uses_of}
use Rattle.ice_dir.specs.Changes.{entry_blocks}
use Rattle.ice_steps.proofs.Costs.{dir_cost}

-- the blocks of a directory of so many entries
pub dir-cost : (f : Form) → f ≡ form_one → (form : Form) → form ≡ form_one → (n : ℕ) → n ≤ 4096 → map_cost (tree.dir_blocks f n) ≡ uses_of (entry_blocks form n)
dir-cost f one form e64 n few = ap (λ g. map_cost (tree.dir_blocks g n)) one ∙ sym (dir_cost n few) ∙ ap (λ e. uses_of (entry_blocks e n)) (sym e64)
