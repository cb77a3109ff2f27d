-- A map recovers a tree where it holds the tree and nothing beside it.
use Rattle.std.proofs.Common.{ℕ, List, [], length, ◌∙◌, sym, ap}
use Rattle.std.proofs.lemmas.List.{append-nil}
use Rattle.ice_base.specs.Lots.{LotView}
use Rattle.ice_map.specs.Maps.{times}
use Rattle.ice_map.proofs.ListLaws.{has-none}
use Rattle.tree_spec.specs.Trees.{Tree}
use Rattle.tree_spec.specs.Costs.{Form}
use Rattle.ice_reads.specs.Tables.{Map}
use Rattle.ice_map.specs.Own.{own}
use Rattle.ice_reads.specs.Reads.{used_blocks, used_inodes}
use Rattle.ice_reads.specs.Recovers.{MapRecovers}
use Rattle.ice_steps.specs.Beside.{Beside}

-- a map that holds a tree with nothing beside it recovers the tree
pub beside_recovers : (f : Form) (mode : ℕ) (lot : LotView) (m : Map) (t : Tree) (k : ℕ) → Beside f mode lot m t k [] [] → MapRecovers f mode lot m t k
beside_recovers f mode lot m t k b =
    let xs = append-nil (used_blocks f (own f m) 0 t) in
    let is = append-nil (used_inodes f (own f m) 0 t) in
    record {
      sub = b.sub;
      holds = record {
        dir = b.dir;
        reads = b.reads;
        reserved = b.reserved;
        blocks = λ a h. ap (λ ys. times ys a) (sym xs) ∙ b.blocks a h;
        inodes = λ i h. ap (λ ys. times ys i) (sym is) ∙ b.inodes i h;
        block_count = b.block_count ∙ ap (λ (ys : List ℕ). length ys) xs;
        inode_count = b.inode_count ∙ ap (λ (ys : List ℕ). length ys) is;
      };
    }

-- a map that recovers a tree holds it with nothing beside it
pub recovers_beside : (f : Form) (mode : ℕ) (lot : LotView) (m : Map) (t : Tree) (k : ℕ) → MapRecovers f mode lot m t k → Beside f mode lot m t k [] []
recovers_beside f mode lot m t k r =
    let xs = append-nil (used_blocks f (own f m) 0 t) in
    let is = append-nil (used_inodes f (own f m) 0 t) in
    record {
      sub = r.sub;
      dir = r.holds.dir;
      reads = r.holds.reads;
      reserved = r.holds.reserved;
      blocks = λ a h. ap (λ ys. times ys a) xs ∙ r.holds.blocks a h;
      inodes = λ i h. ap (λ ys. times ys i) is ∙ r.holds.inodes i h;
      block_count = r.holds.block_count ∙ ap (λ (ys : List ℕ). length ys) (sym xs);
      inode_count = r.holds.inode_count ∙ ap (λ (ys : List ℕ). length ys) (sym is);
      more_data = λ a h. let e = has-none a in absurd cc;
      others_small = λ i h. let e = has-none i in absurd cc;
    }
