-- The inode that a walk has in hand.
use Rattle.std.proofs.Common.{◌≡◌, ◌<◌, ◌*◌, ℕ, false, List, Option, ap, subst, ◌∙◌, arith}
use Rattle.ice_base.specs.Lots.{LotView}
use Rattle.ice_base.specs.declared.fault.OpFault.{OpFault}
use Rattle.ice_base.specs.declared.fault.OpFault.TheVariants.{Damaged}
use Rattle.ice_base.specs.declared.fault.Rule.TheVariants.{Kind}
use Rattle.ice_map.specs.Faults.{IsLookFault}
use Rattle.ice_map.specs.declared.codec.Inode.{Inode}
use Rattle.ice_map.specs.Inodes.{inode_of}
use Rattle.ice_map.specs.Maps.{leads}
use Rattle.ice_file.specs.Files.{IsReadFault}
use Rattle.ice_dir.specs.Faults.{IsFindFault}
use Rattle.ice_dir.specs.Rows.{look_up, rows_at, dir_rows_of, per_block, IsDirectory}
use Rattle.tree_spec.specs.Costs.{Form}
use Rattle.ice_look.specs.declared.place.Place.{Place}
use Rattle.ice_look.specs.declared.place.Place.TheVariants.{Dir}
use Rattle.ice_look.specs.Places.{NodeFits, NodeIs}

-- a search in a directory fails as a look does
pub find-fault : (e : OpFault) → IsLookFault e → IsFindFault e
find-fault e h = grind arith

-- and so does a read of a file
pub read-fault : (e : OpFault) → IsLookFault e → IsReadFault e
read-fault e h = grind arith

-- so neither says that the inode in hand is none of its kind
pub not-kind : (e : OpFault) → IsLookFault e → e ≡ Damaged Kind → ⊥
not-kind e h k = subst IsLookFault k h

-- at a directory
module _ (lot : LotView) (from : Place) (number size : ℕ) (node : Inode) (is : from ≡ Dir number size) where
  -- it is a directory that the lot can have
  pub node-directory : NodeFits lot from node → IsDirectory lot node
  node-directory h = (subst (λ p. NodeFits lot p node) is h).0

  -- it is the inode of the place
  pub node-here : (m : ℕ → List ℕ) → NodeIs m from node → node ≡ inode_of m number
  node-here m h = subst (λ p. NodeIs m p node) is h

  -- so the inode of the place is a directory
  pub place-directory : (m : ℕ → List ℕ) → NodeFits lot from node → NodeIs m from node → IsDirectory lot (inode_of m number)
  place-directory m fits h = subst (IsDirectory lot) (node-here m h) (node-directory fits)

  -- what a search for a name finds is what the place's rows have
  pub node-found : (form : Form) (m : ℕ → List ℕ) (name : List ℕ) (o : Option ℕ) → NodeIs m from node
      → o ≡ look_up name (rows_at form m node) → o ≡ look_up name (dir_rows_of form m number)
  node-found form m name o h found = found ∙ ap (λ (i : Inode). look_up name (rows_at form m i)) (node-here m h)

  -- a pointer that leads to no data place is one of the place
  pub node-pointer : (form : Form) (m : ℕ → List ℕ) → NodeIs m from node
      → (n : ℕ) × (n * per_block form < node.size) × (leads lot m node n ≡ false)
      → (n : ℕ) × (n * per_block form < (inode_of m number).size) × (leads lot m (inode_of m number) n ≡ false)
  node-pointer form m h p = subst (λ (i : Inode). (n : ℕ) × (n * per_block form < i.size) × (leads lot m i n ≡ false)) (node-here m h) p
