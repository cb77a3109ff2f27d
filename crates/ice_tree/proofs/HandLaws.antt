-- What a call says of the inode in hand it says of the inode of its number.
use Rattle.std.proofs.Common.{◌≡◌, ◌≢◌, ◌≤◌, ◌<◌, ◌+◌, ◌-◌, ◌*◌, ◌^◌, ℕ, false, List, Option, Some, IsSome, length, refl, sym, ap, ◌∙◌, subst, arith}
use Rattle.ice_base.specs.Lots.{LotView}
use Rattle.ice_base.specs.Used.{counted, free_count}
use Rattle.ice_base.specs.declared.fault.OpFault.{OpFault}
use Rattle.ice_base.specs.declared.fault.OpFault.TheVariants.{Damaged}
use Rattle.ice_base.specs.declared.fault.Rule.TheVariants.{Kind}
use Rattle.ice_map.specs.Faults.{IsGrowFault, IsCutFault}
use Rattle.ice_map.specs.declared.codec.Inode.{Inode}
use Rattle.ice_map.specs.Inodes.{inode_of}
use Rattle.ice_map.specs.Maps.{uses, FreeOrTwice, Misleads}
use Rattle.ice_map.specs.Own.{Confuses}
use Rattle.ice_map.specs.Moves.{uses_of}
use Rattle.ice_dir.specs.Changes.{entry_blocks, dir_uses, EntryGone, HasEntryRoom}
use Rattle.ice_dir.specs.Faults.{IsAddFault, IsRemovalFault}
use Rattle.ice_dir.specs.Rows.{IsDirectory}
use Rattle.tree_spec.specs.Costs.{Form}
use Rattle.ice_tree.specs.Removes.{RemovalFits}
use Rattle.ice_tree.specs.declared.removes.Removal.{Removal}
use Rattle.ice_tree.specs.Renames.{MoveFits}
use Rattle.ice_tree.specs.declared.renames.Move.{Move}
use Rattle.ice_tree.proofs.MoveDamage.{by-number}

-- a take over an inode in hand fails as a take does, but for the test of the inode, and so does an addition
pub take-fault : (e : OpFault) → IsCutFault e → IsRemovalFault e
take-fault e h = grind arith

pub add-fault : (e : OpFault) → IsGrowFault e → IsAddFault e
add-fault e h = grind arith

pub take-kind : (e : OpFault) → IsCutFault e → e ≡ Damaged Kind → ⊥
take-kind e h k = subst IsCutFault k h

pub add-kind : (e : OpFault) → IsGrowFault e → e ≡ Damaged Kind → ⊥
add-kind e h k = subst IsGrowFault k h

-- a directory in hand
module _ (lot : LotView) (form : Form) (m : ℕ → List ℕ) (number : ℕ) (node : Inode) (is : node ≡ inode_of m number) where
  pub hand-dir : IsDirectory lot node → IsDirectory lot (inode_of m number)
  hand-dir h = subst (IsDirectory lot) is h

  pub hand-low : counted false m + uses_of (entry_blocks form (node.size - 1)) < uses_of (entry_blocks form node.size)
      → counted false m + uses_of (entry_blocks form ((inode_of m number).size - 1)) < uses_of (entry_blocks form (inode_of m number).size)
  hand-low h = subst (λ (i : Inode). counted false m + uses_of (entry_blocks form (i.size - 1)) < uses_of (entry_blocks form i.size)) is h

  pub hand-free : FreeOrTwice m (uses m node (entry_blocks form node.size)) → FreeOrTwice m (dir_uses form m number)
  hand-free h = subst (λ (i : Inode). FreeOrTwice m (uses m i (entry_blocks form i.size))) is h

  pub hand-confused : Confuses lot m node (entry_blocks form node.size) → Confuses lot m (inode_of m number) (entry_blocks form (inode_of m number).size)
  hand-confused h = subst (λ (i : Inode). Confuses lot m i (entry_blocks form i.size)) is h

  pub hand-misled : Misleads lot m node (entry_blocks form node.size) → Misleads lot m (inode_of m number) (entry_blocks form (inode_of m number).size)
  hand-misled h = subst (λ (i : Inode). Misleads lot m i (entry_blocks form i.size)) is h

  pub hand-few : free_count false lot m + uses_of (entry_blocks form node.size) < uses_of (entry_blocks form (node.size + 1))
      → free_count false lot m + uses_of (entry_blocks form (inode_of m number).size) < uses_of (entry_blocks form ((inode_of m number).size + 1))
  hand-few h = subst (λ (i : Inode). free_count false lot m + uses_of (entry_blocks form i.size) < uses_of (entry_blocks form (i.size + 1))) is h

  pub hand-full : 2 ^ 32 + uses_of (entry_blocks form node.size) ≤ counted false m + uses_of (entry_blocks form (node.size + 1))
      → 2 ^ 32 + uses_of (entry_blocks form (inode_of m number).size) ≤ counted false m + uses_of (entry_blocks form ((inode_of m number).size + 1))
  hand-full h = subst (λ (i : Inode). 2 ^ 32 + uses_of (entry_blocks form i.size) ≤ counted false m + uses_of (entry_blocks form (i.size + 1))) is h

-- the inode of a file stays in hand where its entry is taken
pub hand-stays : (form : Form) (lot : LotView) (m0 m1 : ℕ → List ℕ) (gone : Removal) → RemovalFits lot gone
    → gone.spot.node ≡ inode_of m0 gone.spot.number → gone.node ≡ inode_of m0 gone.number
    → EntryGone lot form m0 m1 gone.spot.number → 0 < gone.bytes → gone.node ≡ inode_of m1 gone.number
hand-stays form lot m0 m1 gone fits spot node took pos =
    let file = ap (λ (i : Inode). i.kind) (sym node) ∙ (fits.file pos).kind in
    let dir = ap (λ (i : Inode). i.kind) (sym spot) ∙ fits.spot.dir.kind in
    let other : gone.number ≢ gone.spot.number = λ e. let k = ap (λ i. (inode_of m0 i).kind) e in absurd (omega arith) in
    node ∙ sym (took.others gone.number other)

-- the directory that gains an entry which another, or itself, has lost: its inode is in hand
module _ (lot : LotView) (form : Form) (m0 m1 : ℕ → List ℕ) (step : Move) (from into : Inode) (same : step.from.number ≡ step.to.number → into ≡ from)
    (other : step.from.number ≢ step.to.number → into ≡ step.to.node) where
  pub hand-gainer : from ≡ inode_of m1 step.from.number → step.to.node ≡ inode_of m0 step.to.number → EntryGone lot form m0 m1 step.from.number
      → into ≡ inode_of m1 step.to.number
  hand-gainer shorter before took = by-number (into ≡ inode_of m1 step.to.number) step.from.number step.to.number
      (λ e. same e ∙ shorter ∙ ap (inode_of m1) e)
      (λ n. other n ∙ before ∙ sym (took.others step.to.number (λ e. n (sym e))))

  -- and it has room for one more
  pub gainer-room : MoveFits lot step → IsDirectory lot from → from.size + 1 ≡ step.from.node.size
      → (step.from.number ≢ step.to.number → step.from.entries + step.to.entries < 64 * length lot.groups) → HasEntryRoom lot into
  gainer-room fits dir shorter more = by-number (HasEntryRoom lot into) step.from.number step.to.number
      (λ e. subst (HasEntryRoom lot) (sym (same e)) (record { is = dir; room = let few = fits.from.dir.few in omega arith }))
      (λ n. subst (HasEntryRoom lot) (sym (other n))
      (record { is = fits.to.dir; room = let most = more n in let here = fits.from.size in let there = fits.to.size in omega arith }))

-- where an entry was found and taken, the directory has one entry fewer
pub shorter-by : (o : Option ℕ) (number : ℕ) (now old : Inode) → o ≡ Some number → (IsSome o → now.size + 1 ≡ old.size) → now.size + 1 ≡ old.size
shorter-by o number now old is h = h (subst (λ (x : Option ℕ). IsSome x) (sym is) refl)
