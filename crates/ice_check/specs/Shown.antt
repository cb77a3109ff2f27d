-- What a checker says of the blocks that a view shows.
use Rattle.std.specs.Prelude.{◌≡◌, ℕ, Option}
use Rattle.ice_base.specs.Lots.{LotView}
use Rattle.ice_base.specs.declared.view.View as view
use Rattle.ice_base.specs.declared.fault.OpFault.{OpFault}
use Rattle.ice_base.specs.declared.fault.OpFault.TheVariants as op
use Rattle.ice_base.specs.declared.fault.Rule.TheVariants as rule
use Rattle.ice_check.specs.declared.fault.CheckFault.{CheckFault}
use Rattle.ice_check.specs.declared.fault.CheckFault.TheVariants.{Damaged, Disk}
use Rattle.ice_check.specs.declared.fault.Summary.{Summary}
use Rattle.tree_spec.specs.Trees.{Tree}
use Rattle.tree_spec.specs.Costs.{form_one, blocks, nodes}
use Rattle.ice_reads.specs.Tables.{Map}
use Rattle.ice_reads.specs.Recovers.{HoldsTree, MapRecovers}
use Rattle.ice_rules.specs.Rules.{Breaks, MayName, LotMayName, form_in}

-- the view shows what the lot holds, which is this map
pub record Shows {V D : Type 0} (k : view.Ghosts V D) (lot : LotView) (v : V) (e : D) (m : Map) : Type 0 where
  pub shows : k.shows lot v e
  pub is : k.map v e lot ≡ m

-- the fault is the disk's
abbrev pub IsDisk : CheckFault → Type 0
IsDisk Disk = Unit {0}
IsDisk (Damaged r) = ⊥

-- any fault of the checker but a refused header, which is no matter of the blocks of a map
abbrev pub IsCheckFault : CheckFault → Type 0
IsCheckFault (Damaged rule.Header) = ⊥
IsCheckFault _ = Unit {0}

-- where the fault is damage, the blocks break the rule that it names, of those that speak of the tree
abbrev pub Broke : LotView → Map → CheckFault → Type 0
Broke lot m Disk = Unit {0}
Broke lot m (Damaged r) = Breaks form_one lot m r

-- where the fault is damage, the rule that it names may be named
abbrev pub Named : LotView → Map → CheckFault → Type 0
Named lot m Disk = Unit {0}
Named lot m (Damaged r) = MayName (form_in m) lot m r

-- where the fault is damage, the rule that it names may be named of a lot whose effective blocks are these
abbrev pub LotNamed : LotView → Option Map → CheckFault → Type 0
LotNamed lot blocks Disk = Unit {0}
LotNamed lot blocks (Damaged r) = LotMayName lot blocks r

-- the blocks recover a tree, of which this is the cost in blocks, the number of its nodes and its count
pub record Sums (lot : LotView) (m : Map) (s : Summary) : Type 0 where
  pub tree : Tree
  pub mode : ℕ
  pub recovers : MapRecovers (form_in m) mode lot m tree s.done
  pub blocks_are : s.blocks ≡ blocks (form_in m) tree
  pub nodes_are : s.nodes ≡ nodes tree

-- where the fault is damage, it is that of a bitmap, and this holds
abbrev pub IfBitmap : Type 0 → CheckFault → Type 0
IfBitmap P Disk = Unit {0}
IfBitmap P (Damaged rule.Bitmap) = P
IfBitmap P (Damaged _) = ⊥

-- a fault of a call below, as the checker says it
abbrev pub told_as : OpFault → CheckFault
told_as (op.Damaged r) = Damaged r
told_as _ = Disk

-- the map holds some tree
pub record HoldsSome (lot : LotView) (m : Map) : Type 0 where
  pub tree : Tree
  pub holds : HoldsTree form_one lot m tree
