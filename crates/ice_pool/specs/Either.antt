-- What is said alike of blocks and of inodes.
use Rattle.std.specs.Prelude.{Bool, true, false, cond}
use Rattle.ice_base.specs.Faults.{IsTakeBlockFault, IsTakeInodeFault, IsSpaceFault, IsNodesFault}
use Rattle.ice_base.specs.declared.fault.OpFault.{OpFault}
use Rattle.ice_base.specs.declared.fault.OpFault.TheVariants.{Disk, Damaged, NoSpace, NoNodes}
use Rattle.ice_base.specs.declared.fault.Rule.TheVariants.{Counts}

-- the refusal where none is free
abbrev pub absent : Bool → OpFault
absent inodes = cond inodes NoNodes NoSpace

-- the faults of a take
abbrev pub IsTakeFault : Bool → OpFault → Type 0
IsTakeFault true e = IsTakeInodeFault e
IsTakeFault false e = IsTakeBlockFault e

-- the faults of a take where none is free
abbrev pub IsAbsentFault : Bool → OpFault → Type 0
IsAbsentFault true e = IsNodesFault e
IsAbsentFault false e = IsSpaceFault e

-- the faults of a look at the sub-super block's counts
abbrev pub IsCountsFault : OpFault → Type 0
IsCountsFault Disk = Unit {0}
IsCountsFault (Damaged Counts) = Unit {0}
IsCountsFault _ = ⊥
