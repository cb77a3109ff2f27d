-- Which faults a call may answer.
use Rattle.ice_base.specs.declared.fault.OpFault.{OpFault}
use Rattle.ice_base.specs.declared.fault.OpFault.TheVariants.{Disk, Damaged, NoSpace, NoNodes}
use Rattle.ice_base.specs.declared.fault.Rule.TheVariants.{Counts, Bitmap}

-- the disk's alone
abbrev pub IsDiskFault : OpFault → Type 0
IsDiskFault Disk = Unit {0}
IsDiskFault _ = ⊥

-- those of a take of a block
abbrev pub IsTakeBlockFault : OpFault → Type 0
IsTakeBlockFault Disk = Unit {0}
IsTakeBlockFault (Damaged Counts) = Unit {0}
IsTakeBlockFault (Damaged Bitmap) = Unit {0}
IsTakeBlockFault NoSpace = Unit {0}
IsTakeBlockFault _ = ⊥

-- those of a take where no block is free
abbrev pub IsSpaceFault : OpFault → Type 0
IsSpaceFault Disk = Unit {0}
IsSpaceFault NoSpace = Unit {0}
IsSpaceFault _ = ⊥

-- those of a take of an inode
abbrev pub IsTakeInodeFault : OpFault → Type 0
IsTakeInodeFault Disk = Unit {0}
IsTakeInodeFault (Damaged Counts) = Unit {0}
IsTakeInodeFault NoNodes = Unit {0}
IsTakeInodeFault _ = ⊥

-- those of a take where no inode is free
abbrev pub IsNodesFault : OpFault → Type 0
IsNodesFault Disk = Unit {0}
IsNodesFault NoNodes = Unit {0}
IsNodesFault _ = ⊥

-- those of a give
abbrev pub IsGiveFault : OpFault → Type 0
IsGiveFault Disk = Unit {0}
IsGiveFault (Damaged Counts) = Unit {0}
IsGiveFault (Damaged Bitmap) = Unit {0}
IsGiveFault _ = ⊥
