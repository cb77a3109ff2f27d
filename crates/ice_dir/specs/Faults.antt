-- Which faults a call over a directory may answer.
use Rattle.ice_base.specs.declared.fault.OpFault.{OpFault}
use Rattle.ice_base.specs.declared.fault.OpFault.TheVariants.{Disk, Damaged, NoSpace}
use Rattle.ice_base.specs.declared.fault.Rule.TheVariants.{Counts, Kind, Pointer, Name, Bitmap}

-- those of a look at a directory's inode
abbrev pub IsDirFault : OpFault → Type 0
IsDirFault Disk = Unit {0}
IsDirFault (Damaged Kind) = Unit {0}
IsDirFault _ = ⊥

-- those of a search for a name
abbrev pub IsFindFault : OpFault → Type 0
IsFindFault Disk = Unit {0}
IsFindFault (Damaged Kind) = Unit {0}
IsFindFault (Damaged Pointer) = Unit {0}
IsFindFault _ = ⊥

-- those of a read of an entry
abbrev pub IsEntryFault : OpFault → Type 0
IsEntryFault Disk = Unit {0}
IsEntryFault (Damaged Kind) = Unit {0}
IsEntryFault (Damaged Pointer) = Unit {0}
IsEntryFault (Damaged Name) = Unit {0}
IsEntryFault _ = ⊥

-- those of an addition
abbrev pub IsAddFault : OpFault → Type 0
IsAddFault Disk = Unit {0}
IsAddFault (Damaged Counts) = Unit {0}
IsAddFault (Damaged Kind) = Unit {0}
IsAddFault (Damaged Pointer) = Unit {0}
IsAddFault (Damaged Bitmap) = Unit {0}
IsAddFault NoSpace = Unit {0}
IsAddFault _ = ⊥

-- those of a removal
abbrev pub IsRemovalFault : OpFault → Type 0
IsRemovalFault Disk = Unit {0}
IsRemovalFault (Damaged Counts) = Unit {0}
IsRemovalFault (Damaged Kind) = Unit {0}
IsRemovalFault (Damaged Pointer) = Unit {0}
IsRemovalFault (Damaged Bitmap) = Unit {0}
IsRemovalFault _ = ⊥
