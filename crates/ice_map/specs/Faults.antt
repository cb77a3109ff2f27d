-- Which faults a call over a map may answer.
use Rattle.ice_base.specs.declared.fault.OpFault.{OpFault}
use Rattle.ice_base.specs.declared.fault.OpFault.TheVariants.{Disk, Damaged, NoSpace}
use Rattle.ice_base.specs.declared.fault.Rule.TheVariants.{Counts, Pointer, Bitmap}

-- those of a look
abbrev pub IsLookFault : OpFault → Type 0
IsLookFault Disk = Unit {0}
IsLookFault (Damaged Pointer) = Unit {0}
IsLookFault _ = ⊥

-- those of a growth
abbrev pub IsGrowFault : OpFault → Type 0
IsGrowFault Disk = Unit {0}
IsGrowFault (Damaged Counts) = Unit {0}
IsGrowFault (Damaged Pointer) = Unit {0}
IsGrowFault (Damaged Bitmap) = Unit {0}
IsGrowFault NoSpace = Unit {0}
IsGrowFault _ = ⊥

-- those of a growth where too few blocks are free
abbrev pub IsShortFault : OpFault → Type 0
IsShortFault Disk = Unit {0}
IsShortFault (Damaged Pointer) = Unit {0}
IsShortFault NoSpace = Unit {0}
IsShortFault _ = ⊥

-- those of a cut
abbrev pub IsCutFault : OpFault → Type 0
IsCutFault Disk = Unit {0}
IsCutFault (Damaged Counts) = Unit {0}
IsCutFault (Damaged Pointer) = Unit {0}
IsCutFault (Damaged Bitmap) = Unit {0}
IsCutFault _ = ⊥
