-- What a change may answer.
use Rattle.std.specs.Prelude.{ℕ, List, [], ◌∷◌, ⊤}
use Rattle.ice_base.specs.declared.fault.OpFault.{OpFault}
use Rattle.ice_base.specs.declared.fault.OpFault.TheVariants as op
use Rattle.ice_base.specs.declared.fault.Rule.TheVariants as rule
use Rattle.ice_look.specs.Outcomes.{refusal_by, IsOneOf}

-- a fault of a call below is the disk's, or as a refusal it names one of these rules
abbrev pub IsNamedIn : List ℕ → OpFault → Type 0
IsNamedIn rules e = IsOneOf [] rules (refusal_by e)

-- `mkdir` and `make`
abbrev pub make_refusals : List ℕ
make_refusals = 1 ∷ 2 ∷ 3 ∷ 4 ∷ 6 ∷ 7 ∷ 12 ∷ 13 ∷ 14 ∷ []

abbrev pub write_refusals : List ℕ
write_refusals = 1 ∷ 2 ∷ 3 ∷ 4 ∷ 5 ∷ 10 ∷ 11 ∷ 13 ∷ 14 ∷ []

abbrev pub trunc_refusals : List ℕ
trunc_refusals = 1 ∷ 2 ∷ 3 ∷ 4 ∷ 5 ∷ 10 ∷ 14 ∷ []

abbrev pub remove_refusals : List ℕ
remove_refusals = 1 ∷ 2 ∷ 3 ∷ 4 ∷ 6 ∷ 8 ∷ 14 ∷ []

abbrev pub rename_refusals : List ℕ
rename_refusals = 1 ∷ 2 ∷ 3 ∷ 4 ∷ 6 ∷ 7 ∷ 9 ∷ 13 ∷ 14 ∷ []

-- the rules of the sub-super block: its first bytes, version, slot, mode and count of operations
abbrev pub sub_rules : List ℕ
sub_rules = 1 ∷ 2 ∷ 3 ∷ 4 ∷ 5 ∷ []

-- those of a change: of the sub-super block with the counts, of a look, and of a bitmap
abbrev pub change_rules : List ℕ
change_rules = 1 ∷ 2 ∷ 3 ∷ 4 ∷ 5 ∷ 6 ∷ 7 ∷ 8 ∷ 10 ∷ 13 ∷ []

-- those of a rename, which looks at the names below what it moves
abbrev pub rename_rules : List ℕ
rename_rules = 1 ∷ 2 ∷ 3 ∷ 4 ∷ 5 ∷ 6 ∷ 7 ∷ 8 ∷ 10 ∷ 11 ∷ 13 ∷ []

-- those of one more accepted operation
abbrev pub IsCountFault : OpFault → Type 0
IsCountFault op.Disk = ⊤
IsCountFault (op.Damaged rule.Done) = ⊤
IsCountFault _ = ⊥
