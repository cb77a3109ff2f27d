-- The cube table as a value: for each slot of the image the path of its cube, and whether the cube is offline.
use Rattle.std.specs.Prelude.{◌≡◌, ◌≢◌, ◌≤◌, ◌<◌, ◌+◌, ℕ, Bool, nat_lt, if◌then◌else◌, true, false, cond}
use Rattle.std.specs.Prelude.{List, length, slice_index_or, Option, Some, None, IsSome}
use Rattle.std.specs.Option.{option_map}
use Rattle.tree_spec.specs.Names.{IsNameList, text_of}
use Rattle.tree_spec.specs.Routes.{is_prefix}
use Rattle.ice_tables.specs.Tables.{Row}
use Rattle.ice_names.specs.declared.mark.Mark.{Mark}
use Rattle.ice_names.specs.declared.mark.Mark.TheVariants.{Free, Online, Offline}

-- the number of slots, and the row of each slot, None where it is free
pub record NamesView : Type 0 where
  pub slots : ℕ
  pub rows : List (Option Row)

-- the row of a slot
abbrev pub row_at : NamesView → ℕ → Option Row
row_at v s = slice_index_or v.rows s None

-- the path of a row
abbrev pub path_of : Option Row → Option (List (List ℕ))
path_of row = option_map (λ (r : Row). r.path) row

-- the path of the cube in a slot
abbrev pub path_at : NamesView → ℕ → Option (List (List ℕ))
path_at v s = path_of (row_at v s)

-- no cube has the path
abbrev pub NoneHas : NamesView → List (List ℕ) → Type 0
NoneHas v p = (s : ℕ) → path_at v s ≢ Some p

-- a path that a cube may have: its text has 1 to 199 bytes
pub record IsCubePath (p : List (List ℕ)) : Type 0 where
  pub names : IsNameList p
  pub some : 1 ≤ length (text_of p)
  pub few : length (text_of p) ≤ 199

-- 1 to 16 slots and none past them, whose cubes have paths that differ
pub record IsNameTable (v : NamesView) : Type 0 where
  pub room : length v.rows ≡ 16
  pub some : 1 ≤ v.slots
  pub few : v.slots ≤ 16
  pub no_more : (s : ℕ) → v.slots ≤ s → row_at v s ≡ None
  pub paths : (s : ℕ) (p : List (List ℕ)) → path_at v s ≡ Some p → IsCubePath p
  pub differ : (s r : ℕ) (p : List (List ℕ)) → path_at v s ≡ Some p → path_at v r ≡ Some p → s ≡ r

-- the mark of a row
abbrev pub mark_of : Option Row → Mark
mark_of None = Free
mark_of (Some r) = cond r.offline Offline Online

-- whether a mark says that the cube is offline
abbrev pub says_offline : Mark → Bool
says_offline Free = false
says_offline Online = false
says_offline Offline = true

-- a row with another mark
abbrev pub marked : Mark → Option Row → Option Row
marked Free row = None
marked Online row = option_map (λ (r : Row). record r { offline = false }) row
marked Offline row = option_map (λ (r : Row). record r { offline = true }) row

-- the table with another row in one slot
pub record RowSet (old : NamesView) (slot : ℕ) (row : Option Row) (new : NamesView) : Type 0 where
  pub here : row_at new slot ≡ row
  pub others : (s : ℕ) → s ≢ slot → row_at new s ≡ row_at old s
  pub slots : new.slots ≡ old.slots

-- the slot of a route that was answered with the number of names of its path
abbrev pub slot_in : Option (ℕ × ℕ) → Option ℕ
slot_in answer = option_map (λ (a : ℕ × ℕ). a.0) answer

-- one more than the number of names that was answered, and 0 for no answer
abbrev pub names_in : Option (ℕ × ℕ) → ℕ
names_in None = 0
names_in (Some a) = a.1 + 1

-- the answer after a slot whose path begins p with so many names, where it does: that slot's where it has more of them
abbrev pub longer_one : Option (ℕ × ℕ) → (slot : ℕ) → Option ℕ → Option (ℕ × ℕ)
longer_one best slot None = best
longer_one best slot (Some n) = if nat_lt (names_in best) (n + 1) then Some (slot, n) else best

-- the row has a path of n names, which begin the path p
pub record Begins (row : Option Row) (p : List (List ℕ)) (n : ℕ) : Type 0 where
  pub path : List (List ℕ)
  pub is : path_of row ≡ Some path
  pub names : n ≡ length path
  pub prefix : is_prefix path p ≡ true

-- the cube in the slot has a path of n names, which begin the path p
pub record Catches (v : NamesView) (p : List (List ℕ)) (slot n : ℕ) : Type 0 where
  pub low : slot < v.slots
  pub live : IsSome (row_at v slot)
  pub names : (q : List (List ℕ)) → path_at v slot ≡ Some q → n ≡ length q
  pub prefix : (q : List (List ℕ)) → path_at v slot ≡ Some q → is_prefix q p ≡ true
  pub few : n ≤ length p
