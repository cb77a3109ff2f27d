-- What a take and a give do.
use Rattle.std.specs.Prelude.{◌≡◌, ◌<◌, ◌+◌, ◌-◌, ◌*◌, ℕ, Bool, true, false, not, List, [], ◌∷◌, length}
use Rattle.ice_base.specs.Bits.{bit_of, Inserts, Deletes, IsLeast}
use Rattle.ice_base.specs.Fields.{WordSet}
use Rattle.ice_base.specs.Lots.{LotView, sub_address}
use Rattle.ice_base.specs.Used.{used, bitmap_of, bit_place, count_place, counted}
use Rattle.ice_base.specs.Views.{Puts}
use Rattle.ice_base.specs.declared.view.View as view

-- the least free inode, or block, was taken: it is marked used and counted, and nothing else of these two blocks changed
pub record Took (inodes : Bool) (old new : ℕ → List ℕ) (i : ℕ) : Type 0 where
  pub least : IsLeast (used inodes old) i
  pub taken : Inserts (used inodes old) i (used inodes new)
  pub others : (j : ℕ) → used (not inodes) new j ≡ used (not inodes) old j
  pub marked : Inserts (bit_of (old (bitmap_of inodes i))) (bit_place inodes i) (bit_of (new (bitmap_of inodes i)))
  pub counts : WordSet (old sub_address) (count_place inodes) (counted inodes old + 1) (new sub_address)

-- the same of a block
abbrev pub TookBlock : (ℕ → List ℕ) → (ℕ → List ℕ) → ℕ → Type 0
TookBlock old new a = Took false old new a

-- the same of an inode
abbrev pub TookInode : (ℕ → List ℕ) → (ℕ → List ℕ) → ℕ → Type 0
TookInode old new i = Took true old new i

-- a used inode, or block, was given back: it is marked free and no longer counted, and nothing else of these two blocks changed
pub record Gave (inodes : Bool) (old new : ℕ → List ℕ) (i : ℕ) : Type 0 where
  pub was_used : used inodes old i ≡ true
  pub given : Deletes (used inodes old) i (used inodes new)
  pub others : (j : ℕ) → used (not inodes) new j ≡ used (not inodes) old j
  pub marked : Deletes (bit_of (old (bitmap_of inodes i))) (bit_place inodes i) (bit_of (new (bitmap_of inodes i)))
  pub counts : WordSet (old sub_address) (count_place inodes) (counted inodes old - 1) (new sub_address)

-- the same of a block
abbrev pub GaveBlock : (ℕ → List ℕ) → (ℕ → List ℕ) → ℕ → Type 0
GaveBlock old new a = Gave false old new a

-- the same of an inode
abbrev pub GaveInode : (ℕ → List ℕ) → (ℕ → List ℕ) → ℕ → Type 0
GaveInode old new i = Gave true old new i

-- only the sub-super block and the bitmap block of an inode's, or a block's, group were put
abbrev pub PutsFor : {V D : Type 0} → view.Ghosts V D → LotView → Bool → Bool → ℕ → V → D → V → D → Type 0
PutsFor k lot ok inodes i v e w f = Puts k lot ok (sub_address ∷ bitmap_of inodes i ∷ []) v e w f

-- only the sub-super block and the bitmap block of one group were put, not all of it well
abbrev pub PutsInOne : {V D : Type 0} → view.Ghosts V D → LotView → V → D → V → D → Type 0
PutsInOne k lot v e w f = (o : ℕ) × (o < length lot.groups) × Puts k lot false (sub_address ∷ 256 * o ∷ []) v e w f
