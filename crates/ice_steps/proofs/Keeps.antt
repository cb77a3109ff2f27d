-- Inodes that say what they said, since neither they nor their blocks changed.
use Rattle.std.proofs.Common.{◌≡◌, ◌≢◌, ◌≤◌, ◌*◌, ◌==◌, ℕ, true, false, List, [], ◌∷◌, length, ◌∙◌, sym, ap, arith}
use Rattle.std.proofs.lemmas.Bool.Decides.{nat_tests}
use Rattle.ice_base.specs.Lots.{LotView, sub_address}
use Rattle.ice_base.specs.Inodes.{inode_address, inode_index}
use Rattle.ice_base.specs.Spare.{has}
use Rattle.ice_base.specs.Used.{is_data}
use Rattle.ice_map.specs.declared.codec.Inode.{Inode}
use Rattle.ice_map.specs.Inodes.{inode_of, inode_at}
use Rattle.ice_map.proofs.ListLaws.{has-cons, has-none, except_elim}
use Rattle.ice_map.proofs.MarkLaws.{data_not_bitmap, data_not_sub}
use Rattle.ice_map.proofs.GrowLaws.{inode_not_data, inode_not_bitmap, inode_not_sub}
use Rattle.ice_map.specs.Own.{own, own_of, map_length}
use Rattle.ice_map.proofs.SetLaws.{own-stays}
use Rattle.ice_reads.specs.Tables.{Map}
use Rattle.tree_spec.specs.Costs.{form_one}
use Rattle.ice_steps.specs.Beside.{OnlyAt}

-- an inode that is as it was, and whose blocks are
pub own-kept : (m m' : Map) (x : ℕ) → inode_of m' x ≡ inode_of m x → ((b : ℕ) → has (own form_one m x).uses b ≡ true → m' b ≡ m b)
    → own form_one m' x ≡ own form_one m x
own-kept m m' x e same = ap (λ (z : Inode). own_of m' z (map_length form_one z)) e ∙ own-stays m m' (inode_of m x) (map_length form_one (inode_of m x)) same

-- an address that is none of two
apart-two : (x y a : ℕ) → a ≢ x → a ≢ y → has (x ∷ y ∷ []) a ≡ false
apart-two x y a p q =
    let e = has-cons x a (y ∷ []) in
    let f = has-cons y a [] in
    let n = has-none a in
    let s : (x == a) ≡ false = grind (arith, nat_tests) in
    let t : (y == a) ≡ false = grind (arith, nat_tests) in
    grind arith

apart-one : (x a : ℕ) → a ≢ x → has (x ∷ []) a ≡ false
apart-one x a p =
    let e = has-cons x a [] in
    let n = has-none a in
    let s : (x == a) ≡ false = grind (arith, nat_tests) in
    grind arith

-- a change at two addresses leaves the block of each other one
pub only-two : (x y : ℕ) (m m' : Map) → OnlyAt (x ∷ y ∷ []) m m' → (a : ℕ) → a ≢ x → a ≢ y → m' a ≡ m a
only-two x y m m' only a p q = except_elim a (x ∷ y ∷ []) (m' a ≡ m a) (only a) (apart-two x y a p q)

-- a change at one address leaves the block of each other one
pub only-one : (x : ℕ) (m m' : Map) → OnlyAt (x ∷ []) m m' → (a : ℕ) → a ≢ x → m' a ≡ m a
only-one x m m' only a p = except_elim a (x ∷ []) (m' a ≡ m a) (only a) (apart-one x a p)

-- the sub-super block and a bitmap block changed
module _ (lot : LotView) (few : length lot.groups ≤ 64) (m m' : Map) (o : ℕ) (only : (a : ℕ) → a ≢ sub_address → a ≢ 256 * o → m' a ≡ m a) where
  pub marks-own : (x : ℕ) → ((b : ℕ) → has (own form_one m x).uses b ≡ true → is_data lot b ≡ true) → own form_one m' x ≡ own form_one m x
  marks-own x places = own-kept m m' x
      (ap (λ (b : List ℕ). inode_at b (inode_index x)) (only (inode_address x) (inode_not_sub x) (inode_not_bitmap x o)))
      (λ b h. only b (λ e. data_not_sub lot b few (places b h) (sym e)) (λ e. data_not_bitmap lot b o (places b h) (sym e)))

-- the sub-super block changed
module _ (lot : LotView) (few : length lot.groups ≤ 64) (m m' : Map) (only : (a : ℕ) → a ≢ sub_address → m' a ≡ m a) where
  pub sub-own : (x : ℕ) → ((b : ℕ) → has (own form_one m x).uses b ≡ true → is_data lot b ≡ true) → own form_one m' x ≡ own form_one m x
  sub-own x places = own-kept m m' x
      (ap (λ (b : List ℕ). inode_at b (inode_index x)) (only (inode_address x) (inode_not_sub x)))
      (λ b h. only b (λ e. data_not_sub lot b few (places b h) (sym e)))

-- the block of an inode changed, but not this inode
pub put-own : (lot : LotView) (m m' : Map) (j x : ℕ) → ((a : ℕ) → a ≢ inode_address j → m' a ≡ m a) → inode_of m' x ≡ inode_of m x
    → ((b : ℕ) → has (own form_one m x).uses b ≡ true → is_data lot b ≡ true) → own form_one m' x ≡ own form_one m x
put-own lot m m' j x only e places = own-kept m m' x e (λ b h. only b (λ q. inode_not_data lot j b (places b h) (sym q)))
