-- What an inode says after it was put.
use Rattle.std.proofs.Common.{◌≡◌, ◌≢◌, ◌<◌, ◌*◌, ℕ, true, false, List, [], ◌∷◌, ◌++◌, map, ◌∙◌, sym, refl, ap, subst, arith}
use Rattle.ice_base.specs.Lots.{LotView, sub_address}
use Rattle.ice_base.specs.Inodes.{inode_address}
use Rattle.ice_base.specs.Spare.{has}
use Rattle.ice_base.specs.Used.{is_data}
use Rattle.ice_map.specs.declared.codec.Inode.{Inode}
use Rattle.ice_map.specs.Inodes.{inode_of, InodeSet}
use Rattle.ice_map.specs.Maps.{nth_block, blocks_of, indirect_of, uses, times}
use Rattle.ice_map.specs.Moves.{Moved}
use Rattle.ice_map.specs.Own.{Own, own, own_of, map_length, MarksFollow, MadeOf, OthersSay, OwnSet}
use Rattle.ice_map.proofs.ListLaws.{map_range_same, has-head, has-tail, has-right}
use Rattle.ice_map.proofs.MarkLaws.{used-same}
use Rattle.ice_map.proofs.GrowLaws.{inode_not_data, inode_not_bitmap, inode_not_sub, map-stays}
use Rattle.ice_map.proofs.OwnLaws.{own-short, uses-short, short-made, marks-then, marks-same, uses-single, nth-moves}
use Rattle.tree_spec.specs.Costs.{Form, form_one}

-- an inode of another size
abbrev pub resized : Inode → ℕ → Inode
resized x s = record { kind = x.kind; size = s; direct = x.direct; single = x.single; double = x.double }

-- an inode of another size names the same blocks
pub nth-resized : (m : ℕ → List ℕ) (x : Inode) (s n : ℕ) → nth_block m (resized x s) n ≡ nth_block m x n
unfolding nth_block
nth-resized m x s n = refl

make-own : Inode → List ℕ → List (List ℕ) → Own
make-own i u c = record { inode = i; uses = u; contents = c }

make-same : (i j : Inode) (u v : List ℕ) (c d : List (List ℕ)) → i ≡ j → u ≡ v → c ≡ d → make-own i u c ≡ make-own j v d
make-same i j u v c d p q r = cc

own-same : (m0 m1 : ℕ → List ℕ) (i : Inode) (n : ℕ) → uses m1 i n ≡ uses m0 i n → map m1 (blocks_of m1 i n) ≡ map m0 (blocks_of m0 i n)
    → own_of m1 i n ≡ own_of m0 i n
unfolding make-own
own-same m0 m1 i n p q = make-same i i _ _ _ _ refl p q

map-same : (f g : ℕ → List ℕ) (xs : List ℕ) → ((b : ℕ) → has xs b ≡ true → g b ≡ f b) → map g xs ≡ map f xs
map-same f g [] h = refl
map-same f g (x ∷ xs) h =
    let a = h x (has-head x xs) in
    let r = map-same f g xs (λ b k. h b (has-tail x b xs k)) in
    cc

-- an inode that keeps its blocks says what it said
pub own-stays : (m0 m1 : ℕ → List ℕ) (i : Inode) (n : ℕ) → ((b : ℕ) → has (uses m0 i n) b ≡ true → m1 b ≡ m0 b) → own_of m1 i n ≡ own_of m0 i n
own-stays m0 m1 i n same =
    let s = map-stays m0 m1 i n same in
    let blocks : blocks_of m1 i n ≡ blocks_of m0 i n = s.blocks in
    own-same m0 m1 i n (ap (λ (xs : List ℕ). indirect_of i n ++ xs) blocks)
    (ap (map m1) blocks ∙ map-same m0 m1 (blocks_of m0 i n) (λ b h. same b (has-right (indirect_of i n) (blocks_of m0 i n) b h)))

-- an inode of a map that moved was put with another size
module _ (lot : LotView) (m0 m1 m2 : ℕ → List ℕ) (x y : Inode) (c d s : ℕ) (f : Form) (one : f ≡ form_one) (number : ℕ)
    (is : inode_of m0 number ≡ x) (count : map_length f x ≡ c) (moved : Moved lot m0 m1 x y c d)
    (set : InodeSet m1 m2 number (resized y s)) (next : map_length f (resized y s) ≡ d) (only : (b : ℕ) → b ≢ inode_address number → m2 b ≡ m1 b) where
  -- the put of the inode leaves each data place
  pub set-data : (b : ℕ) → is_data lot b ≡ true → m2 b ≡ m1 b
  set-data b h = only b (λ e. inode_not_data lot number b h (sym e))

  set-bitmaps : (o : ℕ) → m2 (256 * o) ≡ m1 (256 * o)
  set-bitmaps o = only (256 * o) (λ e. inode_not_bitmap number o (sym e))

  set-sub : m2 sub_address ≡ m1 sub_address
  set-sub = only sub_address (λ e. inode_not_sub number (sym e))

  -- the inode that was put names the blocks of the map that moved
  pub set-nth : (n : ℕ) → n < d → nth_block m2 (resized y s) n ≡ nth_block m1 y n
  set-nth n h = nth-resized m2 y s n ∙ nth-moves m1 m2 y n (λ l. set-data y.single (moved.made.holds y.single (uses-single m1 y d (omega arith))).0)

  set-uses : uses m2 (resized y s) d ≡ uses m1 y d
  set-uses = ap (λ (xs : List ℕ). indirect_of y d ++ xs) (map_range_same (nth_block m2 (resized y s)) (nth_block m1 y) 0 d (λ n l h. set-nth n (omega arith)))

  set-made : MadeOf lot m2 (resized y s) d
  set-made = record {
    holds = λ b h. let q = moved.made.holds b (ap (λ xs. has xs b) (sym set-uses) ∙ h) in (q.0, used-same false m1 m2 b set-bitmaps ∙ q.1);
    once = λ b. let e : times (uses m2 (resized y s) d) b ≡ times (uses m1 y d) b = ap (λ xs. times xs b) set-uses in let o = moved.made.once b in omega arith;
    unused = record { direct = moved.made.unused.direct; single = moved.made.unused.single; double = moved.made.unused.double };
  }

  own-uses : (own f m2 number).uses ≡ uses m1 y d
  own-uses = uses-short f one m2 number ∙ ap (λ (i : Inode). uses m2 i (map_length f i)) set.value ∙ ap (uses m2 (resized y s)) next ∙ set-uses

  old-uses : (own f m0 number).uses ≡ uses m0 x c
  old-uses = uses-short f one m0 number ∙ ap (λ (i : Inode). uses m0 i (map_length f i)) is ∙ ap (uses m0 x) count

  set-marks : MarksFollow lot m0 m2 (uses m0 x c) (uses m1 y d)
  set-marks = marks-then lot m0 m1 m2 (uses m0 x c) (uses m1 y d) (uses m1 y d) moved.marks (marks-same lot m1 m2 (uses m1 y d) set-bitmaps set-sub)

  set-others : OthersSay lot f m0 m2 number
  set-others k ne holds apart =
      let i : inode_of m2 k ≡ inode_of m0 k = set.others k ne ∙ moved.stays.inodes k in
      own-short f one m2 k
      ∙ ap (λ (z : Inode). own_of m2 z (map_length f z)) i
      ∙ own-stays m0 m2 (inode_of m0 k) (map_length f (inode_of m0 k)) (λ b h.
      let u = ap (λ xs. has xs b) (uses-short f one m0 k) ∙ h in
      let q = holds b u in
      set-data b q.0 ∙ moved.stays.blocks b q.0 q.1 (ap (λ xs. has xs b) (sym old-uses) ∙ apart b u))
      ∙ sym (own-short f one m0 k)

  -- the inode was set: it is well made, the marks follow it, and every other inode says what it said
  pub own-set : OwnSet lot f m0 m2 number
  own-set = record {
    made =
        short-made lot f one m2 number
        (subst (λ (i : Inode). MadeOf lot m2 i (map_length f i)) (sym set.value) (subst (λ n. MadeOf lot m2 (resized y s) n) (sym next) set-made));
    marks =
        subst (λ xs. MarksFollow lot m0 m2 xs (own f m2 number).uses) (sym old-uses)
        (subst (λ xs. MarksFollow lot m0 m2 (uses m0 x c) xs) (sym own-uses) set-marks);
    inodes = λ k ne. set.others k ne ∙ moved.stays.inodes k;
    others = set-others;
  }
