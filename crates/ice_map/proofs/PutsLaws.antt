-- Puts one after another.
use Rattle.std.proofs.Common.{◌≡◌, ◌≢◌, ◌≤◌, ◌+◌, ◌*◌, ◌/◌, ◌==◌, ℕ, zero, suc, Bool, true, false, cond, List, [], ◌∷◌, ◌++◌, map, length, ◌∙◌, sym, refl, ap, arith}
use Rattle.std.proofs.lemmas.List.{map-append}
use Rattle.std.proofs.lemmas.Bool.Decides.{nat_tests}
use Rattle.ice_base.specs.Lots.{LotView, sub_address}
use Rattle.ice_base.specs.Spare.{has, lacks, bitmaps}
use Rattle.ice_base.specs.Used.{is_data, bitmap_of}
use Rattle.ice_base.specs.Views.{Puts, Spent, Looked}
use Rattle.ice_base.specs.declared.disk.Disk as disk
use Rattle.ice_base.specs.declared.view.View as view
use Rattle.ice_base.proofs.SpareLaws.{has-bitmaps}
use Rattle.ice_base.proofs.UsedLaws.{data_below, ordinal_below}
use Rattle.ice_map.specs.Maps.{given_puts}
use Rattle.ice_map.proofs.ListLaws.{AllHas, has-none, has-tail, has-cons, has-left, has-right, has-not, has-one, except_elim, except_intro, where_elim, where_intro}

module _ {V D : Type 0} (k : view.Ghosts V D) (lot : LotView) where
  -- puts, and then others
  pub puts-then : (ok : Bool) (xs ys zs : List ℕ) (v : V) (d : D) (w : V) (e : D) (x : V) (f : D) → Puts k lot true xs v d w e
      → Puts k lot ok ys w e x f → AllHas zs xs → AllHas zs ys → Puts k lot ok zs v d x f
  puts-then ok xs ys zs v d w e x f p q inx iny = record {
    only = λ a. except_intro a zs _ (λ out. except_elim a ys _ (q.only a) (has-not zs ys a iny out) ∙ except_elim a xs _ (p.only a) (has-not zs xs a inx out));
    pays = λ wide. where_intro wide zs _ (λ all.
        let r = where_elim wide xs _ (p.pays wide) (λ y h. all y (inx y h)) in
        let s = where_elim wide ys _ (q.pays wide) (λ y h. all y (iny y h)) in
        omega arith);
  }

  -- puts of a list are puts of a longer one
  pub puts-widen : (ok : Bool) (xs zs : List ℕ) (v : V) (d : D) (w : V) (e : D) → Puts k lot ok xs v d w e → AllHas zs xs → Puts k lot ok zs v d w e
  puts-widen ok xs zs v d w e p inx = record {
    only = λ a. except_intro a zs _ (λ out. except_elim a xs _ (p.only a) (has-not zs xs a inx out));
    pays = λ wide. where_intro wide zs _ (λ all. where_elim wide xs _ (p.pays wide) (λ y h. all y (inx y h)));
  }

  -- and those that went well, of a call that fails later
  pub puts-fail : (xs zs : List ℕ) (v : V) (d : D) (w : V) (e : D) → Puts k lot true xs v d w e → AllHas zs xs → Puts k lot false zs v d w e
  puts-fail xs zs v d w e p inx = record {
    only = λ a. except_intro a zs _ (λ out. except_elim a xs _ (p.only a) (has-not zs xs a inx out));
    pays = λ wide. where_intro wide zs _ (λ all. let r = where_elim wide xs _ (p.pays wide) (λ y h. all y (inx y h)) in omega arith);
  }

-- what is put for some blocks is put for more
pub given-left : (xs ys : List ℕ) → AllHas (given_puts (xs ++ ys)) (given_puts xs)
given-left [] ys x h = let e = has-none x in absurd cc
given-left (a ∷ xs) ys x h =
    let e = map-append (bitmap_of false) (a ∷ xs) ys in
    let l = has-left (sub_address ∷ map (bitmap_of false) (a ∷ xs)) (map (bitmap_of false) ys) x h in
    rw e l

pub given-one : (xs : List ℕ) (a : ℕ) → AllHas (given_puts (xs ++ a ∷ [])) (sub_address ∷ bitmap_of false a ∷ [])
given-one [] a x h = h
given-one (b ∷ xs) a x h =
    let e = map-append (bitmap_of false) (b ∷ xs) (a ∷ []) in
    let l : has (sub_address ∷ map (bitmap_of false) (b ∷ xs) ++ bitmap_of false a ∷ []) x ≡ true =
    elim (sub_address == x) as (λ t. (sub_address == x) ≡ t → has (sub_address ∷ map (bitmap_of false) (b ∷ xs) ++ bitmap_of false a ∷ []) x ≡ true) [
      | true ↦ λ t. has-cons sub_address x _ ∙ ap (λ t. cond t true (has (map (bitmap_of false) (b ∷ xs) ++ bitmap_of false a ∷ []) x)) t
      | false ↦ λ t. has-right (sub_address ∷ map (bitmap_of false) (b ∷ xs)) (bitmap_of false a ∷ []) x
          (let c = has-cons sub_address x (bitmap_of false a ∷ []) in sym (c ∙ ap (λ t. cond t true (has (bitmap_of false a ∷ []) x)) t) ∙ h)
    ] refl in
    rw e l

-- the bitmap block of a data place is one of the lot's
pub bitmaps-one : (lot : LotView) (a : ℕ) → is_data lot a ≡ true → AllHas (sub_address ∷ bitmaps (length lot.groups)) (sub_address ∷ bitmap_of false a ∷ [])
bitmaps-one lot a d x h =
    let c = has-cons sub_address x (bitmap_of false a ∷ []) in
    let c' = has-cons sub_address x (bitmaps (length lot.groups)) in
    let o = has-one (bitmap_of false a) x in
    let b = has-bitmaps (length lot.groups) (a / 256) (ordinal_below false a (length lot.groups) (data_below lot a d)) in
    elim (sub_address == x) as (λ t. (sub_address == x) ≡ t → has (sub_address ∷ bitmaps (length lot.groups)) x ≡ true) [
      | true ↦ λ t. c' ∙ ap (λ t. cond t true (has (bitmaps (length lot.groups)) x)) t
      | false ↦ λ t.
          let one : has (bitmap_of false a ∷ []) x ≡ true = sym (c ∙ ap (λ t. cond t true (has (bitmap_of false a ∷ []) x)) t) ∙ h in
          elim (x == bitmap_of false a) as (λ u. (x == bitmap_of false a) ≡ u → has (sub_address ∷ bitmaps (length lot.groups)) x ≡ true) [
            | true ↦ λ u.
                let same : x ≡ bitmap_of false a = grind (arith, nat_tests) in
                has-tail sub_address x (bitmaps (length lot.groups)) (ap (has (bitmaps (length lot.groups))) same ∙ b)
            | false ↦ λ u. absurd (cc)
          ] refl
    ] refl

module _ {V D : Type 0} (d : disk.Ghosts D) (k : view.Ghosts V D) (lot : LotView) where
  -- what a call leaves that does nothing
  pub spent-none : (n : ℕ) (v : V) (e : D) → Spent d k lot n v e v e
  spent-none n v e = record {
    shows = λ s. s;
    grows = λ a h. h;
    room = omega arith;
    size = refl;
    tells = refl;
    streams = refl;
    later = omega arith;
    steady = λ u f s. s;
  }

  -- what a look leaves, and then a call
  pub spent-after : (n : ℕ) (v : V) (e : D) (w : V) (f : D) (x : V) (h : D) → Looked d k lot v e w f → Spent d k lot n w f x h → Spent d k lot n v e x h
  spent-after n v e w f x h a b = record {
    shows = λ s. b.shows (a.shows s);
    grows = λ q i. b.grows q (let s = a.held in cc);
    room = let i = a.room in let j = b.room in omega arith;
    size = b.size ∙ a.size;
    tells = b.tells ∙ a.tells;
    streams = b.streams ∙ a.streams;
    later = let i = a.later in let j = b.later in omega arith;
    steady = λ u q s. b.steady u q (a.steady u q s);
  }

  -- a look puts nothing
  pub puts-look : (ok : Bool) (xs : List ℕ) (v : V) (e : D) (w : V) (f : D) → Looked d k lot v e w f → Puts k lot ok xs v e w f
  puts-look ok xs v e w f a = record {
    only = λ b. except_intro b xs _ (λ out. let m = a.map in cc);
    pays = λ wide. where_intro wide xs _ (λ all. let r = a.room in let s = ap (λ (h : ℕ → Bool). lacks h wide) a.held in omega arith);
  }

  -- and two calls
  pub spent-then : (n m p : ℕ) (v : V) (e : D) (w : V) (f : D) (x : V) (h : D) → Spent d k lot n v e w f → Spent d k lot m w f x h
      → n + m ≤ p → Spent d k lot p v e x h
  spent-then n m p v e w f x h a b l = record {
    shows = λ s. b.shows (a.shows s);
    grows = λ q i. b.grows q (a.grows q i);
    room = let i = a.room in let j = b.room in omega arith;
    size = b.size ∙ a.size;
    tells = b.tells ∙ a.tells;
    streams = b.streams ∙ a.streams;
    later = let i = a.later in let j = b.later in omega arith;
    steady = λ u q s. b.steady u q (a.steady u q s);
  }

  -- the room that was spent, counted otherwise
  pub spent-by : (n m : ℕ) (v : V) (e : D) (w : V) (f : D) → Spent d k lot n v e w f → k.room v ≤ k.room w + m → Spent d k lot m v e w f
  spent-by n m v e w f a l = record {
    shows = a.shows;
    grows = a.grows;
    room = l;
    size = a.size;
    tells = a.tells;
    streams = a.streams;
    later = a.later;
    steady = a.steady;
  }

pub puts-none : {V D : Type 0} (k : view.Ghosts V D) (lot : LotView) (xs : List ℕ) (v : V) (d : D) → Puts k lot true xs v d v d
puts-none k lot xs v d = record {
  only = λ a. except_intro a xs _ (λ out. refl);
  pays = λ wide. where_intro wide xs _ (λ all. omega arith);
}

-- an address that is no bitmap block
not_bitmap : (n a : ℕ) → ((o : ℕ) → a ≢ 256 * o) → has (bitmaps n) a ≡ false
unfolding has bitmaps
not_bitmap zero a h = refl
not_bitmap (suc n) a h = let r = not_bitmap n a h in let ne = h n in grind (arith, nat_tests)

-- what is put where only bitmap blocks and the sub-super block are
pub bitmaps-only : {V D : Type 0} (k : view.Ghosts V D) (lot : LotView) (ok : Bool) (n : ℕ) (v : V) (d : D) (w : V) (e : D)
    → Puts k lot ok (sub_address ∷ bitmaps n) v d w e → (b : ℕ) → b ≢ sub_address → ((o : ℕ) → b ≢ 256 * o) → k.map w e lot b ≡ k.map v d lot b
bitmaps-only k lot ok n v d w e p b ns nb =
    except_elim b (sub_address ∷ bitmaps n) _ (p.only b)
    (let c = has-cons sub_address b (bitmaps n) in let r = not_bitmap n b nb in
    let t : (sub_address == b) ≡ false = grind (arith, nat_tests) in c ∙ ap (λ t. cond t true (has (bitmaps n) b)) t ∙ r)
