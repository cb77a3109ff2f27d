-- Gates and headers that were written or read.
use Rattle.std.proofs.Common.{◌≡◌, ◌≢◌, ◌≤◌, ◌<◌, ◌+◌, ◌-◌, ◌*◌, ◌++◌, ◌&&◌, ◌==◌, ℕ, zero, suc, Bool, true, false, cond, eqb, List, [], ◌∷◌, length, take, replicate, slice_index, slice_set, Option, Some, None, refl, sym, ap, ◌∙◌, subst, inl, inr, ◌⊎◌, append_assoc, arith}
use Rattle.std.specs.Prelude.{if◌then◌else◌, unwrap_or}
use Rattle.std.specs.List.{list_all, IsDistinct, AllByRecursion}
use Rattle.std.specs.Ordering.{nat_cmp}
use Rattle.std.specs.List.Sorted.{IsPermutation, IsSorted, IsStrictlyIncreasing}
use Rattle.std.specs.Option.{option_map}
use Rattle.std.proofs.lemmas.Bool.Decides.{nat_tests}
use Rattle.std.proofs.lemmas.Grind.{elements}
use Rattle.std.proofs.lemmas.List.{ext_get_or, length-take, length-take-le, length-append, length-replicate, get_or-take}
use Rattle.std.proofs.lemmas.List.FromFn.{length-map-range_with_len, get_or-map-range_with_len, map-range_with_len_more}
use Rattle.std.proofs.lemmas.List.Sorted.{IsNonDecreasingBy-from_sort, IsPermutation-sym}
use Rattle.std.proofs.lemmas.Map.Keys.{IsDistinct-IsPermutation, IsStrictlyIncreasing-from_distinct}
use Rattle.std.proofs.Math.Seq.{set-append_seam, take-append_seam}
use Rattle.ice_base.specs.Fields.{word_at, WordSet, SameBeside}
use Rattle.ice_base.proofs.FieldLaws.{word-beside}
use Rattle.ice_layout.proofs.SuperLaws.{zero_at}
use Rattle.ice_base.specs.Lots.{LotView, is_address}
use Rattle.ice_base.specs.Spare.{has}
use Rattle.ice_layout.specs.Geometry.{zero_block, between}
use Rattle.ice_layout.specs.Headers.{is_open, gate_block, slot_magic, system_magic, is_table, all_differ, targets_in, targets_of, slot_targets, system_targets, filled, header_with, header_of, system_header_of, header_in, targets_said, may_be_address, AreTargets, IsProperHeader, HeaderZeros, HeaderFields}
use Rattle.ice_layout.specs.declared.header.Header.{Header}

-- ---- gates

pub gate_reads : (on : Bool) → is_open (gate_block on) ≡ on
unfolding is_open
gate_reads true = refl
gate_reads false = refl

-- ---- the targets of a header

targets-more : (header : List ℕ) (n : ℕ) → targets_in header (n + 1) ≡ targets_in header n ++ word_at header (16 + 4 * n) ∷ []
targets-more header n = map-range_with_len_more (λ i. word_at header (16 + 4 * i)) 0 n n (omega arith)

-- the list of the first n targets of a header has n of them
pub targets-length : (header : List ℕ) (n : ℕ) → length (targets_in header n) ≡ n
targets-length header n = length-map-range_with_len (λ i. word_at header (16 + 4 * i)) 0 n

pub target-at : (header : List ℕ) (n i : ℕ) → i < n → slice_index (targets_in header n) i ≡ word_at header (16 + 4 * i)
target-at header n i h = get_or-map-range_with_len (λ i. word_at header (16 + 4 * i)) 0 n i i 0 h (omega arith)

-- one more target in its place
pub target-set : (header : List ℕ) (n v : ℕ) (xs : List ℕ) → n < 240 → v ≡ word_at header (16 + 4 * n) → xs ≡ targets_in header n ++ replicate (240 - n) 0
    → slice_set xs n v ≡ targets_in header (n + 1) ++ replicate (240 - (n + 1)) 0
target-set header n v xs less is e =
    let ts = targets_in header n in
    let rest : List ℕ = replicate (240 - (n + 1)) 0 in
    let one : 240 - n ≡ suc (240 - (n + 1)) = omega arith in
    let zeros : replicate (240 - n) 0 ≡ 0 ∷ rest = ap (λ (k : ℕ). replicate k 0) one in
    let seam : slice_set (ts ++ 0 ∷ rest) n v ≡ ts ++ v ∷ rest = subst (λ (k : ℕ). slice_set (ts ++ 0 ∷ rest) k v ≡ ts ++ v ∷ rest)
    (targets-length header n) (set-append_seam ts 0 rest v) in
    let word : ts ++ v ∷ [] ≡ targets_in header (n + 1) = ap (λ (w : ℕ). ts ++ w ∷ []) is ∙ sym (targets-more header n) in
    ap (λ (x : List ℕ). slice_set x n v) (e ∙ ap (λ (r : List ℕ). ts ++ r) zeros) ∙ seam ∙ sym (append_assoc ts (v ∷ []) rest)
    ∙ ap (λ (x : List ℕ). x ++ rest) word

pub targets-filled : (header : List ℕ) (n : ℕ) (xs : List ℕ) → xs ≡ targets_in header n ++ replicate (240 - n) 0 → xs ≡ filled (targets_in header n)
targets-filled header n xs e = e ∙ ap (λ (k : ℕ). targets_in header n ++ replicate (240 - k) 0) (sym (targets-length header n))

-- ---- numbers that differ

none-has : (x : ℕ) (xs : List ℕ) → AllByRecursion (λ y. eqb x y ≡ false) xs → has xs x ≡ false
unfolding has
none-has x [] h = refl
none-has x (y ∷ xs) h = let here = h.0 in let rest = none-has x xs h.1 in grind (arith, nat_tests)

has-none : (x : ℕ) (xs : List ℕ) → has xs x ≡ false → AllByRecursion (λ y. eqb x y ≡ false) xs
unfolding has
has-none x [] h = _
has-none x (y ∷ xs) h = (grind (arith, nat_tests), has-none x xs (grind (arith, nat_tests)))

pub distinct-differ : (xs : List ℕ) → IsDistinct eqb xs → all_differ xs ≡ true
unfolding IsDistinct
distinct-differ [] h = refl
distinct-differ (x ∷ xs) h = let here = none-has x xs h.0 in let rest = distinct-differ xs h.1 in grind arith

pub differ-distinct : (xs : List ℕ) → all_differ xs ≡ true → IsDistinct eqb xs
unfolding IsDistinct
differ-distinct [] h = _
differ-distinct (x ∷ xs) h = (has-none x xs (grind arith), differ-distinct xs (grind arith))

rising-tail : (x : ℕ) (xs : List ℕ) → IsStrictlyIncreasing (x ∷ xs) → IsStrictlyIncreasing xs
rising-tail x xs up =
    λ k h. let e : suc k + 1 ≡ suc (k + 1) = omega arith in subst (λ (j : ℕ). slice_index xs k < slice_index (x ∷ xs) j) e (up (suc k) (omega (arith, h)))

above : (x : ℕ) (xs : List ℕ) (y : ℕ) → IsStrictlyIncreasing (x ∷ xs) → y ≤ x → has xs y ≡ false
unfolding has
above x [] y up le = refl
above x (z ∷ xs) y up le =
    let more : x < z = up 0 (omega arith) in
    let rest = above z xs y (rising-tail x (z ∷ xs) up) (omega arith) in
    grind (arith, nat_tests)

rising-differ : (xs : List ℕ) → IsStrictlyIncreasing xs → all_differ xs ≡ true
rising-differ [] up = refl
rising-differ (x ∷ xs) up =
    let here = above x xs x up (omega arith) in
    let rest = rising-differ xs (rising-tail x xs up) in
    grind arith

differ-moved : (xs ys : List ℕ) → IsPermutation xs ys → all_differ xs ≡ true → all_differ ys ≡ true
differ-moved xs ys moved h = distinct-differ ys (IsDistinct-IsPermutation eqb (λ x y. eqb-flip x y) xs ys moved (differ-distinct xs h))
  where
    eqb-flip : (x y : ℕ) → eqb x y ≡ eqb y x
    eqb-flip x y = grind (arith, nat_tests)

-- Numbers differ exactly where they rise once they are sorted.
pub differ-sorted : (xs ys : List ℕ) (b : Bool) → IsPermutation xs ys → IsSorted nat_cmp ys → (b ≡ true → IsStrictlyIncreasing ys)
    → (IsStrictlyIncreasing ys → b ≡ true) → b ≡ all_differ xs
differ-sorted xs ys b moved sorted rise said = by (all_differ xs) refl b refl
  where
    by : (a : Bool) → all_differ xs ≡ a → (b2 : Bool) → b ≡ b2 → b ≡ a
    by true is true t = t
    by false is false t = t
    by true is false t =
        said (IsStrictlyIncreasing-from_distinct ys (IsNonDecreasingBy-from_sort (λ x. x) ys sorted) (differ-distinct ys (differ-moved xs ys moved is)))
    by false is true t = absurd (let f : all_differ xs ≡ true = differ-moved ys xs (IsPermutation-sym xs ys moved) (rising-differ ys (rise t)) in cc)

-- ---- what was read

if-some : {X : Type 0} (b : Bool) (o : Option X) (x : X) → (if b then o else None) ≡ Some x → (b ≡ true) × (o ≡ Some x)
if-some true o x e = (refl, e)
if-some false o x e = absurd (cc e)

some_of : {X : Type 0} (x y : X) → Some x ≡ Some y → y ≡ x
some_of x y e = sym (ap (λ o. unwrap_or o x) e)

both : (a b : Bool) → (a && b) ≡ true → (a ≡ true) × (b ≡ true)
both true true h = (refl, refl)
both true false h = absurd (cc h)
both false b h = absurd (cc h)

-- what a list of targets that is found has
record Found (most : ℕ) (home : ℕ → Bool) (header : List ℕ) (n : ℕ) (ts : List ℕ) : Type 0 where
  pub number : between 1 most n ≡ true
  pub homes : list_all home ts ≡ true
  pub differ : all_differ ts ≡ true
  pub are : ts ≡ targets_in header n

found : (most : ℕ) (home : ℕ → Bool) (header : List ℕ) (n : ℕ) (ts : List ℕ) → targets_of most home header n ≡ Some ts → Found most home header n ts
found most home header n ts e =
    let us = targets_in header n in
    let i = if-some (between 1 most n && (list_all home us && all_differ us)) (Some us) ts e in
    let fits = both (between 1 most n) (list_all home us && all_differ us) i.0 in
    let right = both (list_all home us) (all_differ us) fits.1 in
    let are : ts ≡ us = some_of us ts i.1 in
    record { number = fits.0; homes = ap (λ (xs : List ℕ). list_all home xs) are ∙ right.0; differ = ap (λ (xs : List ℕ). all_differ xs) are ∙ right.1; are = are }

found-number : (most : ℕ) (home : ℕ → Bool) (header : List ℕ) (n : ℕ) (ts : List ℕ) → Found most home header n ts → (1 ≤ length ts) × (length ts ≤ most)
found-number most home header n ts f =
    let number : between 1 most n ≡ true = f.number in
    let long : length ts ≡ n = ap (λ (xs : List ℕ). length xs) f.are ∙ targets-length header n in
    let low : 1 ≤ n = grind (arith, nat_tests) in
    let high : n ≤ most = grind (arith, nat_tests) in
    (omega arith, omega arith)

-- an accepted header has no more targets than there are bodies
pub few-slot : (lot : LotView) (header ts : List ℕ) → slot_targets lot header ≡ Some ts → length ts ≤ 240
unfolding slot_targets
few-slot lot header ts e =
    let i = if-some (word_at header 0 == slot_magic && slice_index header 4 == lot.slot) (targets_of 240 (is_address lot) header (word_at header 8)) ts e in
    (found-number _ _ _ _ ts (found 240 (is_address lot) header (word_at header 8) ts i.1)).1

-- a header of the tables that is accepted has at most eight targets
pub few-system : (header ts : List ℕ) → system_targets header ≡ Some ts → length ts ≤ 8
unfolding system_targets
few-system header ts e =
    let i = if-some (word_at header 0 == system_magic) (targets_of 8 is_table header (word_at header 8)) ts e in
    (found-number _ _ _ _ ts (found 8 is_table header (word_at header 8) ts i.1)).1

-- ---- what an accepted header has

all-at : (test : ℕ → Bool) (xs : List ℕ) (i : ℕ) → list_all test xs ≡ true → i < length xs → test (slice_index xs i) ≡ true
all-at test [] i h less = absurd (omega arith)
all-at test (x ∷ xs) zero h less = (both (test x) (list_all test xs) h).0
all-at test (x ∷ xs) (suc i) h less = all-at test xs i (both (test x) (list_all test xs) h).1 (omega arith)

not-at : (xs : List ℕ) (x j : ℕ) → has xs x ≡ false → j < length xs → x ≢ slice_index xs j
unfolding has
not-at [] x j h less = absurd (omega arith)
not-at (y ∷ xs) x zero h less = λ e. absurd (let t : cond (y == x) true (has xs x) ≡ false = h in grind (arith, nat_tests))
not-at (y ∷ xs) x (suc j) h less = not-at xs x j (let t : cond (y == x) true (has xs x) ≡ false = h in grind (arith, nat_tests)) (omega arith)

differ-at : (xs : List ℕ) (i j : ℕ) → all_differ xs ≡ true → i < j → j < length xs → slice_index xs i ≢ slice_index xs j
differ-at [] i j h less in_it = absurd (omega arith)
differ-at (x ∷ xs) i zero h less in_it = absurd (omega arith)
differ-at (x ∷ xs) zero (suc j) h less in_it = not-at xs x j (grind arith) (omega arith)
differ-at (x ∷ xs) (suc i) (suc j) h less in_it = differ-at xs i j (grind arith) (omega arith) (omega arith)

found-right : (most : ℕ) (home : ℕ → Bool) (header : List ℕ) (n : ℕ) (ts : List ℕ) → Found most home header n ts → AreTargets most home ts
found-right most home header n ts f =
    let few = found-number _ _ _ _ ts f in
    record { some = few.0; few = few.1; homes = λ k less. all-at home ts k f.homes less; differ = λ k l h less. differ-at ts k l f.differ h less }

-- ---- what was read

take-filled : (ts : List ℕ) → take (length ts) (filled ts) ≡ ts
take-filled ts = take-append_seam ts (replicate (240 - length ts) 0)

-- a header that was made of targets says these
pub header-said : (o : Option (List ℕ)) (h : Header) → option_map (λ ts. header_with ts) o ≡ Some h → o ≡ Some (targets_said h)
header-said None h e = absurd (cc e)
header-said (Some ts) h e =
    let is : h ≡ header_with ts = some_of (header_with ts) h e in
    ap (λ (xs : List ℕ). Some xs) (sym (take-filled ts) ∙ ap (λ (g : Header). targets_said g) (sym is))

header-rest : (o : Option (List ℕ)) (h : Header) → Some h ≡ option_map (λ ts. header_with ts) o → h ≡ header_with (targets_said h)
header-rest None h e = absurd (cc e)
header-rest (Some ts) h e =
    let is : h ≡ header_with ts = some_of (header_with ts) h (sym e) in
    subst (λ (g : Header). g ≡ header_with (targets_said g)) (sym is) (ap (λ (xs : List ℕ). header_with xs) (sym (take-filled ts)))

-- the targets of a header that is read are those of the bytes
pub said_targets : (lot : LotView) (bytes : List ℕ) (h : Header) → Some h ≡ header_of lot bytes → slot_targets lot bytes ≡ Some (targets_said h)
said_targets lot bytes h e = header-said (slot_targets lot bytes) h (sym e)

-- no header was made of no targets
pub no-header : (o : Option (List ℕ)) → option_map (λ ts. header_with ts) o ≡ None → o ≡ None
no-header None e = refl
no-header (Some ts) e = absurd (cc e)

-- a refused header names no targets
pub no_targets : (lot : LotView) (bytes : List ℕ) → None ≡ header_of lot bytes → slot_targets lot bytes ≡ None
no_targets lot bytes e = no-header (slot_targets lot bytes) (sym e)

-- ---- the number and the targets of a header

make : ℕ → List ℕ → Header
make n xs = record { count = n; targets = xs }

all-any : (xs : List ℕ) → list_all (λ a. true) xs ≡ true
all-any [] = refl
all-any (x ∷ xs) = all-any xs

all-may : (p q : ℕ → Bool) → ((a : ℕ) → p a ≡ true → q a ≡ true) → (xs : List ℕ) → list_all p xs ≡ true → list_all q xs ≡ true
all-may p q weaker [] h = refl
all-may p q weaker (x ∷ xs) h =
    let b = both (p x) (list_all p xs) h in
    let here = weaker x b.0 in
    let rest = all-may p q weaker xs b.1 in
    grind arith

-- a header is refused by its number of targets, or where two are equal
pub refused-number : (most : ℕ) (bytes : List ℕ) (n : ℕ) → n ≡ word_at bytes 8 → between 1 most n ≡ false → None ≡ header_in most (λ a. true) bytes
refused-number most bytes n is not_in =
    let number : between 1 most (word_at bytes 8) ≡ false = subst (λ k. between 1 most k ≡ false) is not_in in
    rw number refl

module _ (most : ℕ) (bytes : List ℕ) (n : ℕ) (xs : List ℕ) (is : n ≡ word_at bytes 8)
    (fits : between 1 most n ≡ true) (all : xs ≡ filled (targets_in bytes n)) where
  number : between 1 most (word_at bytes 8) ≡ true
  number = subst (λ k. between 1 most k ≡ true) is fits

  said : take n xs ≡ targets_in bytes n
  said =
      let us = targets_in bytes n in
      ap (λ (x : List ℕ). take n x) all ∙ subst (λ (k : ℕ). take k (filled us) ≡ us) (targets-length bytes n) (take-filled us)

  tested : (b : Bool) → all_differ (take n xs) ≡ b
      → (list_all (λ a. true) (targets_in bytes (word_at bytes 8)) && all_differ (targets_in bytes (word_at bytes 8))) ≡ b
  tested b differ =
      let us : take n xs ≡ targets_in bytes (word_at bytes 8) = said ∙ ap (λ (k : ℕ). targets_in bytes k) is in
      rw (all-any (targets_in bytes (word_at bytes 8))) (subst (λ (x : List ℕ). all_differ x ≡ b) us differ)

  pub refused-equal : all_differ (take n xs) ≡ false → None ≡ header_in most (λ a. true) bytes
  refused-equal equal = let test = tested false equal in rw (number, test) refl

  pub counted : all_differ (take n xs) ≡ true → Some (record { count = n; targets = xs }) ≡ header_in most (λ a. true) bytes
  unfolding make
  counted differ =
      let test = tested true differ in
      let us = targets_in bytes n in
      let long : make n xs ≡ make (length us) xs = ap (λ (k : ℕ). make k xs) (sym (targets-length bytes n)) in
      let whole : make n xs ≡ make (length us) (filled us) = long ∙ ap (λ (x : List ℕ). make (length us) x) all in
      rw (number, test) (ap (λ (h : Header). Some h) (whole ∙ ap (λ (k : ℕ). header_with (targets_in bytes k)) is))

-- ---- their homes

-- a header of another magic is refused
pub refused-slot : (lot : LotView) (bytes : List ℕ) → (word_at bytes 0 == slot_magic && slice_index bytes 4 == lot.slot) ≡ false → None ≡ header_of lot bytes
unfolding slot_targets
refused-slot lot bytes mark = rw mark refl

pub refused-system : (bytes : List ℕ) → word_at bytes 0 ≢ system_magic → None ≡ system_header_of bytes
unfolding system_targets
refused-system bytes other = let mark : (word_at bytes 0 == system_magic) ≡ false = grind (arith, nat_tests) in rw mark refl

-- with its magic it says what its targets do
pub slot-marked : (lot : LotView) (bytes : List ℕ) (o : Option Header) → (word_at bytes 0 == slot_magic && slice_index bytes 4 == lot.slot) ≡ true
    → o ≡ header_in 240 (is_address lot) bytes → o ≡ header_of lot bytes
unfolding slot_targets
slot-marked lot bytes o mark e = rw mark e

pub system-marked : (bytes : List ℕ) (o : Option Header) → word_at bytes 0 ≡ system_magic
    → o ≡ header_in 8 is_table bytes → o ≡ system_header_of bytes
unfolding system_targets
system-marked bytes o first e = let mark : (word_at bytes 0 == system_magic) ≡ true = rw first refl in rw mark e

module _ (most : ℕ) (home : ℕ → Bool) (bytes : List ℕ) where
  -- a header is refused where its number and targets are
  pub refused-counted : None ≡ header_in most (λ a. true) bytes → None ≡ header_in most home bytes
  refused-counted e =
      let us = targets_in bytes (word_at bytes 8) in
      let none = no-header (targets_of most (λ a. true) bytes (word_at bytes 8)) (sym e) in
      by us (between 1 most (word_at bytes 8)) (list_all (λ a. true) us) (all_differ us) (list_all home us) (all-any us) none
    where
      by : (us : List ℕ) (fits any differ homes : Bool) → any ≡ true → (if fits && (any && differ) then Some us else None) ≡ None
          → None ≡ option_map (λ ts. header_with ts) (if fits && (homes && differ) then Some us else None)
      by us false any differ homes is none = refl
      by us true any differ false is none = refl
      by us true any false true is none = refl
      by us true true true true is none = absurd (cc none)
      by us true false true true is none = absurd (cc is)

  module _ (header : Header) (e : Some header ≡ header_in most (λ a. true) bytes) where
    it : Found most (λ a. true) bytes (word_at bytes 8) (targets_said header)
    it =
        let n = word_at bytes 8 in
        found most (λ a. true) bytes n (targets_said header) (header-said (targets_of most (λ a. true) bytes n) header (sym e))

    rest : header ≡ header_with (targets_said header)
    rest = header-rest (targets_of most (λ a. true) bytes (word_at bytes 8)) header e

    count-said : header.count ≡ word_at bytes 8
    count-said = ap (λ (h : Header). h.count) rest ∙ (ap (λ (x : List ℕ). length x) it.are ∙ targets-length bytes (word_at bytes 8))

    -- where a target is at no home
    pub refused-homes : list_all home (targets_said header) ≡ false → None ≡ header_in most home bytes
    refused-homes away =
        let fits = it.number in
        let homes : list_all home (targets_in bytes (word_at bytes 8)) ≡ false = subst (λ (x : List ℕ). list_all home x ≡ false) it.are away in
        rw (fits, homes) refl

    module _ (homes : list_all home (targets_said header) ≡ true) where
      -- else it is accepted
      pub accepted : Some header ≡ header_in most home bytes
      accepted =
          let fits = it.number in
          let us = targets_in bytes (word_at bytes 8) in
          let right : (list_all home us && all_differ us) ≡ true =
          subst (λ (x : List ℕ). (list_all home x && all_differ x) ≡ true) it.are (rw homes it.differ) in
          rw (fits, right) (ap (λ (h : Header). Some h) (rest ∙ ap (λ (x : List ℕ). header_with x) it.are))

      -- and its targets are right
      pub read_right : AreTargets most home (targets_said header)
      read_right =
          let ours : Found most home bytes (word_at bytes 8) (targets_said header) =
          record { number = it.number; homes = homes; differ = it.differ; are = it.are } in
          found-right most home bytes (word_at bytes 8) (targets_said header) ours

      -- and it may be written again, wherever its homes may be
      pub read_proper : (may : ℕ → Bool) → ((a : ℕ) → home a ≡ true → may a ≡ true) → IsProperHeader most may header
      read_proper may weaker = record {
        number = rw count-said it.number;
        homes = all-may home may weaker (targets_said header) homes;
        differ = it.differ;
        rest = rest;
      }

-- the count of a header is that of its targets
pub counted-few : (most : ℕ) (n : ℕ) → most ≤ 240 → between 1 most n ≡ true → n ≤ 240
counted-few most n few fits = grind (arith, nat_tests)

-- an address of a lot is one that may be
pub may_be : (lot : LotView) (a : ℕ) → length lot.groups ≤ 64 → is_address lot a ≡ true → may_be_address a ≡ true
unfolding is_address
may_be lot a few is = grind (arith, nat_tests)

-- ---- what was written

taken-said : (header : List ℕ) (n : ℕ) (xs : List ℕ) → n ≤ length xs → ((i : ℕ) → i < n → word_at header (16 + 4 * i) ≡ slice_index xs i)
    → targets_in header n ≡ take n xs
taken-said header n xs few same =
    let long = targets-length header n in
    let short : length (take n xs) ≡ n = length-take-le n xs few in
    ext_get_or 0 (targets_in header n) (take n xs) (long ∙ sym short)
    (λ i h. let less : i < n = omega (arith, h, long) in target-at header n i less ∙ same i less ∙ sym (get_or-take n xs i 0 less))

room-said : (most : ℕ) (may : ℕ → Bool) (header : Header) → IsProperHeader most may header → header.count ≤ 240 → length header.targets ≡ 240
room-said most may header proper few =
    let ts = targets_said header in
    let short : length ts ≤ 240 = omega (arith, length-take header.count header.targets) in
    let whole : header.targets ≡ filled ts = ap (λ (h : Header). h.targets) proper.rest in
    ap (λ (xs : List ℕ). length xs) whole ∙ (omega (arith, length-append ts (replicate (240 - length ts) 0), length-replicate {A = ℕ} (240 - length ts) 0))

-- one more target written
pub write-more : (header : Header) (b0 b b' : List ℕ) (n v : ℕ) → ((i : ℕ) → i < n → word_at b (16 + 4 * i) ≡ slice_index header.targets i)
    → SameBeside 16 (4 * n) b0 b → WordSet b (16 + 4 * n) v b' → v ≡ slice_index header.targets n
    → ((i : ℕ) → i < n + 1 → word_at b' (16 + 4 * i) ≡ slice_index header.targets i) × SameBeside 16 (4 * (n + 1)) b0 b'
write-more header b0 b b' n v said others w is = (
  λ i h. elim (below-or-last i n h) [
    | inl less ↦ word-beside b b' (16 + 4 * n) 4 (16 + 4 * i) w.others (inl (omega (arith, less))) ∙ said i less
    | inr last ↦ subst (λ (k : ℕ). word_at b' (16 + 4 * k) ≡ slice_index header.targets k) (sym last) (w.value ∙ is)
  ],
  λ k apart. w.others k (beside k apart) ∙ others k (far k apart),
)
  where
    below-or-last : (i n : ℕ) → i < n + 1 → (i < n) ⊎ (i ≡ n)
    below-or-last i n h = grind arith

    beside : (k : ℕ) → (k < 16) ⊎ (16 + 4 * (n + 1) ≤ k) → (k < 16 + 4 * n) ⊎ (16 + 4 * n + 4 ≤ k)
    beside k (inl h) = inl (omega (arith, h))
    beside k (inr h) = inr (omega (arith, h))

    far : (k : ℕ) → (k < 16) ⊎ (16 + 4 * (n + 1) ≤ k) → (k < 16) ⊎ (16 + 4 * n ≤ k)
    far k (inl h) = inl h
    far k (inr h) = inr (omega (arith, h))

module _ (magic byte : ℕ) (header : Header) (b1 b2 b3 b4 : List ℕ)
    (w1 : WordSet zero_block 0 magic b1) (long : length b1 ≡ 1024) (is : b2 ≡ slice_set b1 4 byte) (n : ℕ) (same : n ≡ header.count) (w3 : WordSet b2 8 n b3)
    (targets : (i : ℕ) → i < header.count → word_at b4 (16 + 4 * i) ≡ slice_index header.targets i) (others : SameBeside 16 (4 * header.count) b3 b4) where
  set-beside : SameBeside 4 1 b1 b2
  set-beside k apart = let e : b2 ≡ slice_set b1 4 byte = is in grind (arith, elements)

  mark-there : word_at b4 0 ≡ magic
  mark-there =
      word-beside b3 b4 16 (4 * header.count) 0 others (inl (omega arith))
      ∙ word-beside b2 b3 8 4 0 w3.others (inl (omega arith)) ∙ word-beside b1 b2 4 1 0 set-beside (inl (omega arith)) ∙ w1.value

  byte-there : slice_index b4 4 ≡ byte
  byte-there = others 4 (inl (omega arith)) ∙ w3.others 4 (inl (omega arith)) ∙ rw is (let l = long in grind (arith, elements))

  count-there : word_at b4 8 ≡ header.count
  count-there = word-beside b3 b4 16 (4 * header.count) 8 others (inl (omega arith)) ∙ w3.value ∙ same

  zero-before : (k : ℕ) → 5 ≤ k → k < 8 ⊎ 12 ≤ k → slice_index b3 k ≡ 0
  zero-before k low apart = w3.others k (by apart) ∙ set-beside k (inr (omega arith)) ∙ w1.others k (inr (omega arith)) ∙ zero_at k
    where
      by : (k < 8) ⊎ (12 ≤ k) → (k < 8) ⊎ (8 + 4 ≤ k)
      by (inl h) = inl h
      by (inr h) = inr (omega (arith, h))

  pub fields_written : HeaderFields magic byte header b4
  fields_written = record {
    mark = mark-there;
    fifth = byte-there;
    number = count-there;
    targets = targets;
    zeros = record {
      mark = λ k low high. others k (inl (omega arith)) ∙ zero-before k low (inl high);
      count = λ k low high. others k (inl high) ∙ zero-before k (omega arith) (inr low);
      targets = λ k low. others k (inr low) ∙ zero-before k (omega arith) (inr (omega arith));
    };
  }

-- the targets that were written are read back by each reader whose homes have them
fields_read : (most magic byte : ℕ) (may home : ℕ → Bool) (header : Header) (bytes : List ℕ) → most ≤ 240
    → IsProperHeader most may header → HeaderFields magic byte header bytes → list_all home (targets_said header) ≡ true
    → header_in most home bytes ≡ Some header
fields_read most magic byte may home header bytes small proper fields homes =
    let number : between 1 most header.count ≡ true = proper.number in
    let few : header.count ≤ 240 = counted-few most header.count small number in
    let room = room-said most may header proper few in
    let us : targets_in bytes header.count ≡ targets_said header = taken-said bytes header.count header.targets (omega arith) fields.targets in
    let right : (list_all home (targets_in bytes header.count) && all_differ (targets_in bytes header.count)) ≡ true = rw (us, homes) proper.differ in
    let count = fields.number in
    rw (count, number, right, us) (ap (λ (h : Header). Some h) (sym proper.rest))

pub slot_written : (slot : ℕ) (header : Header) (bytes : List ℕ) → IsProperHeader 240 may_be_address header → HeaderFields slot_magic slot header bytes
    → (lot : LotView) → lot.slot ≡ slot → list_all (is_address lot) (targets_said header) ≡ true → header_of lot bytes ≡ Some header
slot_written slot header bytes proper fields lot of homes =
    let first = fields.mark in
    let fifth = fields.fifth in
    let mark : (word_at bytes 0 == slot_magic && slice_index bytes 4 == lot.slot) ≡ true = rw (first, fifth, of) (grind (arith, nat_tests)) in
    let read = fields_read 240 slot_magic slot may_be_address (is_address lot) header bytes (omega arith) proper fields homes in
    sym (slot-marked lot bytes (Some header) mark (sym read))

pub system_written : (header : Header) (bytes : List ℕ) → IsProperHeader 8 is_table header
    → HeaderFields system_magic 0 header bytes → system_header_of bytes ≡ Some header
system_written header bytes proper fields =
    let read = fields_read 8 system_magic 0 is_table is_table header bytes (omega arith) proper fields proper.homes in
    sym (system-marked bytes (Some header) fields.mark (sym read))

-- with a zero after the magic one more byte is zero
pub system_zeros : (magic : ℕ) (header : Header) (bytes : List ℕ) → HeaderFields magic 0 header bytes → HeaderZeros 4 header.count bytes
system_zeros magic header bytes fields = record { mark = λ k low high. by k (fourth k low) high; count = fields.zeros.count; targets = fields.zeros.targets }
  where
    fourth : (k : ℕ) → 4 ≤ k → (k ≡ 4) ⊎ (5 ≤ k)
    fourth k low = grind arith

    by : (k : ℕ) → (k ≡ 4) ⊎ (5 ≤ k) → k < 8 → slice_index bytes k ≡ 0
    by k (inl e) high = ap (λ (j : ℕ). slice_index bytes j) e ∙ fields.fifth
    by k (inr low) high = fields.zeros.mark k low high
