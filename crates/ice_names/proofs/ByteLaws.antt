-- The bytes of one row put into the blocks: that row has them, and the others stay.
use Rattle.std.proofs.Common.{◌≡◌, ◌≢◌, ◌⊎◌, inl, inr, ℕ, ◌+◌, ◌-◌, ◌*◌, ◌/◌, ◌%◌, ◌<◌, ◌≤◌, List, [], ◌++◌, length, get_or, take, drop, min, sym, refl, ap, ◌∙◌, arith, append_assoc, length-append}
use Rattle.std.specs.Prelude.{slice_set, replicate, zero, suc, Some, None}
use Rattle.std.proofs.lemmas.List.{take_at, drop_at, length-take, length-take-le, length-drop, length-set, drop-set-lt, get_or-take, get_or-drop, get_or_append_left, get_or-append_right, get_or-set_same, get_or-set_other, same_lists}
use Rattle.std.proofs.lemmas.Bool.{cases_eq, cases_lt}
use Rattle.std.proofs.lemmas.Nat.{mod_below, div-add-mod'}
use Rattle.tree_spec.specs.Names.{text_of}
use Rattle.ice_tables.specs.Tables.{Row, blocks_from}
use Rattle.ice_names.specs.Names.{IsCubePath}
use Rattle.ice_names.specs.Bytes.{row_bytes, mark_byte, IsRowBytes, IsWhole}

-- a block of which 256 bytes from place a on are put
pub record IsPut (a : ℕ) (old bytes new : List ℕ) : Type 0 where
  pub low : a + 256 ≤ length old
  pub long : length bytes ≡ 256
  pub is : new ≡ take a old ++ bytes ++ drop (a + 256) old

module _ (a : ℕ) (old bytes new : List ℕ) (put : IsPut a old bytes new) where
  front : length (take a old) ≡ a
  front = length-take-le a old (omega (arith, put.low))

  front_more : length (take a old ++ bytes) ≡ a + 256
  front_more = omega (arith, front, put.long, length-append (take a old) bytes)

  -- the bytes that are put
  here_in : take 256 (drop a new) ≡ bytes
  here_in =
      ap (λ (x : List ℕ). take 256 (drop a x)) (put.is ∙ append_assoc (take a old) bytes (drop (a + 256) old))
      ∙ ap (take 256) (drop_at (take a old) (bytes ++ drop (a + 256) old) a front)
      ∙ take_at bytes (drop (a + 256) old) 256 put.long

  new_long : length new ≡ length old
  new_long = ap length put.is ∙ omega
      (arith, put.low, front_more, length-append (take a old ++ bytes) (drop (a + 256) old), length-drop (a + 256) old)

  new_low : (k d : ℕ) → k < a → get_or new k d ≡ get_or old k d
  new_low k d less =
      ap (λ (x : List ℕ). get_or x k d) put.is
      ∙ get_or_append_left (take a old ++ bytes) (drop (a + 256) old) d k (omega (arith, less, front_more))
      ∙ get_or_append_left (take a old) bytes d k (omega (arith, less, front))
      ∙ get_or-take a old k d less

  new_high : (k d : ℕ) → a + 256 ≤ k → get_or new k d ≡ get_or old k d
  new_high k d more =
      ap (λ (x : List ℕ). get_or x k d) put.is
      ∙ get_or-append_right (take a old ++ bytes) (drop (a + 256) old) (a + 256) k d front_more more
      ∙ get_or-drop (a + 256) old (k - (a + 256)) d
      ∙ ap (λ n. get_or old n d) (back (a + 256) k more)
    where
      back : (n k : ℕ) → n ≤ k → n + (k - n) ≡ k
      back n k h = omega (arith, h)

  pick : (xs : List ℕ) (b k d : ℕ) → k < 256 → get_or (take 256 (drop b xs)) k d ≡ get_or xs (b + k) d
  pick xs b k d less = get_or-take 256 (drop b xs) k d less ∙ get_or-drop b xs k d

  few : (xs : List ℕ) (b k : ℕ) → k < length (take 256 (drop b xs)) → k < 256
  few xs b k less = omega (arith, less, length-take 256 (drop b xs))

  -- other 256 bytes stay
  other_in : (b : ℕ) → (b + 256 ≤ a) ⊎ (a + 256 ≤ b) → take 256 (drop b new) ≡ take 256 (drop b old)
  other_in b apart = same_lists _ _ long
      (λ k d less. pick new b k d (few new b k less) ∙ same k d (few new b k less) apart ∙ sym (pick old b k d (few new b k less)))
    where
      long : length (take 256 (drop b new)) ≡ length (take 256 (drop b old))
      long = length-take 256 (drop b new) ∙ ap (min 256) (length-drop b new ∙ ap (λ n. n - b) new_long ∙ sym (length-drop b old))
          ∙ sym (length-take 256 (drop b old))

      same : (k d : ℕ) → k < 256 → (b + 256 ≤ a) ⊎ (a + 256 ≤ b) → get_or new (b + k) d ≡ get_or old (b + k) d
      same k d less (inl h) = new_low (b + k) d (omega (arith, less, h))
      same k d less (inr h) = new_high (b + k) d (omega (arith, less, h))

block_is : (blocks : List (List ℕ)) (s : ℕ) → blocks_from 11 blocks (11 + s / 4) ≡ get_or blocks (s / 4) []
block_is blocks s = ap (λ k. get_or blocks k []) (back (s / 4))
  where
    back : (q : ℕ) → (11 + q) - 11 ≡ q
    back q = omega arith

-- rows of one block stand apart
apart : (r s : ℕ) → r ≢ s → r / 4 ≡ s / 4 → (256 * (r % 4) + 256 ≤ 256 * (s % 4)) ⊎ (256 * (s % 4) + 256 ≤ 256 * (r % 4))
apart r s other same = by (cases_lt (r % 4) (s % 4))
  where
    differ : r % 4 ≢ s % 4
    differ e = other (sym (div-add-mod' r 4) ∙ (λ i. same i * 4 + e i) ∙ div-add-mod' s 4)

    by : (r % 4 < s % 4) ⊎ (s % 4 ≤ r % 4) → (256 * (r % 4) + 256 ≤ 256 * (s % 4)) ⊎ (256 * (s % 4) + 256 ≤ 256 * (r % 4))
    by (inl less) = inl (omega (arith, less))
    by (inr most) = inr (later (r % 4) (s % 4) differ most)
      where
        later : (m n : ℕ) → m ≢ n → n ≤ m → 256 * n + 256 ≤ 256 * m
        later m n d h = more (cases_lt n m)
          where
            more : (n < m) ⊎ (m ≤ n) → 256 * n + 256 ≤ 256 * m
            more (inl l) = omega (arith, l)
            more (inr l) = absurd (d (omega (arith, h, l)))

module _ (blocks : List (List ℕ)) (s : ℕ) (bytes new : List ℕ) (few : s / 4 < length blocks)
    (put : IsPut (256 * (s % 4)) (get_or blocks (s / 4) []) bytes new) where
  set_here : (r : ℕ) → r / 4 ≡ s / 4 → get_or (slice_set blocks (s / 4) new) (r / 4) [] ≡ new
  set_here r e = ap (λ k. get_or (slice_set blocks (s / 4) new) k []) e ∙ get_or-set_same blocks (s / 4) new [] few

  -- the row has the bytes
  pub put_here : row_bytes (blocks_from 11 (slice_set blocks (s / 4) new)) s ≡ bytes
  put_here =
      ap (λ (x : List ℕ). take 256 (drop (256 * (s % 4)) x)) (block_is (slice_set blocks (s / 4) new) s ∙ set_here s refl)
      ∙ here_in (256 * (s % 4)) (get_or blocks (s / 4) []) bytes new put

  -- each other row stays
  pub put_other : (r : ℕ) → r ≢ s → row_bytes (blocks_from 11 (slice_set blocks (s / 4) new)) r ≡ row_bytes (blocks_from 11 blocks) r
  put_other r other = by (cases_eq (r / 4) (s / 4))
    where
      by : (r / 4 ≡ s / 4) ⊎ (r / 4 ≡ s / 4 → ⊥) → row_bytes (blocks_from 11 (slice_set blocks (s / 4) new)) r ≡ row_bytes (blocks_from 11 blocks) r
      by (inl e) =
          ap (λ (x : List ℕ). take 256 (drop (256 * (r % 4)) x)) (block_is (slice_set blocks (s / 4) new) r ∙ set_here r e)
          ∙ other_in (256 * (s % 4)) (get_or blocks (s / 4) []) bytes new put (256 * (r % 4)) (apart r s other e)
          ∙ ap (λ (x : List ℕ). take 256 (drop (256 * (r % 4)) x)) (ap (λ k. get_or blocks k []) (sym e) ∙ sym (block_is blocks r))
      by (inr d) =
          ap (λ (x : List ℕ). take 256 (drop (256 * (r % 4)) x))
          (block_is (slice_set blocks (s / 4) new) r ∙ get_or-set_other blocks (s / 4) (r / 4) new [] d ∙ sym (block_is blocks r))

-- the block of the row has 1,024 bytes afterwards
pub put_whole : (blocks : List (List ℕ)) (s : ℕ) (new : List ℕ) → s / 4 < length blocks → length new ≡ 1024
    → IsWhole (blocks_from 11 (slice_set blocks (s / 4) new)) s
put_whole blocks s new few long = ap length (block_is (slice_set blocks (s / 4) new) s ∙ get_or-set_same blocks (s / 4) new [] few) ∙ long

-- and another block that had them has them still
pub put_stays : (blocks : List (List ℕ)) (s : ℕ) (new : List ℕ) → s / 4 < length blocks → length new ≡ 1024
    → (r : ℕ) → IsWhole (blocks_from 11 blocks) r → IsWhole (blocks_from 11 (slice_set blocks (s / 4) new)) r
put_stays blocks s new few long r whole = by (cases_eq (r / 4) (s / 4))
  where
    by : (r / 4 ≡ s / 4) ⊎ (r / 4 ≡ s / 4 → ⊥) → IsWhole (blocks_from 11 (slice_set blocks (s / 4) new)) r
    by (inl e) =
        ap length (block_is (slice_set blocks (s / 4) new) r ∙ ap (λ k. get_or (slice_set blocks (s / 4) new) k []) e
        ∙ get_or-set_same blocks (s / 4) new [] few) ∙ long
    by (inr d) =
        ap length (block_is (slice_set blocks (s / 4) new) r ∙ get_or-set_other blocks (s / 4) (r / 4) new [] d ∙ sym (block_is blocks r)) ∙ whole

-- a row of a block of 1,024 bytes that is put
pub is_put : (s : ℕ) (old bytes new : List ℕ) → length old ≡ 1024 → length bytes ≡ 256
    → new ≡ take (256 * (s % 4)) old ++ bytes ++ drop (256 * (s % 4) + 256) old → IsPut (256 * (s % 4)) old bytes new
is_put s old bytes new whole long is = let low = mod_below s 4 (omega arith) in record { low = omega (arith, whole, low); long = long; is = is }

-- ---- the bytes of a row

abbrev pub zeros : ℕ → List ℕ
zeros n = replicate n 0

pub zero_there : (n k : ℕ) → get_or (zeros n) k 0 ≡ 0
zero_there zero k = refl
zero_there (suc n) zero = refl
zero_there (suc n) (suc k) = zero_there n k

-- the bytes of a free row
pub free_bytes : IsRowBytes None (replicate 256 0)
free_bytes = record {
  long = refl;
  mark = refl;
  size = refl;
  text = refl;
  head = λ k some less. zero_there 256 k;
  tail = λ k some. zero_there 256 k;
}

module _ (r : Row) (cube : IsCubePath r.path) (text middle : List ℕ) (of : text ≡ text_of r.path)
    (is : middle ≡ take 8 (replicate 256 0) ++ text ++ drop (8 + length text) (replicate 256 0)) where
  abbrev whole : List ℕ
  whole = slice_set (slice_set middle 0 (mark_byte (Some r))) 1 (length text)

  text_few : length text ≤ 199
  text_few = omega (arith, ap length of, cube.few)

  ends : length (take 8 (replicate 256 0) ++ text) ≡ 8 + length text
  ends = omega (arith, length-append (take 8 (replicate 256 0)) text)

  middle_long : length middle ≡ 256
  middle_long = ap length is ∙ omega (
    arith,
    text_few,
    ends,
    length-append (take 8 (replicate 256 0) ++ text)
        (drop (8 + length text) (replicate 256 0)),
    length-drop (8 + length text) (zeros 256),
  )

  at_other : (k : ℕ) → 2 ≤ k → get_or whole k 0 ≡ get_or middle k 0
  at_other k some =
      get_or-set_other (slice_set middle 0 (mark_byte (Some r))) 1 k (length text) 0 (λ e. omega (arith, some, e))
      ∙ get_or-set_other middle 0 k (mark_byte (Some r)) 0 (λ e. omega (arith, some, e))

  head_zero : (k : ℕ) → k < 8 → get_or middle k 0 ≡ 0
  head_zero k less =
      ap (λ (x : List ℕ). get_or x k 0) is
      ∙ get_or_append_left (take 8 (replicate 256 0) ++ text) (drop (8 + length text) (replicate 256 0)) 0 k (omega (arith, less, ends))
      ∙ get_or_append_left (take 8 (replicate 256 0)) text 0 k less
      ∙ get_or-take 8 (replicate 256 0) k 0 less ∙ zero_there 256 k

  tail_zero : (k : ℕ) → 8 + length text ≤ k → get_or middle k 0 ≡ 0
  tail_zero k more =
      ap (λ (x : List ℕ). get_or x k 0) is
      ∙ get_or-append_right (take 8 (replicate 256 0) ++ text) (drop (8 + length text) (replicate 256 0)) (8 + length text) k 0 ends more
      ∙ get_or-drop (8 + length text) (replicate 256 0) (k - (8 + length text)) 0 ∙ zero_there 256 ((8 + length text) + (k - (8 + length text)))

  text_in_middle : take (length text) (drop 8 middle) ≡ text
  text_in_middle =
      ap (λ (x : List ℕ). take (length text) (drop 8 x))
      (is ∙ append_assoc (take 8 (replicate 256 0)) text (drop (8 + length text) (replicate 256 0)))
      ∙ ap (take (length text)) (drop_at (take 8 (replicate 256 0)) (text ++ drop (8 + length text) (replicate 256 0)) 8 refl)
      ∙ take_at text (drop (8 + length text) (replicate 256 0)) (length text) refl

  -- the bytes of a cube's row
  pub cube_bytes : IsRowBytes (Some r) whole
  cube_bytes = record {
    long = length-set (slice_set middle 0 (mark_byte (Some r))) 1 (length text) ∙ length-set middle 0 (mark_byte (Some r)) ∙ middle_long;
    mark =
        get_or-set_other (slice_set middle 0 (mark_byte (Some r))) 1 0 (length text) 0 (λ e. omega (arith, e))
        ∙ get_or-set_same middle 0 (mark_byte (Some r)) 0 (omega (arith, middle_long));
    size = get_or-set_same (slice_set middle 0 (mark_byte (Some r))) 1 (length text) 0
        (omega (arith, middle_long, length-set middle 0 (mark_byte (Some r)))) ∙ ap length of;
    text =
        ap (λ (x : List ℕ). take (length x) (drop 8 whole)) (sym of)
        ∙ ap (take (length text)) (drop-set-lt 8 (slice_set middle 0 (mark_byte (Some r))) 1 (length text) (omega arith)
        ∙ drop-set-lt 8 middle 0 (mark_byte (Some r)) (omega arith))
        ∙ text_in_middle ∙ of;
    head = λ k some less. at_other k some ∙ head_zero k less;
    tail = λ k more. at_other k (omega (arith, more)) ∙ tail_zero k (omega (arith, more, ap length of));
  }
