-- Table blocks that come from two sides: some as they shall be, the others as they were where nothing changes.
use Rattle.std.proofs.Common.{◌≡◌, ◌≢◌, ◌∙◌, ◌≤◌, ◌<◌, ◌+◌, ◌/◌, ⊎_elim, ℕ, zero, suc, Bool, true, false, List, Option, Some, None, refl, sym, ap, subst, arith}
use Rattle.std.specs.Prelude.{◌⊎◌, nat_lt, if◌then◌else◌, IsSome}
use Rattle.std.proofs.lemmas.Bool.Decides.{nat_tests}
use Rattle.std.proofs.lemmas.Nat.{div_below}
use Rattle.ice_path.specs.Paths.{path_names}
use Rattle.ice_tables.specs.Tables.{Tables, Row, row_of, row_in, holder_in, ordinal_in, mark_at, text_at, owner_byte, AreNames, AreOwners, IsCubeText}
use Rattle.ice_system.specs.Says.{SayTables}

-- ---- the blocks of a row and of an owner

-- the block in which a slot's row stands
abbrev pub row_block : ℕ → ℕ
row_block s = 11 + s / 4

-- the block in which a group's owner stands
abbrev pub owner_block : ℕ → ℕ
owner_block g = 15 + g / 256

pub row_block_high : (s : ℕ) → s < 16 → row_block s < 15
row_block_high s low = let q = div_below s 4 4 (omega arith) (omega (arith, low)) in omega (arith, q)

pub owner_block_high : (g : ℕ) → g < 1024 → owner_block g < 19
owner_block_high g low = let q = div_below g 256 4 (omega arith) (omega (arith, low)) in omega (arith, q)

-- a row is what its block says
module _ (m n : ℕ → List ℕ) (s : ℕ) (same : n (row_block s) ≡ m (row_block s)) where
  pub same_mark : mark_at n s ≡ mark_at m s
  same_mark = rw same refl

  pub same_text : text_at n s ≡ text_at m s
  same_text = rw same refl

  pub same_row : (slots : ℕ) → row_in slots n s ≡ row_in slots m s
  same_row slots = rw same refl

  pub same_cube_text : IsCubeText m s → IsCubeText n s
  same_cube_text is = record { some = rw same is.some; few = rw same is.few; path = rw same is.path }

-- and so is an owner
module _ (m n : ℕ → List ℕ) (g : ℕ) (same : n (owner_block g) ≡ m (owner_block g)) where
  pub same_owner : owner_byte n g ≡ owner_byte m g
  same_owner = rw same refl

  pub same_holder : (groups : ℕ) → holder_in groups n g ≡ holder_in groups m g
  same_holder groups = rw same refl

  pub same_ordinal : (groups : ℕ) → ordinal_in groups n g ≡ ordinal_in groups m g
  same_ordinal groups = rw same refl

-- ---- rows that are the same have the same marks and paths

row_marked : (mark : ℕ) (text : List ℕ) → mark ≢ 0 → IsSome (row_of mark text)
row_marked zero text live = absurd (live refl)
row_marked (suc mark) text live = refl

row_live : (mark : ℕ) (text : List ℕ) → IsSome (row_of mark text) → mark ≢ 0
row_live zero text is same = cc is
row_live (suc mark) text is same = omega (arith, same)

abbrev path_or : List ℕ → Option Row → List (List ℕ)
path_or text None = path_names text
path_or text (Some row) = row.path

row_path : (mark other : ℕ) (text words : List ℕ) → mark ≢ 0 → row_of mark text ≡ row_of other words → path_names text ≡ path_names words
row_path zero other text words live same = absurd (live refl)
row_path (suc mark) zero text words live same = absurd (cc same)
row_path (suc mark) (suc other) text words live same = ap (λ (o : Option Row). path_or text o) same

module _ (slots : ℕ) (m n : ℕ → List ℕ) (s : ℕ) (low : s < slots) (same : row_in slots n s ≡ row_in slots m s) where
  in_image : nat_lt s slots ≡ true
  in_image = grind (arith, nat_tests)

  row_texts_same : row_of (mark_at n s) (text_at n s) ≡ row_of (mark_at m s) (text_at m s)
  row_texts_same =
      subst (λ b. (if b then row_of (mark_at n s) (text_at n s) else None) ≡ (if b then row_of (mark_at m s) (text_at m s) else None)) in_image same

  live_too : mark_at n s ≢ 0 → mark_at m s ≢ 0
  live_too live = row_live (mark_at m s) (text_at m s) (subst (λ (o : Option Row). IsSome o) row_texts_same (row_marked (mark_at n s) (text_at n s) live))

  path_too : mark_at n s ≢ 0 → path_names (text_at n s) ≡ path_names (text_at m s)
  path_too live = row_path (mark_at n s) (mark_at m s) (text_at n s) (text_at m s) live row_texts_same

-- ---- maps with the same table blocks

-- rows are what their four blocks say
module _ (slots : ℕ) (few : slots ≤ 16) (m n : ℕ → List ℕ) (same : (k : ℕ) → 11 ≤ k → k < 15 → n k ≡ m k) where
  row_here : (s : ℕ) → s < 16 → n (row_block s) ≡ m (row_block s)
  row_here s low = same (row_block s) (omega arith) (row_block_high s low)

  pub rows_same : (s : ℕ) → row_in slots n s ≡ row_in slots m s
  rows_same s = by (nat_lt s slots) refl
    where
      by : (b : Bool) → nat_lt s slots ≡ b → row_in slots n s ≡ row_in slots m s
      by false is = rw is refl
      by true is = let low : s < slots = grind (arith, nat_tests) in same_row m n s (row_here s (omega (arith, low, few))) slots

  pub names_same : AreNames slots m → AreNames slots n
  names_same is =
      let mark : (s : ℕ) → s < 16 → _ = λ s low. same_mark m n s (row_here s low) in
      record {
        marks = λ s low. rw (mark s (omega (arith, low, few))) (is.marks s low);
        texts = λ s low live. same_cube_text m n s (row_here s (omega (arith, low, few)))
            (is.texts s low (λ none. live (mark s (omega (arith, low, few)) ∙ none)));
        differ = λ s r less low live other. rw (row_here s (omega (arith, less, low, few)), row_here r (omega (arith, low, few)))
            (is.differ s r less low (λ none. live (mark s (omega (arith, less, low, few)) ∙ none)) (λ none. other (mark r (omega (arith, low, few)) ∙ none)));
        no_more = λ s high low. mark s low ∙ is.no_more s high low;
      }

-- and so are owners
module _ (m n : ℕ → List ℕ) (same : (k : ℕ) → 15 ≤ k → k < 19 → n k ≡ m k) where
  owner_here : (g : ℕ) → g < 1024 → n (owner_block g) ≡ m (owner_block g)
  owner_here g low = same (owner_block g) (omega arith) (owner_block_high g low)

  pub holders_same : (groups g : ℕ) → groups ≤ 1024 → holder_in groups n g ≡ holder_in groups m g
  holders_same groups g few = by (nat_lt g groups) refl
    where
      by : (b : Bool) → nat_lt g groups ≡ b → holder_in groups n g ≡ holder_in groups m g
      by false is = rw is refl
      by true is = let low : g < groups = grind (arith, nat_tests) in same_holder m n g (owner_here g (omega (arith, low, few))) groups

  pub ordinals_same : (groups g : ℕ) → groups ≤ 1024 → ordinal_in groups n g ≡ ordinal_in groups m g
  ordinals_same groups g few = by (nat_lt g groups) refl
    where
      by : (b : Bool) → nat_lt g groups ≡ b → ordinal_in groups n g ≡ ordinal_in groups m g
      by false is = rw is refl
      by true is = let low : g < groups = grind (arith, nat_tests) in same_ordinal m n g (owner_here g (omega (arith, low, few))) groups

  pub owners_same : (t : Tables) → AreOwners t m → AreOwners t n
  owners_same t is = record { live = is.live; groups = is.groups; no_more = λ g high low. same_owner m n g (owner_here g low) ∙ is.no_more g high low }

-- ---- the mixture

-- each block of e is that of q, or that of d, where p and q have the same
abbrev pub Mixed : (d p q e : ℕ → List ℕ) → Type 0
Mixed d p q e = (k : ℕ) → 11 ≤ k → k < 19 → (e k ≡ q k) ⊎ ((e k ≡ d k) × (p k ≡ q k))

module _ (d p q e : ℕ → List ℕ) (mixed : Mixed d p q e) where
  at_row : (s : ℕ) → s < 16 → (e (row_block s) ≡ q (row_block s)) ⊎ ((e (row_block s) ≡ d (row_block s)) × (p (row_block s) ≡ q (row_block s)))
  at_row s low = let high = row_block_high s low in mixed (row_block s) (omega arith) (omega (arith, high))

  at_owner : (g : ℕ) → g < 1024 → (e (owner_block g) ≡ q (owner_block g)) ⊎ ((e (owner_block g) ≡ d (owner_block g)) × (p (owner_block g) ≡ q (owner_block g)))
  at_owner g low = mixed (owner_block g) (omega arith) (owner_block_high g low)

  mixed_row : (slots s : ℕ) → slots ≤ 16 → row_in slots d s ≡ row_in slots p s → row_in slots e s ≡ row_in slots q s
  mixed_row slots s few same = by (nat_lt s slots) refl
    where
      by : (b : Bool) → nat_lt s slots ≡ b → row_in slots e s ≡ row_in slots q s
      by false is = rw is refl
      by true is = let low : s < slots = grind (arith, nat_tests) in ⊎_elim
          (λ here. same_row q e s here slots)
          (λ there. same_row d e s there.0 slots ∙ same ∙ sym (same_row p q s (sym there.1) slots))
          (at_row s (omega (arith, low, few)))

  mixed_holder : (groups g : ℕ) → groups ≤ 1024 → holder_in groups d g ≡ holder_in groups p g → holder_in groups e g ≡ holder_in groups q g
  mixed_holder groups g few same = by (nat_lt g groups) refl
    where
      by : (b : Bool) → nat_lt g groups ≡ b → holder_in groups e g ≡ holder_in groups q g
      by false is = rw is refl
      by true is = let low : g < groups = grind (arith, nat_tests) in ⊎_elim
          (λ here. same_holder q e g here groups)
          (λ there. same_holder d e g there.0 groups ∙ same ∙ sym (same_holder p q g (sym there.1) groups))
          (at_owner g (omega (arith, low, few)))

  mixed_ordinal : (groups g : ℕ) → groups ≤ 1024 → ordinal_in groups d g ≡ ordinal_in groups p g → ordinal_in groups e g ≡ ordinal_in groups q g
  mixed_ordinal groups g few same = by (nat_lt g groups) refl
    where
      by : (b : Bool) → nat_lt g groups ≡ b → ordinal_in groups e g ≡ ordinal_in groups q g
      by false is = rw is refl
      by true is = let low : g < groups = grind (arith, nat_tests) in ⊎_elim
          (λ here. same_ordinal q e g here groups)
          (λ there. same_ordinal d e g there.0 groups ∙ same ∙ sym (same_ordinal p q g (sym there.1) groups))
          (at_owner g (omega (arith, low, few)))

  module _ (slots : ℕ) (few : slots ≤ 16) (old : AreNames slots d) (new : AreNames slots q) (same : (s : ℕ) → row_in slots e s ≡ row_in slots q s) where
    mixed_names : AreNames slots e
    mixed_names = record {
      marks = λ s low. ⊎_elim
          (λ here. subst (λ x. x ≤ 2) (sym (same_mark q e s here)) (new.marks s low))
          (λ there. subst (λ x. x ≤ 2) (sym (same_mark d e s there.0)) (old.marks s low))
          (at_row s (omega (arith, low, few)));
      texts = λ s low live. ⊎_elim
          (λ here. same_cube_text q e s here (new.texts s low (subst (λ x. x ≢ 0) (same_mark q e s here) live)))
          (λ there. same_cube_text d e s there.0 (old.texts s low (subst (λ x. x ≢ 0) (same_mark d e s there.0) live)))
          (at_row s (omega (arith, low, few)));
      differ = λ s r less low live other both. new.differ s r less low
          (live_too slots q e s (omega (arith, less, low)) (same s) live) (live_too slots q e r low (same r) other)
          (sym (path_too slots q e s (omega (arith, less, low)) (same s) live) ∙ both ∙ path_too slots q e r low (same r) other);
      no_more = λ s high low. ⊎_elim
          (λ here. same_mark q e s here ∙ new.no_more s high low)
          (λ there. same_mark d e s there.0 ∙ old.no_more s high low)
          (at_row s low);
    }

  mixed_owners : (t u : Tables) → u.groups ≡ t.groups → AreOwners t d → AreOwners u q → AreOwners u e
  mixed_owners t u image old new = record {
    live = new.live;
    groups = new.groups;
    no_more = λ g high low. ⊎_elim
        (λ here. same_owner q e g here ∙ new.no_more g high low)
        (λ there. same_owner d e g there.0 ∙ old.no_more g (omega (arith, high, image)) low)
        (at_owner g low);
  }

  -- blocks that said t, with those that change as they are in blocks that say u, say u
  pub mixed_says : (t u : Tables) → u.slots ≡ t.slots → u.groups ≡ t.groups → t.slots ≤ 16 → t.groups ≤ 1024 → SayTables t d
      → SayTables t p → SayTables u q → SayTables u e
  mixed_says t u slots image few most disk before after =
      let rows_before : (s : ℕ) → row_in u.slots d s ≡ row_in u.slots p s = rw slots (λ s. disk.rows s ∙ sym (before.rows s)) in
      let holders_before : (g : ℕ) → holder_in u.groups d g ≡ holder_in u.groups p g = rw image (λ g. disk.holders g ∙ sym (before.holders g)) in
      let ordinals_before : (g : ℕ) → ordinal_in u.groups d g ≡ ordinal_in u.groups p g = rw image (λ g. disk.ordinals g ∙ sym (before.ordinals g)) in
      let few_here : u.slots ≤ 16 = omega (arith, slots, few) in
      let most_here : u.groups ≤ 1024 = omega (arith, image, most) in
      let rows_after : (s : ℕ) → row_in u.slots e s ≡ row_in u.slots q s = λ s. mixed_row u.slots s few_here (rows_before s) in
      record {
        rows = λ s. rows_after s ∙ after.rows s;
        holders = λ g. mixed_holder u.groups g most_here (holders_before g) ∙ after.holders g;
        ordinals = λ g. mixed_ordinal u.groups g most_here (ordinals_before g) ∙ after.ordinals g;
        names = mixed_names u.slots few_here (subst (λ n. AreNames n d) (sym slots) disk.names) after.names rows_after;
        owners = mixed_owners t u image disk.owners after.owners;
      }
