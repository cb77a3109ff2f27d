-- Names and owners of tables are sound or not: what they say is said of finitely many slots and groups.
use Rattle.std.proofs.Common.{◌≡◌, ◌≢◌, ◌≤◌, ◌<◌, ◌⊎◌, inl, inr, ℕ, zero, suc, Bool, true, false, List, Option, Some, None, refl, sym, ap, subst, arith}
use Rattle.std.specs.Prelude.{Decides, IsSome, unwrap_or, bytes_eq}
use Rattle.std.proofs.lemmas.Bool.Decides.{not_from_Decides, leb_tells, eqb_tells}
use Rattle.std.proofs.lemmas.Slice.Eq.{slice_eq-Decides, bytes_eq-Decides}
use Rattle.ice_layout.specs.declared.superblock.Super.{Super}
use Rattle.ice_path.specs.Paths.{path_names, path_fault}
use Rattle.ice_tables.specs.Tables.{Tables, tables_in, mark_at, length_at, text_at, owner_byte, IsCubeText, AreNames, HasGroups, AreOwners}
use Rattle.ice_tables.proofs.Groups.{holder_low_in}
use Rattle.ice_tables.proofs.TableLaws.{row_low_in}

-- ---- statements that hold or not

-- it holds, or it does not
abbrev pub Decided : Type 0 → Type 0
Decided P = P ⊎ ¬ P

both : {P Q : Type 0} → Decided P → Decided Q → Decided (P × Q)
both (inl p) (inl q) = inl (p, q)
both (inl p) (inr never) = inr (λ h. never h.1)
both (inr never) d = inr (λ h. never h.0)

implied : {P Q : Type 0} → Decided P → Decided Q → Decided (P → Q)
implied (inl p) (inl q) = inl (λ h. q)
implied (inl p) (inr never) = inr (λ h. never (h p))
implied (inr never) d = inl (λ p. absurd (never p))

opposite : {P : Type 0} → Decided P → Decided (¬ P)
opposite (inl p) = inr (λ h. h p)
opposite (inr never) = inl never

alike : {P Q : Type 0} → (P → Q) → (Q → P) → Decided P → Decided Q
alike to back (inl p) = inl (to p)
alike to back (inr never) = inr (λ q. never (back q))

tested : {P : Type 0} (b : Bool) → Decides b P → Decided P
tested true d = inl (d.0 refl)
tested false d = inr (not_from_Decides false d refl)

-- ---- statements of all numbers below one, or of some

below-or-last : (k n : ℕ) → k < suc n → (k < n) ⊎ (k ≡ n)
below-or-last k n less = grind arith

all_below : (P : ℕ → Type 0) → ((k : ℕ) → Decided (P k)) → (n : ℕ) → Decided ((k : ℕ) → k < n → P k)
all_below P each zero = inl (λ k less. absurd (omega (arith, less)))
all_below P each (suc n) = by (all_below P each n) (each n)
  where
    by : Decided ((k : ℕ) → k < n → P k) → Decided (P n) → Decided ((k : ℕ) → k < suc n → P k)
    by (inl before) (inl here) = inl (λ k less. elim (below-or-last k n less) [
      | inl low ↦ before k low
      | inr last ↦ subst P (sym last) here
    ])
    by (inl before) (inr never) = inr (λ all. never (all n (omega arith)))
    by (inr never) d = inr (λ all. never (λ k less. all k (omega (arith, less))))

some_below : (P : ℕ → Type 0) → ((k : ℕ) → Decided (P k)) → (n : ℕ) → Decided ((k : ℕ) × (k < n) × P k)
some_below P each zero = inr (λ one. let less = one.1 in omega (arith, less))
some_below P each (suc n) = by (some_below P each n) (each n)
  where
    by : Decided ((k : ℕ) × (k < n) × P k) → Decided (P n) → Decided ((k : ℕ) × (k < suc n) × P k)
    by (inl one) d = let less = one.1 in inl (one.0, omega (arith, less), one.2)
    by (inr never) (inl here) = inl (n, omega arith, here)
    by (inr never) (inr not_here) = inr (λ one. elim (below-or-last one.0 n one.1) [
      | inl low ↦ never (one.0, low, one.2)
      | inr last ↦ not_here (subst P last one.2)
    ])

-- ---- numbers, options, paths

is-at-most : (a b : ℕ) → Decided (a ≤ b)
is-at-most a b = elim (leb_tells a b) [
  | inl h ↦ inl h.1
  | inr h ↦ inr (λ (le : a ≤ b). let less = h.1 in omega (arith, le, less))
]

is-number : (a b : ℕ) → Decided (a ≡ b)
is-number a b = elim (eqb_tells a b) [
  | inl h ↦ inl h.1
  | inr h ↦ inr h.1
]

is-none : {X : Type 0} (o : Option X) → Decided (o ≡ None)
is-none None = inl refl
is-none (Some x) = inr (λ e. cc e)

is-there : {X : Type 0} (o : Option X) → Decided (IsSome o)
is-there None = inr (λ e. cc e)
is-there (Some x) = inl refl

is-held : (o : Option ℕ) (s : ℕ) → Decided (o ≡ Some s)
is-held None s = inr (λ e. cc e)
is-held (Some r) s = alike (λ e. ap (λ (k : ℕ). Some k) e) (λ e. ap (λ (o : Option ℕ). unwrap_or o r) e) (is-number r s)

is-path : (p q : List (List ℕ)) → Decided (p ≡ q)
is-path p q = tested _ (slice_eq-Decides {E = bytes_eq} bytes_eq-Decides p q _ refl)

-- ---- names

text_decided : (m : ℕ → List ℕ) (s : ℕ) → Decided (IsCubeText m s)
text_decided m s =
    alike (λ h. record { some = h.0; few = h.1.0; path = h.1.1 }) (λ h. (h.some, (h.few, h.path)))
    (both (is-at-most 1 (length_at m s)) (both (is-at-most (length_at m s) 199) (is-none (path_fault (text_at m s)))))

-- a slot is not free
taken : (m : ℕ → List ℕ) (s : ℕ) → Decided (mark_at m s ≢ 0)
taken m s = opposite (is-number (mark_at m s) 0)

-- two slots that are not free have paths that differ
abbrev Apart : (ℕ → List ℕ) → ℕ → ℕ → Type 0
Apart m s r = mark_at m s ≢ 0 → mark_at m r ≢ 0 → path_names (text_at m s) ≢ path_names (text_at m r)

apart_decided : (m : ℕ → List ℕ) (s r : ℕ) → Decided (Apart m s r)
apart_decided m s r = implied (taken m s) (implied (taken m r) (opposite (is-path (path_names (text_at m s)) (path_names (text_at m r)))))

-- the names of the tables are sound or not
pub names_decided : (slots : ℕ) (m : ℕ → List ℕ) → Decided (AreNames slots m)
names_decided slots m =
    alike (λ h. record { marks = h.0; texts = h.1.0; differ = λ s r less low. h.1.1.0 r low s less; no_more = λ s high low. h.1.1.1 s low high })
    (λ h. (h.marks, (h.texts, (λ r low s less. h.differ s r less low, λ s low high. h.no_more s high low))))
    (both (all_below (λ s. mark_at m s ≤ 2) (λ s. is-at-most (mark_at m s) 2) slots)
    (both (all_below (λ s. mark_at m s ≢ 0 → IsCubeText m s) (λ s. implied (taken m s) (text_decided m s)) slots)
    (both (all_below (λ r. (s : ℕ) → s < r → Apart m s r) (λ r. all_below (λ s. Apart m s r) (λ s. apart_decided m s r) r) slots)
    (all_below (λ s. slots ≤ s → mark_at m s ≡ 0) (λ s. implied (is-at-most slots s) (is-number (mark_at m s) 0)) 16))))

-- ---- owners

module _ (t : Tables) (held_low : (g s : ℕ) → t.holder g ≡ Some s → g < t.groups) (live_low : (s : ℕ) → IsSome (t.row s) → s < t.slots) where
  -- group g has ordinal o in slot s
  abbrev Has : ℕ → ℕ → ℕ → Type 0
  Has s o g = (t.holder g ≡ Some s) × (t.ordinal g ≡ o)

  -- the groups g and h have no common place in slot s
  abbrev Once : ℕ → ℕ → ℕ → Type 0
  Once s g h = t.holder g ≡ Some s → t.holder h ≡ Some s → t.ordinal g ≡ t.ordinal h → g ≡ h

  once_decided : (s g h : ℕ) → Decided (Once s g h)
  once_decided s g h =
      let same = implied (is-number (t.ordinal g) (t.ordinal h)) (is-number g h) in
      implied (is-held (t.holder g) s) (implied (is-held (t.holder h) s) same)

  has_one_decided : (s o : ℕ) → Decided ((g : ℕ) × (g < t.groups) × Has s o g)
  has_one_decided s o = some_below (λ g. Has s o g) (λ g. both (is-held (t.holder g) s) (is-number (t.ordinal g) o)) t.groups

  has_decided : (s n : ℕ) → Decided (HasGroups t s n)
  has_decided s n =
      let below = all_below (λ g. t.holder g ≡ Some s → t.ordinal g < n) (λ g. implied (is-held (t.holder g) s) (is-at-most (suc (t.ordinal g)) n)) t.groups in
      let each = all_below (λ o. (g : ℕ) × (g < t.groups) × Has s o g) (λ o. has_one_decided s o) n in
      let once = all_below (λ g. (h : ℕ) → h < t.groups → Once s g h) (λ g. all_below (λ h. Once s g h) (λ h. once_decided s g h) t.groups) t.groups in
      alike (λ h. record {
        some = h.0;
        few = h.1.0;
        below = λ g held. h.1.1.0 g (held_low g s held) held;
        each = λ o less. let one = h.1.1.1.0 o less in (one.0, one.2.0, one.2.1);
        once = λ g k held keeps same. h.1.1.1.1 g (held_low g s held) k (held_low k s keeps) held keeps same;
      })
      (λ h. (h.some, (h.few, (λ g low. h.below g, (λ o less. placed (h.each o less), λ g low k less. h.once g k)))))
      (both (is-at-most 1 n) (both (is-at-most n 64) (both below (both each once))))
    where
      placed : {o : ℕ} → (g : ℕ) × (t.holder g ≡ Some s) × (t.ordinal g ≡ o) → (g : ℕ) × (g < t.groups) × Has s o g
      placed one = (one.0, held_low one.0 s one.1, (one.1, one.2))

  groups_decided : (s : ℕ) → Decided ((n : ℕ) × HasGroups t s n)
  groups_decided s =
      alike (λ one. (one.0, one.2)) (λ one. let few = (one.1).few in (one.0, omega (arith, few), one.1))
      (some_below (λ n. HasGroups t s n) (λ n. has_decided s n) 65)

  live_decided : (g : ℕ) → Decided ((s : ℕ) → t.holder g ≡ Some s → IsSome (t.row s))
  live_decided g = by (t.holder g)
    where
      by : (o : Option ℕ) → Decided ((s : ℕ) → o ≡ Some s → IsSome (t.row s))
      by None = inl (λ s e. absurd (cc e))
      by (Some r) = alike (λ h s e. subst (λ (k : ℕ). IsSome (t.row k)) (ap (λ (o : Option ℕ). unwrap_or o r) e) h) (λ h. h r refl) (is-there (t.row r))

  owners_of_decided : (m : ℕ → List ℕ) → Decided (AreOwners t m)
  owners_of_decided m =
      let live = all_below (λ g. (s : ℕ) → t.holder g ≡ Some s → IsSome (t.row s)) live_decided t.groups in
      let groups = all_below (λ s. IsSome (t.row s) → (n : ℕ) × HasGroups t s n) (λ s. implied (is-there (t.row s)) (groups_decided s)) t.slots in
      let no_more = all_below (λ g. t.groups ≤ g → owner_byte m g ≡ 0) (λ g. implied (is-at-most t.groups g) (is-number (owner_byte m g) 0)) 1024 in
      alike (λ h. record {
        live = λ g s held. h.0 g (held_low g s held) s held;
        groups = λ s has. h.1.0 s (live_low s has) has;
        no_more = λ g high low. h.1.1 g low high;
      })
      (λ h. (λ g low s. h.live g s, (λ s low. h.groups s, λ g low high. h.no_more g high low)))
      (both live (both groups no_more))

-- the owners of the tables are sound or not
pub owners_decided : (sup : Super) (m : ℕ → List ℕ) → Decided (AreOwners (tables_in sup m) m)
owners_decided sup m = owners_of_decided (tables_in sup m) (holder_low_in sup m) (row_low_in sup m) m
