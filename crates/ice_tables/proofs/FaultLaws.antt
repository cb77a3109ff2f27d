-- An image has tables, or one first fault.
use Rattle.std.proofs.Common.{◌≡◌, ◌∙◌, inl, inr, ℕ, Bool, true, false, List, Option, Some, None, refl, sym, ap, subst}
use Rattle.std.specs.Prelude.{◌==◌, unwrap_or, not, if◌then◌else◌}
use Rattle.ice_base.specs.Disk.{Image, block}
use Rattle.ice_base.specs.Fields.{word_at}
use Rattle.ice_layout.specs.Geometry.{total_blocks, zero_from, between}
use Rattle.ice_layout.specs.Supers.{super_fault, super_magic, super_of}
use Rattle.ice_layout.specs.declared.superblock.Super.{Super}
use Rattle.ice_layout.specs.declared.superblock.LayoutFault.{LayoutFault}
use Rattle.ice_layout.specs.declared.superblock.LayoutFault.TheVariants.{Magic, Version, Slots, Groups, Total, Zero, Names, Owners, Header}
use Rattle.ice_tables.specs.Journals.{table_blocks}
use Rattle.ice_tables.specs.Tables.{Tables, HasTables, AreNames, AreOwners, FirstFault, tables_in}
use Rattle.ice_tables.proofs.Decisions.{Decided, names_decided, owners_decided}

-- ---- the faults of a superblock

-- a fault that a superblock may have
abbrev OfSuper : LayoutFault → Bool
OfSuper Names = false
OfSuper Owners = false
OfSuper Header = false
OfSuper fault = true

some_is : (f g : LayoutFault) → Some g ≡ Some f → OfSuper g ≡ true → OfSuper f ≡ true
some_is f g e is = subst (λ (h : LayoutFault). OfSuper h ≡ true) (ap (λ (o : Option LayoutFault). unwrap_or o g) e) is

first_of : (a b c d e h : Bool) (f : LayoutFault)
    → (if not a then Some Magic else if not b then Some Version else if not c then Some Slots
    else if not d then Some Groups else if not e then Some Total else if not h then Some Zero else None) ≡ Some f
    → OfSuper f ≡ true
first_of true true true true true true f is = absurd (cc is)
first_of true true true true true false f is = some_is f Zero is refl
first_of true true true true false h f is = some_is f Total is refl
first_of true true true false e h f is = some_is f Groups is refl
first_of true true false d e h f is = some_is f Slots is refl
first_of true false c d e h f is = some_is f Version is refl
first_of false b c d e h f is = some_is f Magic is refl

super_only : (bytes : List ℕ) (f : LayoutFault) → super_fault bytes ≡ Some f → OfSuper f ≡ true
unfolding super_fault
super_only bytes f is =
    first_of (word_at bytes 0 == super_magic) (word_at bytes 4 == 1) (between 1 16 (word_at bytes 8)) (between 1 1024 (word_at bytes 12))
    (word_at bytes 16 == total_blocks (word_at bytes 8) (word_at bytes 12)) (zero_from 20 bytes) f is

-- such a fault is the first
super_first : (image : Image) (f : LayoutFault) → OfSuper f ≡ true → super_fault (block image 0) ≡ Some f → FirstFault image f
super_first image Magic of is = is
super_first image Version of is = is
super_first image Slots of is = is
super_first image Groups of is = is
super_first image Total of is = is
super_first image Zero of is = is
super_first image Names of is = absurd (cc of)
super_first image Owners of is = absurd (cc of)
super_first image Header of is = absurd (cc of)

-- ---- an image without tables

-- the effective blocks of the tables, where there are any and the superblock is right
module _ (image : Image) (right : super_fault (block image 0) ≡ None) (without : (t : Tables) → ¬ HasTables image t) where
  -- the numbers of slots and groups
  abbrev sup : Super
  sup = super_of (block image 0)

  of_blocks : (m : ℕ → List ℕ) → table_blocks image ≡ Some m → Decided (AreNames sup.slots m)
      → Decided (AreOwners (tables_in sup m) m) → (f : LayoutFault) × FirstFault image f
  of_blocks m shown (inr bad) owners = (Names, (right, record { blocks = m; effective = shown; names = bad }))
  of_blocks m shown (inl names) (inr bad) = (Owners, (right, record { blocks = m; effective = shown; names = names; owners = bad }))
  of_blocks m shown (inl names) (inl owners) =
      absurd (without (tables_in sup m) (record { superblock = right; blocks = m; effective = shown; says = refl; names = names; owners = owners }))

  of_tables : (o : Option (ℕ → List ℕ)) → table_blocks image ≡ o → (f : LayoutFault) × FirstFault image f
  of_tables None shown = (Header, (right, shown))
  of_tables (Some m) shown = of_blocks m shown (names_decided sup.slots m) (owners_decided sup m)

-- an image without tables has a first fault
pub without_tables : (image : Image) → ((t : Tables) → ¬ HasTables image t) → (f : LayoutFault) × FirstFault image f
without_tables image without = by (super_fault (block image 0)) refl
  where
    by : (o : Option LayoutFault) → super_fault (block image 0) ≡ o → (f : LayoutFault) × FirstFault image f
    by (Some f) is = (f, super_first image f (super_only (block image 0) f is) is)
    by None is = of_tables image is without (table_blocks image) refl

-- ---- an image with tables

same_blocks : (image : Image) (m k : ℕ → List ℕ) → table_blocks image ≡ Some m → table_blocks image ≡ Some k → m ≡ k
same_blocks image m k a b = ap (λ o. unwrap_or o m) (sym a ∙ b)

-- an image with tables has no fault
pub with_tables : (image : Image) (t : Tables) (f : LayoutFault) → HasTables image t → ¬ FirstFault image f
with_tables image t Magic h is = cc (h.superblock, is)
with_tables image t Version h is = cc (h.superblock, is)
with_tables image t Slots h is = cc (h.superblock, is)
with_tables image t Groups h is = cc (h.superblock, is)
with_tables image t Total h is = cc (h.superblock, is)
with_tables image t Zero h is = cc (h.superblock, is)
with_tables image t Header h is = cc (h.effective, is.1)
with_tables image t Names h is =
    let names = subst (λ (u : Tables). AreNames u.slots h.blocks) h.says h.names in
    let same = same_blocks image h.blocks (is.1).blocks h.effective (is.1).effective in
    (is.1).names (subst (λ (m : ℕ → List ℕ). AreNames (super_of (block image 0)).slots m) same names)
with_tables image t Owners h is =
    let owners = subst (λ (u : Tables). AreOwners u h.blocks) h.says h.owners in
    let same = same_blocks image h.blocks (is.1).blocks h.effective (is.1).effective in
    (is.1).owners (subst (λ (m : ℕ → List ℕ). AreOwners (tables_in (super_of (block image 0)) m) m) same owners)
