-- What the images that a crash leaves have, once their table blocks are known.
use Rattle.std.proofs.Common.{◌≡◌, ◌∙◌, ◌≤◌, ◌<◌, inl, inr, ⊎_elim, ℕ, true, List, Option, Some, refl, sym, ap, subst, arith}
use Rattle.std.specs.Prelude.{unwrap_or}
use Rattle.std.proofs.Math.Path.{fun_ext}
use Rattle.std.proofs.lemmas.Bool.Decides.{nat_tests}
use Rattle.ice_base.specs.Disk.{Image, block}
use Rattle.ice_layout.specs.Headers.{is_table}
use Rattle.ice_layout.specs.Supers.{super_fault, super_of}
use Rattle.ice_layout.specs.declared.superblock.Super.{Super}
use Rattle.ice_tables.specs.Journals.{in_tables, table_blocks}
use Rattle.ice_tables.specs.Tables.{Tables, Row, HasTables, tables_in, row_in, holder_in, ordinal_in}
use Rattle.ice_tables.specs.Lots.{AtRest}
use Rattle.ice_tables.proofs.Groups.{super_few}
use Rattle.ice_tables.proofs.JournalLaws.{table_blocks_homes}
use Rattle.ice_txn.specs.declared.set.Entry.{Entry}
use Rattle.ice_txn.specs.Sets.{over}
use Rattle.ice_system.specs.Says.{SayTables}
use Rattle.ice_system.specs.Changes.{HasChanges}
use Rattle.ice_system.proofs.Mixing.{Mixed, mixed_says}

-- ---- the effective blocks of the tables

pub table-here : (k : ℕ) → 11 ≤ k → k < 19 → is_table k ≡ true
table-here k low high = grind (arith, nat_tests)

-- a map, where only the table blocks count
pub in-tables-here : (m : ℕ → List ℕ) (k : ℕ) → 11 ≤ k → k < 19 → in_tables m k ≡ m k
in-tables-here m k low high = rw (table-here k low high) refl

-- ---- tables, and blocks that say them

-- an image with the same superblock and the same effective blocks has the same tables
pub still_has : (t : Tables) (i j : Image) → block j 0 ≡ block i 0 → table_blocks j ≡ table_blocks i → HasTables i t → HasTables j t
still_has t i j first tables h = record {
  superblock = ap super_fault first ∙ h.superblock;
  blocks = h.blocks;
  effective = tables ∙ h.effective;
  says = h.says ∙ ap (λ (bytes : List ℕ). tables_in (super_of bytes) h.blocks) (sym first);
  names = h.names;
  owners = h.owners;
}

-- the tables of an image are said by its effective blocks
pub said_tables : (t : Tables) (image : Image) (m : ℕ → List ℕ) → table_blocks image ≡ Some m → HasTables image t → SayTables t m
said_tables t image m is h =
    let same : h.blocks ≡ m = ap (λ o. unwrap_or o m) (sym h.effective ∙ is) in
    subst (λ n. SayTables t n) same (record {
      rows = subst (λ (u : Tables). (s : ℕ) → row_in u.slots h.blocks s ≡ u.row s) (sym h.says) (λ s. refl);
      holders = subst (λ (u : Tables). (g : ℕ) → holder_in u.groups h.blocks g ≡ u.holder g) (sym h.says) (λ g. refl);
      ordinals = subst (λ (u : Tables). (g : ℕ) → ordinal_in u.groups h.blocks g ≡ u.ordinal g) (sym h.says) (λ g. refl);
      names = h.names;
      owners = h.owners;
    })

-- an image has few slots and groups
pub few_of : (t : Tables) (image : Image) → HasTables image t → (t.slots ≤ 16) × (t.groups ≤ 1024)
few_of t image h = subst (λ (u : Tables). (u.slots ≤ 16) × (u.groups ≤ 1024)) (sym h.says) (super_few (block image 0) h.superblock)

-- tables with the same parts are the same
abbrev with_parts : (slots groups : ℕ) (row : ℕ → Option Row) (holder : ℕ → Option ℕ) (ordinal : ℕ → ℕ) → Tables
with_parts slots groups row holder ordinal = record { slots = slots; groups = groups; row = row; holder = holder; ordinal = ordinal }

pub tables_same : (a b : Tables) → a.slots ≡ b.slots → a.groups ≡ b.groups → ((s : ℕ) → a.row s ≡ b.row s) → ((g : ℕ) → a.holder g ≡ b.holder g)
    → ((g : ℕ) → a.ordinal g ≡ b.ordinal g) → a ≡ b
tables_same a b slots groups row holder ordinal =
    made a.slots b.slots a.groups b.groups a.row b.row a.holder b.holder a.ordinal b.ordinal slots groups (fun_ext row) (fun_ext holder) (fun_ext ordinal)
  where
    made : (a b c d : ℕ) (e f : ℕ → Option Row) (h i : ℕ → Option ℕ) (j k : ℕ → ℕ) → a ≡ b → c ≡ d → e ≡ f → h ≡ i → j ≡ k
        → with_parts a c e h j ≡ with_parts b d f i k
    made a b c d e f h i j k p q r s t = rw (p, q, r, s, t) refl

next_says : (u : Tables) (sup : Super) (m : ℕ → List ℕ) → u.slots ≡ sup.slots → u.groups ≡ sup.groups → SayTables u m → u ≡ tables_in sup m
next_says u sup m slots groups say = tables_same u (tables_in sup m) slots groups
    (λ s. sym (subst (λ n. row_in n m s ≡ u.row s) slots (say.rows s)))
    (λ g. sym (subst (λ n. holder_in n m g ≡ u.holder g) groups (say.holders g)))
    (λ g. sym (subst (λ n. ordinal_in n m g ≡ u.ordinal g) groups (say.ordinals g)))

-- an image whose blocks say the tables has them
pub has_said : (t u : Tables) (i j : Image) (m : ℕ → List ℕ) → HasTables i t → block j 0 ≡ block i 0 → u.slots ≡ t.slots
    → u.groups ≡ t.groups → table_blocks j ≡ Some m → SayTables u m → HasTables j u
has_said t u i j m h first slots groups is say =
    let sizes : (t.slots ≡ (super_of (block j 0)).slots) × (t.groups ≡ (super_of (block j 0)).groups) =
    subst (λ (bytes : List ℕ). (t.slots ≡ (super_of bytes).slots) × (t.groups ≡ (super_of bytes).groups)) (sym first)
    (ap (λ (x : Tables). x.slots) h.says, ap (λ (x : Tables). x.groups) h.says) in
    record {
      superblock = ap super_fault first ∙ h.superblock;
      blocks = m;
      effective = is;
      says = next_says u (super_of (block j 0)) m (slots ∙ sizes.0) (groups ∙ sizes.1) say;
      names = say.names;
      owners = say.owners;
    }

-- ---- a change

-- the tables that a change makes of those at rest in an image, in one with the changed blocks
pub now_has : (t u : Tables) (entries : List Entry) (i j : Image) → u.slots ≡ t.slots → u.groups ≡ t.groups → HasChanges t u entries → AtRest t i
    → block j 0 ≡ block i 0 → table_blocks j ≡ Some (in_tables (over entries (block i))) → HasTables j u
now_has t u entries i j slots groups change rest first is =
    let here : SayTables t (in_tables (block i)) = said_tables t i (in_tables (block i)) (table_blocks_homes i rest.closed) rest.has in
    let few = few_of t i rest.has in
    has_said t u i j (in_tables (over entries (block i))) rest.has first slots groups is
    (mixed_says (in_tables (block i)) change.old change.new
    (in_tables (over entries (block i))) mixed t u slots groups few.0 few.1 here change.before change.after)
  where
    mixed : Mixed (in_tables (block i)) change.old change.new (in_tables (over entries (block i)))
    mixed k low high = ⊎_elim
        (λ put. inl (in-tables-here (over entries (block i)) k low high ∙ put))
        (λ left. inr (in-tables-here (over entries (block i)) k low high ∙ left.0 ∙ sym (in-tables-here (block i) k low high), left.1))
        (change.changed (block i) k low high)
