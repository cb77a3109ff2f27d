-- What is found of a sound cube in a world that the image opens: the tree and the count that the image records.
use Rattle.std.proofs.Common.{◌≡◌, ◌≢◌, ◌∙◌, ◌≤◌, ℕ, ◌+◌, ◌-◌, ◌++◌, length, take, Option, Some, sym, ap, subst, arith}
use Rattle.std.specs.Prelude.{unwrap_or}
use Rattle.std.specs.Option.{option_map}
use Rattle.ice_base.specs.Disk.{Image}
use Rattle.ice_base.specs.Lots.{LotView}
use Rattle.tree_spec.specs.Trees.{Tree}
use Rattle.tree_spec.specs.Costs.{Form}
use Rattle.tree_spec.specs.Answers.{tree_after}
use Rattle.tree_spec.specs.Records.{Cube, Sound, History, fresh, floor, tree_at}
use Rattle.tree_spec.specs.World.{World, slot_with_path}
use Rattle.ice_tables.specs.Tables.{Tables, HasTables}
use Rattle.ice_tables.specs.Lots.{lot_of}
use Rattle.ice_images.specs.Recovering.{Recovers}
use Rattle.ice_images.specs.Fitting.{Entry, entry_at, cube_entry}
use Rattle.ice_images.specs.Opening.{OpensContent, OpensCube, Opens}
use Rattle.ice_images.specs.Reopening.{Reopened, CubeReopens, ContentReopens, ReopensBut}
use Rattle.ice_headline.specs.Later.{FirstAccepted, IsFound}
use Rattle.ice_headline.proofs.Histories.{tree_first}
use Rattle.ice_headline.proofs.Slots.{slot_found}

-- the first accepted commands of a count from the floor on
pub first_accepted : (h : History) (j : ℕ) → j ≤ length h.since → FirstAccepted h (floor h + j) (tree_at h j)
first_accepted h j few =
    let far : length h.sure + j ≡ floor h + j - h.from = omega arith in
    record { base = omega arith; few = omega (arith, few); tree = tree_first h j ∙ ap (λ n. tree_after (take n (h.sure ++ h.since)) h.base) far }

-- a sound cube, in a world that the image opens
pub record FoundAt (x : ℕ) (c : Cube) (h : History) (i : Image) (u : World) : Type 0 where
  pub tables : Tables
  pub has : HasTables i tables
  pub row : entry_at tables x ≡ Some (cube_entry c)
  pub more : ℕ
  pub few : more ≤ length h.since
  pub cube : Cube
  pub there : u.cube x ≡ Some cube
  pub found : IsFound c (tree_at h more) (floor h + more) cube
  pub records : Recovers (lot_of tables x) i c.form cube.mode (tree_at h more) (floor h + more)
  pub slot : slot_with_path u c.path ≡ Some x

sound_reopens : (o : Option Cube) (p : Option Cube) (c : Cube) (h : History) → CubeReopens o p → o ≡ Some c → c.content ≡ Sound h
    → (d : Cube) × (p ≡ Some d) × Reopened c h d
sound_reopens o p c h r there is = subst (λ x. ContentReopens c x p) is (subst (λ y. CubeReopens y p) there r)

same_entry : (p o : Option Cube) (d c : Cube) → option_map cube_entry p ≡ option_map cube_entry o → p ≡ Some d → o ≡ Some c
    → cube_entry d ≡ cube_entry c
same_entry p o d c same here there =
    let is : Some (cube_entry d) ≡ Some (cube_entry c) = sym (ap (option_map cube_entry) here) ∙ same ∙ ap (option_map cube_entry) there in
    ap (λ (e : Option Entry). unwrap_or e (cube_entry c)) is

-- the lot recovers what the record has
opened_recovers : (lot : LotView) (i : Image) (o : Option Cube) (d : Cube) (t : Tree) (k : ℕ) → OpensCube lot i o → o ≡ Some d
    → d.content ≡ Sound (fresh t k) → Recovers lot i d.form d.mode t k
opened_recovers lot i o d t k opens there is =
    let cube : OpensCube lot i (Some d) = subst (OpensCube lot i) there opens in
    let content : OpensContent lot i d (Sound (fresh t k)) = subst (OpensContent lot i d) is cube.1 in
    content.2

-- a sound cube of the world that was reached, but for that of one slot, is found
pub found_at : (s : ℕ) (v u : World) (i : Image) (x : ℕ) (c : Cube) (h : History) → ReopensBut s v u → Opens i u → x ≢ s → v.cube x ≡ Some c
    → c.content ≡ Sound h → FoundAt x c h i u
found_at s v u i x c h reopens opens other there is =
    let d = sound_reopens (v.cube x) (u.cube x) c h (reopens.cubes x other) there is in
    let entry = same_entry (u.cube x) (v.cube x) d.0 c (reopens.entries x) d.1 there in
    let path : d.0.path ≡ c.path = ap (λ (e : Entry). e.path) entry in
    let t = tree_at h d.2.taken in
    let k = floor h + d.2.taken in
    let lot = lot_of opens.tables x in
    record {
      tables = opens.tables;
      has = opens.has;
      row = opens.shows.entries x ∙ ap (option_map cube_entry) d.1 ∙ ap (λ e. Some e) entry;
      more = d.2.taken;
      few = d.2.few;
      cube = d.0;
      there = d.1;
      found = record { path = path; groups = ap (λ (e : Entry). e.groups) entry; form = d.2.form; state = d.2.state; content = d.2.content };
      records = subst (λ (f : Form). Recovers lot i f d.0.mode t k) d.2.form (opened_recovers lot i (u.cube x) d.0 t k (opens.cubes x) d.1 d.2.content);
      slot = ap (slot_with_path u) (sym path) ∙ slot_found i opens.tables u x d.0 opens.has opens.shows d.1;
    }
