-- The headline follows from the clauses of sessions.
use Rattle.std.proofs.Common.{◌≡◌, ◌≢◌, ◌∙◌, ◌≤◌, ⊎_elim, ℕ, ◌+◌, Bool, true, false, List, [], ◌∷◌, Option, None, Some, refl, sym, ap, subst, arith}
use Rattle.ice_base.specs.Disk.{Image, DiskState}
use Rattle.ice_base.specs.declared.status.Status.{Status}
use Rattle.tree_spec.specs.Lines.{Line, Asks}
use Rattle.tree_spec.specs.Lines as line
use Rattle.tree_spec.specs.Alone.{IsClean}
use Rattle.tree_spec.specs.Trees.{Tree}
use Rattle.tree_spec.specs.Records.{Cube, Sound, History, floor, tree_at, is_offline}
use Rattle.tree_spec.specs.Own.{Mount}
use Rattle.tree_spec.specs.World.{World, At, aim, to_cube}
use Rattle.tree_spec.specs.declared.reply.StateWord.{StateWord}
use Rattle.tree_spec.specs.declared.reply.StateWord.TheVariants.{Offline}
use Rattle.ice_images.specs.Fitting.{Fits, FitsBut}
use Rattle.ice_images.specs.Opening.{Opens, closed_state}
use Rattle.ice_images.specs.Reopening.{ReopensBut}
use Rattle.ice_volume.specs.Sessions.{Starts}
use Rattle.ice_run.specs.Crashes as run
use Rattle.ice_run.specs.Crashes.{Reached, LeftSo, SparesAny, SparesBroken}
use Rattle.ice_run.specs.Runs.{Answered, Runs, end}
use Rattle.ice_run.proofs.Crashes.{after_more}
use Rattle.ice_headline.specs.Acknowledged.{acknowledged_from, Includes}
use Rattle.ice_headline.specs.Later.{Survives, IsFound, Serves, MountsAs, IsOff}
use Rattle.ice_headline.specs.Headline.{Contains, Keeps, After}
use Rattle.ice_headline.proofs.Acknowledged.{run_covers, zero_covers, sound_reached, step_reached}
use Rattle.ice_headline.proofs.Finding.{FoundAt, found_at, first_accepted}
use Rattle.ice_headline.proofs.Including.{includes}
use Rattle.ice_headline.proofs.Resting.{IsClosed, RestsAs, serves}

-- what fits fits but for one cube
fits_but : (v : World) (image damaged : Image) (s : ℕ) → damaged ≡ image → Fits v image → FitsBut s v damaged
fits_but v image damaged s same fits =
    subst (FitsBut s v) (sym same) (record { tables = fits.tables; has = fits.has; room = fits.room; shows = fits.shows; cubes = λ x other. fits.cubes x tt })

-- the floor of a sound cube has reached what the slot's cube acknowledged in the lines that were answered
pub floor_reached : (x : ℕ) (w : World) (script : List Line) (steps : List Answered) (tail : List ℕ) (v : World) (c : Cube) (h : History)
    → Runs w steps → Reached w script steps tail v → v.cube x ≡ Some c → c.content ≡ Sound h
    → acknowledged_from 0 x w steps ≤ floor h
floor_reached x w script steps tail v c h runs reached there is =
    let covers = run_covers 0 x w steps (zero_covers (w.cube x)) runs in
    ⊎_elim (λ e. sound_reached (acknowledged_from 0 x w steps) ((end w steps).cube x) c h covers (subst (λ (y : World). y.cube x ≡ Some c) e there) is)
    (λ p. step_reached (acknowledged_from 0 x w steps) x (end w steps) v p.1.line p.0 c h covers p.1.step there is) reached

closed : (s : StateWord) (off : Bool) → s ≡ closed_state off → IsClosed s
closed s true is = subst IsClosed (sym is) tt
closed s false is = subst IsClosed (sym is) tt

rests_found : (c d : Cube) (t : Tree) (k : ℕ) → IsFound c t k d → RestsAs d t k 0 d
rests_found c d t k found =
    let none : d.groups ≡ d.groups + 0 = omega arith in
    record { path = refl; groups = none; form = refl; mode = refl; state = closed d.state (is_offline c.state) found.state; content = found.content }

some_there : (o : Option Cube) (d : Cube) → o ≡ Some d → o ≢ None
some_there o d is none = absurd (cc (is, none))

not_off : (s t : StateWord) → s ≡ closed_state (is_offline t) → is_offline t ≡ false → s ≢ Offline
not_off s t is on off = absurd (cc (off, is ∙ ap closed_state on))

-- a mount that is the first line
first_mount : (x k : ℕ) (t : Tree) (c d : Cube) (u : World) (a : Answered) (rest : List Answered) → u.cube x ≡ Some d → IsFound c t k d
    → aim u (Asks (line.Mount c.path)) ≡ At x Mount → Serves x k t d u (a ∷ rest)
    → a.line ≡ Asks (line.Mount c.path) → is_offline c.state ≡ false → IsClean a.reply → MountsAs x k t d 0 a rest
first_mount x k t c d u a rest there found told serves is on clean = ⊎_elim
    (λ off. absurd (not_off d.state c.state found.state on (subst IsOff there off.0)))
    (λ m. m)
    (serves.mounts [] rest a refl (some_there (u.cube x) d there) tt (ap (aim u) is ∙ told) clean)

survives : (x : ℕ) (w : World) (steps : List Answered) (c : Cube) (h : History) (i : Image) (u : World) → acknowledged_from 0 x w steps ≤ floor h
    → ((k : ℕ) → floor h ≤ k → Includes x w steps h k) → FoundAt x c h i u → Survives x w steps c h i u
survives x w steps c h i u low all at =
    let k = floor h + at.more in
    let t = tree_at h at.more in
    let told : aim u (Asks (line.Mount c.path)) ≡ At x Mount = ap (λ o. to_cube o Mount) at.slot in
    let rests = rests_found c at.cube t k at.found in
    record {
      tables = at.tables;
      has = at.has;
      row = at.row;
      count = k;
      tree = t;
      first = first_accepted h at.more at.few;
      floor = omega arith;
      covers = omega (arith, low);
      includes = all k (omega arith);
      cube = at.cube;
      records = at.records;
      there = at.there;
      found = at.found;
      told = told;
      mounts =
          λ a rest runs is on clean. first_mount x k t c at.cube u a rest at.there at.found told
          (serves at.cube t k x u (a ∷ rest) at.there rests runs) is on clean;
      serves = λ later runs. serves at.cube t k x u later at.there rests runs;
    }

-- an image that fits but for one cube opens a world, and each one that it opens has what is left of the others
abbrev pub ImagesReopen : Type 0
ImagesReopen = ((i : Image) (w : World) (s : ℕ) → FitsBut s w i → (u : World) × Opens i u × ReopensBut s w u)
    × ((i : Image) (w u : World) (s : ℕ) → FitsBut s w i → Opens i u → ReopensBut s w u)

module _ (law : ImagesReopen) where
  contains : (w : World) (script : List Line) (out : List ℕ) (s : ℕ) (i : Image) → run.After (λ v. FitsBut s v i) (λ steps. SparesAny steps i) w script out
      → Contains w script out s i
  contains w script out s i a = record {
    steps = a.steps;
    runs = a.runs;
    tail = a.tail;
    gives = a.gives;
    count = a.count;
    front = a.front;
    world = a.world;
    reached = a.reached;
    opens = let there = law.0 i a.world s a.holds in (there.0, there.1);
    others = λ u o x other c h there is. survives x w a.steps c h i u
        (floor_reached x w script a.steps a.tail a.world c h a.runs.runs a.reached there is)
        (includes x w script a.steps a.tail a.world c h a.runs.runs a.reached there is)
        (found_at s a.world u i x c h (law.1 i a.world u s a.holds o) o other there is);
  }

  -- two sessions that keep their promises
  pub headline : {D E : Type 0} (state : D → DiskState) (left : D → ℕ → Image → List ℕ → Type 0) (later : E → DiskState) (late : E → ℕ
      → Image → List ℕ → Type 0)
      → (status last : Status) (old new : D) (before after : E)
      → ((w : World) → Starts (state old) w → Keeps state left status w old new)
      → ((u : World) → Starts (later before) u → Keeps later late last u before after)
      → After state left later late last old new before after
  headline state left later late status last old new before after first second w starts image given crash s damaged harm settled is =
      let keeps = first w starts in
      let aside = (state old).streams.aside in
      let from : LeftSo (FitsBut s) SparesAny aside w _ damaged given = ⊎_elim
      (λ same. let l = keeps.crash image given crash in (
        l.0,
        l.1,
        after_more (λ v. Fits v image) (λ v. FitsBut s v damaged) (λ steps. SparesBroken (state old) w steps image) (λ steps. SparesAny steps damaged) w _ l.0
            (λ v fits. fits_but v image damaged s same fits) (λ steps spares. tt) l.2,
      ))
      (λ d. keeps.damage image given crash s damaged d) harm in
      ((from.0, from.1, contains w _ from.0 s damaged from.2), (λ u o. second u (record { settled = settled; opens = subst (λ i. Opens i u) (sym is) o })))
