-- After a session whose end was good each cube that was mounted recovers all that it accepted.
use Rattle.std.proofs.Common.{◌≡◌, ◌∙◌, ℕ, ◌+◌, length, Some, ap, subst, arith}
use Rattle.std.specs.Option.{option_map}
use Rattle.ice_base.specs.Disk.{Image}
use Rattle.tree_spec.specs.Records.{Cube, Sound, History, floor, done, tree_at, tree_now, mode_after, settled}
use Rattle.tree_spec.specs.World.{World}
use Rattle.tree_spec.specs.declared.reply.StateWord.TheVariants.{Mounted}
use Rattle.ice_tables.specs.Tables.{Tables, HasTables}
use Rattle.ice_tables.specs.Lots.{lot_of}
use Rattle.ice_images.specs.Recovering.{Recovers}
use Rattle.ice_images.specs.Fitting.{HasContent, Has, Fits}
use Rattle.ice_volume.specs.Sessions.{put_away, finished}
use Rattle.ice_headline.proofs.Histories.{floor_settled, tree_after-append}

-- an image that fits the end of a session recovers all that a mounted cube accepted
pub put_away_recovers : (w : World) (i : Image) (s : ℕ) (c : Cube) (h : History) → Fits (finished w) i → w.cube s ≡ Some c → c.state ≡ Mounted
    → c.content ≡ Sound h
    → (t : Tables) × HasTables i t × Recovers (lot_of t s) i c.form (mode_after c.mode h (length h.since)) (tree_now h) (done h)
put_away_recovers w i s c h fits there mounted is =
    let lot = lot_of fits.tables s in
    let has : Has lot i (Some (put_away c.state c.content c)) =
    subst (λ o. Has lot i (option_map (λ (e : Cube). put_away e.state e.content e) o)) there (fits.cubes s tt) in
    let away : HasContent lot i c.form c.mode (Sound (settled h)) =
    subst (λ x. Has lot i (Some (put_away Mounted x c))) is (subst (λ s'. Has lot i (Some (put_away s' c.content c))) mounted has) in
    let none : away.0 ≡ 0 = omega (arith, away.1) in
    let tree : tree_at (settled h) away.0 ≡ tree_now h = ap (tree_at (settled h)) none ∙ tree_after-append h.sure h.since h.base in
    let count : floor (settled h) + away.0 ≡ done h = omega (arith, none, floor_settled h) in
    (fits.tables, fits.has, subst (λ k. Recovers lot i c.form c.mode (tree_now h) k) count (subst (λ t. Recovers lot i c.form c.mode t (floor (settled h) + away.0)) tree away.2))
