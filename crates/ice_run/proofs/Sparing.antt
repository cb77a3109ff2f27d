-- What is left of the lots of cubes that stay broken.
use Rattle.std.proofs.Common.{◌≡◌, ◌∙◌, ◌≤◌, ℕ, List, [], ◌∷◌, sym, ap, subst}
use Rattle.ice_base.specs.Disk.{Image, DiskState, AgreesOn, Everywhere, Outside}
use Rattle.ice_base.specs.Frames.{Kept, Within}
use Rattle.ice_base.specs.Lots.{LotView, extent}
use Rattle.ice_base.proofs.Frame.{agrees_fewer}
use Rattle.ice_base.proofs.Kept.{kept_refl, kept_then, kept_within}
use Rattle.tree_spec.specs.Lines.{Line}
use Rattle.tree_spec.specs.Replies.{Response}
use Rattle.tree_spec.specs.World.{World}
use Rattle.ice_tables.specs.Tables.{HasTables, Tables}
use Rattle.ice_tables.specs.Lots.{lot_of}
use Rattle.ice_tables.proofs.LotSites.{lot_high}
use Rattle.ice_tables.proofs.TableLaws.{tables_one}
use Rattle.ice_system.specs.Systems.{tables_of}
use Rattle.ice_volume.specs.Lines.{IsOfBroken, SaysBroken}
use Rattle.ice_volume.specs.Volumes.{VolumeView, StandsFor}
use Rattle.ice_run.specs.Crashes.{KeepsBroken, SparesBroken, StaysBroken}
use Rattle.ice_run.specs.Runs.{Answered, end}
use Rattle.ice_run.specs.Sessions.{KeepsLots}
use Rattle.ice_run.proofs.Runs.{push}

-- ---- lines

-- a cube that stays broken is so after the last line
pub stays_end : (x : ℕ) (w : World) (steps : List Answered) → StaysBroken x w steps → SaysBroken ((end w steps).cube x)
stays_end x w [] stays = stays
stays_end x w (a ∷ rest) stays = stays_end x a.then rest stays.1

-- with one line more it stays so in the first ones, and is so after the last
pub stays_front : (x : ℕ) (w : World) (steps : List Answered) (line : Line) (r : Response) (v : World)
    → StaysBroken x w (push steps line r v) → StaysBroken x w steps
unfolding push
stays_front x w [] line r v stays = stays.0
stays_front x w (a ∷ rest) line r v stays = (stays.0, stays_front x a.then rest line r v stays.1)

pub stays_last : (x : ℕ) (w : World) (steps : List Answered) (line : Line) (r : Response) (v : World)
    → StaysBroken x w (push steps line r v) → SaysBroken (v.cube x)
unfolding push
stays_last x w [] line r v stays = stays.1
stays_last x w (a ∷ rest) line r v stays = stays_last x a.then rest line r v stays.1

-- what is spared in fewer lines is spared in more
pub spares_push : (start : DiskState) (w : World) (steps : List Answered) (line : Line) (r : Response) (v : World) (image : Image)
    → SparesBroken start w steps image → SparesBroken start w (push steps line r v) image
spares_push start w steps line r v image spares = λ t has x stays. spares t has x (stays_front x w steps line r v stays)

pub keeps_push : (start new : DiskState) (w : World) (steps : List Answered) (line : Line) (r : Response) (v : World)
    → KeepsBroken start w steps new → KeepsBroken start w (push steps line r v) new
keeps_push start new w steps line r v keeps = λ t has x stays. keeps t has x (stays_front x w steps line r v stays)

-- ---- images

-- an image that agrees with a disk on blocks that were kept agrees with what the disk was
agrees_kept : (on : ℕ → Type 0) (a b : DiskState) (image : Image) → Kept on a b → AgreesOn on b image → AgreesOn on a image
agrees_kept on a b image kept agrees = record {
  count = agrees.count ∙ kept.size;
  same = λ k here still. agrees.same k here (kept.settled k here still) ∙ kept.same k here;
}

-- what was kept is spared in each image that a crash leaves
pub kept_spares : (start mid : DiskState) (w : World) (steps : List Answered) (image : Image) → KeepsBroken start w steps mid
    → AgreesOn Everywhere mid image → SparesBroken start w steps image
kept_spares start mid w steps image keeps agrees = λ t has x stays. agrees_kept (extent (lot_of t x)) start mid image (keeps t has x stays)
    (agrees_fewer Everywhere (extent (lot_of t x)) mid image (λ k own. tt) agrees)

-- nothing has changed yet
pub keeps_refl : (s : DiskState) (w : World) (steps : List Answered) → KeepsBroken s w steps s
keeps_refl s w steps = λ t has x stays. kept_refl (extent (lot_of t x)) s

-- the same disk keeps what was kept
pub keeps_then : (start mid new : DiskState) (w : World) (steps : List Answered) → KeepsBroken start w steps mid → Kept Everywhere mid new
    → KeepsBroken start w steps new
keeps_then start mid new w steps keeps kept = λ t has x stays. kept_then (extent (lot_of t x)) start mid new (keeps t has x stays)
    (record { size = kept.size; tells = kept.tells; same = λ k own. kept.same k tt; settled = λ k own. kept.settled k tt })

-- ---- lots

-- a volume has at first the lots of its image
pub lots_none : (v : VolumeView) (s : DiskState) (w : World) (steps : List Answered) → StandsFor v s w → KeepsLots v s w steps
lots_none v s w steps stands = λ t has x stays. ap (λ (u : Tables). lot_of u x) (tables_one s.now (tables_of v.system) t stands.tables.now.has has)

-- lots that a line keeps
pub lots_push : (v z : VolumeView) (start : DiskState) (w : World) (steps : List Answered) (line : Line) (r : Response) (u : World)
    → ((x : ℕ) → SaysBroken ((end w steps).cube x) → SaysBroken (u.cube x) → lot_of (tables_of z.system) x ≡ lot_of (tables_of v.system) x)
    → KeepsLots v start w steps → KeepsLots z start w (push steps line r u)
lots_push v z start w steps line r u same lots = λ t has x stays.
    let front = stays_front x w steps line r u stays in
    same x (stays_end x w steps front) (stays_last x w steps line r u stays) ∙ lots t has x front

module _ {D : Type 0} (state : D → DiskState) (left : D → ℕ → Image → List ℕ → Type 0) (w : World) (v : VolumeView) (start : DiskState)
    (steps : List Answered) (a b : D)
    (lots : KeepsLots v start w steps) (keeps : KeepsBroken start w steps (state a))
    (within : Within state left (Outside (IsOfBroken (tables_of v.system) (end w steps))) a b) where
  -- a block of such a lot is one of a broken cube
  of_broken : (t : Tables) → HasTables start.now t → (x : ℕ) → StaysBroken x w steps → (k : ℕ) → extent (lot_of t x) k
      → IsOfBroken (tables_of v.system) (end w steps) k
  of_broken t has x stays k own = (x, stays_end x w steps stays, subst (λ (lot : LotView). extent lot k) (sym (lots t has x stays)) own)

  -- calls that write no block of a broken cube keep what was kept
  pub keeps_on : KeepsBroken start w steps (state b)
  keeps_on = λ t has x stays. kept_then (extent (lot_of t x)) start (state a) (state b) (keeps t has x stays)
      (kept_within state left (extent (lot_of t x)) (Outside (IsOfBroken (tables_of v.system) (end w steps))) a b
      (λ k own other. other (of_broken t has x stays k own)) within)

  -- and so does each crash within them
  pub work_spares : (image : Image) → AgreesOn (Outside (Outside (IsOfBroken (tables_of v.system) (end w steps)))) (state a) image
      → SparesBroken start w steps image
  work_spares image agrees = λ t has x stays. agrees_kept (extent (lot_of t x)) start (state a) image (keeps t has x stays)
      (agrees_fewer (Outside (Outside (IsOfBroken (tables_of v.system) (end w steps)))) (extent (lot_of t x)) (state a) image
      (λ k own other. other (of_broken t has x stays k own)) agrees)

-- ---- the opening of a volume, which writes below the lots

module _ {D : Type 0} (state : D → DiskState) (left : D → ℕ → Image → List ℕ → Type 0) (S : ℕ → Type 0) (low : (k : ℕ) → 32 ≤ k → ¬ S k)
    (old mid : D) (within : Within state left S old mid) where
  -- no lot is written
  pub opened_kept : (t : Tables) (x : ℕ) → Kept (extent (lot_of t x)) (state old) (state mid)
  opened_kept t x = kept_within state left (extent (lot_of t x)) S old mid (λ k own written. low k (lot_high t x k own) written) within

  pub opened_spares : (w : World) (steps : List Answered) (image : Image) → AgreesOn (Outside S) (state old) image → SparesBroken (state old) w steps image
  opened_spares w steps image agrees =
      λ t has x stays. agrees_fewer (Outside S) (extent (lot_of t x)) (state old) image (λ k own. low k (lot_high t x k own)) agrees

  module _ (tables : (t : Tables) → HasTables (state old).now t → HasTables (state mid).now t) (w : World) (steps : List Answered) where
    -- what was kept or spared since the volume is open was so since the start
    pub keeps_since : (new : DiskState) → KeepsBroken (state mid) w steps new → KeepsBroken (state old) w steps new
    keeps_since new keeps = λ t has x stays. kept_then (extent (lot_of t x)) (state old) (state mid) new (opened_kept t x) (keeps t (tables t has) x stays)

    pub spares_since : (image : Image) → SparesBroken (state mid) w steps image → SparesBroken (state old) w steps image
    spares_since image spares =
        λ t has x stays. agrees_kept (extent (lot_of t x)) (state old) (state mid) image (opened_kept t x) (spares t (tables t has) x stays)
