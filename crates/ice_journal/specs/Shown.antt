-- A lot's blocks as its journal leaves them.
use Rattle.std.specs.Prelude.{◌≡◌, ◌⊎◌, ℕ, ◌+◌, ◌==◌, Bool, false, true, if◌then◌else◌, List, [], ◌∷◌, Option, Some, refl}
use Rattle.std.proofs.Common.{◌∙◌}
use Rattle.ice_base.specs.Disk.{Image, DiskState, block}
use Rattle.ice_base.specs.Lots.{LotView, is_address, place, gate_place, header_place, inside}
use Rattle.ice_base.specs.Still.{Still, still_refl, still_then}
use Rattle.ice_layout.specs.Headers.{is_open, slot_targets, AreTargets}
use Rattle.ice_tables.specs.Journals.{lot_places, replayed}

-- the targets whose bodies count: those of the header where the gate is open, None where it is refused then, and none where the gate is closed
unfoldable pub targets_now : LotView → Image → Option (List ℕ)
targets_now lot image = if is_open (block image (gate_place lot)) then slot_targets lot (block image (header_place lot)) else Some []

-- the blocks of the lot in an image, with the bodies of the journal in place of these targets
abbrev pub shown : List ℕ → LotView → Image → ℕ → List ℕ
shown targets lot image = inside lot (replayed (place lot) targets (lot_places lot).body image)

-- the block from which an address is read: the body of the first target that it is, else its home
abbrev pub source : (ℕ → ℕ) → List ℕ → ℕ → ℕ → ℕ
source place [] body a = place a
source place (t ∷ ts) body a = if t == a then body else source place ts (body + 1) a

-- whether there are targets
abbrev pub are_some : List ℕ → Bool
are_some [] = false
are_some (t ∷ ts) = true

-- no targets, or 1 to 240 different addresses of the lot
abbrev pub AreNoneOrTargets : LotView → List ℕ → Type 0
AreNoneOrTargets lot ts = (ts ≡ []) ⊎ AreTargets 240 (is_address lot) ts

-- the disk is as it was, and so is the view
pub record SameAll {V D : Type 0} (state : D → DiskState) (left : D → ℕ → Image → List ℕ → Type 0) (v : V) (old : D) (w : V) (new : D) : Type 0 where
  pub view : w ≡ v
  pub still : Still state left old new

module _ {V D : Type 0} (state : D → DiskState) (left : D → ℕ → Image → List ℕ → Type 0) where
  pub same_refl : (v : V) (d : D) → SameAll state left v d v d
  same_refl v d = record { view = refl; still = still_refl state left d }

  pub same_then : (u : V) (a : D) (v : V) (b : D) (w : V) (c : D) → SameAll state left u a v b → SameAll state left v b w c → SameAll state left u a w c
  same_then u a v b w c p q = record { view = q.view ∙ p.view; still = still_then state left a b c p.still q.still }
