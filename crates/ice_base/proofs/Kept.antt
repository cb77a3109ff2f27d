-- What outlasts the calls of others, said between two states of a disk.
use Rattle.std.proofs.Common.{ℕ, List, refl, ◌∙◌, ap}
use Rattle.ice_base.specs.Disk.{Image, DiskState, block}
use Rattle.ice_base.specs.Frames.{Within, Every, RestsOn, Sure, Kept}
use Rattle.ice_base.specs.Host.{SameDisk}

-- nothing changed where nothing happened
pub kept_refl : (on : ℕ → Type 0) (s : DiskState) → Kept on s s
kept_refl on s = record { size = refl; tells = refl; same = λ k here. refl; settled = λ k here was. was }

-- what is kept over two stretches is kept over both
pub kept_then : (on : ℕ → Type 0) (a b c : DiskState) → Kept on a b → Kept on b c → Kept on a c
kept_then on a b c v w = record {
  size = w.size ∙ v.size;
  tells = w.tells ∙ v.tells;
  same = λ k here. w.same k here ∙ v.same k here;
  settled = λ k here was. w.settled k here (v.settled k here was);
}

-- where some blocks outlasted the calls of others, so did each part of them
pub kept_fewer : (on less : ℕ → Type 0) (a b : DiskState) → ((k : ℕ) → less k → on k) → Kept on a b → Kept less a b
kept_fewer on less a b sub v = record { size = v.size; tells = v.tells; same = λ k here. v.same k (sub k here); settled = λ k here. v.settled k (sub k here) }

-- calls that write elsewhere keep these blocks
pub kept_within : {D : Type 0} (state : D → DiskState) (left : D → ℕ → Image → List ℕ → Type 0) (on S : ℕ → Type 0) (a b : D)
    → ((k : ℕ) → on k → S k → ⊥) → Within state left S a b → Kept on (state a) (state b)
kept_within state left on S a b apart w =
    record { size = w.size; tells = w.tells; same = λ k here. w.same k (apart k here); settled = λ k here. w.settled k (apart k here) }

-- a take or a give keeps all blocks
pub kept_same : (on : ℕ → Type 0) (a b : DiskState) → SameDisk a b → Kept on a b
kept_same on a b same =
    record { size = same.size; tells = same.tells; same = λ k here. ap (λ (x : Image). block x k) same.now; settled = λ k here was. same.loose k ∙ was }

-- a sure fact that rests on blocks that outlasted the calls of others is sure after these calls
pub sure_kept : (on : ℕ → Type 0) (P : Image → Type 0) (a b : DiskState) → RestsOn on P → Kept on a b → Sure on P a → Sure on P b
sure_kept on P a b rests kept sure = record {
  settled = record { told = kept.tells ∙ sure.settled.told; settled = λ k here. kept.settled k here (sure.settled.settled k here) };
  now = rests a.now b.now kept.same sure.now;
}

-- what every image of some blocks has, every image has where these blocks are kept
pub every_kept : (on : ℕ → Type 0) (P : Image → Type 0) (a b : DiskState) → Kept on a b → Every on a P → Every on b P
every_kept on P a b kept every i agrees =
    every i (record { count = agrees.count ∙ kept.size; same = λ k here was. agrees.same k here (kept.settled k here was) ∙ kept.same k here })
