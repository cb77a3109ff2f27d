-- The image that a crash leaves, by its fill.
use Rattle.std.proofs.Common.{◌≡◌, ◌+◌, ◌≤◌, ◌<◌, ℕ, Bool, true, false, List, length, slice_index_or, take, inl, inr, refl, sym, ◌∙◌, ap, subst, arith}
use Rattle.std.proofs.lemmas.Bool.{cases_lt}
use Rattle.std.proofs.lemmas.Grind.{common_steps}
use Rattle.ice_base.specs.Disk.{Image, block}
use Rattle.disk_mem.specs.Memory.{Moment, IsLeft}
use Rattle.disk_mem.specs.Fill.{Filled}
use Rattle.disk_mem.specs.Crash.{LeavesFilled, ShowsMoment}

beyond : (flags : List Bool) (k : ℕ) → length flags ≤ k → slice_index_or flags k false ≡ false
beyond flags k le = grind (arith, common_steps)

module _ (fill : ℕ) (m : Moment) (blocks settled filled : Image) (flags : List Bool) (shows : ShowsMoment m blocks settled flags)
    (count : length filled ≡ length blocks)
    (kept : (k : ℕ) → slice_index_or flags k false ≡ false → block filled k ≡ block blocks k)
    (loose : (k : ℕ) → slice_index_or flags k false ≡ true → Filled fill k (block settled k) (block blocks k) (block filled k)) where
  unflagged : (k : ℕ) → m.loose k ≡ false → slice_index_or flags k false ≡ false
  unflagged k is = elim (cases_lt k (length blocks)) [
    | inl less ↦ sym (shows.loose k less) ∙ is
    | inr ge ↦ beyond flags k (omega (arith, shows.marks))
  ]

  pub leaves_filled : LeavesFilled fill m filled
  leaves_filled = record {
    count = count ∙ ap length (sym shows.now);
    settled = λ k is. kept k (unflagged k is) ∙ ap (λ (x : Image). block x k) (sym shows.now);
    loose = λ k less is. subst (λ (x : List ℕ). Filled fill k x (block m.now k) (block filled k)) (sym (shows.old k))
        (subst (λ (x : Image). Filled fill k (block settled k) (block x k) (block filled k)) (sym shows.now)
        (loose k (sym (shows.loose k (subst (λ (x : Image). k < length x) shows.now less)) ∙ is)));
  }

pub filled_left : (fill : ℕ) (m next : Moment) (image : Image) (output : List ℕ) → LeavesFilled fill m image → IsLeft output m next image (take m.given output)
filled_left fill m next image output is =
    record { count = is.count; same = is.settled; more = 0; few = omega arith; given = let e : m.given ≡ m.given + 0 = omega arith in ap (λ n. take n output) e }
