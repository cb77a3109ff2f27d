-- Puts after a look.
use Rattle.std.proofs.Common.{ℕ, Bool, List, [], ◌∷◌, ap, ◌∙◌, arith}
use Rattle.ice_base.specs.Lots.{LotView}
use Rattle.ice_base.specs.Spare.{Except, Where, lacks}
use Rattle.ice_base.specs.Views.{Looked, Puts}
use Rattle.ice_base.specs.declared.disk.Disk as disk
use Rattle.ice_base.specs.declared.view.View as view

pub except_map : (a : ℕ) (puts : List ℕ) (P Q : Type 0) → (P → Q) → Except a puts P → Except a puts Q
except_map a [] P Q f p = f p
except_map a (b ∷ puts) P Q f p = λ ne. except_map a puts P Q f (p ne)

pub where_map : (wide puts : List ℕ) (P Q : Type 0) → (P → Q) → Where wide puts P → Where wide puts Q
where_map wide [] P Q f p = f p
where_map wide (b ∷ puts) P Q f p = λ h. where_map wide puts P Q f (p h)

-- what was put after a look was put since its start
pub puts_after : {V D : Type 0} (d : disk.Ghosts D) (k : view.Ghosts V D) (lot : LotView) (ok : Bool) (puts : List ℕ) (v : V) (e : D) (w : V) (f : D) (x : V) (h : D)
    → Looked d k lot v e w f → Puts k lot ok puts w f x h → Puts k lot ok puts v e x h
puts_after d k lot ok puts v e w f x h l p = record {
  only = λ a. except_map a puts _ _ (λ same. same ∙ ap (λ (m : ℕ → List ℕ). m a) l.map) (p.only a);
  pays = λ wide. where_map wide puts _ _ (λ pay. let r = l.room in let s = ap (λ (h : ℕ → Bool). lacks h wide) l.held in omega arith) (p.pays wide);
}
