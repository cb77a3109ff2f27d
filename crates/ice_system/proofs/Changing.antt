-- A change of one slot, from what the commit of the new tables does.
use Rattle.std.proofs.Common.{Result, Ok, Err, OnOk, OnErr, ◌≡◌, inl, inr, ℕ, Bool, true, false, List, Option, refl, sym, ap, subst}
use Rattle.std.specs.Prelude.{IsErrOf}
use Rattle.ice_base.specs.Disk.{Image, DiskState, HasCause}
use Rattle.ice_base.specs.Frames.{Within, Sure}
use Rattle.ice_base.specs.FrameLaws.{within_refl}
use Rattle.ice_names.specs.Names.{NamesView}
use Rattle.ice_owner.specs.Owners.{OwnersView}
use Rattle.ice_tables.specs.Tables.{Row}
use Rattle.ice_tables.specs.Lots.{IsTable, AtRest}
use Rattle.ice_system.specs.Says.{IsChange}
use Rattle.ice_system.specs.Systems.{SystemView, tables_of, tables_with}
use Rattle.ice_system.specs.Changes.{Changes, MovesTables, SlotBecomes}
use Rattle.ice_system.specs.declared.fault.SystemFault.{SystemFault}
use Rattle.ice_system.specs.declared.fault.SystemFault.TheVariants.{Before, After}

on-ok : {X E P Q : Type 0} (r : Result X E) → (P → Q) → OnOk r P → OnOk r Q
on-ok (Ok x) f p = f p
on-ok (Err e) f p = tt

is-err : {X E P : Type 0} (r : Result X E) (e : E) → OnErr r P → IsErrOf r e → P
is-err (Ok x) e p is = absurd (cc is)
is-err (Err f) e p is = p

-- rows and groups of an open volume on which no change has failed late
abbrev pub with_parts : NamesView → OwnersView → SystemView
with_parts names owners = record { names = names; owners = owners; failed = false }

module _ {D X : Type 0} (state : D → DiskState) (left : D → ℕ → Image → List ℕ → Type 0) (s : ℕ) (row : Option Row) (groups : List ℕ) where
  -- a volume on which a change has failed late does nothing
  pub changes_late : (v : SystemView) (d : D) → v.failed ≡ true → Changes {X = X} state left s row groups v v (Err After) d d
  changes_late v d failed = record {
    within = within_refl state left IsChange d;
    calm = tt;
    ready = tt;
    done = tt;
    before = λ is. absurd (cc is);
    after = λ is. (ap (λ (b : Bool). record v { failed = b }) failed, inl failed);
    late = λ is. (refl, refl);
    moves = λ live. absurd (cc (live, failed));
  }

  pub changes_from : (v w : SystemView) (names : NamesView) (owners : OwnersView) (r : Result X SystemFault) (old new : D) → v.failed ≡ false
      → SlotBecomes s row groups (tables_of v) (tables_with names owners)
      → Within state left IsChange old new → HasCause (state old) (state new) r → OnOk r ((state new).faults ≡ (state old).faults)
      → OnOk r (w ≡ with_parts names owners) → (IsErrOf r Before → w ≡ v) → (IsErrOf r After → w ≡ record v { failed = true })
      → (Sure IsTable (AtRest (tables_of v)) (state old) → MovesTables state left (tables_of v) (tables_with names owners) r old new)
      → Changes state left s row groups v w r old new
  changes_from v w names owners r old new live becomes within cause calm done before after moves = record {
    within = within;
    calm = calm;
    ready = on-ok r (λ (is : w ≡ with_parts names owners). (live, ap (λ (x : SystemView). x.failed) is)) done;
    done =
        on-ok r (λ (is : w ≡ with_parts names owners). subst (λ (x : SystemView). SlotBecomes s row groups (tables_of v) (tables_of x)) (sym is) becomes) done;
    before = λ is. (before is, live, is-err r Before cause.failed is);
    after = λ is. (after is, inr (is-err r After cause.failed is));
    late = λ failed. absurd (cc (live, failed));
    moves = λ ready sure. (
      tables_with names owners,
      becomes,
      on-ok r (λ (is : w ≡ with_parts names owners). ap (λ (x : SystemView). tables_of x) is) done,
      moves sure,
    );
  }
