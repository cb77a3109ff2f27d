-- What a look at an inode and its marks say together.
use Rattle.std.proofs.Common.{◌≡◌, ◌≢◌, ℕ, ◌*◌, ◌<◌, Bool, true, List, length, Some, sym, refl, ap, ◌∙◌, subst, inl, inr, ⊎_elim}
use Rattle.ice_base.specs.Lots.{LotView}
use Rattle.ice_base.specs.Spare.{has}
use Rattle.ice_base.specs.Used.{used_inode}
use Rattle.ice_base.specs.declared.fault.Rule.TheVariants as rule
use Rattle.ice_map.specs.declared.codec.Inode.{Inode}
use Rattle.ice_map.specs.Inodes.{inode_of}
use Rattle.ice_map.specs.Maps.{times, uses}
use Rattle.ice_map.specs.Own.{map_length, own_of, own}
use Rattle.tree_spec.specs.Costs.{form_one}
use Rattle.ice_reads.specs.Tables.{Map, rows_in, IsNameOf}
use Rattle.ice_reads.proofs.Losses.{length-rows_in}
use Rattle.ice_rules.specs.Walks.{KindFits, PointersFit, IsSound, IsNamable, WalksTo, WalkUses, LooksInto, BlockReached, walk_entry}
use Rattle.ice_rules.specs.Rules.{Breaks, Differs}
use Rattle.ice_rules.proofs.Orders.{before_apart}
use Rattle.ice_check.specs.Marks.{GotMarks, MarkedTwice, SeenBefore, SomeUnused, AllNew, IsGood}
use Rattle.ice_check.specs.declared.fault.CheckFault.{CheckFault}
use Rattle.ice_check.specs.declared.fault.CheckFault.TheVariants as check
use Rattle.ice_check.specs.Shown.{IfBitmap, Broke}
use Rattle.ice_check.proofs.LookLaws.{same_uses, fits_here, kind_here}

-- an inode that fits and is no file
pub dir_kind : (lot : LotView) (i : ℕ) (inode : Inode) → KindFits form_one lot i inode → inode.kind ≢ 1
    → (inode.kind ≡ 2) × (inode.size < 64 * length lot.groups)
dir_kind lot i inode (inl h) other = absurd (other h.0)
dir_kind lot i inode (inr h) other = h

module _ (lot : LotView) (m : Map) (i : ℕ) (inode : Inode) (is : inode ≡ inode_of m i) (kind : KindFits form_one lot i inode)
    (pointers : List ℕ) (count : ℕ) (long : count ≡ map_length form_one inode)
    (same : 12 < map_length form_one inode → pointers ≡ m inode.single)
    (fits : PointersFit form_one lot (own_of (λ _. pointers) inode (map_length form_one inode))) where
  pub sound_here : used_inode m i ≡ true → IsSound form_one lot m i
  sound_here used = record { marked = used; kind = kind_here lot m i inode is kind; pointers = fits_here lot m i inode is pointers same fits }

  pub uses_here : uses (λ _. pointers) inode count ≡ (own form_one m i).uses
  uses_here =
      ap (uses (λ _. pointers) inode) long ∙ sym (same_uses m inode pointers (map_length form_one inode) same)
      ∙ ap (λ (x : Inode). uses m x (map_length form_one x)) is

  pub marks_here : (old new : List Bool) → GotMarks old new (uses (λ _. pointers) inode count) → GotMarks old new (own form_one m i).uses
  marks_here old new a = subst (GotMarks old new) uses_here a

  pub file_here : inode.kind ≡ 1 → (own form_one m i).inode.kind ≡ 1
  file_here e = ap (λ (x : Inode). x.kind) (sym is) ∙ e

  pub dir_here : inode.kind ≢ 1 → ((own form_one m i).inode.kind ≡ 2) × (inode.size ≡ length (rows_in form_one (own form_one m i)))
  dir_here other = (
    ap (λ (x : Inode). x.kind) (sym is) ∙ (dir_kind lot i inode kind other).0,
    ap (λ (x : Inode). x.size) is ∙ sym (length-rows_in form_one (own form_one m i)),
  )

  -- a block that is not marked used
  pub unused_here : (w : List ℕ) → WalksTo form_one lot m w i → used_inode m i ≡ true → SomeUnused m (uses (λ _. pointers) inode count)
      → Breaks form_one lot m rule.Bitmap
  unused_here w by used u =
      let among = subst (λ xs. has xs u.block ≡ true) uses_here u.among in
      inr (inl (record {
        block = u.block;
        place = (sound_here used).pointers.places u.block among;
        bad =
            subst (λ b. Differs b (BlockReached form_one lot m u.block)) (sym u.unused)
            (record { walk = w; inode = i; by = record { by = by; sound = sound_here used; uses = among } });
      }))

  pub unused_broke : (w : List ℕ) (e : CheckFault) → WalksTo form_one lot m w i → used_inode m i ≡ true
      → IfBitmap (SomeUnused m (uses (λ _. pointers) inode count)) e → Broke lot m e
  unused_broke w check.Disk by used h = tt
  unused_broke w (check.Damaged rule.Bitmap) by used h = unused_here w by used h
  unused_broke w (check.Damaged _) by used h = absurd h

  -- a block that has a mark, or that the map has twice
  pub twice_here : (w : List ℕ) (ins old : List Bool) → WalksTo form_one lot m w i → used_inode m i ≡ true
      → SeenBefore form_one lot m w ins old → MarkedTwice old (uses (λ _. pointers) inode count) → Breaks form_one lot m rule.BlockTwice
  twice_here w ins old by used seen t =
      ⊎_elim
      (λ was.
      let x = seen.blocks t.number was in
      inl (record { block = t.number; walk = x.0; other = w; inode = x.1; next = i; apart = before_apart x.0 w x.2; uses = x.3; too = here }))
      (λ more. inr (record { block = t.number; walk = w; inode = i; uses = here; twice = subst (λ xs. 1 < times xs t.number) uses_here more }))
      t.why
    where
      here : WalkUses form_one lot m w i t.number
      here = record { by = by; sound = sound_here used; uses = subst (λ xs. has xs t.number ≡ true) uses_here t.among }

-- what a directory's entry names
module _ (lot : LotView) (m : Map) (dir k next : ℕ) (name : List ℕ) (at : walk_entry form_one m dir k ≡ Some (name, next)) where
  pub good_here : AllNew m dir → IsNameOf form_one name → IsNamable lot next → IsGood form_one lot m dir k next
  good_here new fit number = record { row = (name, next); is = at; name = fit; new = new.each k (name, next) at; number = number; same = refl }

  pub number_broken : (w : List ℕ) → LooksInto form_one lot m w dir → ¬ IsNamable lot next → Breaks form_one lot m rule.InodeTwice
  number_broken w looks bad = inl (record { walk = w; dir = dir; entry = k; row = (name, next); looks = looks; is = at; bad = bad })
