-- What a removal that fails says of the lot.
use Rattle.std.proofs.Common.{false, ◌≡◌, ℕ, List, ◌≢◌, sym, ap, ◌∙◌, subst, arith, inl, true, [], ◌∷◌, refl, inr, ◌*◌}
use Rattle.ice_base.specs.Fields.{long_at, word_at}
use Rattle.ice_base.specs.Inodes.{inode_address, inode_index}
use Rattle.ice_base.specs.Lots.{LotView, sub_address}
use Rattle.ice_base.specs.Pools.{GaveInode}
use Rattle.ice_base.proofs.FieldLaws.{long-beside}
use Rattle.ice_map.specs.Inodes.{inode_at, InodeSet, Blank}
use Rattle.ice_base.specs.Used.{used, used_inode, bitmap_of, count_place, counted}
use Rattle.ice_base.specs.Faults.{IsGiveFault}
use Rattle.ice_base.specs.declared.fault.OpFault.{OpFault}
use Rattle.ice_base.specs.declared.fault.OpFault.TheVariants.{Disk, Damaged}
use Rattle.ice_base.specs.declared.fault.Rule.TheVariants.{Counts, Bitmap}
use Rattle.ice_map.specs.declared.codec.Inode.{Inode}
use Rattle.ice_map.proofs.GrowLaws.{inode_not_sub, inode_not_bitmap}
use Rattle.ice_map.proofs.MarkLaws.{used-same}
use Rattle.ice_steps.specs.Beside.{OnlyAt, DoneSet}
use Rattle.ice_steps.proofs.Keeps.{only-one, only-two}
use Rattle.ice_look.specs.Broken.{IsFaultBy}
use Rattle.ice_tree.specs.Removes.{free_inode, Freed, RemovalIs, LooseBroken}
use Rattle.tree_spec.specs.Costs.{Form}
use Rattle.ice_tree.specs.declared.removes.Removal.{Removal}

-- what was found holds after a look too
pub gone-after : (form : Form) (lot : LotView) (m0 m1 : ℕ → List ℕ) (last name : List ℕ) (gone : Removal) → m1 ≡ m0 → name ≡ last
    → RemovalIs form lot m0 last gone → RemovalIs form lot m1 name gone
gone-after form lot m0 m1 last name gone same named is =
    subst (λ (m : ℕ → List ℕ). RemovalIs form lot m name gone) (sym same) (subst (λ c. RemovalIs form lot m0 c gone) (sym named) is)

-- no operation is counted where an inode is put, and none where one is given back
pub done-given : (m0 m1 m2 : ℕ → List ℕ) (number n : ℕ) → long_at (m0 sub_address) 16 ≡ n
    → ((a : ℕ) → a ≢ inode_address number → m1 a ≡ m0 a) → GaveInode m1 m2 number → long_at (m2 sub_address) 16 ≡ n
done-given m0 m1 m2 number n before only gave =
    long-beside (m1 sub_address) (m2 sub_address) 28 4 16 gave.counts.others (inl (omega arith))
    ∙ ap (λ (x : List ℕ). long_at x 16) (only sub_address (λ e. inode_not_sub number (sym e))) ∙ before

-- an inode can't be given back: what is damaged of it, seen from before its blocks were
pub give-loose : (lot : LotView) (m0 m1 m2 : ℕ → List ℕ) (number : ℕ) → counted true m1 ≡ counted true m0
    → ((i : ℕ) → used_inode m1 i ≡ used_inode m0 i) → OnlyAt (inode_address number ∷ []) m1 m2
    → (e : OpFault) → IsGiveFault e → (e ≡ Damaged Counts → counted true m2 ≡ 0) → (e ≡ Damaged Bitmap → used true m2 number ≡ false)
    → IsFaultBy (LooseBroken lot m0 number) e
give-loose lot m0 m1 m2 number count marks only Disk f zero unused = tt
give-loose lot m0 m1 m2 number count marks only (Damaged Counts) f zero unused =
    inr (sym count ∙ sym
    (ap (λ (b : List ℕ). word_at b (count_place true))
    (only-one (inode_address number) m1 m2 only sub_address (λ e. inode_not_sub number (sym e)))) ∙ zero refl)
give-loose lot m0 m1 m2 number count marks only (Damaged Bitmap) f zero unused =
    inr (sym (marks number) ∙ sym
    (used-same true m1 m2 number (λ o. only-one (inode_address number) m1 m2 only (256 * o) (λ e. inode_not_bitmap number o (sym e)))) ∙ unused refl)
give-loose lot m0 m1 m2 number count marks only _ f zero unused = absurd f

-- an inode of nothing stays one where it is given back, and where an operation is counted
pub freed-given : (m1 m2 m3 : ℕ → List ℕ) (number : ℕ) (inode : Inode) → InodeSet m1 m2 number inode → inode ≡ free_inode
    → OnlyAt (sub_address ∷ bitmap_of true number ∷ []) m2 m3 → Freed m3 number
freed-given m1 m2 m3 number inode set free only =
    let same = only-two sub_address (bitmap_of true number) m2 m3 only (inode_address number) (λ e. inode_not_sub number e)
    (λ e. inode_not_bitmap number _ e) in
    record {
      value = ap (λ (b : List ℕ). inode_at b (inode_index number)) same ∙ set.value ∙ free;
      blank = subst (λ (b : List ℕ). Blank b (inode_index number)) (sym same) set.blank;
    }

pub freed-counted : (m1 m2 : ℕ → List ℕ) (number done : ℕ) → DoneSet m1 m2 done → Freed m1 number → Freed m2 number
freed-counted m1 m2 number done set free =
    let same = only-one sub_address m1 m2 set.others (inode_address number) (λ e. inode_not_sub number e) in
    record {
      value = ap (λ (b : List ℕ). inode_at b (inode_index number)) same ∙ free.value;
      blank = subst (λ (b : List ℕ). Blank b (inode_index number)) (sym same) free.blank;
    }
