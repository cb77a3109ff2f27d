-- Blocks of a map that are not marked used.
use Rattle.std.proofs.Common.{◌≡◌, ℕ, ◌<◌, true, false, List, [], ◌∷◌, sym, subst, arith}
use Rattle.ice_base.specs.Spare.{has}
use Rattle.ice_base.specs.Used.{used_block}
use Rattle.ice_map.specs.declared.codec.Inode.{Inode}
use Rattle.ice_map.specs.Maps.{nth_block, blocks_of, indirect_of, uses}
use Rattle.ice_map.proofs.ListLaws.{has-left, has-right, has-head, has-range}
use Rattle.ice_reads.specs.Tables.{Map}
use Rattle.ice_check.specs.Marks.{SomeUnused}
use Rattle.ice_check.specs.declared.fault.CheckFault.{CheckFault}
use Rattle.ice_check.specs.declared.fault.CheckFault.TheVariants as check
use Rattle.ice_check.specs.Shown.{IfBitmap}
use Rattle.ice_base.specs.declared.fault.Rule.TheVariants as rule

pub bitmap_then : (e : CheckFault) (P Q : Type 0) → (P → Q) → IfBitmap P e → IfBitmap Q e
bitmap_then check.Disk P Q go h = tt
bitmap_then (check.Damaged rule.Bitmap) P Q go h = go h
bitmap_then (check.Damaged _) P Q go h = absurd h

pub unused_single : (m : Map) (inode : Inode) (count : ℕ) → indirect_of inode count ≡ inode.single ∷ [] → used_block m inode.single ≡ false
    → SomeUnused m (indirect_of inode count)
unused_single m inode count e h =
    record { block = inode.single; among = subst (λ xs. has xs inode.single ≡ true) (sym e) (has-head inode.single []); unused = h }

pub unused_nth : (m : Map) (p : ℕ → List ℕ) (inode : Inode) (count n at : ℕ) → n < count → at ≡ nth_block p inode n
    → used_block m at ≡ false → SomeUnused m (blocks_of p inode count)
unused_nth m p inode count n at h e clear = record {
  block = nth_block p inode n;
  among = has-range (nth_block p inode) 0 count n (omega arith) (omega arith);
  unused = subst (λ x. used_block m x ≡ false) e clear;
}

pub unused_left : (m : Map) (p : ℕ → List ℕ) (inode : Inode) (count : ℕ) → SomeUnused m (indirect_of inode count) → SomeUnused m (uses p inode count)
unused_left m p inode count u =
    record { block = u.block; among = has-left (indirect_of inode count) (blocks_of p inode count) u.block u.among; unused = u.unused }

pub unused_right : (m : Map) (p : ℕ → List ℕ) (inode : Inode) (count : ℕ) → SomeUnused m (blocks_of p inode count) → SomeUnused m (uses p inode count)
unused_right m p inode count u =
    record { block = u.block; among = has-right (indirect_of inode count) (blocks_of p inode count) u.block u.among; unused = u.unused }
