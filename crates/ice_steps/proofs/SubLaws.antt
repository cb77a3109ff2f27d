-- What a sub-super block says after a change of its counts.
use Rattle.std.proofs.Common.{◌≡◌, ◌≤◌, ◌<◌, ◌+◌, ◌^◌, ℕ, Bool, true, false, List, slice_index, ◌∙◌, refl, inl, inr, arith}
use Rattle.std.specs.Prelude.{nat_lt, if◌then◌else◌, not, ◌==◌, None, Some}
use Rattle.std.proofs.lemmas.Bool.Decides.{nat_tests}
use Rattle.ice_base.specs.Fields.{word_at, long_at, SameBeside, WordSet, LongSet}
use Rattle.ice_base.specs.Lots.{LotView, sub_address}
use Rattle.ice_base.specs.Used.{counted, count_place}
use Rattle.ice_base.specs.declared.fault.Rule.TheVariants.{Magic, Version, Slot, Mode, Done}
use Rattle.ice_layout.specs.Subs.{sub_magic, sub_rule}
use Rattle.tree_spec.specs.Costs.{Form}
use Rattle.ice_reads.specs.Tables.{Map}
use Rattle.ice_reads.specs.Recovers.{SubSays}

-- a number in four bytes that stay
pub word-same : (x y : List ℕ) (at : ℕ) → ((k : ℕ) → at ≤ k → k < at + 4 → slice_index y k ≡ slice_index x k) → word_at y at ≡ word_at x at
unfolding word_at
word-same x y at same =
    let a = same at (omega arith) (omega arith) in
    let b = same (at + 1) (omega arith) (omega arith) in
    let c = same (at + 2) (omega arith) (omega arith) in
    let d = same (at + 3) (omega arith) (omega arith) in
    omega arith

-- the first 24 bytes stay
pub says-same : (f : Form) (mode slot : ℕ) (x y : List ℕ) (k : ℕ) → ((j : ℕ) → j < 24 → slice_index y j ≡ slice_index x j)
    → SubSays f mode slot x k → SubSays f mode slot y k
unfolding sub_rule
says-same f mode slot x y k same s =
    let a : word_at y 0 ≡ word_at x 0 = word-same x y 0 (λ j l h. same j (omega arith)) in
    let b : word_at y 4 ≡ word_at x 4 = word-same x y 4 (λ j l h. same j (omega arith)) in
    let c : word_at y 16 ≡ word_at x 16 = word-same x y 16 (λ j l h. same j (omega arith)) in
    let d : word_at y 20 ≡ word_at x 20 = word-same x y 20 (λ j l h. same j (omega arith)) in
    let p : slice_index y 8 ≡ slice_index x 8 = same 8 (omega arith) in
    let q : slice_index y 9 ≡ slice_index x 9 = same 9 (omega arith) in
    record { sound = rw (a, b, c, d, p, q) s.sound; version = b ∙ s.version; mode = q ∙ s.mode; done = rw (c, d) s.done }

-- one count was set
pub says-counted : (f : Form) (mode : ℕ) (lot : LotView) (inodes : Bool) (m m' : Map) (x k : ℕ)
    → WordSet (m sub_address) (count_place inodes) x (m' sub_address) → SubSays f mode lot.slot (m sub_address) k → SubSays f mode lot.slot (m' sub_address) k
says-counted f mode lot true m m' x k w s = says-same f mode lot.slot (m sub_address) (m' sub_address) k (λ j h. w.others j (inl (omega arith))) s
says-counted f mode lot false m m' x k w s = says-same f mode lot.slot (m sub_address) (m' sub_address) k (λ j h. w.others j (inl (omega arith))) s

pub says-beside : (f : Form) (mode : ℕ) (lot : LotView) (m m' : Map) (k : ℕ)
    → SameBeside (count_place false) 4 (m sub_address) (m' sub_address) → SubSays f mode lot.slot (m sub_address) k → SubSays f mode lot.slot (m' sub_address) k
says-beside f mode lot m m' k w s = says-same f mode lot.slot (m sub_address) (m' sub_address) k (λ j h. w j (inl (omega arith))) s

-- and the other one stays
pub counted-other : (m m' : Map) (x : ℕ) → WordSet (m sub_address) 28 x (m' sub_address) → counted false m' ≡ counted false m
counted-other m m' x w = word-same (m sub_address) (m' sub_address) 24 (λ j l h. w.others j (inl (omega arith)))

pub counted-inodes : (m m' : Map) → SameBeside 24 4 (m sub_address) (m' sub_address) → counted true m' ≡ counted true m
counted-inodes m m' w = word-same (m sub_address) (m' sub_address) 28 (λ j l h. w j (inr (omega arith)))

-- five rules of which the last one's test alone changed
last-rule : {X : Type 0} (u v w x y : X) (a b c d e g : Bool) → g ≡ true
    → (if not a then Some u else if not b then Some v else if not c then Some w else if not d then Some x else if not e then Some y else None) ≡ None
    → (if not a then Some u else if not b then Some v else if not c then Some w else if not d then Some x else if not g then Some y else None) ≡ None
last-rule u v w x y false b c d e g t h = h
last-rule u v w x y true false c d e g t h = h
last-rule u v w x y true true false d e g t h = h
last-rule u v w x y true true true false e g t h = h
last-rule u v w x y true true true true e g t h = rw t refl

-- the number of accepted operations was set
pub says-done : (f : Form) (mode slot : ℕ) (x y : List ℕ) (k done : ℕ) → LongSet x 16 done y → done < 2 ^ 63 → SubSays f mode slot x k
    → SubSays f mode slot y done
unfolding sub_rule
says-done f mode slot x y k done w small s =
    let a : word_at y 0 ≡ word_at x 0 = word-same x y 0 (λ j l h. w.others j (inl (omega arith))) in
    let b : word_at y 4 ≡ word_at x 4 = word-same x y 4 (λ j l h. w.others j (inl (omega arith))) in
    let p : slice_index y 8 ≡ slice_index x 8 = w.others 8 (inl (omega arith)) in
    let q : slice_index y 9 ≡ slice_index x 9 = w.others 9 (inl (omega arith)) in
    let v = w.value in
    let t : nat_lt (long_at y 16) (2 ^ 63) ≡ true = grind (arith, nat_tests) in
    record { sound = rw (a, b, p, q) (last-rule Magic Version Slot Mode Done (word_at x 0 == sub_magic) (word_at x 4 == 1) (slice_index x 8 == slot) (slice_index x 9 == 0) (nat_lt (long_at x 16) (2 ^ 63)) (nat_lt (long_at y 16) (2 ^ 63)) t s.sound); version = b ∙ s.version; mode = q ∙ s.mode; done = w.value }

pub counted-done : (inodes : Bool) (m m' : Map) (done : ℕ) → LongSet (m sub_address) 16 done (m' sub_address) → counted inodes m' ≡ counted inodes m
counted-done true m m' done w = word-same (m sub_address) (m' sub_address) 28 (λ j l h. w.others j (inr (omega arith)))
counted-done false m m' done w = word-same (m sub_address) (m' sub_address) 24 (λ j l h. w.others j (inr (omega arith)))
