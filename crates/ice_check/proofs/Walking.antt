-- What a check has come to, and the rule that it names.
use Rattle.std.proofs.Common.{◌≡◌, ◌⊎◌, ℕ, ◌+◌, ◌*◌, ◌<◌, ◌≤◌, ◌==◌, Bool, true, false, List, [], ◌∷◌, ◌++◌, length, sym, refl, ap, ◌∙◌, subst, arith, inl, inr, ⊎_elim, length-append}
use Rattle.std.proofs.lemmas.Bool.Decides.{nat_tests}
use Rattle.std.proofs.lemmas.List.{append-nil}
use Rattle.ice_base.specs.Lots.{LotView}
use Rattle.ice_base.specs.Used.{used_inode}
use Rattle.ice_base.specs.declared.fault.Rule.TheVariants as rule
use Rattle.ice_map.specs.Maps.{times}
use Rattle.ice_map.proofs.UsesLaws.{times-has}
use Rattle.ice_map.specs.Own.{mark, own}
use Rattle.tree_spec.specs.Answers.{deepest}
use Rattle.tree_spec.specs.Costs.{Form}
use Rattle.ice_reads.specs.Tables.{Map, Table}
use Rattle.ice_reads.proofs.Frames.{times-other}
use Rattle.ice_rules.specs.Walks.{IsSound, IsOpen, GoesTo, WalksTo, LooksInto, InodeReached, Before, NotAfter}
use Rattle.ice_rules.specs.Rules.{Breaks, Differs}
use Rattle.ice_rules.proofs.Orders.{before_apart, before_child, dir_before, before_next, within_dir, goes_on}
use Rattle.ice_check.specs.Marks.{marked, GotMarks, IsGood, IsAt, Seen, SeenBefore, SeenWithin}

-- a mark was there before, or came with the list
was : (a b : Bool) (n : ℕ) → mark b ≡ mark a + n → b ≡ true → (a ≡ true) ⊎ (0 < n)
was true b n e t = inl refl
was false b n e t = inr (omega (arith, e, ap mark t))

module _ (f : Form) (lot : LotView) (m : Map) where
  abbrev o : Table
  o = own f m

  seen_more : (P Q : List ℕ → Type 0) (ins bls : List Bool) → ((v : List ℕ) → P v → Q v) → Seen f lot m P ins bls → Seen f lot m Q ins bls
  seen_more P Q ins bls go s = record {
    inodes = λ j t. let x = s.inodes j t in (x.0, go x.0 x.1, x.2, x.3);
    blocks = λ b t. let x = s.blocks b t in (x.0, x.1, go x.0 x.2, x.3);
  }

  module _ (w : List ℕ) (i depth : ℕ) (at : IsAt f lot m w i depth) where
    walks : depth ≤ deepest + 1 → WalksTo f lot m w i
    walks low = record { goes = at.goes; short = omega (arith, at.deep, low) }

    pub looks : depth ≤ deepest → IsOpen f lot m i → LooksInto f lot m w i
    looks low dir = record { goes = at.goes; short = omega (arith, at.deep, low); dir = dir }

    pub walks_to : depth ≤ 25 → WalksTo f lot m w i
    walks_to low = walks (omega (arith, low))

    -- ---- the rules that a look at an inode shows

    pub bit_broken : depth ≤ 25 → i < 64 * length lot.groups → used_inode m i ≡ false → Breaks f lot m rule.Bitmap
    bit_broken low below clear =
        inr (inr (record { inode = i; below = below; bad = subst (λ b. Differs b (InodeReached f lot m i)) (sym clear) (record { walk = w; by = walks_to low }) }))

    pub deep_broken : depth ≤ 25 → 24 < depth → used_inode m i ≡ true → Breaks f lot m rule.Depth
    deep_broken low deep used = record { walk = w; inode = i; by = walks_to low; marked = used; deep = omega (arith, at.deep, deep) }

    pub twice_broken : (ins bls : List Bool) → depth ≤ 25 → used_inode m i ≡ true → SeenBefore f lot m w ins bls → marked ins i ≡ true
        → Breaks f lot m rule.InodeTwice
    twice_broken ins bls low used seen mark_is =
        let x = seen.inodes i mark_is in
        inr (record { inode = i; walk = x.0; other = w; apart = before_apart x.0 w x.1; by = x.2; too = walks_to low; marked = used })

    -- ---- what was seen after it

    seen_here : (in0 in1 bl0 bl1 : List Bool) → depth ≤ deepest → used_inode m i ≡ true → IsSound f lot m i → SeenBefore f lot m w in0 bl0
        → GotMarks in0 in1 (i ∷ []) → GotMarks bl0 bl1 (o i).uses
        → Seen f lot m (λ v. Before v w ⊎ (v ≡ w)) in1 bl1
    seen_here in0 in1 bl0 bl1 low used sound seen a b = record {
      inodes = λ j t. ⊎_elim
          (λ old. let x = seen.inodes j old in (x.0, inl x.1, x.2, x.3))
          (λ new. (w, inr refl, subst (WalksTo f lot m w) (alone j new) (walks (omega (arith, low))), subst (λ n. used_inode m n ≡ true) (alone j new) used))
          (was (marked in0 j) (marked in1 j) (times (i ∷ []) j) (a.each j) t);
      blocks = λ c t. ⊎_elim
          (λ old. let x = seen.blocks c old in (x.0, x.1, inl x.2, x.3))
          (λ new. (w, i, inr refl, record { by = walks (omega (arith, low)); sound = sound; uses = times-has (o i).uses c (omega (arith, new)) }))
          (was (marked bl0 c) (marked bl1 c) (times (o i).uses c) (b.each c) t);
    }
      where
        alone : (j : ℕ) → 0 < times (i ∷ []) j → i ≡ j
        alone j h =
            elim (i == j) as (λ b. (i == j) ≡ b → i ≡ j) [
              | true ↦ λ e. grind (arith, nat_tests)
              | false ↦ λ e. absurd (omega (arith, times-other j i [] e, h))
            ] refl

    pub seen_file : (in0 in1 bl0 bl1 : List Bool) → depth ≤ deepest → used_inode m i ≡ true → IsSound f lot m i
        → SeenBefore f lot m w in0 bl0 → GotMarks in0 in1 (i ∷ []) → GotMarks bl0 bl1 (o i).uses → SeenWithin f lot m w in1 bl1
    seen_file in0 in1 bl0 bl1 low used sound seen a b =
        seen_more (λ v. Before v w ⊎ (v ≡ w)) (NotAfter w) in1 bl1 (λ v h. ⊎_elim (λ x. inl x) (λ e. inr ([], e ∙ sym (append-nil w))) h)
        (seen_here in0 in1 bl0 bl1 low used sound seen a b)

    pub seen_dir : (in0 in1 bl0 bl1 : List Bool) → depth ≤ deepest → used_inode m i ≡ true → IsSound f lot m i
        → SeenBefore f lot m w in0 bl0 → GotMarks in0 in1 (i ∷ []) → GotMarks bl0 bl1 (o i).uses → SeenBefore f lot m (w ++ 0 ∷ []) in1 bl1
    seen_dir in0 in1 bl0 bl1 low used sound seen a b =
        seen_more (λ v. Before v w ⊎ (v ≡ w)) (λ v. Before v (w ++ 0 ∷ [])) in1 bl1
        (λ v h. ⊎_elim (λ x. before_child v w 0 x) (λ e. subst (λ u. Before u (w ++ 0 ∷ [])) (sym e) (dir_before w 0)) h)
        (seen_here in0 in1 bl0 bl1 low used sound seen a b)

    -- the walk to what an entry names
    pub at_child : (k j : ℕ) → IsOpen f lot m i → IsGood f lot m i k j → IsAt f lot m (w ++ k ∷ []) j (depth + 1)
    at_child k j dir good =
        record {
          goes =
              subst (GoesTo f lot m 0 (w ++ k ∷ [])) (sym good.same)
              (goes_on f lot m w 0 i k good.row at.goes (record { from = dir; entry = good.is; name = good.name; number = good.number }));
          deep = omega (arith, length-append w (k ∷ []), at.deep);
        }

  pub seen_next : (w : List ℕ) (k : ℕ) (ins bls : List Bool) → SeenWithin f lot m (w ++ k ∷ []) ins bls → SeenBefore f lot m (w ++ (k + 1) ∷ []) ins bls
  seen_next w k ins bls = seen_more (NotAfter (w ++ k ∷ [])) (λ v. Before v (w ++ (k + 1) ∷ [])) ins bls (λ v h. before_next v w k h)

  pub seen_whole : (w : List ℕ) (n : ℕ) (ins bls : List Bool) → SeenBefore f lot m (w ++ n ∷ []) ins bls → SeenWithin f lot m w ins bls
  seen_whole w n ins bls = seen_more (λ v. Before v (w ++ n ∷ [])) (NotAfter w) ins bls (λ v h. within_dir v w n h)
