-- The blocks that a change puts: those of the cube table that differ, and then those of the owner table.
use Rattle.std.proofs.Common.{◌≡◌, ◌∙◌, ◌≤◌, ◌<◌, ◌+◌, inl, inr, ⊎_elim, ℕ, Bool, true, false, List, [], length, refl, sym, arith}
use Rattle.std.specs.Prelude.{◌⊎◌, nat_lt}
use Rattle.std.proofs.lemmas.Bool.Decides.{nat_tests}
use Rattle.ice_layout.specs.Headers.{is_table}
use Rattle.ice_tables.specs.Tables.{Tables, blocks_from}
use Rattle.ice_txn.specs.declared.set.Entry.{Entry}
use Rattle.ice_txn.specs.Sets.{holds, over}
use Rattle.ice_system.specs.Says.{SayTables}
use Rattle.ice_system.specs.Changes.{HasChanges}
use Rattle.ice_system.proofs.Crashes.{table-here}
use Rattle.ice_system.proofs.Views.{joined, joined_low, joined_high}

-- four blocks were put where they differ
pub record Put (first : ℕ) (old new : List (List ℕ)) (before after : List Entry) : Type 0 where
  pub here : (m : ℕ → List ℕ) (k : ℕ) → first ≤ k → k < first + 4
      → (over after m k ≡ blocks_from first new k) ⊎ ((over after m k ≡ over before m k) × (blocks_from first old k ≡ blocks_from first new k))
  pub elsewhere : (m : ℕ → List ℕ) (k : ℕ) → ((k < first) ⊎ (first + 4 ≤ k)) → over after m k ≡ over before m k
  pub addresses : (a : ℕ) → holds after a ≡ true → (holds before a ≡ true) ⊎ ((first ≤ a) × (a < first + 4))
  pub count : length after ≤ length before + 4

over-none : (m : ℕ → List ℕ) (k : ℕ) → over [] m k ≡ m k
unfolding over
over-none m k = refl

holds-none : (a : ℕ) → holds [] a ≡ true → ⊥
unfolding holds
holds-none a is = cc is

module _ (old new old' new' : List (List ℕ)) (mid entries : List Entry) (rows : Put 11 old new [] mid) (owners : Put 15 old' new' mid entries) where
  changed : (m : ℕ → List ℕ) (k : ℕ) → 11 ≤ k → k < 19
      → (over entries m k ≡ joined (blocks_from 11 new) (blocks_from 15 new') k)
      ⊎ ((over entries m k ≡ m k) × (joined (blocks_from 11 old) (blocks_from 15 old') k ≡ joined (blocks_from 11 new) (blocks_from 15 new') k))
  changed m k low high = by (nat_lt k 15) refl
    where
      by : (b : Bool) → nat_lt k 15 ≡ b → (over entries m k ≡ joined (blocks_from 11 new) (blocks_from 15 new') k)
          ⊎ ((over entries m k ≡ m k) × (joined (blocks_from 11 old) (blocks_from 15 old') k ≡ joined (blocks_from 11 new) (blocks_from 15 new') k))
      by true is =
          let less : k < 15 = grind (arith, nat_tests) in
          let stays = owners.elsewhere m k (inl less) in ⊎_elim
          (λ put. inl (stays ∙ put ∙ sym (joined_low (blocks_from 11 new) (blocks_from 15 new') k less)))
          (λ left. inr (
            stays ∙ left.0 ∙ over-none m k,
            joined_low (blocks_from 11 old) (blocks_from 15 old') k less ∙ left.1 ∙ sym (joined_low (blocks_from 11 new) (blocks_from 15 new') k less),
          ))
          (rows.here m k low (omega (arith, less)))
      by false is =
          let more : 15 ≤ k = grind (arith, nat_tests) in
          let before = rows.elsewhere m k (inr (omega (arith, more))) in ⊎_elim
          (λ put. inl (put ∙ sym (joined_high (blocks_from 11 new) (blocks_from 15 new') k more)))
          (λ left. inr (
            left.0 ∙ before ∙ over-none m k,
            joined_high (blocks_from 11 old) (blocks_from 15 old') k more ∙ left.1 ∙ sym (joined_high (blocks_from 11 new) (blocks_from 15 new') k more),
          ))
          (owners.here m k more (omega (arith, high)))

  homes : (a : ℕ) → holds entries a ≡ true → is_table a ≡ true
  homes a is = ⊎_elim
      (λ before. ⊎_elim (λ none. absurd (holds-none a none)) (λ here. table-here a here.0 (omega (arith, here.1))) (rows.addresses a before))
      (λ here. table-here a (omega (arith, here.0)) (omega (arith, here.1)))
      (owners.addresses a is)

  -- the entries change blocks that say the old tables to blocks that say the new ones
  pub gathered : (t u : Tables) → SayTables t (joined (blocks_from 11 old) (blocks_from 15 old'))
      → SayTables u (joined (blocks_from 11 new) (blocks_from 15 new')) → HasChanges t u entries
  gathered t u before after = record {
    old = joined (blocks_from 11 old) (blocks_from 15 old');
    new = joined (blocks_from 11 new) (blocks_from 15 new');
    before = before;
    after = after;
    changed = changed;
    homes = homes;
    few = omega (arith, rows.count, owners.count);
  }
