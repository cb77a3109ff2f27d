use Rattle.std.proofs.Common.{◌≡◌, ℕ, zero, suc, ◌≤◌, true, false, List, [], ◌∷◌, length, slice_set, slice_index_or, ◌∙◌, sym, ap, refl, ◌<◌, Bool, arith}
use Rattle.std.proofs.lemmas.Bool.{false≢true}
use Rattle.std.proofs.lemmas.Bool.Decides.{nat_tests}
use Rattle.std.proofs.lemmas.List.{length-set}
use Rattle.disk_mem.specs.Memory.{loosened}
use Rattle.disk_mem.proofs.Past.{block_set_other}
use Rattle.disk_mem.proofs.crash.Replay.write.Goals as goal

set_beyond : (xs : List (List ℕ)) (at : ℕ) (x : List ℕ) → length xs ≤ at → slice_set xs at x ≡ xs
set_beyond [] at x le = refl
set_beyond (y ∷ xs) zero x le = absurd (omega arith)
set_beyond (y ∷ xs) (suc at) x le = ap (λ (r : List (List ℕ)). y ∷ r) (set_beyond xs at x (omega arith))

loosened_there : (loose : ℕ → Bool) (at : ℕ) → loosened loose at at ≡ true
loosened_there loose at = grind (arith, nat_tests)

pub returns-then-at-len : goal.returns-then-at-len
returns-then-at-len c = λ m s. let sh = c.loosen.ensures.shows m s in let r = c.loosen.new.self in
    let less : c.args.at < length r.blocks.items = omega (arith, c.if-at-len.true) in record {
      now = ap (λ (x : List (List ℕ)). slice_set x c.args.at c.args.bytes.now) sh.now;
      old = sh.old;
      loose = λ k before. sh.loose k (omega (arith, length-set r.blocks.items c.args.at c.args.bytes.now));
      rest = λ k clear. sh.rest k clear ∙ sym (block_set_other r.blocks.items c.args.at c.args.bytes.now k
          (λ same. false≢true (sym clear ∙ ap (λ x. slice_index_or r.loose.items x false) same ∙ sym (sh.loose c.args.at less) ∙ loosened_there m.loose c.args.at)));
      marks = sh.marks ∙ sym (length-set r.blocks.items c.args.at c.args.bytes.now);
      count = sh.count ∙ sym (length-set r.blocks.items c.args.at c.args.bytes.now);
    }

pub returns-else-at-len : goal.returns-else-at-len
returns-else-at-len c = λ m s. let sh = c.loosen.ensures.shows m s in let r = c.loosen.new.self in record {
  now = ap (λ (x : List (List ℕ)). slice_set x c.args.at c.args.bytes.now) sh.now ∙ set_beyond r.blocks.items c.args.at c.args.bytes.now (omega (arith, c.if-at-len.false));
  old = sh.old;
  loose = sh.loose;
  rest = sh.rest;
  marks = sh.marks;
  count = sh.count;
}
