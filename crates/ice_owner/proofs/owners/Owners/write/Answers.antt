use Rattle.std.proofs.Common.{◌<◌, ◌*◌, ◌∷◌, [], ℕ, zero, suc, List, arith}
use Rattle.std.specs.Prelude.{slice_index_or}
use Rattle.ice_tables.specs.Tables.{blocks_from}
use Rattle.ice_owner.proofs.Entries.{HasEntries, AreEntries, four_blocks, holders_said, ordinals_said, past_said, unowned_said}
use Rattle.ice_owner.proofs.owners.Owners.write.Goals as goal

four : (a b c d marks : List ℕ) → HasEntries a marks 0 → HasEntries b marks 256 → HasEntries c marks 512
    → HasEntries d marks 768 → AreEntries (blocks_from 15 (a ∷ b ∷ c ∷ d ∷ [])) marks
four a b c d marks ha hb hc hd = four_blocks (a ∷ b ∷ c ∷ d ∷ []) marks each
  where
    each : (j : ℕ) → j < 4 → HasEntries (slice_index_or (a ∷ b ∷ c ∷ d ∷ []) j []) marks (256 * j)
    each zero low = ha
    each (suc zero) low = hb
    each (suc (suc zero)) low = hc
    each (suc (suc (suc zero))) low = hd
    each (suc (suc (suc (suc j)))) low = absurd (omega (arith, low))

said : (c : goal.After-into-1)
    → AreEntries (blocks_from 15 (c.entries.result ∷ c.entries-2.result ∷ c.entries-3.result ∷ c.entries-4.result ∷ [])) c.marks-marks.result
said c =
    four c.entries.result c.entries-2.result c.entries-3.result c.entries-4.result c.marks-marks.result
    c.entries.ensures c.entries-2.ensures c.entries-3.ensures c.entries-4.ensures

pub returns-clause-holders : goal.returns-clause-holders
returns-clause-holders c =
    holders_said (blocks_from 15 (c.entries.result ∷ c.entries-2.result ∷ c.entries-3.result ∷ c.entries-4.result ∷ [])) c.marks-marks.result
    (said c) c.args.self.now
    c.marks-marks.ensures.lots c.marks-marks.ensures.holders c.marks-marks.ensures.ordinals

pub returns-clause-ordinals : goal.returns-clause-ordinals
returns-clause-ordinals c =
    ordinals_said (blocks_from 15 (c.entries.result ∷ c.entries-2.result ∷ c.entries-3.result ∷ c.entries-4.result ∷ [])) c.marks-marks.result
    (said c) c.args.self.now
    c.marks-marks.ensures.lots c.marks-marks.ensures.holders c.marks-marks.ensures.ordinals

pub returns-clause-past : goal.returns-clause-past
returns-clause-past c =
    past_said (blocks_from 15 (c.entries.result ∷ c.entries-2.result ∷ c.entries-3.result ∷ c.entries-4.result ∷ [])) c.marks-marks.result
    (said c) c.args.self.now
    c.marks-marks.ensures.lots c.marks-marks.ensures.holders c.marks-marks.ensures.ordinals

pub returns-clause-unowned : goal.returns-clause-unowned
returns-clause-unowned c =
    unowned_said (blocks_from 15 (c.entries.result ∷ c.entries-2.result ∷ c.entries-3.result ∷ c.entries-4.result ∷ [])) c.marks-marks.result
    (said c) c.args.self.now
    c.marks-marks.ensures.lots c.marks-marks.ensures.holders c.marks-marks.ensures.ordinals

pub returns-clause-third : goal.returns-clause-third
returns-clause-third c = λ g low. said c g 2 low (omega arith)

pub returns-clause-fourth : goal.returns-clause-fourth
returns-clause-fourth c = λ g low. said c g 3 low (omega arith)
