use Rattle.std.proofs.Common.{◌+◌, ◌-◌, inl, inr, ℕ, false, List, max, set, sym, subst, arith}
use Rattle.std.specs.Prelude.{slice_index}
use Rattle.std.proofs.lemmas.List.{get_or_past}
use Rattle.ice_tables.specs.Tables.{blocks_from}
use Rattle.ice_owner.specs.Places.{AreGathered}
use Rattle.ice_owner.proofs.Entries.{first_byte}
use Rattle.ice_owner.proofs.Gathering.{gathered_skip, gathered_more}
use Rattle.ice_owner.proofs.gather.take_entry.Goals as goal
use Rattle.ice_owner.proofs.gather.take_entry.Goals.{then-slot-ge16-via-then-slot-ge16, then-slot-ge16-via-else-slot-ge16+then-not-live-slot, then-slot-ge16-via-else-slot-ge16+else-not-live-slot+then-ordinal-ge64}

pub returns-then-owner-eq0-clause-more : goal.returns-then-owner-eq0-clause-more
returns-then-owner-eq0-clause-more c =
    let m = blocks_from 15 c.args.blocks.now in
    let owner = first_byte m c.args.g in
    λ _. gathered_skip m c.args.live.now c.args.g c.args.counts.now c.args.places.now c.requires.gathered
    (omega (arith, owner, c.entry_byte-owner.ensures, c.if-owner-eq0.true))

pub returns-then-slot-ge16-clause-bad : goal.returns-then-slot-ge16-clause-bad
returns-then-slot-ge16-clause-bad c = λ _.
    let m = blocks_from 15 c.args.blocks.now in
    let owner = first_byte m c.args.g in
    let s : ℕ = c.entry_byte-owner.result - 1 in
    elim c.then-slot-ge16.branch [
      | then-slot-ge16-via-then-slot-ge16 w ↦ (
        s,
        omega (arith, owner, c.entry_byte-owner.ensures, c.if-owner-eq0.false),
        inl
            (get_or_past c.args.live.now s false (omega (arith, w.if-slot-ge16, c.told-live))),
      )
      | then-slot-ge16-via-else-slot-ge16+then-not-live-slot w ↦
          (s, omega (arith, owner, c.entry_byte-owner.ensures, c.if-owner-eq0.false), inl w.if-not-live-slot.true)
      | then-slot-ge16-via-else-slot-ge16+else-not-live-slot+then-ordinal-ge64 w ↦ (
        s,
        omega (arith, owner, c.entry_byte-owner.ensures, c.if-owner-eq0.false),
        inr
            (inl (omega (arith, w.if-ordinal-ge64.true, c.entry_byte-ordinal.ensures))),
      )
    ]

pub returns-clause-more : goal.returns-clause-more
returns-clause-more c = λ placed.
    let m = blocks_from 15 c.args.blocks.now in
    let owner = first_byte m c.args.g in
    let s : ℕ = c.entry_byte-owner.result - 1 in
    let o : ℕ = c.entry_byte-ordinal.result in
    let more = gathered_more m c.args.live.now c.args.g c.args.counts.now c.args.places.now c.requires.gathered c.requires.group s o
    (omega arith) c.if-not-live-slot.false (omega (arith, owner, c.entry_byte-owner.ensures, c.if-owner-eq0.false))
    (sym c.entry_byte-ordinal.ensures) (omega arith) (c.put.ensures.free placed) in
    subst (λ (counts : List ℕ). AreGathered m c.args.live.now (c.args.g + 1) counts c.put.new.places) (sym (c.put.ensures.count placed))
    (subst (λ (places : List ℕ). AreGathered m c.args.live.now (c.args.g + 1)
    (set c.args.counts.now s (max (slice_index c.args.counts.now s) (o + 1))) places) (sym (c.put.ensures.place placed)) more)
