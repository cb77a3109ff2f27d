use Rattle.std.proofs.Common.{ℕ, replicate, refl}
use Rattle.std.proofs.lemmas.List.{length-replicate, get_or-replicate}
use Rattle.ice_tables.specs.Tables.{blocks_from}
use Rattle.ice_owner.proofs.MarkLaws.{zeros_at}
use Rattle.ice_owner.proofs.Reading.{gathered_none, read_kept, holders_read, ordinals_read, read_accepted, bad_refused, gap_refused, bare_refused}
use Rattle.ice_owner.proofs.owners.Owners.read.Goals as goal

pub gather-requires-clause-none : goal.gather-requires-clause-none
gather-requires-clause-none c =
    gathered_none (blocks_from 15 c.args.blocks.now) c.args.live.now (replicate 16 0) (replicate 1024 65535)
    (length-replicate {A = ℕ} 16 0) (length-replicate {A = ℕ} 1024 65535)
    (zeros_at 16) (λ k low. get_or-replicate {A = ℕ} 1024 k 65535 0 low)

pub returns-then-not-gather-clause-refused : goal.returns-then-not-gather-clause-refused
returns-then-not-gather-clause-refused c = λ t said _ owners.
    let bad = c.if-not-gather.ensures.bad refl in
    bad_refused (blocks_from 15 c.args.blocks.now) c.args.live.now c.args.groups t said owners bad.0 bad.1 bad.2 bad.3 bad.4

pub returns-in-Some-first_gap-clause-refused : goal.returns-in-Some-first_gap-clause-refused
returns-in-Some-first_gap-clause-refused c = λ t said _ owners.
    let gap = c.in-Some-first_gap.ensures.gap in
    gap_refused (blocks_from 15 c.args.blocks.now) c.args.live.now c.args.groups t said owners c.gather.new.counts c.gather.new.places
    (c.if-not-gather.ensures.all refl) c.requires.most c.in-Some-first_gap.field-0 gap.1 gap.2

pub returns-in-Some-first_bare-clause-refused : goal.returns-in-Some-first_bare-clause-refused
returns-in-Some-first_bare-clause-refused c = λ t said _ owners.
    let bare = c.in-Some-first_bare.ensures.bare in
    bare_refused (blocks_from 15 c.args.blocks.now) c.args.live.now c.args.groups t said owners c.gather.new.counts c.gather.new.places
    (c.if-not-gather.ensures.all refl) c.requires.most c.in-Some-first_bare.field-0 bare.0 bare.1

pub invariant_of-result : goal.invariant_of-result
invariant_of-result c =
    read_kept (blocks_from 15 c.args.blocks.now) c.args.live.now c.args.groups c.gather.new.counts c.gather.new.places
    (c.if-not-gather.ensures.all refl) c.requires.some c.requires.most
    (c.in_default-first_gap.ensures.none refl)

pub returns-in-None-clause-holders : goal.returns-in-None-clause-holders
returns-in-None-clause-holders c =
    holders_read (blocks_from 15 c.args.blocks.now) c.args.live.now c.args.groups c.gather.new.counts c.gather.new.places
    (c.if-not-gather.ensures.all refl) c.requires.some c.requires.most
    (c.in_default-first_gap.ensures.none refl)

pub returns-in-None-clause-ordinals : goal.returns-in-None-clause-ordinals
returns-in-None-clause-ordinals c =
    ordinals_read (blocks_from 15 c.args.blocks.now) c.args.live.now c.args.groups c.gather.new.counts c.gather.new.places
    (c.if-not-gather.ensures.all refl) c.requires.some c.requires.most
    (c.in_default-first_gap.ensures.none refl)

pub returns-in-None-clause-lots : goal.returns-in-None-clause-lots
returns-in-None-clause-lots c =
    (read_kept (blocks_from 15 c.args.blocks.now) c.args.live.now c.args.groups c.gather.new.counts c.gather.new.places
    (c.if-not-gather.ensures.all refl) c.requires.some c.requires.most
    (c.in_default-first_gap.ensures.none refl)).lots

pub returns-in-None-clause-accepted : goal.returns-in-None-clause-accepted
returns-in-None-clause-accepted c =
    read_accepted (blocks_from 15 c.args.blocks.now) c.args.live.now c.args.groups c.gather.new.counts c.gather.new.places
    (c.if-not-gather.ensures.all refl) c.requires.some c.requires.most
    (c.in_default-first_gap.ensures.none refl) (c.in-None.ensures.none refl) (c.in_default.ensures.none refl)
