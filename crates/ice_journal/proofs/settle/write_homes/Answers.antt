use Rattle.std.proofs.Common.{rules, ◌≡◌, ◌<◌, ℕ, List, true, length, ap, sym, ◌∙◌, arith}
use Rattle.ice_txn.specs.Sets.{address, contents, holds}
use Rattle.ice_txn.proofs.SetLaws.{held_here, held_at}
use Rattle.ice_base.specs.Disk.{block}
use Rattle.ice_journal.specs.Blocks.{IsPut}
use Rattle.ice_journal.proofs.Loops.{wrote_within, wrote_more}
use Rattle.ice_journal.proofs.settle.write_homes.Goals as goal

back : (a b : ℕ) → a ≡ b → b ≡ a
back a b e = sym e

place_of : (place : ℕ → ℕ) (h a b : ℕ) → h ≡ place a → a ≡ b → h ≡ place b
place_of place h a b e is = e ∙ ap place is

follow : (a b c : List ℕ) → a ≡ b → b ≡ c → a ≡ c
follow a b c e f = e ∙ f

pub home-home-requires : goal.home-home-requires
home-home-requires g c =
    let entries = c.args.set.now.entries in
    c.requires.homes c.address.result (held_here entries c.loop-i.i c.address.result (omega arith) (back c.address.result (address entries c.loop-i.i) c.address.ensures))

pub write-requires : goal.write-requires
write-requires g c =
    let entries = c.args.set.now.entries in
    let held : holds entries c.address.result ≡ true = held_here entries c.loop-i.i c.address.result (omega arith) (back c.address.result (address entries c.loop-i.i) c.address.ensures) in
    let here = c.requires.below c.home-home.result (c.address.result, c.requires.homes c.address.result held, c.home-home.ensures) in
    omega (arith, here, c.loop-i.invariant.frame.size)

pub returns-in_err-write-clause-within : goal.returns-in_err-write-clause-within
returns-in_err-write-clause-within g c =
    let entries = c.args.set.now.entries in
    let at = g.J.Journal.places c.args.journal.now in
    wrote_within g.D.Disk.state g.D.Disk.left (IsPut at entries) (λ j. at.place (address entries j)) (λ j. contents entries j) c.loop-i.i c.args.disk.now c.loop-i.disk c.write.new.self
    c.home-home.result (c.address.result, held_here entries c.loop-i.i c.address.result (omega arith) (back c.address.result (address entries c.loop-i.i) c.address.ensures), c.home-home.ensures) c.loop-i.invariant c.write.ensures.within

pub loop-i-preserved : goal.loop-i-preserved
loop-i-preserved g c =
    let entries = c.args.set.now.entries in
    let at = g.J.Journal.places c.args.journal.now in
    let less : c.loop-i.i < length entries = omega arith in
    let held : holds entries c.address.result ≡ true = held_here entries c.loop-i.i c.address.result less (back c.address.result (address entries c.loop-i.i) c.address.ensures) in
    wrote_more g.D.Disk.state g.D.Disk.left (IsPut at entries) (λ j. at.place (address entries j)) (λ j. contents entries j) c.loop-i.i c.args.disk.now c.loop-i.disk c.write.new.self
    c.home-home.result (place_of at.place c.home-home.result c.address.result (address entries c.loop-i.i) c.home-home.ensures c.address.ensures) (c.address.result, held, c.home-home.ensures) c.loop-i.invariant c.write.ensures.within c.in_ok-write.ensures.calm
    (λ told. follow (block (g.D.Disk.state c.write.new.self).now c.home-home.result) c.block.result.now (contents entries c.loop-i.i) (c.in_ok-write.ensures.bytes told) c.block.ensures)
    (λ told. search rules)
    (λ j before e. c.len-i-end.ensures.differ j c.loop-i.i before less
    (c.requires.apart.home_home (address entries j) (address entries c.loop-i.i) (c.requires.homes (address entries j) (held_at entries j (omega (arith, before))))
    (c.requires.homes (address entries c.loop-i.i) (held_at entries c.loop-i.i less)) e))
