use Rattle.std.proofs.Common.{◌≡◌, ◌∙◌, List, Bool, false, sym, subst, ap, arith}
use Rattle.ice_base.specs.Frames.{CrashStep, Within}
use Rattle.ice_base.specs.FrameLaws.{within_more}
use Rattle.ice_base.specs.Lots.{extent}
use Rattle.tree_spec.specs.Records.{settled}
use Rattle.ice_tables.specs.Journals.{lot_places}
use Rattle.ice_txn.specs.declared.set.Entry.{Entry}
use Rattle.ice_journal.specs.Blocks.{CommitBlocks}
use Rattle.ice_keep.proofs.JournaledLaws.{none_homes}
use Rattle.ice_cube.specs.Cubes.{CubeView, HasHistory, Holds}
use Rattle.ice_cube.proofs.CubeLaws.{commit_in, commit_settles, commit_step}
use Rattle.ice_cube.proofs.cube.Cube.settle.Goals as goal

pub invariant_of-self : goal.invariant_of-self
invariant_of-self g c = none_homes c.self.inside.lot c.commit.new.self.entries c.in-Ok.ensures.emptied

pub returns-in-Ok-clause-within : goal.returns-in-Ok-clause-within
returns-in-Ok-clause-within g c =
    let state = g.D.Disk.state in let left = g.D.Disk.left in let a = c.args.disk.now in let b = c.commit.new.disk in let lot = c.self.inside.lot in let es = c.self.inside.keep.entries in
    subst (λ (x : CubeView). Within state left (extent x.lot) a b) c.self.view_is
    (within_more state left (CommitBlocks (lot_places lot) es) (extent lot) a b (commit_in lot es (omega (arith, c.len.ensures.len, c.len.ensures.few)) c.self.invariant) c.commit.ensures.within)

pub returns-in-Err-clause-within : goal.returns-in-Err-clause-within
returns-in-Err-clause-within g c =
    let state = g.D.Disk.state in let left = g.D.Disk.left in let a = c.args.disk.now in let b = c.commit.new.disk in let lot = c.self.inside.lot in let es = c.self.inside.keep.entries in
    subst (λ (x : CubeView). Within state left (extent x.lot) a b) c.self.view_is
    (within_more state left (CommitBlocks (lot_places lot) es) (extent lot) a b (commit_in lot es (omega (arith, c.len.ensures.len, c.len.ensures.few)) c.self.invariant) c.commit.ensures.within)

pub returns-in-Ok-clause-crash : goal.returns-in-Ok-clause-crash
returns-in-Ok-clause-crash g c = λ f mode h holds.
    let state = g.D.Disk.state in let left = g.D.Disk.left in let a = c.args.disk.now in let b = c.commit.new.disk in
    let v : CubeView = record { lot = c.self.inside.lot; set = c.self.inside.keep.entries; done = c.self.inside.done; stopped = c.self.inside.stopped } in
    let e : v ≡ c.args.self.now = c.self.view_is in
    let live : v.stopped ≡ false = ap (λ (x : CubeView). x.stopped) e ∙ c.requires.live in
    let there : Holds f mode h v (state a) = subst (λ (x : CubeView). Holds f mode h x (state a)) (sym e) holds in
    subst (λ (x : CubeView). CrashStep state left (extent x.lot) (HasHistory x.lot f mode h) a b) e (commit_step state left f mode h v a b live there c.commit.ensures.crash)

pub returns-in-Err-clause-crash : goal.returns-in-Err-clause-crash
returns-in-Err-clause-crash g c = λ f mode h holds.
    let state = g.D.Disk.state in let left = g.D.Disk.left in let a = c.args.disk.now in let b = c.commit.new.disk in
    let v : CubeView = record { lot = c.self.inside.lot; set = c.self.inside.keep.entries; done = c.self.inside.done; stopped = c.self.inside.stopped } in
    let e : v ≡ c.args.self.now = c.self.view_is in
    let live : v.stopped ≡ false = ap (λ (x : CubeView). x.stopped) e ∙ c.requires.live in
    let there : Holds f mode h v (state a) = subst (λ (x : CubeView). Holds f mode h x (state a)) (sym e) holds in
    subst (λ (x : CubeView). CrashStep state left (extent x.lot) (HasHistory x.lot f mode h) a b) e (commit_step state left f mode h v a b live there c.commit.ensures.crash)

pub returns-in-Err-clause-kept : goal.returns-in-Err-clause-kept
returns-in-Err-clause-kept g c = λ f mode h holds.
    let state = g.D.Disk.state in let left = g.D.Disk.left in let a = c.args.disk.now in let b = c.commit.new.disk in
    let v : CubeView = record { lot = c.self.inside.lot; set = c.self.inside.keep.entries; done = c.self.inside.done; stopped = c.self.inside.stopped } in
    let e : v ≡ c.args.self.now = c.self.view_is in
    let live : v.stopped ≡ false = ap (λ (x : CubeView). x.stopped) e ∙ c.requires.live in
    let there : Holds f mode h v (state a) = subst (λ (x : CubeView). Holds f mode h x (state a)) (sym e) holds in
    record { lasts = (commit_step state left f mode h v a b live there c.commit.ensures.crash).after; runs = λ never. absurd (cc never) }

pub returns-in-Ok-clause-settled : goal.returns-in-Ok-clause-settled
returns-in-Ok-clause-settled g c = λ f mode h holds.
    let state = g.D.Disk.state in let a = c.args.disk.now in let b = c.commit.new.disk in
    let v : CubeView = record { lot = c.self.inside.lot; set = c.self.inside.keep.entries; done = c.self.inside.done; stopped = c.self.inside.stopped } in
    let e : v ≡ c.args.self.now = c.self.view_is in
    let live : v.stopped ≡ false = ap (λ (x : CubeView). x.stopped) e ∙ c.requires.live in
    let there : Holds f mode h v (state a) = subst (λ (x : CubeView). Holds f mode h x (state a)) (sym e) holds in
    let r = there.runs live in
    let last = commit_settles f mode h v (state a) (state b) r (c.in-Ok.ensures.done r.map r.rest) in
    let last' = subst (λ (es : List Entry). Holds f mode (settled h) (record { lot = c.self.inside.lot; set = es; done = c.self.inside.done; stopped = false }) (state b)) (sym c.in-Ok.ensures.emptied) last in
    subst (λ (x : Bool). Holds f mode (settled h) (record { lot = c.self.inside.lot; set = c.commit.new.self.entries; done = c.self.inside.done; stopped = x }) (state b)) (sym live) last'
