use Rattle.std.proofs.Common.{◌≡◌, ⊎_elim, inl, refl, subst, arith}
use Rattle.ice_base.specs.Disk.{DiskState, Rose}
use Rattle.tree_spec.specs.World.{World}
use Rattle.ice_tables.specs.Tables.{HasTables, Tables}
use Rattle.ice_tables.proofs.TableLaws.{tables_one}
use Rattle.ice_system.specs.Attaching.{RefusesDisk}
use Rattle.ice_system.specs.Systems.{tables_of}
use Rattle.ice_system.specs.declared.fault.TablesFault.{TablesFault}
use Rattle.ice_system.specs.declared.fault.TablesFault.TheVariants as faults
use Rattle.ice_base.specs.declared.status.Status.TheVariants.{Disk, Memory}
use Rattle.ice_volume.specs.Sessions.{IsOfHost, Starts}
use Rattle.ice_volume.specs.Volumes.{StandsFor, VolumeView}
use Rattle.ice_run.proofs.Whole.{ends_silent, ends_served, crash_opened, crash_served, opened_keeps}
use Rattle.ice_run.proofs.top.open_and_serve.Goals as goal

rose_of : (fault : TablesFault) (old new : DiskState) → fault ≡ faults.Disk → RefusesDisk fault old new → Rose old.faults new.faults
rose_of fault old new is refuses = subst (λ f. RefusesDisk f old new) is refuses

-- the tables that the image had at the start are those that it has once the volume is open
same_tables : (old mid : DiskState) (w : World) → Starts old w → (v : VolumeView) → HasTables old.now (tables_of v.system) → StandsFor v mid w → (t : Tables) → HasTables old.now t → HasTables mid.now t
same_tables old mid w starts v here stands t has = subst (HasTables mid.now) (tables_one old.now (tables_of v.system) t here has) stands.tables.now.has

pub returns-in-Err-Disk-clause-ends : goal.returns-in-Err-Disk-clause-ends
returns-in-Err-Disk-clause-ends g c = λ w starts.
    ends_silent w (g.H.Disk.state c.args.host.now) (g.H.Disk.state c.attach.new.disk) starts c.attach.ensures.within.streams Disk (refl, omega arith, inl (refl, refl)) (λ is. absurd (cc is))
    (rose_of _ _ _ c.in-Err-Disk.field-0-is c.in-Err-Disk.ensures.refused) (λ quiet. absurd (quiet.disk (rose_of _ _ _ c.in-Err-Disk.field-0-is c.in-Err-Disk.ensures.refused)))
    (opened_keeps g.H.Disk.state g.H.Disk.left c.args.host.now c.attach.new.disk c.attach.ensures.within w)

pub returns-in-Err-Disk-clause-crash : goal.returns-in-Err-Disk-clause-crash
returns-in-Err-Disk-clause-crash g c = λ w starts. crash_opened g.H.Disk.state g.H.Disk.left w c.args.host.now c.attach.new.disk c.attach.ensures.within (c.attach.ensures.leaves w starts)

pub returns-in-Err-Memory-clause-ends : goal.returns-in-Err-Memory-clause-ends
returns-in-Err-Memory-clause-ends g c = λ w starts. let faults = c.attach.ensures.within.faults in
    ends_silent w (g.H.Disk.state c.args.host.now) (g.H.Disk.state c.attach.new.disk) starts c.attach.ensures.within.streams Memory (refl, refl, refl) (λ is. absurd (cc is)) (omega (arith, faults)) (λ quiet. tt)
    (opened_keeps g.H.Disk.state g.H.Disk.left c.args.host.now c.attach.new.disk c.attach.ensures.within w)

pub returns-in-Err-Memory-clause-crash : goal.returns-in-Err-Memory-clause-crash
returns-in-Err-Memory-clause-crash g c = λ w starts. crash_opened g.H.Disk.state g.H.Disk.left w c.args.host.now c.attach.new.disk c.attach.ensures.within (c.attach.ensures.leaves w starts)

pub returns-in-Err-Small-clause-ends : goal.returns-in-Err-Small-clause-ends
returns-in-Err-Small-clause-ends g c = λ w starts. ⊎_elim (λ is. absurd (cc is)) (λ is. absurd (cc is)) (subst IsOfHost c.in-Err-Small.field-0-is (c.in-Err-Small.ensures.host w starts))

pub returns-in-Err-Small-clause-crash : goal.returns-in-Err-Small-clause-crash
returns-in-Err-Small-clause-crash g c = λ w starts. crash_opened g.H.Disk.state g.H.Disk.left w c.args.host.now c.attach.new.disk c.attach.ensures.within (c.attach.ensures.leaves w starts)

pub returns-in-Err-Layout-clause-ends : goal.returns-in-Err-Layout-clause-ends
returns-in-Err-Layout-clause-ends g c = λ w starts. ⊎_elim (λ is. absurd (cc is)) (λ is. absurd (cc is)) (subst IsOfHost c.in-Err-Layout.field-0-is (c.in-Err-Layout.ensures.host w starts))

pub returns-in-Err-Layout-clause-crash : goal.returns-in-Err-Layout-clause-crash
returns-in-Err-Layout-clause-crash g c = λ w starts. crash_opened g.H.Disk.state g.H.Disk.left w c.args.host.now c.attach.new.disk c.attach.ensures.within (c.attach.ensures.leaves w starts)

pub returns-clause-ends : goal.returns-clause-ends
returns-clause-ends g c = λ w starts.
    let state = g.H.Disk.state in let left = g.H.Disk.left in
    ends_served state left w c.args.host.now c.attach.new.disk c.serve_and_finish.new.host starts c.attach.ensures.within (same_tables (g.H.Disk.state c.args.host.now) (g.H.Disk.state c.attach.new.disk) w starts c.in-Ok.volume (c.in-Ok.ensures.has starts.settled.told) (c.in-Ok.ensures.opens w starts)) c.serve_and_finish.ensures.on c.serve_and_finish.result
    c.serve_and_finish.ensures.cause (c.serve_and_finish.ensures.concluded w (c.in-Ok.ensures.opens w starts) c.requires.text)

pub returns-clause-crash : goal.returns-clause-crash
returns-clause-crash g c = λ w starts.
    let state = g.H.Disk.state in let left = g.H.Disk.left in
    crash_served state left w c.args.host.now c.attach.new.disk c.serve_and_finish.new.host starts c.attach.ensures.within (same_tables (g.H.Disk.state c.args.host.now) (g.H.Disk.state c.attach.new.disk) w starts c.in-Ok.volume (c.in-Ok.ensures.has starts.settled.told) (c.in-Ok.ensures.opens w starts)) c.serve_and_finish.result
    (c.serve_and_finish.ensures.concluded w (c.in-Ok.ensures.opens w starts) c.requires.text) (c.attach.ensures.leaves w starts)
