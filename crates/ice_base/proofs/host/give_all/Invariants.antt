use Rattle.std.proofs.Common.{length, ◌-◌, ◌≡◌, ◌≤◌, ◌++◌, take, true}
use Rattle.ice_base.specs.Host.{SameDisk, Leaves, GaveOnly, FirstOf}
use Rattle.ice_base.proofs.host.give_all.Given as goal

abbrev pub invariant-loop-at : goal.invariant-loop-at
invariant-loop-at g l = record {
  disk : SameDisk (g.H.Disk.state l.initial.host) (g.H.Disk.state l.host);
  only : GaveOnly (g.H.Disk.state l.initial.host).streams (g.H.Disk.state l.host).streams;
  calm : (g.H.Disk.state l.host).streams.sink_faults ≡ (g.H.Disk.state l.initial.host).streams.sink_faults;
  within : l.at ≤ length l.bytes;
  aside : (g.H.Disk.state l.initial.host).tells ≡ true → (g.H.Disk.state l.host).streams.aside ≡ (g.H.Disk.state l.initial.host).streams.aside ++ take l.at l.bytes;
  leaves : (g.H.Disk.state l.initial.host).tells ≡ true → Leaves g.H.Disk.state g.H.Disk.left (FirstOf (g.H.Disk.state l.initial.host).streams.aside l.bytes l.at) l.initial.host l.host;
}

abbrev pub decreases-loop-at : goal.decreases-loop-at
decreases-loop-at g l = length l.bytes - l.at
