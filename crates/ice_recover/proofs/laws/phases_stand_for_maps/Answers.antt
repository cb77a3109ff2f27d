use Rattle.std.proofs.Common.{[], None}
use Rattle.ice_journal.proofs.PhaseLaws.{idle_rests, full_rests, open_rests, idle_stands, full_stands, open_stands, close_stands}
use Rattle.ice_recover.proofs.laws.phases_stand_for_maps.Goals as goal

pub returns-clause-idle : goal.returns-clause-idle
returns-clause-idle c = λ at map i j same idle. idle_rests (λ h. None) at [] map i j same idle

pub returns-clause-full : goal.returns-clause-full
returns-clause-full c = λ reads at entries map i j same full. full_rests reads at entries map i j same full

pub returns-clause-open_gate : goal.returns-clause-open_gate
returns-clause-open_gate c = λ reads at entries map i j same is. open_rests reads at entries map i j same is

pub returns-clause-body : goal.returns-clause-body
returns-clause-body c = λ reads at map i idle. idle_stands reads at [] map i idle

pub returns-clause-gate : goal.returns-clause-gate
returns-clause-gate c = λ reads at entries map i full. full_stands reads at entries map i full

pub returns-clause-homes : goal.returns-clause-homes
returns-clause-homes c = λ reads at entries map i is. open_stands reads at entries map i is

pub returns-clause-close : goal.returns-clause-close
returns-clause-close c = λ reads at entries map i full. close_stands reads at entries map i full
