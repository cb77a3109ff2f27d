use Rattle.ice_keep.proofs.JournaledLaws.{commit_homes}
use Rattle.keep_tests.proofs.calls.commit_in.Goals as goal

pub returns : goal.returns
returns g c = record { homes = commit_homes c.args.lot.now c.commit.result c.args.keep.now c.commit.new.self c.commit.ensures.emptied c.commit.ensures.kept c.requires.homes }
