use Rattle.ice_cube.proofs.CommandLaws.{room_holds, room_rest}
use Rattle.ice_cube.proofs.cube.Cube.make_room.Goals as goal

pub returns-clause-rest : goal.returns-clause-rest
returns-clause-rest g c = λ map sure.
    room_rest c.settle.result c.args.self.now.lot c.args.self.now.set c.settle.new.self.set map (g.D.Disk.state c.settle.new.disk) c.settle.ensures.emptied (c.settle.ensures.rest map sure)

pub returns-clause-holds : goal.returns-clause-holds
returns-clause-holds g c = λ f mode h holds.
    room_holds c.settle.result f mode h c.settle.new.self (g.D.Disk.state c.settle.new.disk) (c.settle.ensures.settled f mode h holds) (c.settle.ensures.kept f mode h holds)
