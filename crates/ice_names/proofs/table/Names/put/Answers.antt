use Rattle.ice_names.proofs.TableLaws.{put_is_sound}
use Rattle.ice_names.proofs.table.Names.put.Goals as goal

pub invariant_of-self : goal.invariant_of-self
invariant_of-self c = put_is_sound _ c.args.self.now c.args.slot c.args.row c.self.view_is c.self.invariant c.requires.slot
    c.requires.cube c.requires.alone

pub returns-clause-sound : goal.returns-clause-sound
returns-clause-sound c = put_is_sound _ c.args.self.now c.args.slot c.args.row c.self.view_is c.self.invariant c.requires.slot
    c.requires.cube c.requires.alone
