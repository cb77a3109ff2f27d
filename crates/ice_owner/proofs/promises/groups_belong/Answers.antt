use Rattle.ice_owner.proofs.Laws.{kept_group}
use Rattle.ice_owner.proofs.promises.groups_belong.Goals as goal

pub returns-clause-kept : goal.returns-clause-kept
returns-clause-kept c = kept_group
