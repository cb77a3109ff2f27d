use Rattle.ice_tree.proofs.GoneLaws.{gone-missing, gone-blocked, gone-full, gone-file, gone-dir}
use Rattle.ice_tree.proofs.removes.removal_of.Goals as goal

pub returns-then-size-gt0-clause-gone : goal.returns-then-size-gt0-clause-gone
returns-then-size-gt0-clause-gone c = λ f o p t below is. gone-full f o p t below c.args.ends.now is c.in-Dir.number c.in-Dir.size c.in-Dir.is c.if-size-gt0.true

pub returns-in-Missing-clause-gone : goal.returns-in-Missing-clause-gone
returns-in-Missing-clause-gone c = λ f o p t below is. gone-missing f o p t below c.args.ends.now is c.in-Missing.is

pub returns-in-Blocked-clause-gone : goal.returns-in-Blocked-clause-gone
returns-in-Blocked-clause-gone c = λ f o p t below is. gone-blocked f o p t below c.args.ends.now is c.in-Blocked.is

pub returns-in-File-clause-gone : goal.returns-in-File-clause-gone
returns-in-File-clause-gone c = λ f o p t below is. gone-file f o p t below c.args.ends.now is c.in-File.number c.in-File.size c.in-File.is c.removal_in.result c.removal_in.ensures.gone

pub returns-else-size-gt0-clause-gone : goal.returns-else-size-gt0-clause-gone
returns-else-size-gt0-clause-gone c = λ f o p t below is. gone-dir f o p t below c.args.ends.now is c.in-Dir.number c.in-Dir.size c.in-Dir.is c.if-size-gt0.false c.removal_in-in-Dir.result c.removal_in-in-Dir.ensures.gone
