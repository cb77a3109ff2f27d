use Rattle.std.proofs.Common.{sym, ◌∙◌}
use Rattle.ice_tree.proofs.SpotLaws.{no_parent, blocked_parent, file_parent, spot_found, spot_taken}
use Rattle.ice_tree.proofs.makes.new_spot.Goals as goal

pub returns-in-Missing-clause-spot : goal.returns-in-Missing-clause-spot
returns-in-Missing-clause-spot c = λ f o p t is root. no_parent f o p t c.args.ends.now is c.in-Missing.is

pub returns-in-Blocked-clause-spot : goal.returns-in-Blocked-clause-spot
returns-in-Blocked-clause-spot c = λ f o p t is root. blocked_parent f o p t c.args.ends.now is c.in-Blocked.is

pub returns-in-File-clause-spot : goal.returns-in-File-clause-spot
returns-in-File-clause-spot c = λ f o p t is root. file_parent f o p t c.args.ends.now is c.in-File.number c.in-File.size c.in-File.is

pub returns-in-Missing-end-clause-spot : goal.returns-in-Missing-end-clause-spot
returns-in-Missing-end-clause-spot c = λ f o p t is root. spot_found f o p t c.args.ends.now is c.in-Dir.number c.in-Dir.size c.in-Dir.is (sym root ∙ c.if-root.false) c.in-Missing-end.is

pub returns-in_default-clause-spot : goal.returns-in_default-clause-spot
returns-in_default-clause-spot c = λ f o p t is root. spot_taken f o p t c.args.ends.now is c.in-Dir.number c.in-Dir.size c.in-Dir.is (sym root ∙ c.if-root.false) c.in_default.not-Missing
