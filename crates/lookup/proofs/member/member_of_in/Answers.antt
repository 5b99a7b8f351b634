-- `member_of_in` meets its contract: the type of the node's type name has the members.
use Rattle.std.proofs.Common.{sym, ◌∙◌}
use Rattle.lookup.proofs.Types.{step_found}
use Rattle.lookup.proofs.member.member_of_in.Goals as goal

pub returns : goal.returns
returns c = c.find_member.ensures ∙ sym (step_found _ _ _ _ _ _ c.node_type_name.ensures c.find_type.ensures _ c.in_ok-find_type.was)
