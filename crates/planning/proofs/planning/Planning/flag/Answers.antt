-- `flag` meets its contract: that of a struct is whether it may be chosen.
use Rattle.planning.proofs.Living.{flag_struct}
use Rattle.planning.proofs.planning.Planning.flag.Goals as goal

pub returns-else-structs-j : goal.returns-else-structs-j
returns-else-structs-j c = flag_struct c.args.self.now c.args.most c.args.structs c.args.j _ c.if-structs-j.false c.is_choice.ensures
