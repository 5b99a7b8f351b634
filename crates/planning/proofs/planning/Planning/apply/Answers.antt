-- `apply` meets its contract: the table is the planner's reads after the merge, and the new read has the name of its group.
use mathlib.Core.Path.{refl}
use Rattle.planning.proofs.Applying.{applied, renamed}
use Rattle.planning.proofs.planning.Planning.apply.Goals as goal

pub returns-clause-merged : goal.returns-clause-merged
returns-clause-merged c = applied c.args.self.now c.args.m c.args.marks.now _ _ _ refl c.merge.ensures.merged refl refl c.requires c.merge.ensures.told

pub returns-clause-named : goal.returns-clause-named
returns-clause-named c = renamed c.args.self.now c.args.m c.args.marks.now _ _ _ refl c.merge.ensures.merged c.name-name.result refl refl c.name-name.ensures.part c.name-name.ensures.ordered c.name-name.ensures.inside
