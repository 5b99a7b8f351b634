-- `is_better` meets its contract: by the keys at last.
use Rattle.planning.proofs.Weighing.{better_key}
use Rattle.planning.proofs.planning.Planning.is_better.Goals as goal

pub returns : goal.returns
returns c = better_key c.args.self.now c.args.a c.args.b _ _ c.weight-x.ensures c.weight-y.ensures _ c.if-x-y.false c.if-a-b.false c.stands_first.ensures
