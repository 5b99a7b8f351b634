use Rattle.results.proofs.Turning.{few-pairs}
use Rattle.results.proofs.sort.Sorting.pair_count.Goals as goal

pub returns : goal.returns
returns c = let all = few-pairs c.args.self.now.plan.now c.args.self.now.results.now _ _ c.read_count.ensures.number c.read_count.ensures.within c.result_count.ensures _ c.min.ensures in record { count = all.0; within = all.1 }
