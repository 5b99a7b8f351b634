-- `bind_one` meets its contract: a merge that is there is applied.
use mathlib.Core.Path.{subst}
use Rattle.planning.specs.Merges.{Offered}
use Rattle.planning.proofs.Binding.{one_none, one-some}
use Rattle.planning.proofs.planning.Planning.bind_one.Goals as goal

pub returns-in-Some-clause-bound : goal.returns-in-Some-clause-bound
returns-in-Some-clause-bound c = one-some c.args.j c.args.self.now c.args.reads.now _ c.mark.ensures _ _ (subst (Offered c.args.j c.args.self.now c.args.reads.now c.mark.new.marks) c.in-Some.is c.evaluate.ensures.offer) c.apply.ensures.merged

pub returns-in_default-clause-bound : goal.returns-in_default-clause-bound
returns-in_default-clause-bound c = one_none c.args.j c.args.self.now c.args.reads.now _ c.mark.ensures (subst (Offered c.args.j c.args.self.now c.args.reads.now c.mark.new.marks) c.in_default.is c.evaluate.ensures.offer)
