-- `try_group` meets its contract: by the flag of the group, and by whether it has a merge.
use mathlib.Core.Path.{subst}
use Rattle.planning.specs.Merges.{Offered}
use Rattle.planning.proofs.Turning.{turn-off, flag-off, turn-none, flag-none, turn-some, flag-some}
use Rattle.planning.proofs.planning.Planning.try_group.Goals as goal

pub returns-then-not-alive-j-clause-chosen : goal.returns-then-not-alive-j-clause-chosen
returns-then-not-alive-j-clause-chosen c = turn-off c.args.self.now c.args.alive.now c.args.j c.args.limit c.args.reads.now c.args.best c.if-not-alive-j.true

pub returns-then-not-alive-j-clause-flags : goal.returns-then-not-alive-j-clause-flags
returns-then-not-alive-j-clause-flags c = flag-off c.args.self.now c.args.alive.now c.args.j c.args.limit c.args.reads.now c.args.best c.if-not-alive-j.true

pub returns-in_default-clause-chosen : goal.returns-in_default-clause-chosen
returns-in_default-clause-chosen c = turn-none c.args.self.now c.args.alive.now c.args.j c.args.limit c.args.reads.now c.args.best c.if-not-alive-j.false _ c.mark.ensures (subst (Offered c.args.j c.args.self.now c.args.reads.now c.mark.new.marks) c.in_default.is c.evaluate.ensures.offer)

pub returns-in_default-clause-flags : goal.returns-in_default-clause-flags
returns-in_default-clause-flags c = flag-none c.args.self.now c.args.alive.now c.args.j c.args.limit c.args.reads.now c.args.best c.if-not-alive-j.false _ c.mark.ensures (subst (Offered c.args.j c.args.self.now c.args.reads.now c.mark.new.marks) c.in_default.is c.evaluate.ensures.offer)

pub returns-clause-chosen : goal.returns-clause-chosen
returns-clause-chosen c = turn-some c.args.self.now c.args.alive.now c.args.j c.args.limit c.args.reads.now c.args.best c.if-not-alive-j.false _ c.mark.ensures _ (subst (Offered c.args.j c.args.self.now c.args.reads.now c.mark.new.marks) c.in-Some.is c.evaluate.ensures.offer) _ c.weigh.ensures.chosen

pub returns-clause-flags : goal.returns-clause-flags
returns-clause-flags c = flag-some c.args.self.now c.args.alive.now c.args.j c.args.limit c.args.reads.now c.args.best c.if-not-alive-j.false _ c.mark.ensures _ (subst (Offered c.args.j c.args.self.now c.args.reads.now c.mark.new.marks) c.in-Some.is c.evaluate.ensures.offer)
