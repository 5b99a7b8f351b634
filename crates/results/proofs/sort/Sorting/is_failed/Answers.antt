use Rattle.std.proofs.Common.{◌∙◌}
use Rattle.results.proofs.Failing.{fails-lost, fails-never, fails-again, known-told}
use Rattle.results.proofs.sort.Sorting.is_failed.Goals as goal

pub returns-then-turn : goal.returns-then-turn
returns-then-turn c = c.if-turn.true ∙ fails-lost _ _ _ _ _ _ c.turn_at-turn.ensures c.if-turn.true

pub returns-then-any_retry : goal.returns-then-any_retry
returns-then-any_retry c = fails-again _ _ _ _ _ _ c.turn_at-turn.ensures c.if-turn.false _ c.any_retry.ensures c.if-any_retry.true _ (known-told c.args.self.now.plan.now _ c.args.failed.now _ c.is_known.ensures)

pub returns-else-any_retry : goal.returns-else-any_retry
returns-else-any_retry c = c.if-any_retry.false ∙ fails-never _ _ _ _ _ _ c.turn_at-turn.ensures c.if-turn.false _ c.any_retry.ensures c.if-any_retry.false
