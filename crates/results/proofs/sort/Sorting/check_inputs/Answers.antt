-- The plan's refusals, then those of the results, then the counts: the laws in Accepting.
use Rattle.std.proofs.lemmas.Result.{err_from_is_err_and}
use mathlib.Core.Path.{sym}
use Rattle.results.proofs.Accepting.{counts_same, plan-refused, results-refused, counts-differ}
use Rattle.results.proofs.sort.Sorting.check_inputs.Goals as goal

pub returns-then-read_count-result_count : goal.returns-then-read_count-result_count
returns-then-read_count-result_count c = counts_same c.args.self.now.plan.now c.args.self.now.results.now _ (sym c.in_ok-check_plan.ensures) _ (sym c.in_ok-check_results.ensures) _ _ c.read_count.ensures.reads c.result_count.ensures c.if-read_count-result_count.true

pub returns-in_err-check_plan : goal.returns-in_err-check_plan
returns-in_err-check_plan c = let p = err_from_is_err_and c.from_residual.result c.from_residual.ensures.1 in rw (p.1, p.2) (plan-refused c.args.self.now.plan.now c.args.self.now.results.now _ (sym c.in_err-check_plan.ensures))

pub returns-in_err-check_results : goal.returns-in_err-check_results
returns-in_err-check_results c = let p = err_from_is_err_and c.from_residual-in_err-check_results.result c.from_residual-in_err-check_results.ensures.1 in rw (p.1, p.2) (results-refused c.args.self.now.plan.now c.args.self.now.results.now _ (sym c.in_ok-check_plan.ensures) _ (sym c.in_err-check_results.ensures))

pub returns : goal.returns
returns c = counts-differ c.args.self.now.plan.now c.args.self.now.results.now _ (sym c.in_ok-check_plan.ensures) _ (sym c.in_ok-check_results.ensures) _ _ c.read_count.ensures.reads c.result_count.ensures c.if-read_count-result_count.false c.read_count.ensures.number _ c.pair_count.ensures.count
