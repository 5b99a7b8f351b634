use Rattle.std.proofs.Common.{length, sum_by, ap, ◌∙◌, arith}
use Rattle.planner.specs.Lists.{keep}
use Rattle.reads.specs.Held.{reply_of, is_covered}
use Rattle.reads.proofs.Steps.{sum-modest}
use Rattle.reads.proofs.table.Reads.covered.Goals as goal

pub returns-clause-count : goal.returns-clause-count
returns-clause-count c = c.total.ensures.count ∙ ap (λ rs. length (keep (is_covered c.args.marks.now) rs)) c.self.view_is

pub returns-clause-reply : goal.returns-clause-reply
returns-clause-reply c = c.total.ensures.reply ∙ ap (λ rs. sum_by reply_of (keep (is_covered c.args.marks.now) rs)) c.self.view_is

pub returns-clause-modest : goal.returns-clause-modest
returns-clause-modest c h =
    omega (arith, returns-clause-reply c, returns-clause-count c, c.total.ensures.within, sum-modest (is_covered c.args.marks.now) c.args.self.now h)
