use Rattle.std.proofs.Common.{sum_by, ap, ◌∙◌}
use Rattle.planner.specs.Lists.{keep}
use Rattle.reads.specs.Held.{limited_reply, is_covered}
use Rattle.reads.proofs.table.Reads.total_reply.Goals as goal

pub returns-clause-reply : goal.returns-clause-reply
returns-clause-reply c = c.total_reply.ensures.reply ∙ ap (λ rs. sum_by limited_reply (keep (is_covered c.args.marks.now) rs)) c.self.view_is
