-- `merge` meets its contract: the reads after the together merges are those that the rounds start from, the packets then are the limit, and the
-- groups that are flagged are the candidates.
use Rattle.planning.proofs.Stages.{merge_told}
use Rattle.planning.proofs.planning.Planning.merge.Goals as goal

pub returns-clause-merged : goal.returns-clause-merged
returns-clause-merged c =
    merge_told _ _ _ _ _ _ _ _ c.bind.ensures.bound c.budget.ensures c.packets-limit.ensures c.allow.ensures c.settle.ensures.settled
