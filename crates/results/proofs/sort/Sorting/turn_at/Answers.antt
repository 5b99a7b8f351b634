-- What was read of the two files makes a turn: the law in Members.
use Rattle.results.proofs.Members.{turned}
use Rattle.results.proofs.sort.Sorting.turn_at.Goals as goal

pub returns : goal.returns
returns c = turned c.args.self.now.plan.now c.args.p c.args.self.now.results.now c.args.q _ _ _ _ _ _ c.text_past-named.ensures (c.number_at-count.ensures.number, c.number_at-count.ensures.within) c.past-from.ensures c.status_at-status.ensures c.past-at.ensures c.is_lost-lost.ensures
