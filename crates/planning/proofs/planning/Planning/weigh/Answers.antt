-- `weigh` meets its contract: a merge that leads and takes no more packets than the limit is the best now.
use Rattle.planning.proofs.Turning.{weigh-behind, weigh-over, weigh-new}
use Rattle.planning.proofs.planning.Planning.weigh.Goals as goal

pub returns-then-not-leads-clause-chosen : goal.returns-then-not-leads-clause-chosen
returns-then-not-leads-clause-chosen c = weigh-behind c.args.self.now c.args.limit c.args.reads.now c.args.marks.now c.args.m c.args.best _ c.leads.ensures c.if-not-leads.true

pub returns-then-limit-packets_with-clause-chosen : goal.returns-then-limit-packets_with-clause-chosen
returns-then-limit-packets_with-clause-chosen c = weigh-over c.args.self.now c.args.limit c.args.reads.now c.args.marks.now c.args.m c.args.best _ c.leads.ensures c.if-not-leads.false c.requires.modest.reply _ _ c.budget-budget.ensures c.packets_with.ensures c.if-limit-packets_with.true

pub returns-clause-chosen : goal.returns-clause-chosen
returns-clause-chosen c = weigh-new c.args.self.now c.args.limit c.args.reads.now c.args.marks.now c.args.m c.args.best _ c.leads.ensures c.if-not-leads.false c.requires.modest.reply _ _ c.budget-budget.ensures c.packets_with.ensures c.if-limit-packets_with.false
