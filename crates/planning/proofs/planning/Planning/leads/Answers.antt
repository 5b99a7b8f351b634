-- `leads` meets its contract: one law for each way through it.
use Rattle.planning.proofs.Weighing.{lead-first, lead-better}
use Rattle.planning.proofs.planning.Planning.leads.Goals as goal

pub returns-in-None : goal.returns-in-None
returns-in-None c = lead-first c.args.self.now c.args.m _ c.is_cheap.ensures c.args.best c.if-not-is_cheap.false _ c.is_free.ensures c.if-not-is_free.false c.in-None.is

pub returns-in-Some : goal.returns-in-Some
returns-in-Some c = lead-better c.args.self.now c.args.m _ c.is_cheap.ensures c.args.best c.if-not-is_cheap.false _ c.is_free.ensures c.if-not-is_free.false _ _ c.in-Some.is c.is_better.ensures
