-- `covered_extent` meets its contract: the positions are those that the covered reads serve.
use Rattle.planning.proofs.Offers.{covered_least, covered_greatest}
use Rattle.planning.proofs.planning.Planning.covered_extent.Goals as goal

pub returns-clause-least : goal.returns-clause-least
returns-clause-least c = covered_least _ _ _ _ _ _ c.unite-n.ensures.positions c.extent.ensures.extent c.unwrap_or.ensures

pub returns-clause-greatest : goal.returns-clause-greatest
returns-clause-greatest c = covered_greatest _ _ _ _ _ _ c.unite-n.ensures.positions c.extent.ensures.extent c.unwrap_or.ensures
