use Rattle.nesting.proofs.Setting.{made-is}
use Rattle.nesting.proofs.Laying.{laid-some}
use Rattle.nesting.proofs.tables.graph_of.Goals as goal

pub returns : goal.returns
returns c = laid-some _ _ _ _ _ _ (made-is _ _ _ c.new.ensures c.in_ok-graph.was) c.lay_links.ensures c.lay_parts.ensures
