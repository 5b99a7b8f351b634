-- `bounds` meets its contract: the positions are those that the covered reads serve.
use Rattle.std.proofs.Common.{map, ap, ◌∙◌}
use Rattle.reads.specs.Told.{extent_of, number_at}
use Rattle.reads.proofs.Extents.{least-is}
use Rattle.reads.proofs.table.Reads.bounds.Goals as goal

pub returns-clause-least : goal.returns-clause-least
returns-clause-least c = (least-is _ _ _ (c.extent_at.ensures.extent ∙ ap (λ ps. extent_of (map (number_at c.args.indexes.now) ps)) c.unite-n.ensures.positions) c.unwrap_or.ensures).0

pub returns-clause-greatest : goal.returns-clause-greatest
returns-clause-greatest c = (least-is _ _ _ (c.extent_at.ensures.extent ∙ ap (λ ps. extent_of (map (number_at c.args.indexes.now) ps)) c.unite-n.ensures.positions) c.unwrap_or.ensures).1
