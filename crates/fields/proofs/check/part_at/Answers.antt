-- The way out behind the length byte is a law in Checks on where a text stands.
use Rattle.fields.proofs.Checks.{at_there}
use Rattle.fields.proofs.check.part_at.Goals as goal

pub returns-clause-part : goal.returns-clause-part
returns-clause-part c = (at_there _ _ _ _ c.if-s-at.false c.wide-n.ensures.byte c.past.ensures).0

pub returns-clause-ordered : goal.returns-clause-ordered
returns-clause-ordered c = (at_there _ _ _ _ c.if-s-at.false c.wide-n.ensures.byte c.past.ensures).1

pub returns-clause-inside : goal.returns-clause-inside
returns-clause-inside c = (at_there _ _ _ _ c.if-s-at.false c.wide-n.ensures.byte c.past.ensures).2
