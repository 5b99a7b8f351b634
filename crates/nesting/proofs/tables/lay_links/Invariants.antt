-- The entries of the table before this one are noted, and no other.
use Rattle.nesting.proofs.Laying.{LinksGoing}
use Rattle.nesting.proofs.tables.lay_links.Given as goal

abbrev pub invariant-loop-i : goal.invariant-loop-i
invariant-loop-i l = LinksGoing l.links l.initial.graph l.graph l.i
