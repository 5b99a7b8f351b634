-- The types before this one are noted where they have AOI 2, and no other.
use Rattle.nesting.proofs.Laying.{PartsGoing}
use Rattle.nesting.proofs.tables.lay_parts.Given as goal

abbrev pub invariant-loop-k : goal.invariant-loop-k
invariant-loop-k l = PartsGoing l.parts l.initial.graph l.graph l.k
