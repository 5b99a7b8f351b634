-- The places of the fields passed are put down in order, and those of the fields left follow from here on.
use Rattle.fields.proofs.Columns.{Column}
use Rattle.fields.proofs.row.put_places.Given as goal

abbrev pub invariant-loop-i : goal.invariant-loop-i
invariant-loop-i g l = Column (g.F.Field.format l.field) l.s l.from l.i-end l.initial.places l.places l.at l.i
