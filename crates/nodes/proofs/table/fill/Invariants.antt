-- The places put down and the places of the fields left are all of them, behind what the table had; and there is room for them.
use Rattle.std.proofs.Common.{◌≡◌, ◌++◌, ◌-◌, ◌+◌, ◌≤◌, length}
use Rattle.fields.specs.Places.{places_from}
use Rattle.nodes.proofs.table.fill.Given as goal

abbrev pub invariant-loop : goal.invariant-loop
invariant-loop g l =
    (l.table ++ places_from (g.F.Field.format l.field) (l.end - l.counter) l.s l.at ≡ l.initial.table ++ places_from (g.F.Field.format l.field) l.end l.s l.from)
    × (length l.table + (l.end - l.counter) ≤ g.row.N)
