-- Passing all from the start ends where passing those that are left ends from here on.
use mathlib.Core.Path.{◌≡◌}
use Prim.Native.Nat.{◌-◌}
use Rattle.fields.specs.Format.{many}
use Rattle.fields.specs.Places.{place_at}
use Rattle.fields.proofs.row.past_many.Given as goal

abbrev pub invariant-loop : goal.invariant-loop
invariant-loop g l = place_at (many (g.F.Field.format l.field) (l.n - l.counter)) l.s l.end ≡ place_at (many (g.F.Field.format l.field) l.n) l.s l.from
