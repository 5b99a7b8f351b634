-- Checking all from the start answers what checking those that are left answers from here on.
use mathlib.Core.Path.{◌≡◌}
use Prim.Native.Nat.{◌-◌}
use Rattle.fields.specs.Format.{many}
use Rattle.fields.specs.Places.{check_at}
use Rattle.fields.proofs.row.check_many.Given as goal

abbrev pub invariant-loop : goal.invariant-loop
invariant-loop g l = check_at (many (g.F.Field.format l.field) (l.n - l.counter)) l.s l.at ≡ check_at (many (g.F.Field.format l.field) l.n) l.s l.from
