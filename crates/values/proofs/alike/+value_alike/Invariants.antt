-- The functions that call one another, a level less each time: what falls at each call is two for each level, and by it the way from
-- a value to what it holds. The members' loop keeps that the first repeat of those left is the first of all: the laws in Going.
use mathlib.Core.Path.{◌≡◌}
use Prim.Native.Nat.{◌+◌, ◌-◌, ◌*◌}
use lib.ListN.{length}
use Rattle.fields.specs.Places.{told}
use Rattle.values.proofs.Going.{Going}
use Rattle.values.specs.Alike.{items_alike, alike_within}
use Rattle.values.proofs.alike.+value_alike.Given as goal

abbrev pub decreases-alike_items : goal.decreases-alike_items
decreases-alike_items l = 2 * l.levels + 1

abbrev pub decreases-alike_members : goal.decreases-alike_members
decreases-alike_members l = 2 * l.levels + 1

abbrev pub decreases-alike_value : goal.decreases-alike_value
decreases-alike_value l = 2 * l.levels

abbrev pub invariant-alike_items-loop : goal.invariant-alike_items-loop
invariant-alike_items-loop l = told (items_alike (alike_within l.levels) l.n l.s l.from) (length l.s) ≡ told (items_alike (alike_within l.levels) (l.n - l.counter) l.s l.at) (length l.s)

abbrev pub invariant-alike_members-loop : goal.invariant-alike_members-loop
invariant-alike_members-loop l = Going l.s l.levels l.from l.n l.again l.at (l.n - l.counter)
