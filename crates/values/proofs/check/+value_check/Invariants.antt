-- The functions that call one another, a level less each time: what falls at each call is five for each level, and by it the way of one
-- value to the next: from what is inside over its count, its row and a member's name.
-- A value by its length field: Enclosed. Its content by its kind: Closed. Counts: Counts. Rows, where what is left gives the whole: Along.
use mathlib.Core.Path.{◌≡◌}
use Prim.Native.Nat.{◌+◌, ◌-◌, ◌*◌}
use Rattle.fields.specs.Format.{many, ◌then◌}
use Rattle.fields.specs.Fields.{text}
use Rattle.fields.specs.Places.{check_at}
use Rattle.values.specs.File.{value}
use Rattle.values.proofs.check.+value_check.Given as goal

abbrev pub decreases-check_content : goal.decreases-check_content
decreases-check_content l = 5 * l.levels + 4

abbrev pub decreases-check_item_row : goal.decreases-check_item_row
decreases-check_item_row l = 5 * l.levels + 2

abbrev pub decreases-check_items : goal.decreases-check_items
decreases-check_items l = 5 * l.levels + 3

abbrev pub decreases-check_member : goal.decreases-check_member
decreases-check_member l = 5 * l.levels + 1

abbrev pub decreases-check_member_row : goal.decreases-check_member_row
decreases-check_member_row l = 5 * l.levels + 2

abbrev pub decreases-check_members : goal.decreases-check_members
decreases-check_members l = 5 * l.levels + 3

abbrev pub decreases-check_value : goal.decreases-check_value
decreases-check_value l = 5 * l.levels

abbrev pub invariant-check_item_row-loop : goal.invariant-check_item_row-loop
invariant-check_item_row-loop l = check_at (many (value l.levels) l.n) l.s l.from ≡ check_at (many (value l.levels) (l.n - l.counter)) l.s l.at

abbrev pub invariant-check_member_row-loop : goal.invariant-check_member_row-loop
invariant-check_member_row-loop l = check_at (many (text 128 then value l.levels) l.n) l.s l.from ≡ check_at (many (text 128 then value l.levels) (l.n - l.counter)) l.s l.at
