use Rattle.std.proofs.Common.{◌≡◌, ◌+◌, ◌*◌, ◌^◌, ◌≤◌, length, map, drop, sum_by}
use Rattle.planner.specs.Lists.{keep}
use Rattle.reads.specs.Held.{reply_of, is_covered}
use Rattle.reads.specs.Rows.{held_in}
use Rattle.reads.proofs.cover.total.Given as goal

-- all covered reads come to what those come to that were looked at, and those that are left
abbrev pub invariant-loop-row : goal.invariant-loop-row
invariant-loop-row l = record {
  few : l.count ≤ l.row-index;
  small : l.reply ≤ 2 ^ 64 * l.row-index;
  counted : l.count + length (keep (is_covered l.marks) (drop l.row-index (map (held_in l.members) l.rows))) ≡ length (keep (is_covered l.marks) (map (held_in l.members) l.rows));
  replied : l.reply + sum_by reply_of (keep (is_covered l.marks) (drop l.row-index (map (held_in l.members) l.rows))) ≡ sum_by reply_of (keep (is_covered l.marks) (map (held_in l.members) l.rows));
}
