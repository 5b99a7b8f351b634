use Rattle.std.proofs.Common.{◌≡◌, ◌+◌, ◌*◌, ◌^◌, ◌≤◌, map, drop, sum_by}
use Rattle.planner.specs.Lists.{keep}
use Rattle.reads.specs.Held.{limited_reply, is_covered}
use Rattle.reads.specs.Rows.{held_in}
use Rattle.reads.proofs.cover.total_reply.Given as goal

-- what all covered reads reply is what those do that were looked at, and those that are left
abbrev pub invariant-loop-row : goal.invariant-loop-row
invariant-loop-row l = record {
  small : l.sum ≤ 2 ^ 40 * l.row-index;
  replied : l.sum + sum_by limited_reply (keep (is_covered l.marks) (drop l.row-index (map (held_in l.members) l.rows))) ≡ sum_by limited_reply (keep (is_covered l.marks) (map (held_in l.members) l.rows));
}
