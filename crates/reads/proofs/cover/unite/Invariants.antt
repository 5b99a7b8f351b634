use Rattle.std.proofs.Common.{◌≡◌, ◌++◌, ◌≤◌, length, map, take, drop}
use Rattle.planner.specs.Lists.{keep}
use Rattle.reads.specs.Held.{is_covered, served}
use Rattle.reads.specs.Rows.{held_in}
use Rattle.reads.proofs.cover.unite.Given as goal

-- the positions of the covered reads are those put and those of the reads that are left
abbrev pub invariant-loop-row : goal.invariant-loop-row
invariant-loop-row l = record {
  wide : length l.out ≡ 256;
  within : l.n ≤ 256;
  left : take l.n l.out ++ served (keep (is_covered l.marks) (drop l.row-index (map (held_in l.members) l.rows))) ≡ served (keep (is_covered l.marks) (map (held_in l.members) l.rows));
}
