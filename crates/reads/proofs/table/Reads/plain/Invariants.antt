use Rattle.std.proofs.Common.{◌≡◌, ◌++◌, drop, length, sum_by}
use Rattle.reads.specs.Held.{count_of}
use Rattle.reads.specs.Told.{plain_from}
use Rattle.reads.proofs.table.Reads.plain.Given as goal

-- all are those put and those of the tags that are left
abbrev pub invariant-loop-i : goal.invariant-loop-i
invariant-loop-i l = record {
  count : length l.reads ≡ l.i;
  served : sum_by count_of l.reads ≡ l.i;
  left : plain_from 0 l.first ≡ l.reads ++ plain_from l.i (drop l.i l.first);
}
