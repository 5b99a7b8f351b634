use Rattle.std.proofs.Common.{◌≡◌, ◌++◌, drop}
use Rattle.planner.specs.Merging.{in_place}
use Rattle.reads.specs.Held.{is_covered}
use Rattle.reads.specs.Rows.{grouped}
use Rattle.reads.proofs.Placing.{left_of}
use Rattle.reads.proofs.merge.put_merged.Given as goal

-- all, done, is what is put and what is left to put
abbrev pub invariant-loop-i : goal.invariant-loop-i
invariant-loop-i l = in_place (is_covered l.marks) (grouped l.into l.serves) l.old ≡ l.out ++ left_of (is_covered l.marks) (grouped l.into l.serves) l.placed (drop l.i l.old)
