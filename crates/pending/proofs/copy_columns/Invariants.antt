-- The three columns are copied from the front, as far as the loop has come.
use Prim.Native.Nat.{◌-◌}
use lib.ListN.{length}
use Rattle.pending.specs.Table.{count_of, request_of, reply_of}
use Rattle.pending.proofs.Copying.{Copied}
use Rattle.pending.proofs.copy_columns.Given as goal

abbrev pub invariant-loop-i : goal.invariant-loop-i
invariant-loop-i l = record {
  lens : Copied count_of l.table l.i l.lens;
  requests : Copied request_of l.table l.i l.requests;
  replies : Copied reply_of l.table l.i l.replies;
}

abbrev pub decreases-loop-i : goal.decreases-loop-i
decreases-loop-i l = length l.table - l.i
