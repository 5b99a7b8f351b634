-- `pending::close` meets its contract: each record is kept or left out, behind the place where the next one is looked at.
use Prim.Native.Nat.{◌-◌}
use lib.ListN.{take, get_or}
use Rattle.pending.specs.Table.{blank, first_flag}
use Rattle.pending.proofs.Closing.{Closing}
use Rattle.pending.proofs.close.Given as goal

abbrev pub invariant-loop-i : goal.invariant-loop-i
invariant-loop-i l = Closing (get_or l.initial.t (first_flag (take l.count l.covered)) blank) l.covered l.count l.initial.t l.t l.seen l.r l.i

abbrev pub decreases-loop-i : goal.decreases-loop-i
decreases-loop-i l = l.count - l.i

-- the table's length
