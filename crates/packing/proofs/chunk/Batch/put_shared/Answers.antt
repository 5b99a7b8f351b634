use Rattle.std.proofs.Common.{rules}
use Rattle.packing.proofs.Placing.{sharing-start, sharing-skips, sharing-joins, sharing-opens, sharing-end}
use Rattle.packing.proofs.chunk.Batch.put_shared.Goals.{in-Alone, in-Joins, in-Opens}
use Rattle.packing.proofs.chunk.Batch.put_shared.Goals as goal

pub loop-read-init : goal.loop-read-init
loop-read-init c = sharing-start _ _ _ _ _ _ c.new-packer.ensures (search rules) c.requires.room

pub loop-read-preserved : goal.loop-read-preserved
loop-read-preserved c =
    elim c.match-take.branch [
      | in-Alone w ↦ rw (w.out-is, w.next-is) (sharing-skips _ _ _ _ _ _ _ _ c.loop-read.invariant (rw c.len-read-end.ensures at c.loop-read-test.true) _ (rw c.at.ensures at c.take.ensures.turn) _ (rw c.at.ensures at c.take.ensures.fill) w.in-Alone.is)
      | in-Joins w ↦ rw (w.out-is, w.next-is) (sharing-joins _ _ _ _ _ _ _ _ c.loop-read.invariant (rw c.len-read-end.ensures at c.loop-read-test.true) _ (rw c.at.ensures at c.take.ensures.turn) _ (rw c.at.ensures at c.take.ensures.fill) w.in-Joins.is c.args.self.now.few _ w.put_number.ensures)
      | in-Opens w ↦ rw (w.out-is, w.next-is) (sharing-opens _ _ _ _ _ _ _ _ c.loop-read.invariant (rw c.len-read-end.ensures at c.loop-read-test.true) _ (rw c.at.ensures at c.take.ensures.turn) _ (rw c.at.ensures at c.take.ensures.fill) w.in-Opens.is _ w.joining_count-more.ensures.count c.args.self.now.few w.joining_count-more.ensures.few _ _ w.put_number-in-Opens.ensures w.put_number-in-Opens-2.ensures)
    ]

pub returns-clause-next : goal.returns-clause-next
returns-clause-next c = (sharing-end _ _ _ _ _ _ _ _ c.loop-read.invariant (rw c.len-read-end.ensures at c.loop-read-test.false)).0

pub returns-clause-memory : goal.returns-clause-memory
returns-clause-memory c = (sharing-end _ _ _ _ _ _ _ _ c.loop-read.invariant (rw c.len-read-end.ensures at c.loop-read-test.false)).1
