use Rattle.std.proofs.Common.{sym, ◌∙◌}
use Rattle.packing.proofs.Placing.{lonely-start, lonely-other, lonely-alone, lonely-end}
use Rattle.packing.proofs.chunk.Batch.put_lone.Goals.{then-goes_alone, else-goes_alone}
use Rattle.packing.proofs.chunk.Batch.put_lone.Goals as goal

pub loop-read-init : goal.loop-read-init
loop-read-init c = lonely-start _ _ _ _ _ _ c.new-packer.ensures c.requires.room

pub loop-read-preserved : goal.loop-read-preserved
loop-read-preserved c =
    elim c.if-goes_alone.branch [
      | then-goes_alone w ↦ rw (w.out-is, w.next-is) (lonely-alone _ _ _ _ _ _ _ _ _ c.loop-read.invariant (rw c.len-read-end.ensures at c.loop-read-test.true) (rw c.at.ensures at (sym c.goes_alone.ensures ∙ w.if-goes_alone.true)) c.args.self.now.few _ _ w.put_number.ensures w.put_number-then-goes_alone.ensures)
      | else-goes_alone w ↦ rw (w.out-is, w.next-is) (lonely-other _ _ _ _ _ _ _ _ _ c.loop-read.invariant (rw c.len-read-end.ensures at c.loop-read-test.true) (rw c.at.ensures at (sym c.goes_alone.ensures ∙ w.if-goes_alone.false)))
    ]

pub returns-clause-next : goal.returns-clause-next
returns-clause-next c = (lonely-end _ _ _ _ _ _ _ _ _ c.loop-read.invariant (rw c.len-read-end.ensures at c.loop-read-test.false)).0

pub returns-clause-memory : goal.returns-clause-memory
returns-clause-memory c = (lonely-end _ _ _ _ _ _ _ _ _ c.loop-read.invariant (rw c.len-read-end.ensures at c.loop-read-test.false)).1
