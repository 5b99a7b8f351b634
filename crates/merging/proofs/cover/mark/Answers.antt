use native.Mathlib.Omega.{arith}
use Rattle.merging.proofs.Marks.{marking-start, marking-next, marking-end, marking-past}
use Rattle.merging.proofs.cover.mark.Goals as goal

pub loop-k-init : goal.loop-k-init
loop-k-init c = marking-start _ _ _

pub returns-then-k-ge16640 : goal.returns-then-k-ge16640
returns-then-k-ge16640 c = let m = c.loop-k.invariant in let n = c.ps-1.given in let h = c.if-k-ge16640.true in marking-past _ _ _ _ _ m (omega arith)

pub overflow_cast-marks : goal.overflow_cast-marks
overflow_cast-marks c = omega (arith, c.type_inv.ps c.loop-k.k)

pub bounds-marks-ps : goal.bounds-marks-ps
bounds-marks-ps c = omega (arith, c.type_inv.ps c.loop-k.k)

pub loop-k-preserved : goal.loop-k-preserved
loop-k-preserved c = let n = c.ps-1.given in let h = c.if-k-ge16640.false in marking-next _ _ _ _ _ c.loop-k.invariant c.loop-k-test.true (omega arith)

pub returns : goal.returns
returns c = marking-end _ _ _ _ _ c.loop-k.invariant c.loop-k-test.false
