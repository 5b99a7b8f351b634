use Rattle.std.proofs.Common.{refl, ◌∙◌, arith}
use Rattle.std.proofs.Math.ListN.{length-set}
use Rattle.reads.proofs.Setting.{marking-start, marking-next, marking-end}
use Rattle.reads.proofs.marks.mark.Goals as goal

pub loop-place-init : goal.loop-place-init
loop-place-init c = marking-start _ _ refl refl

pub loop-place-preserved : goal.loop-place-preserved
loop-place-preserved c = rw c.from.ensures (marking-next _ _ _ c.loop-place.invariant _ c.loop-place-test.true (omega (arith, c.type_inv.serves c.loop-place.place-index)) (length-set c.loop-place.marks _ _ ∙ c.loop-place.invariant.wide) refl)

pub returns : goal.returns
returns c = marking-end _ _ _ c.loop-place.invariant c.loop-place-test.false
