-- The structs of the level, from the first to the last.
use Rattle.planning.proofs.Binding.{level-eq, level-ne, turning-start, turning-other, turning-next, turning-end}
use Rattle.planning.proofs.planning.Planning.bind_level.Goals.{then-eq, else-eq}
use Rattle.planning.proofs.planning.Planning.bind_level.Goals as goal

pub loop-j-init : goal.loop-j-init
loop-j-init c = (turning-start _ _ _ _ _, λ h. h)

pub loop-j-preserved : goal.loop-j-preserved
loop-j-preserved c = elim c.if-eq.branch [
  | then-eq w ↦ rw w.reads-is (turning-next _ _ _ _ _ c.told-levels c.requires _ _ c.loop-j.invariant.0 _ c.loop-j-test.true (level-eq _ _ _ c.eq.ensures w.if-eq.true) w.bind_one.ensures.bound, λ h. w.bind_one.ensures.named (c.loop-j.invariant.1 h))
  | else-eq w ↦ rw w.reads-is (turning-other _ _ _ _ _ c.told-levels c.requires _ _ c.loop-j.invariant.0 c.loop-j-test.true (level-ne _ _ _ c.eq.ensures w.if-eq.false), c.loop-j.invariant.1)
]

pub returns-clause-bound : goal.returns-clause-bound
returns-clause-bound c = turning-end _ _ _ _ _ _ _ c.loop-j.invariant.0 c.loop-j-test.false
