-- The levels, from the first to the last.
use native.Mathlib.Omega.{arith}
use Rattle.planning.proofs.Binding.{rising-start, rising-next, rising-end, bound-nothing}
use Rattle.planning.proofs.planning.Planning.bind.Goals as goal

pub returns-then-count-eq0-clause-bound : goal.returns-then-count-eq0-clause-bound
returns-then-count-eq0-clause-bound c = bound-nothing c.args.self.now c.args.structs c.args.reads.now _ c.count.ensures.count c.if-count-eq0.true

pub loop-level-init : goal.loop-level-init
loop-level-init c = (rising-start _ _ _ _, λ h. h)

pub loop-level-preserved : goal.loop-level-preserved
loop-level-preserved c = (rising-next _ _ _ _ _ _ c.loop-level.invariant.0 _ _ c.fill_levels.ensures (omega (arith, c.loop-level-test.true)) c.bind_level.ensures.bound, λ h. c.bind_level.ensures.named (c.loop-level.invariant.1 h))

pub returns-clause-bound : goal.returns-clause-bound
returns-clause-bound c = rising-end _ _ _ _ _ _ c.loop-level.invariant.0 _ c.budget.ensures c.packet_room-room.ensures (omega (arith, c.loop-level-test.false))
