-- The search, from its start to its end.
use native.Mathlib.Omega.{arith}
use Rattle.planning.proofs.Looking.{looking-start, looking-next, looking-end, looking-flags}
use Rattle.planning.proofs.planning.Planning.next_merge.Goals as goal

pub loop-j-init : goal.loop-j-init
loop-j-init c = (looking-start _ _ _ _ c.told-alive, tt)

pub loop-j-preserved : goal.loop-j-preserved
loop-j-preserved c = (looking-next _ _ _ _ _ _ _ c.loop-j.invariant.0 _ _ (omega (arith, c.len-j-end.ensures.len, c.len-j-end.ensures.within)) (omega (arith, c.len-j-end.ensures.len, c.loop-j-test.true)) c.try_group-best.array_long c.try_group-best.ensures.chosen c.try_group-best.ensures.flags, c.try_group-best.ensures.modest)

pub returns-clause-chosen : goal.returns-clause-chosen
returns-clause-chosen c = looking-end _ _ _ _ _ _ _ c.loop-j.invariant.0 (omega (arith, c.len-j-end.ensures.len, c.loop-j-test.false))

pub returns-clause-flags : goal.returns-clause-flags
returns-clause-flags c = looking-flags _ _ _ _ _ _ _ c.loop-j.invariant.0 (omega (arith, c.len-j-end.ensures.len, c.loop-j-test.false))
