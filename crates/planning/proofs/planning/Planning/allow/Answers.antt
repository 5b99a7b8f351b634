-- The flags, from the first to the last.
use native.Mathlib.Omega.{arith}
use Rattle.planning.proofs.Living.{allowing-start, allowing-next, allowing-end}
use Rattle.planning.proofs.planning.Planning.allow.Goals as goal

pub loop-j-init : goal.loop-j-init
loop-j-init c = allowing-start _ _ _ c.told-alive

pub loop-j-preserved : goal.loop-j-preserved
loop-j-preserved c = allowing-next _ _ _ _ c.loop-j.invariant _ _ c.whole_max-most.ensures (omega (arith, c.len-j-end.ensures.len, c.len-j-end.ensures.within)) (omega (arith, c.len-j-end.ensures.len, c.loop-j-test.true)) c.flag.ensures

pub returns : goal.returns
returns c = allowing-end _ _ _ _ c.loop-j.invariant (omega (arith, c.len-j-end.ensures.len, c.loop-j-test.false))
