-- The rounds, from the first to the last.
use Prim.Native.Nat.{◌+◌, ◌-◌}
use mathlib.Core.Path.{◌≡◌, subst}
use native.Mathlib.Omega.{arith}
use lib.ListN.{length}
use Rattle.planning.specs.Merges.{NextTold}
use Rattle.planning.proofs.Settling.{settling-end, settling-none, settling-next}
use Rattle.planning.proofs.planning.Planning.settle.Goals as goal

pub returns-in_default-clause-settled : goal.returns-in_default-clause-settled
returns-in_default-clause-settled c = settling-none _ _ _ _ _ _ _ c.loop.invariant.0 (omega (arith, c.len-rounds.ensures.len, c.loop-test.true)) (subst (NextTold c.args.self.now c.loop.alive c.args.limit c.loop.reads) c.in_default.is c.next_merge.ensures.chosen)

pub loop-preserved : goal.loop-preserved
loop-preserved c =
    let z : length c.args.reads.now - (c.loop.counter + 1) ≡ length c.args.reads.now - c.loop.counter - 1 = omega arith in (
      rw z (settling-next _ _ _ _ _ _ _ c.loop.invariant.0 (omega (arith, c.len-rounds.ensures.len, c.loop-test.true)) _ _ _ _ (subst (NextTold c.args.self.now c.loop.alive c.args.limit c.loop.reads) c.in-Some.is c.next_merge.ensures.chosen) c.next_merge.ensures.flags c.mark.ensures c.apply.ensures.merged),
      λ h. c.apply.ensures.named (c.loop.invariant.1 h),
    )

pub returns-clause-settled : goal.returns-clause-settled
returns-clause-settled c = settling-end _ _ _ _ _ _ _ c.loop.invariant.0 (omega (arith, c.len-rounds.ensures.len, c.loop-test.false))
