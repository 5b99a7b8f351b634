use Rattle.std.proofs.Common.{◌-◌, arith, refl}
use Rattle.alike.proofs.Chaining.{going_start, going-hit, going_step, going_end}
use Rattle.alike.proofs.Chains.has.Goals as goal

pub loop-link-init : goal.loop-link-init
loop-link-init c = going_start _ _ _ _

pub returns-then-alike_at : goal.returns-then-alike_at
returns-then-alike_at c = going-hit _ _ _ _ _ _ c.loop-link.invariant c.loop-link-test.true c.alike_at.ensures c.if-alike_at.true

pub loop-link-smaller : goal.loop-link-smaller
loop-link-smaller c = omega (arith, c.requires.links.falls (c.loop-link.link - 1))

pub loop-link-preserved : goal.loop-link-preserved
loop-link-preserved c = going_step _ _ _ _ _ _ _ c.requires.links.falls c.loop-link.invariant c.loop-link-test.true c.alike_at.ensures c.if-alike_at.false refl

pub returns : goal.returns
returns c = going_end _ _ _ _ _ c.loop-link.invariant c.loop-link-test.false
