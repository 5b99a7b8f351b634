use mathlib.Core.Path.{refl}
use Rattle.merging.proofs.Apart.{telling-start, telling-one, telling-behind, telling-before, telling-end, telling-past}
use Rattle.merging.proofs.change.kinds.Goals as goal

pub loop-i-init : goal.loop-i-init
loop-i-init c = telling-start _ _ _ c.flags-1.given refl

pub returns-then-i-ge256 : goal.returns-then-i-ge256
returns-then-i-ge256 c = telling-past _ _ _ _ _ _ c.loop-i.invariant c.if-i-ge256.true

pub loop-i-preserved-then-flags-i-eq1 : goal.loop-i-preserved-then-flags-i-eq1
loop-i-preserved-then-flags-i-eq1 c = telling-one _ _ _ _ _ _ c.loop-i.invariant c.loop-i-test.true c.if-i-ge256.false c.if-flags-i-eq1.true

pub loop-i-preserved-then-seen : goal.loop-i-preserved-then-seen
loop-i-preserved-then-seen c = telling-behind _ _ _ _ _ _ c.loop-i.invariant c.if-seen.true c.loop-i-test.true c.if-i-ge256.false c.if-flags-i-eq1.false

pub loop-i-preserved : goal.loop-i-preserved
loop-i-preserved c = telling-before _ _ _ _ _ _ c.loop-i.invariant c.if-seen.false c.loop-i-test.true c.if-i-ge256.false c.if-flags-i-eq1.false

pub returns : goal.returns
returns c = telling-end _ _ _ _ _ _ c.loop-i.invariant c.loop-i-test.false
