use Rattle.merging.proofs.Counting.{counting-start, counting-keep, counting-new, counting-skip, counting-end, counting-past}
use Rattle.merging.proofs.cover.packets_with.Goals as goal

pub loop-i-init : goal.loop-i-init
loop-i-init c = counting-start _ _ _ _ _ _ _ _ (c.flags-1.given, c.qs-1.given, c.ps-1.given) c.start-f.ensures

pub returns-then-i-ge256 : goal.returns-then-i-ge256
returns-then-i-ge256 c = counting-past _ _ _ _ _ _ _ _ _ _ c.loop-i.invariant c.if-i-ge256.true

pub loop-i-preserved-then-flags-i-ne1 : goal.loop-i-preserved-then-flags-i-ne1
loop-i-preserved-then-flags-i-ne1 c = counting-keep _ _ _ _ _ _ _ _ _ _ c.loop-i.invariant _ c.loop-i-test.true c.if-i-ge256.false c.if-flags-i-ne1.true c.step-f.ensures

pub loop-i-preserved-then-seen : goal.loop-i-preserved-then-seen
loop-i-preserved-then-seen c = counting-skip _ _ _ _ _ _ _ _ _ _ c.loop-i.invariant c.if-seen.true c.loop-i-test.true c.if-i-ge256.false c.if-flags-i-ne1.false

pub loop-i-preserved : goal.loop-i-preserved
loop-i-preserved c = counting-new _ _ _ _ _ _ _ _ _ _ c.loop-i.invariant _ c.if-seen.false c.loop-i-test.true c.if-i-ge256.false c.if-flags-i-ne1.false c.step-f-in-loop-i.ensures

pub returns : goal.returns
returns c = counting-end _ _ _ _ _ _ _ _ _ _ c.loop-i.invariant c.loop-i-test.false
