use Rattle.pending.proofs.Flags.{looking-start, looking-step, looking-found, looking-end, looking-past}
use Rattle.pending.proofs.first_flag.Goals as goal

pub loop-i-init : goal.loop-i-init
loop-i-init c = looking-start _ _ c.flags-1.given

pub returns-then-i-ge256 : goal.returns-then-i-ge256
returns-then-i-ge256 c = looking-past _ _ _ c.loop-i.invariant c.if-i-ge256.true

pub returns-then-flags-i-eq1 : goal.returns-then-flags-i-eq1
returns-then-flags-i-eq1 c = looking-found _ _ _ c.loop-i.invariant c.loop-i-test.true c.if-i-ge256.false c.if-flags-i-eq1.true

pub loop-i-preserved : goal.loop-i-preserved
loop-i-preserved c = looking-step _ _ _ c.loop-i.invariant c.loop-i-test.true c.if-i-ge256.false c.if-flags-i-eq1.false

pub returns : goal.returns
returns c = looking-end _ _ _ c.loop-i.invariant c.loop-i-test.false
