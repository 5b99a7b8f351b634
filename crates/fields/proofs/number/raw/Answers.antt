use Rattle.fields.proofs.Numbers.{reading-more}
use Rattle.fields.proofs.number.raw.Goals as goal

pub loop-i-preserved : goal.loop-i-preserved
loop-i-preserved c = reading-more _ _ _ _ _ c.loop-i.invariant _ c.loop-i-test.true c.wide.ensures.byte c.wide.ensures.few
