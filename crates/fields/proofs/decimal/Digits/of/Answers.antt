use mathlib.Core.Path.{refl}
use native.Mathlib.Omega.{arith}
use Rattle.fields.proofs.Decimals.{ahead-start, ahead_more}
use Rattle.fields.proofs.decimal.Digits.of.Goals as goal

pub loop-rest-init : goal.loop-rest-init
loop-rest-init c = ahead-start c.args.n _ (omega arith) refl

pub loop-rest-preserved : goal.loop-rest-preserved
loop-rest-preserved c = ahead_more _ _ _ _ c.loop-rest.invariant c.loop-rest-test.true
