use mathlib.Core.Path.{refl}
use native.Mathlib.Omega.{arith}
use Rattle.merging.proofs.Flags.{plain-sum, adding-start, adding-more, adding-not, adding-end, adding-past}
use Rattle.merging.proofs.change.total_members.Goals as goal

pub loop-i-init : goal.loop-i-init
loop-i-init c = adding-start _ _ _ _ _ (c.flags-1.given, c.sizes-1.given)

pub returns-then-i-ge256 : goal.returns-then-i-ge256
returns-then-i-ge256 c = plain-sum _ _ _ (adding-past _ _ _ _ _ _ _ c.loop-i.invariant c.if-i-ge256.true)

pub loop-i-preserved-then-flags-i-ne1 : goal.loop-i-preserved-then-flags-i-ne1
loop-i-preserved-then-flags-i-ne1 c = adding-not _ _ _ _ _ _ _ c.loop-i.invariant c.loop-i-test.true c.if-i-ge256.false c.if-flags-i-ne1.true

pub overflow_cast-n : goal.overflow_cast-n
overflow_cast-n c = omega (arith, c.type_inv.sizes c.loop-i.i)

pub overflow_add-n : goal.overflow_add-n
overflow_add-n c = let a = c.loop-i.invariant.few in let l = c.if-i-ge256.false in omega (arith, c.type_inv.sizes c.loop-i.i)

pub loop-i-preserved : goal.loop-i-preserved
loop-i-preserved c = adding-more _ _ _ _ _ _ _ c.loop-i.invariant _ c.loop-i-test.true c.if-i-ge256.false c.if-flags-i-ne1.false refl (omega (arith, c.type_inv.sizes c.loop-i.i))

pub returns : goal.returns
returns c = plain-sum _ _ _ (adding-end _ _ _ _ _ _ _ c.loop-i.invariant c.loop-i-test.false)
