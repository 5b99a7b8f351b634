use mathlib.Core.Path.{refl}
use native.Mathlib.Omega.{arith}
use Rattle.merging.proofs.Extents.{extending-start, extending-more, extending-not, extending-end, extending-past}
use Rattle.merging.proofs.cover.with_reads.Goals as goal

pub loop-i-init : goal.loop-i-init
loop-i-init c = extending-start _ _ _ _ _ _ (c.sizes-1.given, c.flags-1.given)

pub returns-then-i-ge256 : goal.returns-then-i-ge256
returns-then-i-ge256 c = extending-past _ _ _ _ _ _ _ _ _ c.loop-i.invariant c.if-i-ge256.true

pub overflow_cast-p : goal.overflow_cast-p
overflow_cast-p c = omega (arith, c.type_inv.sizes c.loop-i.i)

pub overflow_add-p : goal.overflow_add-p
overflow_add-p c = let b = c.loop-i.invariant.few in let l = c.if-i-ge256.false in omega (arith, c.type_inv.sizes c.loop-i.i)

pub loop-i-preserved-then-flags-i-ne1 : goal.loop-i-preserved-then-flags-i-ne1
loop-i-preserved-then-flags-i-ne1 c = extending-not _ _ _ _ _ _ _ _ _ c.loop-i.invariant _ c.loop-i-test.true c.if-i-ge256.false refl (omega (arith, c.type_inv.sizes c.loop-i.i)) c.if-flags-i-ne1.true

pub overflow_cast-p-in-loop-i : goal.overflow_cast-p-in-loop-i
overflow_cast-p-in-loop-i c = omega (arith, c.type_inv.sizes c.loop-i.i)

pub overflow_add-p-in-loop-i : goal.overflow_add-p-in-loop-i
overflow_add-p-in-loop-i c = let b = c.loop-i.invariant.few in let l = c.if-i-ge256.false in omega (arith, c.type_inv.sizes c.loop-i.i)

pub loop-i-preserved : goal.loop-i-preserved
loop-i-preserved c = extending-more _ _ _ _ _ _ _ _ _ c.loop-i.invariant _ _ c.loop-i-test.true c.if-i-ge256.false refl (omega (arith, c.type_inv.sizes c.loop-i.i)) c.if-flags-i-ne1.false c.with_read-x.ensures

pub returns : goal.returns
returns c = extending-end _ _ _ _ _ _ _ _ _ c.loop-i.invariant c.loop-i-test.false
