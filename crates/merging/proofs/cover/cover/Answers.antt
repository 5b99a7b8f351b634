use mathlib.Core.Path.{refl}
use native.Mathlib.Omega.{arith}
use Rattle.merging.proofs.Covering.{covering-start, covering-yes, covering-not, covering-end, covering-past}
use Rattle.merging.proofs.cover.cover.Goals as goal

pub loop-i-init : goal.loop-i-init
loop-i-init c = covering-start _ _ _ _ _ c.told-lens c.told-covered

pub returns-then-i-ge256 : goal.returns-then-i-ge256
returns-then-i-ge256 c = let all = covering-past _ _ _ _ _ _ _ _ _ c.loop-i.invariant c.if-i-ge256.true in record { count = all.0; flags = all.1 }

pub bounds-flags-i : goal.bounds-flags-i
bounds-flags-i c = let w = c.loop-i.invariant.wide in let l = c.if-i-ge256.false in omega arith

pub overflow_add-n : goal.overflow_add-n
overflow_add-n c = let w = c.loop-i.invariant.few in let l = c.if-i-ge256.false in omega arith

pub overflow_cast-p : goal.overflow_cast-p
overflow_cast-p c = omega (arith, c.type_inv.sizes c.loop-i.i)

pub overflow_add-p : goal.overflow_add-p
overflow_add-p c = let w = c.loop-i.invariant.few in let l = c.if-i-ge256.false in omega (arith, c.type_inv.sizes c.loop-i.i)

pub loop-i-preserved-then-all_marked : goal.loop-i-preserved-then-all_marked
loop-i-preserved-then-all_marked c = covering-yes _ _ _ _ _ _ _ _ _ c.loop-i.invariant _ _ c.loop-i-test.true c.if-i-ge256.false refl (omega (arith, c.type_inv.sizes c.loop-i.i)) c.all_marked.ensures c.if-all_marked.true

pub bounds-flags-i-in-loop-i : goal.bounds-flags-i-in-loop-i
bounds-flags-i-in-loop-i c = let w = c.loop-i.invariant.wide in let l = c.if-i-ge256.false in omega arith

pub overflow_cast-p-in-loop-i : goal.overflow_cast-p-in-loop-i
overflow_cast-p-in-loop-i c = omega (arith, c.type_inv.sizes c.loop-i.i)

pub overflow_add-p-in-loop-i : goal.overflow_add-p-in-loop-i
overflow_add-p-in-loop-i c = let w = c.loop-i.invariant.few in let l = c.if-i-ge256.false in omega (arith, c.type_inv.sizes c.loop-i.i)

pub loop-i-preserved : goal.loop-i-preserved
loop-i-preserved c = covering-not _ _ _ _ _ _ _ _ _ c.loop-i.invariant _ _ c.loop-i-test.true c.if-i-ge256.false refl (omega (arith, c.type_inv.sizes c.loop-i.i)) c.all_marked.ensures c.if-all_marked.false

pub returns : goal.returns
returns c = let all = covering-end _ _ _ _ _ _ _ _ _ c.loop-i.invariant c.loop-i-test.false in record { count = all.0; flags = all.1 }
