use native.Mathlib.Omega.{arith}
use Rattle.pending.proofs.Closing.{closing-start, closing-keep, closing-new, closing-skip, closing_end, closing-past}
use Rattle.pending.proofs.close.Goals as goal

pub loop-i-init : goal.loop-i-init
loop-i-init c = closing-start _ _ _ c.flags-1.given c.well_formed.0.1.1.0.1.0.1

pub returns-then-i-ge256 : goal.returns-then-i-ge256
returns-then-i-ge256 c = let all = closing-past _ _ _ _ _ _ _ _ c.loop-i.invariant c.if-i-ge256.true in record { count = all.0; table = all.1 }

pub offset_bounds-t-i : goal.offset_bounds-t-i
offset_bounds-t-i c = let l = c.if-i-ge256.false in omega arith

pub bounds-t-i : goal.bounds-t-i
bounds-t-i c = c.if-i-ge256.false

pub offset_bounds-t-r : goal.offset_bounds-t-r
offset_bounds-t-r c = let b = c.loop-i.invariant.within in let l = c.if-i-ge256.false in omega arith

pub bounds-t-r : goal.bounds-t-r
bounds-t-r c = let b = c.loop-i.invariant.within in let l = c.if-i-ge256.false in omega arith

pub overflow_add-r : goal.overflow_add-r
overflow_add-r c = let b = c.loop-i.invariant.within in let l = c.if-i-ge256.false in omega arith

pub loop-i-preserved-then-flags-i-ne1 : goal.loop-i-preserved-then-flags-i-ne1
loop-i-preserved-then-flags-i-ne1 c = closing-keep _ _ _ _ _ _ _ _ c.loop-i.invariant c.loop-i-test.true c.if-i-ge256.false c.if-flags-i-ne1.true

pub loop-i-preserved-then-seen : goal.loop-i-preserved-then-seen
loop-i-preserved-then-seen c = closing-skip _ _ _ _ _ _ _ _ c.loop-i.invariant c.if-seen.true c.loop-i-test.true c.if-i-ge256.false c.if-flags-i-ne1.false

pub offset_bounds-t-i-in-loop-i : goal.offset_bounds-t-i-in-loop-i
offset_bounds-t-i-in-loop-i c = let l = c.if-i-ge256.false in omega arith

pub bounds-t-i-in-loop-i : goal.bounds-t-i-in-loop-i
bounds-t-i-in-loop-i c = c.if-i-ge256.false

pub offset_bounds-t-r-in-loop-i : goal.offset_bounds-t-r-in-loop-i
offset_bounds-t-r-in-loop-i c = let b = c.loop-i.invariant.within in let l = c.if-i-ge256.false in omega arith

pub bounds-t-r-in-loop-i : goal.bounds-t-r-in-loop-i
bounds-t-r-in-loop-i c = let b = c.loop-i.invariant.within in let l = c.if-i-ge256.false in omega arith

pub overflow_add-r-in-loop-i : goal.overflow_add-r-in-loop-i
overflow_add-r-in-loop-i c = let b = c.loop-i.invariant.within in let l = c.if-i-ge256.false in omega arith

pub loop-i-preserved : goal.loop-i-preserved
loop-i-preserved c = closing-new _ _ _ _ _ _ _ _ c.loop-i.invariant c.if-seen.false c.loop-i-test.true c.if-i-ge256.false c.if-flags-i-ne1.false

pub returns : goal.returns
returns c = let all = closing_end _ _ _ _ _ _ _ _ c.loop-i.invariant c.loop-i-test.false in record { count = all.0; table = all.1 }
