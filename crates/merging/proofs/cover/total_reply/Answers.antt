use mathlib.Core.Path.{sym}
use native.Mathlib.Omega.{arith}
use Rattle.fields.proofs.Numbers.{limited-over, limited-within}
use Rattle.merging.proofs.Flags.{adding-start, adding-more, adding-zero, adding-not, adding-end, adding-past}
use Rattle.merging.proofs.cover.total_reply.Goals as goal

pub loop-i-init : goal.loop-i-init
loop-i-init c = adding-start _ _ _ _ _ (c.flags-1.given, c.sizes-1.given)

pub returns-then-i-ge256 : goal.returns-then-i-ge256
returns-then-i-ge256 c = adding-past _ _ _ _ _ _ _ c.loop-i.invariant c.if-i-ge256.true

pub loop-i-preserved-then-flags-i-ne1 : goal.loop-i-preserved-then-flags-i-ne1
loop-i-preserved-then-flags-i-ne1 c = adding-not _ _ _ _ _ _ _ c.loop-i.invariant c.loop-i-test.true c.if-i-ge256.false c.if-flags-i-ne1.true

pub loop-i-preserved-then-reply-gt1099511627776 : goal.loop-i-preserved-then-reply-gt1099511627776
loop-i-preserved-then-reply-gt1099511627776 c = adding-zero _ _ _ _ _ _ _ c.loop-i.invariant c.loop-i-test.true c.if-i-ge256.false c.if-flags-i-ne1.false (sym (limited-over _ _ c.if-reply-gt1099511627776.true))

pub overflow_add-n : goal.overflow_add-n
overflow_add-n c = let a = c.loop-i.invariant.few in let l = c.if-i-ge256.false in let m = c.if-reply-gt1099511627776.false in omega arith

pub loop-i-preserved : goal.loop-i-preserved
loop-i-preserved c = adding-more _ _ _ _ _ _ _ c.loop-i.invariant _ c.loop-i-test.true c.if-i-ge256.false c.if-flags-i-ne1.false (sym (limited-within _ _ c.if-reply-gt1099511627776.false)) c.if-reply-gt1099511627776.false

pub returns : goal.returns
returns c = adding-end _ _ _ _ _ _ _ c.loop-i.invariant c.loop-i-test.false
