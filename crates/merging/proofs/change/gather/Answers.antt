use mathlib.Core.Path.{refl}
use native.Mathlib.Omega.{arith}
use Rattle.merging.proofs.Gathering.{gathering-start, gathering-size, gathering-not, gathering-room, gathering-more, gathering-end, gathering-past}
use Rattle.merging.proofs.change.gather.Goals as goal

pub loop-i-init : goal.loop-i-init
loop-i-init c = gathering-start _ _ _ _ _ _ _ (c.ks-1.given, c.sizes-1.given) c.requires

pub shape_of-out-then-i-ge256 : goal.shape_of-out-then-i-ge256
shape_of-out-then-i-ge256 c = gathering-size _ _ _ _ _ _ _ _ _ _ _ c.loop-i.invariant

pub returns-then-i-ge256 : goal.returns-then-i-ge256
returns-then-i-ge256 c = let all = gathering-past _ _ _ _ _ _ _ _ _ _ _ c.loop-i.invariant c.if-i-ge256.true in record { place = all.0; bytes = all.1 }

pub overflow_cast-p : goal.overflow_cast-p
overflow_cast-p c = omega (arith, c.type_inv.sizes c.loop-i.i)

pub overflow_add-p : goal.overflow_add-p
overflow_add-p c = let b = c.loop-i.invariant.few in let l = c.if-i-ge256.false in omega (arith, c.type_inv.sizes c.loop-i.i)

pub loop-i-preserved-then-ks-i : goal.loop-i-preserved-then-ks-i
loop-i-preserved-then-ks-i c = gathering-not _ _ _ _ _ _ _ _ _ _ _ c.loop-i.invariant _ c.loop-i-test.true c.if-i-ge256.false refl (omega (arith, c.type_inv.sizes c.loop-i.i)) c.if-ks-i.true

pub copy_members-q-requires : goal.copy_members-q-requires
copy_members-q-requires c = gathering-room _ _ _ _ _ _ _ _ _ _ _ c.loop-i.invariant _ c.loop-i-test.true c.if-i-ge256.false refl c.if-ks-i.false

pub overflow_cast-p-in-loop-i : goal.overflow_cast-p-in-loop-i
overflow_cast-p-in-loop-i c = omega (arith, c.type_inv.sizes c.loop-i.i)

pub overflow_add-p-in-loop-i : goal.overflow_add-p-in-loop-i
overflow_add-p-in-loop-i c = let b = c.loop-i.invariant.few in let l = c.if-i-ge256.false in omega (arith, c.type_inv.sizes c.loop-i.i)

pub loop-i-preserved : goal.loop-i-preserved
loop-i-preserved c = gathering-more _ _ _ _ _ _ _ _ _ _ _ c.loop-i.invariant _ _ _ c.loop-i-test.true c.if-i-ge256.false refl (omega (arith, c.type_inv.sizes c.loop-i.i)) c.if-ks-i.false c.copy_members-q.ensures.place c.copy_members-q.ensures.bytes

pub shape_of-out : goal.shape_of-out
shape_of-out c = gathering-size _ _ _ _ _ _ _ _ _ _ _ c.loop-i.invariant

pub returns : goal.returns
returns c = let all = gathering-end _ _ _ _ _ _ _ _ _ _ _ c.loop-i.invariant c.loop-i-test.false in record { place = all.0; bytes = all.1 }
