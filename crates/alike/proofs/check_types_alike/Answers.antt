use Rattle.std.proofs.lemmas.Result.{err_from_is_err_and}
use Rattle.std.proofs.Common.{arith}
use Rattle.alike.proofs.Types.{typed-room, typed-again, typed-members, typed-step}
use Rattle.alike.proofs.check_types_alike.Goals as goal

pub returns-then-has_name : goal.returns-then-has_name
returns-then-has_name c = typed-again _ _ _ _ _ c.loop.invariant c.loop-test.true _ _ c.rows.ensures.rows c.has_name.ensures c.if-has_name.true

pub returns-in_err-end : goal.returns-in_err-end
returns-in_err-end c = let p = err_from_is_err_and c.from_residual.result c.from_residual.ensures.1 in rw (p.1, p.2) (typed-members _ _ _ _ _ c.loop.invariant c.loop-test.true _ _ c.rows.ensures.rows c.has_name.ensures c.if-has_name.false _ c.check_members_alike.ensures _ c.in_err-end.was)

pub loop-preserved : goal.loop-preserved
loop-preserved c = typed-step _ _ _ _ _ c.loop.invariant c.loop-test.true _ _ c.rows.ensures.rows c.has_name.ensures c.if-has_name.false _ c.check_members_alike.ensures _ _ c.in_ok-end.was (c.push.ensures.room (typed-room _ _ _ _ _ c.loop.invariant c.loop-test.true (omega arith)))
