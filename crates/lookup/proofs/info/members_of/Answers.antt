use Prim.Native.Nat.{◌+◌}
use native.Mathlib.Omega.{arith}
use Rattle.lookup.proofs.Paths.{part-within, members-end, members-next, members-missing}
use Rattle.std.proofs.Common.{◌∙◌}
use Rattle.lookup.proofs.info.members_of.Goals as goal

pub slice_bounds-member_of_in-count : goal.slice_bounds-member_of_in-count
slice_bounds-member_of_in-count c = let w = part-within c.args.path.now (c.loop-end.end + 1) _ (omega (arith, c.loop-end-test.true)) c.place_of-end.ensures in omega (arith, w)

pub slice_bounds-member_of_in-start : goal.slice_bounds-member_of_in-start
slice_bounds-member_of_in-start c = let w = part-within c.args.path.now (c.loop-end.end + 1) _ (omega (arith, c.loop-end-test.true)) c.place_of-end.ensures in omega (arith, w)

pub slice_bounds-member_of_in-end : goal.slice_bounds-member_of_in-end
slice_bounds-member_of_in-end c = let w = part-within c.args.path.now (c.loop-end.end + 1) _ (omega (arith, c.loop-end-test.true)) c.place_of-end.ensures in omega (arith, w)

pub loop-end-smaller : goal.loop-end-smaller
loop-end-smaller c = let w = part-within c.args.path.now (c.loop-end.end + 1) _ (omega (arith, c.loop-end-test.true)) c.place_of-end.ensures in omega (arith, w, c.loop-end-test.true)

pub returns : goal.returns
returns c = members-end _ _ _ _ _ _ c.loop-end-test.false c.loop-end.invariant

pub loop-end-preserved : goal.loop-end-preserved
loop-end-preserved c = members-next _ _ _ _ _ _ c.loop-end-test.true c.loop-end.invariant _ c.place_of-end.ensures _ c.member_of_in.ensures _ c.in_ok-at.was

pub returns-in_err-at : goal.returns-in_err-at
returns-in_err-at c = c.from_residual.ensures ∙ members-missing _ _ _ _ _ _ c.loop-end-test.true c.loop-end.invariant _ c.place_of-end.ensures _ c.member_of_in.ensures c.in_err-at.was
