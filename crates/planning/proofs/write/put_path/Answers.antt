use mathlib.Core.Path.{sym, subst, ◌∙◌}
use Prim.Native.Nat.{◌+◌}
use native.Mathlib.Omega.{arith}
use Rattle.names.proofs.Walking.{walk_starts, walk_ends, walk_stops, walk_gives}
use Rattle.planning.proofs.Walks.{Pathing, pathing-start, pathing-room, pathing-next, pathing-none, pathing-end, pathing-stops}
use Rattle.planning.proofs.write.put_path.Goals as goal

pub loop-step-init : goal.loop-step-init
loop-step-init c =
    walk_starts (λ at. Pathing c.args.name.now c.args.path.now c.args.path.now c.args.from at 1 0) _ _ _ _ c.into_iter-step-iterator.ensures.into_iter_gives c.behind-step-items.ensures.name c.behind-step-items.ensures.at (pathing-start _ _ _ c.requires (omega (arith, c.told-path)))

pub put_step-to-requires : goal.put_step-to-requires
put_step-to-requires c =
    let g = walk_gives _ c.loop-step.step-iterator c.next.new.self _ _ _ c.loop-step.invariant.0 c.in-Some.ensures.steps c.in-Ok.is in
    rw g.1 (pathing-room _ _ _ _ _ _ _ c.loop-step.invariant.1 _ _ g.0)

pub loop-step-preserved : goal.loop-step-preserved
loop-step-preserved c =
    let g = walk_gives _ c.loop-step.step-iterator c.next.new.self _ _ _ c.loop-step.invariant.0 c.in-Some.ensures.steps c.in-Ok.is in
    let p = pathing-next _ _ _ _ _ _ _ c.loop-step.invariant.1 _ _ g.0 _ _ (rw g.1 at c.put_step-to.ensures.place) (rw g.1 at c.put_step-to.ensures.bytes) in
    (c.in-Some.ensures.steps.0 ∙ c.loop-step.invariant.0, subst (λ at. Pathing c.args.name.now c.args.path.now c.put_step-to.new.path c.args.from at c.put_step-to.result (c.loop-step.count + 1)) (sym g.2) p)

pub returns-in_default : goal.returns-in_default
returns-in_default c = absurd (pathing-stops _ _ _ _ _ _ _ c.loop-step.invariant.1 _ (walk_stops _ c.loop-step.step-iterator c.next.new.self _ _ c.loop-step.invariant.0 c.in-Some.ensures.steps c.in_default.is))

pub returns-then-count-eq0 : goal.returns-then-count-eq0
returns-then-count-eq0 c = let all = pathing-none _ _ _ _ _ _ _ c.loop-step.invariant.1 (walk_ends _ c.loop-step.step-iterator c.next.new.self c.loop-step.invariant.0 c.in-None.ensures.steps) c.if-count-eq0.true in record { size = all.0.0; within = all.0.1; bytes = all.1 }

pub returns : goal.returns
returns c = let all = pathing-end _ _ _ _ _ _ _ c.loop-step.invariant.1 (walk_ends _ c.loop-step.step-iterator c.next.new.self c.loop-step.invariant.0 c.in-None.ensures.steps) _ c.if-count-eq0.false c.put_number.ensures in record { size = all.0.0; within = all.0.1; bytes = all.1 }
