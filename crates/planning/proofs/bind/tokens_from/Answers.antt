use mathlib.Core.Path.{sym, subst, ◌∙◌}
use Prim.Native.Nat.{◌+◌}
use Rattle.names.proofs.Walking.{walk_starts, walk_ends, walk_stops, walk_gives}
use Rattle.planning.proofs.Reckoned.{Reckoning, reckoning-start, reckoning-next, reckoning-end, reckoning-stops}
use Rattle.planning.proofs.bind.tokens_from.Goals as goal

pub loop-piece-init : goal.loop-piece-init
loop-piece-init c = walk_starts (λ at. Reckoning c.args.name.now at 1) _ _ _ _ c.into_iter-piece-iterator.ensures.into_iter_gives c.behind-piece-items.ensures.name c.behind-piece-items.ensures.at (reckoning-start _ _ c.requires)

pub returns-in_default : goal.returns-in_default
returns-in_default c = reckoning-stops _ _ _ c.loop-piece.invariant.1 _ (walk_stops _ c.loop-piece.piece-iterator c.next.new.self _ _ c.loop-piece.invariant.0 c.in-Some.ensures.steps c.in_default.is)

pub returns : goal.returns
returns c = reckoning-end _ _ _ c.loop-piece.invariant.1 (walk_ends _ c.loop-piece.piece-iterator c.next.new.self c.loop-piece.invariant.0 c.in-None.ensures.steps)

pub loop-piece-preserved : goal.loop-piece-preserved
loop-piece-preserved c =
    let g = walk_gives _ c.loop-piece.piece-iterator c.next.new.self _ _ _ c.loop-piece.invariant.0 c.in-Some.ensures.steps c.in-Ok.is in
    (c.in-Some.ensures.steps.0 ∙ c.loop-piece.invariant.0, subst (λ at. Reckoning c.args.name.now at (c.loop-piece.n + 1)) (sym g.2) (reckoning-next _ _ _ c.loop-piece.invariant.1 _ _ g.0))
