use Rattle.names.proofs.Measuring.{Measuring, measuring-start, measuring-end, measuring-stops}
use Rattle.names.proofs.Walking.{walk_starts, walk_ends, walk_stops}
use Rattle.names.proofs.listing.measure.Goals as goal

pub loop-piece-init : goal.loop-piece-init
loop-piece-init c =
    walk_starts (λ at. Measuring c.args.s.now at 1 2) _ _ _ _ c.into_iter-piece-iterator.ensures.into_iter_gives c.behind-piece-items.ensures.name c.behind-piece-items.ensures.at (measuring-start _ _ c.requires)

pub returns-in_default : goal.returns-in_default
returns-in_default c = let all = measuring-stops _ _ _ _ c.loop-piece.invariant.1 _ (walk_stops _ c.loop-piece.piece-iterator c.next.new.self _ _ c.loop-piece.invariant.0 c.in-Some.ensures.steps c.in_default.is) in record { measured = all.0; few = all.1 }

pub returns : goal.returns
returns c = let all = measuring-end _ _ _ _ c.loop-piece.invariant.1 (walk_ends _ c.loop-piece.piece-iterator c.next.new.self c.loop-piece.invariant.0 c.in-None.ensures.steps) in record { measured = all.0; few = all.1 }
