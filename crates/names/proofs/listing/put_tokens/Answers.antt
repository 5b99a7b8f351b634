use Rattle.names.proofs.Placing.{Tokening, tokening-start, tokening_room, tokening-end, tokening-stops}
use Rattle.names.proofs.Walking.{walk_starts, walk_ends, walk_stops, walk_gives}
use Rattle.names.proofs.listing.put_tokens.Goals as goal

pub loop-piece-init : goal.loop-piece-init
loop-piece-init c =
    walk_starts (λ at. Tokening c.args.s.now c.args.out.now c.args.out.now at 3) _ _ _ _ c.into_iter-piece-iterator.ensures.into_iter_gives c.behind-piece-items.ensures.name c.behind-piece-items.ensures.at (tokening-start _ _ _ c.requires)

pub returns-in_default : goal.returns-in_default
returns-in_default c = absurd (tokening-stops _ _ _ _ _ c.loop-piece.invariant.1 _ (walk_stops _ c.loop-piece.piece-iterator c.next.new.self _ _ c.loop-piece.invariant.0 c.in-Some.ensures.steps c.in_default.is))

pub returns : goal.returns
returns c = tokening-end _ _ _ _ _ c.loop-piece.invariant.1 (walk_ends _ c.loop-piece.piece-iterator c.next.new.self c.loop-piece.invariant.0 c.in-None.ensures.steps)

pub put_token-requires : goal.put_token-requires
put_token-requires c =
    let g = walk_gives _ c.loop-piece.piece-iterator c.next.new.self _ _ _ c.loop-piece.invariant.0 c.in-Some.ensures.steps c.in-Ok.is in
    tokening_room _ _ _ _ _ _ _ c.loop-piece.invariant.1 g.0 g.1
