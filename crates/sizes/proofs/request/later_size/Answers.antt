use mathlib.Core.Path.{sym, subst, ◌∙◌}
use Prim.Native.Nat.{◌+◌}
use Rattle.names.proofs.Walking.{walk_starts, walk_ends, walk_stops, walk_gives}
use Rattle.sizes.proofs.Summing.{Costing, costing-start, costing-end, costing-stops, costing_token, costing_next}
use Rattle.sizes.proofs.request.later_size.Goals as goal

pub loop-piece-init : goal.loop-piece-init
loop-piece-init c =
    walk_starts (λ at. Costing c.args.name.now c.args.base at 0) _ _ _ _ c.into_iter-piece-iterator.ensures.into_iter_gives c.behind-piece-items.ensures.name c.behind-piece-items.ensures.at (costing-start _ _ (c.requires.short, c.requires.within))

pub returns-in_default : goal.returns-in_default
returns-in_default c =
    let all = costing-stops _ _ _ _ c.loop-piece.invariant.1 _ (walk_stops _ c.loop-piece.piece-iterator c.next.new.self _ _ c.loop-piece.invariant.0 c.in-Some.ensures.steps c.in_default.is) in
    record { bytes = all.0; small = all.1 }

pub token_size-bytes-requires : goal.token_size-bytes-requires
token_size-bytes-requires c =
    let g = walk_gives _ c.loop-piece.piece-iterator c.next.new.self _ _ _ c.loop-piece.invariant.0 c.in-Some.ensures.steps c.in-Ok.is in
    costing_token _ _ _ _ _ _ c.loop-piece.invariant.1 g.0 g.1

pub returns : goal.returns
returns c =
    let all = costing-end _ _ _ _ c.loop-piece.invariant.1 (walk_ends _ c.loop-piece.piece-iterator c.next.new.self c.loop-piece.invariant.0 c.in-None.ensures.steps) in
    record { bytes = all.0; small = all.1 }

pub loop-piece-preserved : goal.loop-piece-preserved
loop-piece-preserved c =
    let g = walk_gives _ c.loop-piece.piece-iterator c.next.new.self _ _ _ c.loop-piece.invariant.0 c.in-Some.ensures.steps c.in-Ok.is in
    let n = costing_next _ _ _ _ _ _ _ c.loop-piece.invariant.1 g.0 g.1 c.token_size-bytes.ensures.bytes c.token_size-bytes.ensures.small in
    (c.in-Some.ensures.steps.0 ∙ c.loop-piece.invariant.0, subst (λ at. Costing c.args.name.now c.args.base at (c.loop-piece.bytes + c.token_size-bytes.result)) (sym g.2) n)
