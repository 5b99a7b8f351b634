use mathlib.Core.Path.{refl, sym, subst, ◌∙◌}
use lib.Seq.{length-take-le}
use Rattle.names.proofs.Walking.{walk_starts, walk_ends, walk_stops, walk_gives}
use Rattle.considered.proofs.Resolving.{Resolving, first-room, first-within, first_none, resolving-start, next-within, next-room, resolving-next, resolving-end, resolving-stops}
use Rattle.considered.proofs.levels.put_levels.Goals as goal

pub returns-in_err-first-clause-stopped : goal.returns-in_err-first-clause-stopped
returns-in_err-first-clause-stopped c = λ _. first_none c.args.name.now _ (sym c.first_token.ensures ∙ c.in_err-first.was)

pub slice_bounds-find_tag-end : goal.slice_bounds-find_tag-end
slice_bounds-find_tag-end c = sym (length-take-le _ _ (first-within c.args.name.now _ _ (sym c.first_token.ensures ∙ c.in_ok-first.was)))

pub loop-piece-init : goal.loop-piece-init
loop-piece-init c =
    walk_starts (λ at. Resolving c.args.files.now.catalog.now c.args.name.now c.push.new.self at c.find_tag-path.result) _ _ _ _
    c.into_iter-piece-iterator.ensures.into_iter_gives c.behind-piece-items.ensures.name c.behind-piece-items.ensures.at
    (resolving-start _ c.args.name.now _ _ _ _ _ _ (sym c.first_token.ensures ∙ c.in_ok-first.was) refl c.find_tag-path.ensures c.requires.short c.requires.empty (c.push.ensures.room (first-room _ c.requires.empty)))

pub returns-in_err-text-clause-stopped : goal.returns-in_err-text-clause-stopped
returns-in_err-text-clause-stopped c = λ _.
    resolving-stops _ c.args.name.now _ _ _ c.loop-piece.invariant.1 _
    (walk_stops _ c.loop-piece.piece-iterator c.next.new.self _ _ c.loop-piece.invariant.0 c.in-Some.ensures.steps c.in_err-text.was)

pub slice_bounds-find_tag-end-in-loop-piece : goal.slice_bounds-find_tag-end-in-loop-piece
slice_bounds-find_tag-end-in-loop-piece c =
    let g = walk_gives _ c.loop-piece.piece-iterator c.next.new.self _ _ _ c.loop-piece.invariant.0 c.in-Some.ensures.steps c.in_ok-text.was in
    sym (length-take-le _ _ (next-within _ c.args.name.now _ _ _ c.loop-piece.invariant.1 _ _ g.0).1)

pub loop-piece-preserved : goal.loop-piece-preserved
loop-piece-preserved c =
    let g = walk_gives _ c.loop-piece.piece-iterator c.next.new.self _ _ _ c.loop-piece.invariant.0 c.in-Some.ensures.steps c.in_ok-text.was in
    let room = next-room _ c.args.name.now _ _ _ c.loop-piece.invariant.1 _ _ g.0 in
    let n = resolving-next _ c.args.name.now _ _ _ c.loop-piece.invariant.1 _ _ g.0 _ (rw g.1 at c.token_step-path.ensures) _ _ _ _ refl c.find_tag-tag.ensures c.or.ensures (c.push-in-loop-piece.ensures.room room) in
    (c.in-Some.ensures.steps.0 ∙ c.loop-piece.invariant.0, subst (λ at. Resolving c.args.files.now.catalog.now c.args.name.now c.push-in-loop-piece.new.self at c.token_step-path.result) (sym g.2) n)

pub returns-clause-levels : goal.returns-clause-levels
returns-clause-levels c =
    resolving-end _ c.args.name.now _ _ _ c.loop-piece.invariant.1 (walk_ends _ c.loop-piece.piece-iterator c.next.new.self c.loop-piece.invariant.0 c.in-None.ensures.steps)
