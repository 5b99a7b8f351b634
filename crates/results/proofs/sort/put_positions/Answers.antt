use native.Mathlib.Omega.{arith}
use borrow.Author.Rules.{rules}
use Rattle.std.proofs.Common.{get_or, ◌<◌, sym, ◌∙◌}
use Rattle.results.proofs.Failing.{positions-start, position-put, positions-end, position-at, positions-many}
use Rattle.results.proofs.sort.put_positions.Goals as goal

pub loop-read-init : goal.loop-read-init
loop-read-init c = positions-start _ _ _ (let n = positions-many c.args.failed.now in omega (arith, n, c.requires))

pub loop-read-preserved : goal.loop-read-preserved
loop-read-preserved c =
    let n = positions-many c.args.failed.now in
    let told = position-at c.args.failed.now c.loop-read.read-index (record { place = 0; position = 0 }) c.loop-read-test.true in
    let fits : (get_or c.args.failed.now c.loop-read.read-index (record { place = 0; position = 0 })).position < 65536 = search rules in
    position-put _ _ _ _ _ c.loop-read.read-index c.loop-read.invariant (omega (arith, n, c.loop-read-test.true)) (rw told fits) _ (rw (c.from.ensures ∙ sym told) at c.put_number.ensures)

pub returns : goal.returns
returns c = let n = positions-many c.args.failed.now in positions-end _ _ _ _ _ c.loop-read.read-index c.loop-read.invariant (omega (arith, n, c.loop-read-test.false))
