use Rattle.std.proofs.Common.{◌≡◌, arith, rules}
use Rattle.packing.specs.Tables.{sizes_of}
use Rattle.packing.proofs.Pairs.{left, left-more, left-none}
use Rattle.packing.proofs.Counting.{filling}
use Rattle.packing.proofs.table.fill_all.Goals as goal

pub loop-request-init : goal.loop-request-init
loop-request-init c =
    let e : left c.into_iter-request-iterator.result ≡ sizes_of c.args.requests.now c.args.replies.now = search rules in
    grind (arith, e)

pub loop-request-preserved : goal.loop-request-preserved
loop-request-preserved c =
    let p = left-more c.loop-request.request-iterator c.next.new.self _ _ c.in-Some.is c.next.ensures.steps in
    grind (arith, p, filling)

pub returns : goal.returns
returns c = let p = left-none c.loop-request.request-iterator c.next.new.self _ c.in-None.is c.next.ensures.steps in grind (arith, p, filling)
