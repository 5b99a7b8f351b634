use Rattle.std.proofs.Common.{◌≡◌, ◌-◌, ◌+◌, arith}
use Rattle.results.proofs.Entries.{sizes-more, sizes-end}
use Rattle.results.proofs.sort.Sorting.entries_size.Goals as goal

pub loop-preserved : goal.loop-preserved
loop-preserved c =
    let z : c.args.turn.count - c.loop.counter - 1 ≡ c.args.turn.count - (c.loop.counter + 1) = omega arith in
    rw z at (sizes-more c.args.self.now.plan.now c.args.self.now.results.now c.args.turn (c.args.turn.count - c.loop.counter) c.loop.p _ (omega arith) _ c.entry_at.ensures c.member_past-p.ensures _ _ _ c.loop.invariant (c.size-n.ensures.bytes, c.size-n.ensures.few))

pub returns : goal.returns
returns c = let all = sizes-end c.args.self.now.plan.now c.args.self.now.results.now c.args.turn (c.args.turn.count - c.loop.counter) c.loop.p (omega arith) _ _ c.loop.invariant in record { bytes = all.0; few = all.1 }
