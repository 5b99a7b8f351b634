use Rattle.std.proofs.Common.{◌≡◌, ◌-◌, ◌+◌, arith}
use Rattle.results.specs.Told.{pair_count}
use Rattle.results.proofs.Turning.{adding-start, adding-more, adding-end}
use Rattle.results.proofs.sort.Sorting.add_up.Goals as goal

pub loop-init : goal.loop-init
loop-init c = adding-start c.args.self.now.plan.now c.args.self.now.results.now _ _ _ c.reads_start-p.ensures c.results_start-q.ensures (omega arith, let h = c.pair_count-end.ensures in omega (arith, h.count, h.within))

pub loop-preserved : goal.loop-preserved
loop-preserved c =
    let h = c.pair_count-end.ensures.count in
    let z : pair_count c.args.self.now.plan.now c.args.self.now.results.now - c.loop.counter - 1 ≡ pair_count c.args.self.now.plan.now c.args.self.now.results.now - (c.loop.counter + 1) = omega arith in
    rw z at (adding-more _ _ _ _ _ _ _ c.loop.invariant (omega (arith, h)) _ c.turn_at-turn.ensures _ (c.entries_size-bytes.ensures.bytes, c.entries_size-bytes.ensures.few) _ _ c.read_past-p.ensures c.result_past-q.ensures)

pub returns : goal.returns
returns c =
    let h = c.pair_count-end.ensures.count in
    let all = adding-end _ _ _ _ _ _ _ c.loop.invariant (omega (arith, h)) in
    record { entries = all.0; bytes = all.1; few = all.2 }
