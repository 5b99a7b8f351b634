use Rattle.std.proofs.Common.{◌≡◌, ◌-◌, ◌+◌, refl, sym, ap, arith}
use Rattle.fields.proofs.Putting.{putting-same, putting-start}
use Rattle.results.specs.Told.{laid, pair_count}
use Rattle.results.proofs.Turning.{all-ahead, turn-room, turn-put, all-put}
use Rattle.results.proofs.sort.Sorting.put_all.Goals as goal

pub loop-init : goal.loop-init
loop-init c = putting-same _ _ _ _ _ _ _ (sym (ap laid (all-ahead c.args.self.now.plan.now c.args.self.now.results.now _ _ _ c.reads_start-p.ensures c.results_start-q.ensures (omega arith, let h = c.pair_count-end.ensures in omega (arith, h.count, h.within))))) (putting-start _ _ _ c.requires)

pub put_entries-to-requires : goal.put_entries-to-requires
put_entries-to-requires c = let h = c.pair_count-end.ensures.count in turn-room c.args.self.now.plan.now c.args.self.now.results.now (pair_count c.args.self.now.plan.now c.args.self.now.results.now - c.loop.counter) c.loop.p c.loop.q (omega (arith, h)) _ c.turn_at-turn.ensures _ _ refl refl _ _ _ _ _ c.loop.invariant

pub loop-preserved : goal.loop-preserved
loop-preserved c =
    let h = c.pair_count-end.ensures.count in
    let z : pair_count c.args.self.now.plan.now c.args.self.now.results.now - c.loop.counter - 1 ≡ pair_count c.args.self.now.plan.now c.args.self.now.results.now - (c.loop.counter + 1) = omega arith in
    rw z at (turn-put c.args.self.now.plan.now c.args.self.now.results.now (pair_count c.args.self.now.plan.now c.args.self.now.results.now - c.loop.counter) c.loop.p c.loop.q (omega (arith, h)) _ c.turn_at-turn.ensures _ _ c.read_past-p.ensures c.result_past-q.ensures _ _ _ _ _ c.loop.invariant _ _ c.put_entries-to.ensures.next c.put_entries-to.ensures.memory)

pub returns : goal.returns
returns c = let h = c.pair_count-end.ensures.count in all-put c.args.self.now.plan.now c.args.self.now.results.now (pair_count c.args.self.now.plan.now c.args.self.now.results.now - c.loop.counter) c.loop.p c.loop.q (omega (arith, h)) _ _ _ _ _ c.loop.invariant
