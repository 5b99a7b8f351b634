use Rattle.nodes.proofs.Values.{dimming-start, dimming-step, dimming-end}
use Rattle.nodes.proofs.value.dims_at.Goals as goal

pub loop-i-init : goal.loop-i-init
loop-i-init c = dimming-start _ _ _

pub loop-i-preserved : goal.loop-i-preserved
loop-i-preserved c = let a = c.loop-i in dimming-step c.args.s.now _ _ a.dims a.next a.i _ _ c.number_at-count.ensures.within a.invariant c.loop-i-test.true c.number_at.ensures.number c.past-next-in-loop-i.ensures

pub returns : goal.returns
returns c =
    let a = c.loop-i in
    let r = dimming-end c.args.s.now c.args.at _ _ a.dims a.next a.i c.number_at-count.ensures.number c.past-next.ensures c.number_at-count.ensures.within a.invariant c.loop-i-test.false in
    record { dims = r.0; count = r.1; next = r.2; few = r.3 }
