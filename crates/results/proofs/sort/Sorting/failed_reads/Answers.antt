use Rattle.std.proofs.Common.{refl, arith}
use Rattle.results.proofs.Failing.{failing-start, failing-added, failing-passed, failing-end}
use Rattle.results.proofs.sort.Sorting.failed_reads.Goals.{then-is_failed, else-is_failed}
use Rattle.results.proofs.sort.Sorting.failed_reads.Goals as goal

pub loop-i-init : goal.loop-i-init
loop-i-init c = let h = c.pair_count-i-end.ensures in failing-start _ _ _ _ _ _ c.new-failed.ensures c.reads_start-p.ensures c.results_start-q.ensures refl (omega (arith, h.count, h.within))

pub loop-i-preserved : goal.loop-i-preserved
loop-i-preserved c =
    let h = c.pair_count-i-end.ensures.count in
    let d = rw c.rows.ensures.rows at c.is_failed.ensures in
    elim c.if-is_failed.branch [
      | then-is_failed w ↦ rw w.failed-is
          (failing-added _ _ _ _ _ _ _ c.loop-i.invariant (omega (arith, h, c.loop-i-test.true)) _ d _ _ c.read_past-p.ensures c.result_past-q.ensures w.if-is_failed.true _ refl refl _ (w.push.ensures.room (omega (arith, h, c.pair_count-i-end.ensures.within))))
      | else-is_failed w ↦ rw w.failed-is
          (failing-passed _ _ _ _ _ _ _ c.loop-i.invariant (omega (arith, h, c.loop-i-test.true)) _ d _ _ c.read_past-p.ensures c.result_past-q.ensures w.if-is_failed.false)
    ]

pub returns : goal.returns
returns c = let h = c.pair_count-i-end.ensures.count in failing-end _ _ _ _ _ _ _ c.loop-i.invariant (omega (arith, h, c.loop-i-test.false))
