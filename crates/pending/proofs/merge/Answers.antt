-- `pending::merge` meets its contract: no read is flagged, or the first flagged one grows and the table is closed.
-- the table's length
use Rattle.pending.proofs.Merging.{merge-end, merge-past, merge-some}
use Rattle.pending.proofs.merge.Goals as goal

pub returns-then-count-k : goal.returns-then-count-k
returns-then-count-k c = let a = c.args in let all = merge-end a.covered.now a.reads.count c.first_flag-k.result a.new a.reads.table c.told-covered c.well_formed.0.1.1.0.1.0.1 c.first_flag-k.ensures.0 c.if-count-k.true in record { count = all.0; table = all.1 }

pub returns-then-flags-k : goal.returns-then-flags-k
returns-then-flags-k c = let a = c.args in let all = merge-past a.covered.now a.reads.count c.first_flag-k.result a.new a.reads.table c.told-covered c.well_formed.0.1.1.0.1.0.1 c.first_flag-k.ensures.0 c.if-flags-k.true in record { count = all.0; table = all.1 }

pub returns : goal.returns
returns c = let a = c.args in let all = merge-some a.covered.now a.reads.count c.first_flag-k.result a.new a.reads.table c.told-covered c.well_formed.0.1.1.0.1.0.1 c.first_flag-k.ensures.0 c.if-count-k.false c.if-flags-k.false _ c.excess-more.ensures.0 _ c.grown-t.ensures _ _ c.close.ensures.count c.close.ensures.table in record { count = all.0; table = all.1 }
