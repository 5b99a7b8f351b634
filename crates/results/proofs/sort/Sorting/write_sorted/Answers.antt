-- The pieces of the file are put from the front on, or none of them: the laws in Filing.
use Rattle.results.proofs.Filing.{told-rows, sorted-short, sorted-done}
use Rattle.results.proofs.sort.Sorting.write_sorted.Goals as goal

pub returns-then-out-size : goal.returns-then-out-size
returns-then-out-size c = let all = sorted-short _ _ (c.requires.plan, c.requires.results) _ _ (c.add_up-total.ensures.entries, c.add_up-total.ensures.bytes, c.add_up-total.ensures.few) _ _ (told-rows _ _ _ _ c.failed_reads-table.ensures c.rows-failed.ensures.rows c.rows-failed.ensures.within) _ c.if-out-size.true in record { answer = all.0; memory = all.1 }

pub returns : goal.returns
returns c = let all = sorted-done _ _ (c.requires.plan, c.requires.results) _ _ (c.add_up-total.ensures.entries, c.add_up-total.ensures.bytes, c.add_up-total.ensures.few) _ _ (told-rows _ _ _ _ c.failed_reads-table.ensures c.rows-failed.ensures.rows c.rows-failed.ensures.within) _ c.if-out-size.false _ _ c.put_number.ensures c.put_number-2.ensures _ _ c.put_all.ensures c.put_number-3.ensures _ c.put_positions.ensures in record { answer = all.0; memory = all.1 }
