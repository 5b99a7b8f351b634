-- `run_name` meets its contract: the six pieces of the name are put one behind the other.
use Rattle.planning.proofs.Keys.{run-written}
use Rattle.planning.proofs.name.run_name.Goals as goal

pub returns-clause-count : goal.returns-clause-count
returns-clause-count c = (run-written _ _ _ _ _ _ _ _ _ _ _ _ _ _ c.requires c.ranges.start.fits c.ranges.span.fits c.told-out c.from-first.ensures c.from-count.ensures c.put_bytes.ensures c.put_bytes-2.ensures c.put_decimal.ensures c.decimal_length.ensures.digits c.put_bytes-3.ensures c.put_decimal-2.ensures c.decimal_length-2.ensures.digits c.put_bytes-4.ensures).0.0

pub returns-clause-within : goal.returns-clause-within
returns-clause-within c = (run-written _ _ _ _ _ _ _ _ _ _ _ _ _ _ c.requires c.ranges.start.fits c.ranges.span.fits c.told-out c.from-first.ensures c.from-count.ensures c.put_bytes.ensures c.put_bytes-2.ensures c.put_decimal.ensures c.decimal_length.ensures.digits c.put_bytes-3.ensures c.put_decimal-2.ensures c.decimal_length-2.ensures.digits c.put_bytes-4.ensures).0.1

pub returns-clause-bytes : goal.returns-clause-bytes
returns-clause-bytes c = (run-written _ _ _ _ _ _ _ _ _ _ _ _ _ _ c.requires c.ranges.start.fits c.ranges.span.fits c.told-out c.from-first.ensures c.from-count.ensures c.put_bytes.ensures c.put_bytes-2.ensures c.put_decimal.ensures c.decimal_length.ensures.digits c.put_bytes-3.ensures c.put_decimal-2.ensures c.decimal_length-2.ensures.digits c.put_bytes-4.ensures).1
