-- The search among names that are lent is the search among the names.
use Rattle.std.proofs.Common.{◌∙◌}
use Rattle.lookup.proofs.Atomics.{lent}
use Rattle.lookup.proofs.atomic.number_of.Goals as goal

pub returns : goal.returns
returns c = c.find_number.ensures ∙ lent c.args.name.now c.args.table.now
