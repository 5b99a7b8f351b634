use Rattle.names.proofs.Placing.{putting_missing, putting_end}
use Rattle.names.proofs.listing.put_indexes.Goals as goal

pub returns-in_default : goal.returns-in_default
returns-in_default c = absurd (putting_missing _ _ _ _ _ _ _ _ c.loop-index.invariant c.in-Some.ensures.steps c.in_default.is)

pub returns : goal.returns
returns c = putting_end _ _ _ _ _ _ c.loop-index.invariant c.in-None.ensures.steps.0
