use Rattle.nesting.proofs.Laying.{marking-laid}
use Rattle.nesting.proofs.tables.whole_types.Goals as goal

pub returns-in-Some : goal.returns-in-Some
returns-in-Some c = marking-laid _ _ _ _ _ _ _ c.in-Some.ensures c.mark_whole.ensures
