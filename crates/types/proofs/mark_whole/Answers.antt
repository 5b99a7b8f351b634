use Rattle.types.proofs.Telling.{whole-lent}
use Rattle.types.proofs.mark_whole.Goals as goal

pub returns : goal.returns
returns c = whole-lent _ _ c.note_types.ensures _ _ _ c.mark_whole.ensures
