use Rattle.types.proofs.Noting.{noted-start, noted-end}
use Rattle.types.proofs.note_types.Goals as goal

pub loop-k-init : goal.loop-k-init
loop-k-init c = noted-start _ _ _ c.requires.placed c.requires.blank.count c.requires.blank.links c.requires.blank.parts

pub returns : goal.returns
returns c = noted-end _ _ _ _ c.requires.placed c.loop-k.invariant c.loop-k-test.false
