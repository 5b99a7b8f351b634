use Rattle.considered.proofs.Considering.{Seeing}
use Rattle.considered.proofs.see_tags.Given as goal

abbrev pub invariant-loop-place : goal.invariant-loop-place
invariant-loop-place l = Seeing l.files.catalog.now l.files.list.now l.places l.tags l.rows l.place-index
