use mathlib.Core.Path.{◌≡◌}
use Rattle.considered.proofs.Resolving.{Resolving}
use Rattle.considered.proofs.levels.put_levels.Given as goal

abbrev pub invariant-loop-piece : goal.invariant-loop-piece
invariant-loop-piece l = (l.piece-iterator.name.now ≡ l.name) × Resolving l.files.catalog.now l.name l.levels l.piece-iterator.at l.path
