-- `tokens_from` meets its contract: the tokens before a place and those behind it are all, and they are fewer than the name's bytes.
use mathlib.Core.Path.{◌≡◌}
use Rattle.planning.proofs.Reckoned.{Reckoning}
use Rattle.planning.proofs.bind.tokens_from.Given as goal

abbrev pub invariant-loop-piece : goal.invariant-loop-piece
invariant-loop-piece l = (l.piece-iterator.name.now ≡ l.name) × Reckoning l.name l.piece-iterator.at l.n
