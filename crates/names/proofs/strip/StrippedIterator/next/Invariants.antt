-- `next` meets its contract: what is left of the path keeps the same bytes as at the start.
use mathlib.Core.Path.{◌≡◌}
use lib.ListN.{length}
use Rattle.names.specs.Left.{path_left}
use Rattle.names.proofs.strip.StrippedIterator.next.Given as goal

abbrev pub invariant-loop-byte : goal.invariant-loop-byte
invariant-loop-byte l = path_left l.self ≡ path_left l.fn.self

abbrev pub decreases-loop-byte : goal.decreases-loop-byte
decreases-loop-byte l = length l.self.rest.now
