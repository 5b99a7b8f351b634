use Rattle.std.proofs.Common.{◌≡◌, ◌≤◌, map, drop, None, IfSome}
use Rattle.reads.specs.Told.{number_at}
use Rattle.reads.proofs.Extents.{widened}
use Rattle.reads.proofs.extent.extent_at.Given as goal

-- the extent of all is that so far with the numbers that are left
abbrev pub invariant-loop-position : goal.invariant-loop-position
invariant-loop-position l = record {
  left : widened None (map (number_at l.numbers) l.positions) ≡ widened l.extent (map (number_at l.numbers) (drop l.position-index l.positions));
  ordered : IfSome l.extent (λ e. e.least ≤ e.greatest);
}
