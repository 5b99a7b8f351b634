use Rattle.std.proofs.Common.{◌≡◌, ◌≤◌, map, drop, None, IfSome}
use Rattle.considered.specs.Seen.{index_in}
use Rattle.reads.proofs.Extents.{widened}
use Rattle.planning.proofs.planning.Planning.extent.Given as goal

-- the extent of all is that so far with the indexes that are left
abbrev pub invariant-loop-position : goal.invariant-loop-position
invariant-loop-position l = record {
  left : widened None (map (index_in l.self.tags.now) l.positions) ≡ widened l.extent (map (index_in l.self.tags.now) (drop l.position-index l.positions));
  ordered : IfSome l.extent (λ e. e.least ≤ e.greatest);
}
