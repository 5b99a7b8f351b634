use Rattle.std.proofs.Common.{◌≡◌, map, drop}
use Rattle.packing.specs.Told.{started, steps_of}
use Rattle.reads.specs.Rows.{size_in}
use Rattle.reads.proofs.pack.packets.Given as goal

-- what all reads fill is what the reads that are left fill further
abbrev pub invariant-loop-row : goal.invariant-loop-row
invariant-loop-row l = steps_of l.cost l.budget (started l.budget) (map size_in l.rows) ≡ steps_of l.cost l.budget l.filling (map size_in (drop l.row-index l.rows))
