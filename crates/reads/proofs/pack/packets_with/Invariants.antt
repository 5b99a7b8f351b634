use Rattle.std.proofs.Common.{◌≡◌, map, drop}
use Rattle.packing.specs.Told.{started, steps_of}
use Rattle.planner.specs.Merging.{in_place}
use Rattle.reads.specs.Held.{is_covered, size_of, sized}
use Rattle.reads.specs.Rows.{held_in}
use Rattle.reads.proofs.Placing.{left_of}
use Rattle.reads.proofs.pack.packets_with.Given as goal

-- what all reads fill is what the reads that are left fill further
abbrev pub invariant-loop-row : goal.invariant-loop-row
invariant-loop-row l =
    steps_of l.cost l.budget (started l.budget) (map size_of (in_place (is_covered l.marks) (sized l.request l.reply) (map (held_in l.members) l.rows)))
    ≡ steps_of l.cost l.budget l.filling (map size_of (left_of (is_covered l.marks) (sized l.request l.reply) l.placed (drop l.row-index (map (held_in l.members) l.rows))))
