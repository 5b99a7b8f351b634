-- Reads counted, and those left that join, are all that join.
use Rattle.std.proofs.Common.{◌≡◌, ◌+◌, ◌≤◌, drop, length}
use Rattle.packing.specs.Told.{sizes_in, held, joining}
use Rattle.packing.proofs.chunk.joining_count.Given as goal

abbrev pub invariant-loop-read : goal.invariant-loop-read
invariant-loop-read l = record {
  all : l.count + joining l.packer.cost l.packer.budget (held l.packer.fill) (drop l.read (sizes_in l.sizes)) ≡ joining l.fn.packer.cost l.fn.packer.budget (held l.fn.packer.fill) (drop l.from (sizes_in l.sizes));
  few : l.count + length (drop l.read (sizes_in l.sizes)) ≤ length (drop l.from (sizes_in l.sizes));
}
