-- Groups counted, and those that the reads left make, are all groups.
use Rattle.std.proofs.Common.{◌≡◌, ◌+◌, ◌≤◌, drop, length}
use Rattle.packing.specs.Packing.{groups}
use Rattle.packing.specs.Told.{sizes_in, held}
use Rattle.packing.proofs.Grouping.{made}
use Rattle.packing.proofs.chunk.Batch.group_count.Given as goal

abbrev pub invariant-loop-read : goal.invariant-loop-read
invariant-loop-read l = record {
  all : l.count + made l.packer.cost l.packer.budget (held l.packer.fill) (drop l.read (sizes_in l.self.sizes)) ≡ length (groups l.self.cost l.self.budget (sizes_in l.self.sizes));
  few : l.count ≤ l.read;
}
