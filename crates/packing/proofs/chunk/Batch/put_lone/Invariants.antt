-- The bytes of the reads left are those still to be put.
use Rattle.packing.specs.Told.{sizes_in, lone_bytes}
use Rattle.packing.proofs.Placing.{Lonely}
use Rattle.packing.proofs.chunk.Batch.put_lone.Given as goal

abbrev pub invariant-loop-read : goal.invariant-loop-read
invariant-loop-read l = Lonely l.packer.cost l.packer.budget (lone_bytes l.self.cost l.self.budget 0 (sizes_in l.self.sizes)) l.initial.out l.at l.out l.next (sizes_in l.self.sizes) l.read
