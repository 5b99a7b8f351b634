-- The bytes of the reads left are those still to be put.
use Rattle.packing.specs.Told.{sizes_in, held, started, shared_bytes}
use Rattle.packing.proofs.Placing.{Sharing}
use Rattle.packing.proofs.chunk.Batch.put_shared.Given as goal

abbrev pub invariant-loop-read : goal.invariant-loop-read
invariant-loop-read l = Sharing (shared_bytes l.self.cost l.self.budget 0 (held (started l.self.budget)) (sizes_in l.self.sizes)) l.initial.out l.at l.out l.packer l.next (sizes_in l.self.sizes) l.read
