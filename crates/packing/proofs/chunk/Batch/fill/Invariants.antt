-- What is left fills up to what all reads fill.
use Rattle.std.proofs.Common.{◌≡◌, drop}
use Rattle.packing.specs.Told.{sizes_in, started, steps_of}
use Rattle.packing.proofs.chunk.Batch.fill.Given as goal

abbrev pub invariant-loop-read : goal.invariant-loop-read
invariant-loop-read l =
    let zs = sizes_in l.self.sizes in
    steps_of l.packer.cost l.packer.budget l.packer.fill (drop l.read zs) ≡ steps_of l.self.cost l.self.budget (started l.self.budget) zs
