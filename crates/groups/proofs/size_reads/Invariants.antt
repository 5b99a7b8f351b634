-- The sizes found and those of the reads left are all sizes.
use Rattle.catalog.specs.Catalog.{catalog_of}
use Rattle.groups.proofs.Columns.{Sizing}
use Rattle.groups.proofs.size_reads.Given as goal

abbrev pub invariant-loop : goal.invariant-loop
invariant-loop l = Sizing (catalog_of l.catalog) l.plan l.end l.sizes l.at l.counter
