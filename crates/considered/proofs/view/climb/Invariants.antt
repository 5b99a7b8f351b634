use mathlib.Core.List.{map}
use Rattle.lists.specs.Lists.{list_of}
use Rattle.catalog.specs.Catalog.{catalog_of}
use Rattle.names.specs.Name.{tokens_of}
use Rattle.considered.specs.Seen.{row_in}
use Rattle.considered.proofs.Climbing.{Climbing}
use Rattle.considered.proofs.view.climb.Given as goal

abbrev pub invariant-loop-level : goal.invariant-loop-level
invariant-loop-level l = let r = l.resolved in Climbing (catalog_of r.files.now.catalog.now) (list_of r.files.now.list.now) (tokens_of r.name.now) l.tag (map row_in l.initial.rows) (map row_in l.rows) l.level
