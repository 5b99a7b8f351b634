use Rattle.considered.proofs.Fronts.{level-told, between-later, between-order, between-climbs}
use mathlib.Core.Path.{ap, ◌∙◌}
use lib.ListN.{take, drop}
use Rattle.names.specs.Name.{tokens_of}
use Rattle.catalog.specs.Catalog.{catalog_of}
use Rattle.planner.specs.Tags.{climbs}
use native.Mathlib.Omega.{arith}
use Rattle.considered.proofs.levels.Resolved.goes_on.Goals as goal

pub slice_bounds-climbs_over-count : goal.slice_bounds-climbs_over-count
slice_bounds-climbs_over-count c = let s = c.args.self.now in between-order s.name.now c.args.token (omega arith) c.requires _ _ c.front-front.ensures.name (level-told s.files.now.catalog.now s.name.now s.levels.now c.args.token _ s.short s.levelled c.requires).long

pub slice_bounds-climbs_over-start : goal.slice_bounds-climbs_over-start
slice_bounds-climbs_over-start c = let s = c.args.self.now in between-order s.name.now c.args.token (omega arith) c.requires _ _ c.front-front.ensures.name (level-told s.files.now.catalog.now s.name.now s.levels.now c.args.token _ s.short s.levelled c.requires).long

pub slice_bounds-climbs_over-end : goal.slice_bounds-climbs_over-end
slice_bounds-climbs_over-end c = let s = c.args.self.now in (level-told s.files.now.catalog.now s.name.now s.levels.now c.args.token _ s.short s.levelled c.requires).within

pub climbs_over-requires : goal.climbs_over-requires
climbs_over-requires c = let s = c.args.self.now in between-later s.name.now c.args.token (omega arith) c.requires _ _ c.front-front.ensures.name (level-told s.files.now.catalog.now s.name.now s.levels.now c.args.token _ s.short s.levelled c.requires).long

pub returns : goal.returns
returns c = let s = c.args.self.now in let f = c.front-front.result in between-climbs s.name.now c.args.token (omega arith) c.requires _ _ c.front-front.ensures.name (level-told s.files.now.catalog.now s.name.now s.levels.now c.args.token _ s.short s.levelled c.requires).long _ _ _ f.leads c.climbs_over.ensures ∙ ap (λ x. climbs (catalog_of x) (take c.args.token (tokens_of s.name.now)) (drop c.args.token (tokens_of s.name.now))) c.front-front.ensures.catalog
