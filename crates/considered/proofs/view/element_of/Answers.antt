use Rattle.considered.proofs.Elements.{element-known}
use Rattle.considered.proofs.Fronts.{levels-long}
use Rattle.lists.specs.Lists.{list_of}
use Rattle.catalog.specs.Catalog.{catalog_of}
use mathlib.Core.Path.{sym, ap₂, ◌∙◌}
use Rattle.considered.specs.Answers.{width_in}
use Rattle.considered.proofs.view.element_of.Goals as goal

pub returns : goal.returns
returns c = let r = c.args.resolved.now in element-known r.name.now (catalog_of r.files.now.catalog.now) (list_of r.files.now.list.now) _ _ (levels-long r.files.now.catalog.now r.name.now r.levels.now r.levelled) c.if-count-lt2.false c.front-front.ensures.name _ (sym c.one_index.ensures ∙ c.in_ok-index.was) _ (sym (c.element_size.ensures ∙ ap₂ (λ x y. width_in (catalog_of x) (list_of y) c.front-front.result.name.now) c.front-front.ensures.catalog c.front-front.ensures.list) ∙ c.in_ok-width.was)
