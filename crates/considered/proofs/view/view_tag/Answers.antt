use Rattle.considered.proofs.Viewing.{told-not, rows-not, told-counted, above-counted, name-whole}
use Rattle.considered.proofs.Fronts.{levels-long}
use Rattle.considered.specs.Answers.{is_counted}
use Rattle.considered.specs.Seen.{row_in, element_seen}
use Rattle.planner.specs.Rows.{row_of}
use Rattle.sizes.specs.Sizes.{read_size}
use Rattle.catalog.specs.Catalog.{catalog_of}
use Rattle.std.specs.Option.{option_map}
use mathlib.Core.List.{◌++◌, map}
use mathlib.Core.Path.{ap, ap₂, ◌∙◌}
use lib.ListN.{length}
use native.Mathlib.Omega.{arith}
use Rattle.considered.proofs.view.view_tag.Goals as goal

pub size-size-requires : goal.size-size-requires
size-size-requires c = let q = name-whole c.args.name.now _ _ (c.len-count.ensures.len ∙ levels-long _ c.args.name.now _ c.levels_in-levels.ensures) c.if-count-eq0.false c.front-whole.ensures.name in let e = ap length q in let l = c.requires.limited.within in omega arith

pub returns-then-not-is_counted-clause-size : goal.returns-then-not-is_counted-clause-size
returns-then-not-is_counted-clause-size c = let q = name-whole c.args.name.now _ _ (c.len-count.ensures.len ∙ levels-long _ c.args.name.now _ c.levels_in-levels.ensures) c.if-count-eq0.false c.front-whole.ensures.name in c.size-size.ensures ∙ ap₂ (λ x y. (read_size (catalog_of x) y)) c.front-whole.ensures.catalog q

pub returns-then-not-is_counted-clause-element : goal.returns-then-not-is_counted-clause-element
returns-then-not-is_counted-clause-element c = let q = name-whole c.args.name.now _ _ (c.len-count.ensures.len ∙ levels-long _ c.args.name.now _ c.levels_in-levels.ensures) c.if-count-eq0.false c.front-whole.ensures.name in told-not _ _ c.args.name.now _ _ (c.is_counted.ensures ∙ ap₂ (λ x y. is_counted (catalog_of x) y c.args.is_known) c.front-whole.ensures.catalog q) c.if-not-is_counted.true

pub returns-then-not-is_counted-clause-rows : goal.returns-then-not-is_counted-clause-rows
returns-then-not-is_counted-clause-rows c = let q = name-whole c.args.name.now _ _ (c.len-count.ensures.len ∙ levels-long _ c.args.name.now _ c.levels_in-levels.ensures) c.if-count-eq0.false c.front-whole.ensures.name in rows-not _ _ c.args.name.now _ _ (c.is_counted.ensures ∙ ap₂ (λ x y. is_counted (catalog_of x) y c.args.is_known) c.front-whole.ensures.catalog q) _ _ c.if-not-is_counted.true

pub returns-clause-size : goal.returns-clause-size
returns-clause-size c = let q = name-whole c.args.name.now _ _ (c.len-count.ensures.len ∙ levels-long _ c.args.name.now _ c.levels_in-levels.ensures) c.if-count-eq0.false c.front-whole.ensures.name in c.size-size.ensures ∙ ap₂ (λ x y. (read_size (catalog_of x) y)) c.front-whole.ensures.catalog q

pub returns-clause-element : goal.returns-clause-element
returns-clause-element c = let q = name-whole c.args.name.now _ _ (c.len-count.ensures.len ∙ levels-long _ c.args.name.now _ c.levels_in-levels.ensures) c.if-count-eq0.false c.front-whole.ensures.name in c.element_of.ensures ∙ ap (option_map element_seen) (told-counted _ _ c.args.name.now _ _ (c.is_counted.ensures ∙ ap₂ (λ x y. is_counted (catalog_of x) y c.args.is_known) c.front-whole.ensures.catalog q) c.if-not-is_counted.false)

pub returns-clause-rows : goal.returns-clause-rows
returns-clause-rows c = let q = name-whole c.args.name.now _ _ (c.len-count.ensures.len ∙ levels-long _ c.args.name.now _ c.levels_in-levels.ensures) c.if-count-eq0.false c.front-whole.ensures.name in c.climb.ensures ∙ ap (λ x. map row_in c.args.rows.now ++ map (row_of c.args.tag) x) (above-counted _ _ c.args.name.now _ _ (c.is_counted.ensures ∙ ap₂ (λ x y. is_counted (catalog_of x) y c.args.is_known) c.front-whole.ensures.catalog q) c.if-not-is_counted.false)
