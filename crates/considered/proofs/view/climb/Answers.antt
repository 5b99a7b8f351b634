use Rattle.considered.proofs.Climbing.{climbing-next, climbing-stop, front-of}
use Rattle.considered.specs.Seen.{row_in}
use Rattle.planner.specs.Lists.{as_list}
use Rattle.planner.specs.Rows.{row_of}
use Rattle.planner.specs.Tags.{struct_at}
use Rattle.names.specs.Name.{tokens_of}
use Rattle.lists.specs.Lists.{list_of}
use Rattle.catalog.specs.Catalog.{catalog_of}
use Prim.Native.Nat.{◌-◌}
use mathlib.Core.List.{◌++◌, map}
use mathlib.Core.Path.{ap₂, ◌∙◌}
use native.Mathlib.Omega.{arith}
use Rattle.considered.proofs.view.climb.Goals as goal

pub returns-then-not-goes_on : goal.returns-then-not-goes_on
returns-then-not-goes_on c = let r = c.args.resolved.now in let w = c.loop-level.invariant.within in let h = c.loop-level-test.true in climbing-stop _ _ _ _ _ _ _ c.loop-level.invariant (c.loop-level.level - 1) c.front-front.result.name.now _ (omega arith) (c.put_row.ensures ∙ ap₂ (λ x y. map row_in c.loop-level.rows ++ map (row_of c.args.tag) (as_list (struct_at (catalog_of x) (list_of y) (tokens_of c.front-front.result.name.now)))) c.front-front.ensures.catalog c.front-front.ensures.list) (front-of r.name.now _ _ (omega arith) c.front-front.ensures.name) _ c.goes_on.ensures c.if-not-goes_on.true

pub loop-level-preserved : goal.loop-level-preserved
loop-level-preserved c = let r = c.args.resolved.now in let w = c.loop-level.invariant.within in let h = c.loop-level-test.true in climbing-next _ _ _ _ _ _ _ c.loop-level.invariant (c.loop-level.level - 1) c.front-front.result.name.now _ (omega arith) (c.put_row.ensures ∙ ap₂ (λ x y. map row_in c.loop-level.rows ++ map (row_of c.args.tag) (as_list (struct_at (catalog_of x) (list_of y) (tokens_of c.front-front.result.name.now)))) c.front-front.ensures.catalog c.front-front.ensures.list) (front-of r.name.now _ _ (omega arith) c.front-front.ensures.name) _ c.goes_on.ensures c.if-not-goes_on.false
