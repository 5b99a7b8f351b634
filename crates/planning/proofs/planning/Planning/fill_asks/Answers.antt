-- The requests, from the first to the last.
use mathlib.Core.Path.{ap, ◌∙◌}
use native.Mathlib.Omega.{arith}
use Rattle.catalog.specs.Catalog.{catalog_of}
use Rattle.sizes.specs.Told.{bounded_request}
use Rattle.planning.proofs.Asking.{asking-start, asking-next, asking-end}
use Rattle.planning.proofs.planning.Planning.fill_asks.Goals as goal

pub loop-j-init : goal.loop-j-init
loop-j-init c = asking-start _ _ _ c.told-asks

pub loop-j-preserved : goal.loop-j-preserved
loop-j-preserved c = asking-next _ _ _ _ c.loop-j.invariant _ (omega (arith, c.len-j-end.ensures.len, c.len-j-end.ensures.within)) (omega (arith, c.len-j-end.ensures.len, c.loop-j-test.true)) ((rw c.open-opened.ensures at c.request_size.ensures.bytes) ∙ ap (bounded_request (catalog_of c.args.catalog.now)) c.text-name.ensures.text)

pub returns : goal.returns
returns c = asking-end _ _ _ _ c.loop-j.invariant (omega (arith, c.len-j-end.ensures.len, c.loop-j-test.false))
