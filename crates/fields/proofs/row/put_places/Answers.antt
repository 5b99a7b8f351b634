use Rattle.std.proofs.Common.{ap, ◌∙◌, arith}
use Rattle.fields.specs.Places.{places_from}
use Rattle.fields.specs.Writing.{answered}
use Rattle.fields.proofs.Columns.{column-start, column-next, column-end}
use Rattle.fields.proofs.row.put_places.Goals as goal

pub loop-i-init : goal.loop-i-init
loop-i-init g c = column-start _ _ _ _ _ (omega arith)

pub loop-i-preserved : goal.loop-i-preserved
loop-i-preserved g c = column-next _ _ _ _ _ _ _ _ c.loop-i.invariant _ c.loop-i-test.true c.past-at.ensures

pub returns : goal.returns
returns g c =
    column-end _ _ _ _ _ _ _ _ c.loop-i.invariant c.loop-i-test.false
    ∙ ap (λ m. answered (places_from (g.F.Field.format c.args.field.now) m c.args.s.now c.args.from) c.args.places.now) c.min-i-end.ensures
