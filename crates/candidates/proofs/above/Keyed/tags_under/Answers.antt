use native.Mathlib.Omega.{arith}
use mathlib.Core.Path.{sym, ◌∙◌}
use Rattle.candidates.proofs.Putting.{gathering-start, gathering-yes, gathering-no, gathering-end}
use Rattle.candidates.proofs.Under.{tags-all, tags-more, tags-skip, tags-none}
use Rattle.candidates.proofs.above.Keyed.tags_under.Goals as goal
use Rattle.candidates.proofs.above.Keyed.tags_under.Goals.{then-is_under, else-is_under}

pub loop-k-init : goal.loop-k-init
loop-k-init c = gathering-start _ _ _ _ c.clear.ensures (tags-all _ _ _)

pub loop-k-preserved : goal.loop-k-preserved
loop-k-preserved c = elim c.if-is_under.branch [
  | then-is_under w ↦ rw w.tags-is (gathering-yes _ _ _ _ c.loop-k.invariant _ _ _ (tags-more _ _ _ _ (omega arith) (sym c.is_under.ensures ∙ w.if-is_under.true)) (w.push.ensures.room (omega arith)))
  | else-is_under w ↦ rw w.tags-is (gathering-no _ _ _ _ c.loop-k.invariant _ (tags-skip _ _ _ _ (omega arith) (sym c.is_under.ensures ∙ w.if-is_under.false)))
]

pub returns : goal.returns
returns c = gathering-end _ _ _ _ c.loop-k.invariant (tags-none _ _ _ _ (omega arith))
