use Rattle.std.proofs.Common.{◌≡◌, ◌-◌, ◌+◌, sym, ◌∙◌, arith}
use Rattle.std.proofs.lemmas.Result.{err_from_is_err_and}
use Rattle.values.proofs.Going.{again-here, again-elsewhere, going_end, going-repeat, going-bad, going_more}
use Rattle.values.proofs.alike.+value_alike.Goals as goal

pub alike_members-returns-then-eq : goal.alike_members-returns-then-eq
alike_members-returns-then-eq t c =
    going-repeat _ _ _ _ _ _ _ c.loop.invariant (omega arith) (again-here _ _ (sym c.eq.ensures ∙ c.if-eq.true))

pub alike_members-returns-in_err-alike_value : goal.alike_members-returns-in_err-alike_value
alike_members-returns-in_err-alike_value t c =
    let p = err_from_is_err_and c.from_residual.result c.from_residual.ensures.1 in
    rw (p.1, p.2)
    (going-bad _ _ _ _ _ _ (again-elsewhere _ _ (sym c.eq.ensures ∙ c.if-eq.false)) _ _ c.loop.invariant (omega arith) (sym c.in_err-alike_value.was ∙ rw c.text_past.ensures at c.alike_value.ensures))

pub alike_members-loop-preserved : goal.alike_members-loop-preserved
alike_members-loop-preserved t c =
    let z : c.args.n - c.loop.counter - 1 ≡ c.args.n - (c.loop.counter + 1) = omega arith in
    rw c.member_past-at.ensures
    (rw z at
    (going_more _ _ _ _ _ _ (again-elsewhere _ _ (sym c.eq.ensures ∙ c.if-eq.false)) _ _ c.loop.invariant (omega arith) (sym c.in_ok-alike_value.was ∙ rw c.text_past.ensures at c.alike_value.ensures)))

pub alike_members-returns : goal.alike_members-returns
alike_members-returns t c = going_end _ _ _ _ _ _ _ c.loop.invariant (omega arith)
