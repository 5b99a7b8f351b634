use Rattle.std.proofs.Common.{sym, ap, ◌∙◌, arith, Ok, Some}
use Rattle.std.proofs.lemmas.Result.{err_from_is_err_and}
use Rattle.values.specs.Dig.{dig_verdict, cut_of}
use Rattle.values.specs.Told.{bytes_alone}
use Rattle.values.proofs.Handed.{handed, bytes-alone, part-lent, none-lent, refused-lent}
use Rattle.values.proofs.cut.dig.Goals as goal

pub returns-in_err-part-clause-part : goal.returns-in_err-part-clause-part
returns-in_err-part-clause-part c =
    let p = err_from_is_err_and c.from_residual.result c.from_residual.ensures.1 in
    rw (p.1, p.2) (refused-lent c.args.value.now _ _ (sym c.in_err-part.was ∙ c.dig_place.ensures))

pub returns-in_err-part-clause-cut : goal.returns-in_err-part-clause-cut
returns-in_err-part-clause-cut c = returns-in_err-part-clause-part c ∙ handed c.args.value.now c.args.path.now (λ k. omega (arith, c.type_inv.value k))

pub returns-in-Some-clause-part : goal.returns-in-Some-clause-part
returns-in-Some-clause-part c =
    ap (λ t. Ok (Some t)) c.of.ensures
    ∙ part-lent c.args.value.now _ _ (ap Ok (sym c.in-Some.is) ∙ sym c.in_ok-part.was ∙ c.dig_place.ensures)

pub returns-in-Some-clause-cut : goal.returns-in-Some-clause-cut
returns-in-Some-clause-cut c = returns-in-Some-clause-part c ∙ handed c.args.value.now c.args.path.now (λ k. omega (arith, c.type_inv.value k))

pub returns-in-None-clause-part : goal.returns-in-None-clause-part
returns-in-None-clause-part c = none-lent c.args.value.now _ (ap Ok (sym c.in-None.is) ∙ sym c.in_ok-part.was ∙ c.dig_place.ensures)

pub returns-in-None-clause-cut : goal.returns-in-None-clause-cut
returns-in-None-clause-cut c = returns-in-None-clause-part c ∙ handed c.args.value.now c.args.path.now (λ k. omega (arith, c.type_inv.value k))

pub returns-in_err-part-clause-bytes : goal.returns-in_err-part-clause-bytes
returns-in_err-part-clause-bytes c = ap bytes_alone (returns-in_err-part-clause-cut c) ∙ bytes-alone (dig_verdict c.args.value.now c.args.path.now) (cut_of c.args.value.now c.args.path.now)

pub returns-in-Some-clause-bytes : goal.returns-in-Some-clause-bytes
returns-in-Some-clause-bytes c = ap bytes_alone (returns-in-Some-clause-cut c) ∙ bytes-alone (dig_verdict c.args.value.now c.args.path.now) (cut_of c.args.value.now c.args.path.now)

pub returns-in-None-clause-bytes : goal.returns-in-None-clause-bytes
returns-in-None-clause-bytes c = ap bytes_alone (returns-in-None-clause-cut c) ∙ bytes-alone (dig_verdict c.args.value.now c.args.path.now) (cut_of c.args.value.now c.args.path.now)
