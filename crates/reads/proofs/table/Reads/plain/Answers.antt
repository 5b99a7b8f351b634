use Rattle.std.proofs.Common.{length, sum_by, refl, ap, ◌∙◌, arith, length-append}
use Rattle.std.proofs.lemmas.List.Sums.{sum_by_push}
use Rattle.reads.specs.Held.{count_of}
use Rattle.reads.specs.Told.{plain_from}
use Rattle.reads.proofs.Starting.{plain_more, plain_done, first_are, all_are}
use Rattle.reads.proofs.table.Reads.plain.Goals as goal

pub loop-i-preserved : goal.loop-i-preserved
loop-i-preserved c =
    let l = c.loop-i.invariant in
    let n = ap length c.push.ensures ∙ length-append c.loop-i.reads _ in
    let s = ap (sum_by count_of) c.push.ensures ∙ sum_by_push count_of c.loop-i.reads _ in
    record {
      count = omega (arith, n);
      served = omega (arith, s);
      left = plain_more _ _ _ _ _ _ (omega arith) refl l.left c.push.ensures;
    }

pub returns-clause-first : goal.returns-clause-first
returns-clause-first c =
    plain_done _ _ _ _ (omega arith) c.loop-i.invariant.left ∙ ap (plain_from 0) (first_are _ _ _ c.min.ensures refl)

pub returns-clause-all : goal.returns-clause-all
returns-clause-all c h = returns-clause-first c ∙ ap (plain_from 0) (all_are _ h)
