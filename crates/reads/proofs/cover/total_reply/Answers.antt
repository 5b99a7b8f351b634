use Rattle.std.proofs.Common.{◌<◌, ◌≤◌, length, map, sum_by, sym, ap, ◌∙◌, arith}
use Rattle.std.proofs.lemmas.List.{length-map}
use Rattle.reads.specs.Held.{limited_reply, is_covered}
use Rattle.reads.specs.Rows.{held_in}
use Rattle.reads.proofs.Lent.{row_told}
use Rattle.reads.proofs.Steps.{kept_not, kept_end, sum_yes}
use Rattle.reads.proofs.cover.total_reply.Goals as goal
use Rattle.reads.proofs.cover.total_reply.Goals.{then-is_covered, else-is_covered}

pub loop-row-preserved : goal.loop-row-preserved
loop-row-preserved c =
    let n = length-map c.args.rows.now (held_in c.args.members.now) in
    let h : c.loop-row.row-index < length (map (held_in c.args.members.now) c.args.rows.now) = omega arith in
    let q = row_told c.args.members.now c.args.rows.now _ _ c.loop-row-test.true c.row-item.is in
    elim c.if-is_covered.branch [
      | then-is_covered w ↦
          let e = ap (is_covered c.args.marks.now) (sym q) ∙ sym c.is_covered.ensures ∙ w.if-is_covered.true in
          let s = sum_yes (is_covered c.args.marks.now) _ _ limited_reply h e in
          rw w.sum-is (record {
            small = omega (arith, w.limited_reply-sum.ensures.small);
            replied = omega (arith, c.loop-row.invariant.replied, s, ap limited_reply q, w.limited_reply-sum.ensures.reply);
          })
      | else-is_covered w ↦
          let k = kept_not (is_covered c.args.marks.now) _ _ h (ap (is_covered c.args.marks.now) (sym q) ∙ sym c.is_covered.ensures ∙ w.if-is_covered.false) in
          rw w.sum-is (record {
            small = omega arith;
            replied = omega (arith, c.loop-row.invariant.replied, ap (sum_by limited_reply) k);
          })
    ]

pub returns-clause-reply : goal.returns-clause-reply
returns-clause-reply c =
    let n = length-map c.args.rows.now (held_in c.args.members.now) in
    let h : length (map (held_in c.args.members.now) c.args.rows.now) ≤ c.loop-row.row-index = omega arith in
    omega (arith, c.loop-row.invariant.replied, ap (sum_by limited_reply) (kept_end (is_covered c.args.marks.now) _ _ h))
