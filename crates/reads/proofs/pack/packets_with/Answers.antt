use Rattle.std.proofs.Common.{◌<◌, ◌≤◌, map, length, sym, ap, ◌∙◌, arith}
use Rattle.std.proofs.lemmas.List.{length-map}
use Rattle.reads.specs.Rows.{held_in}
use Rattle.reads.proofs.Lent.{row_told}
use Rattle.reads.proofs.Filling.{fill_start, fill_other, fill_first, fill_later, fill_end}
use Rattle.reads.proofs.pack.packets_with.Goals as goal
use Rattle.reads.proofs.pack.packets_with.Goals.{then-not-is_covered, else-not-is_covered+then-not-placed, else-not-is_covered+else-not-placed}

pub loop-row-init : goal.loop-row-init
loop-row-init c = fill_start _ _ _ _ _ 0 _ c.start-filling.result _ c.start-filling.ensures

pub loop-row-preserved : goal.loop-row-preserved
loop-row-preserved c =
    let n = length-map c.args.rows.now (held_in c.args.members.now) in
    let h : c.loop-row.row-index < length (map (held_in c.args.members.now) c.args.rows.now) = omega arith in
    let q = row_told c.args.members.now c.args.rows.now _ _ c.loop-row-test.true c.row-item.is in
    let t = c.loop-row.invariant in
    elim c.if-not-is_covered.branch [
      | then-not-is_covered w ↦
          rw (w.filling-is, w.placed-is) (fill_other _ _ _ _ _ _ _ _ _ _ _ h q (sym c.is_covered.ensures ∙ w.if-not-is_covered.true) t w.step-filling.ensures)
      | else-not-is_covered+then-not-placed w ↦
          let e = w.if-not-placed.true in
          rw (w.filling-is, w.placed-is) (fill_first _ _ _ _ _ _ _ _ _ _ h q (sym c.is_covered.ensures ∙ w.if-not-is_covered.false) (rw e at t) w.step-filling-then-not-placed.ensures)
      | else-not-is_covered+else-not-placed w ↦
          let e = w.if-not-placed.false in
          rw (w.filling-is, w.placed-is, e) (fill_later _ _ _ _ _ _ _ _ _ h q (sym c.is_covered.ensures ∙ w.if-not-is_covered.false) (rw e at t))
    ]

pub returns : goal.returns
returns c =
    let n = length-map c.args.rows.now (held_in c.args.members.now) in
    let h : length (map (held_in c.args.members.now) c.args.rows.now) ≤ c.loop-row.row-index = omega arith in
    ap (λ f. f.packets) (fill_end _ _ _ _ _ _ _ _ _ h c.loop-row.invariant)
