use Rattle.std.proofs.Common.{◌<◌, ◌≤◌, ◌+◌, ◌++◌, map, length, take, sym, ap, ◌∙◌, refl, arith}
use Rattle.std.proofs.lemmas.List.{length-map}
use Rattle.reads.specs.Rows.{held_in}
use Rattle.reads.proofs.Lent.{row_told}
use Rattle.reads.proofs.Uniting.{unite_more, unite_skip, unite_end, unite_fits, put_behind, put_length}
use Rattle.reads.proofs.cover.unite.Goals as goal
use Rattle.reads.proofs.cover.unite.Goals.{then-is_covered+else-prove, else-is_covered}

pub prove-unreachable-requires : goal.prove-unreachable-requires
prove-unreachable-requires c =
    let n = length-map c.args.rows.now (held_in c.args.members.now) in
    let h : c.loop-row.row-index < length (map (held_in c.args.members.now) c.args.rows.now) = omega arith in
    let l : c.loop-row.n ≤ length c.loop-row.out = omega arith in
    let q = row_told c.args.members.now c.args.rows.now _ _ c.loop-row-test.true c.row-item.is in
    let k = unite_fits _ _ _ _ _ _ l h q (sym c.is_covered.ensures ∙ c.if-is_covered.true) c.loop-row.invariant.left in
    omega (arith, k, c.requires.few, ap length c.serves-serves.ensures)

pub loop-row-preserved : goal.loop-row-preserved
loop-row-preserved c =
    let n = length-map c.args.rows.now (held_in c.args.members.now) in
    let h : c.loop-row.row-index < length (map (held_in c.args.members.now) c.args.rows.now) = omega arith in
    let l : c.loop-row.n ≤ length c.loop-row.out = omega arith in
    let q = row_told c.args.members.now c.args.rows.now _ _ c.loop-row-test.true c.row-item.is in
    elim c.if-is_covered.branch [
      | then-is_covered+else-prove w ↦
          let m : c.loop-row.n + length w.serves-serves.result.now ≤ length c.loop-row.out = omega arith in
          rw (w.n-is, w.out-is) (record {
            wide = put_length c.loop-row.out _ _ _ _ m refl w.copy_from_slice.ensures.after ∙ c.loop-row.invariant.wide;
            within = omega arith;
            left = unite_more _ _ _ _ _ c.loop-row.invariant.left _ _ h q (sym c.is_covered.ensures ∙ w.if-is_covered.true) (put_behind c.loop-row.out _ _ _ _ l w.copy_from_slice.ensures.after ∙ ap (λ ps. take c.loop-row.n c.loop-row.out ++ ps) w.serves-serves.ensures);
          })
      | else-is_covered w ↦ rw (w.n-is, w.out-is) (record {
        wide = omega arith;
        within = omega arith;
        left = unite_skip _ _ _ _ _ c.loop-row.invariant.left _ h q (sym c.is_covered.ensures ∙ w.if-is_covered.false);
      })
    ]

pub returns-clause-positions : goal.returns-clause-positions
returns-clause-positions c =
    let n = length-map c.args.rows.now (held_in c.args.members.now) in
    let h : length (map (held_in c.args.members.now) c.args.rows.now) ≤ c.loop-row.row-index = omega arith in
    unite_end _ _ _ _ _ c.loop-row.invariant.left h
