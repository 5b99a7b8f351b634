use Rattle.std.proofs.Common.{◌<◌, length, sym, ap, ◌∙◌, arith}
use Rattle.reads.proofs.Placing.{put_other, put_first, put_later, put_end, goes_on, room_counts, own_count}
use Rattle.reads.specs.Held.{is_covered}
use Rattle.reads.proofs.merge.put_merged.Goals as goal
use Rattle.reads.proofs.merge.put_merged.Goals.{then-not-covered, else-not-covered+then-not-placed, else-not-covered+else-not-placed}

pub push_grown-requires-clause-more : goal.push_grown-requires-clause-more
push_grown-requires-clause-more c =
    let h : c.loop-i.i < length c.args.old.now = omega arith in
    let k = own_count (is_covered c.args.marks.now) c.args.old.now c.loop-i.i h (ap (is_covered c.args.marks.now) (sym c.read-read.ensures) ∙ sym c.is_covered-covered.ensures ∙ c.if-not-covered.false) in
    omega (arith, ap length c.requires.united, ap (λ r. length r.serves) c.read-read.ensures)

pub push_grown-requires-clause-room : goal.push_grown-requires-clause-room
push_grown-requires-clause-room c =
    let h : c.loop-i.i < length c.args.old.now = omega arith in
    let e = c.if-not-placed.true in
    let t = c.loop-i.invariant in
    let g = goes_on _ _ _ _ _ h (rw e at t) (ap (is_covered c.args.marks.now) (sym c.read-read.ensures) ∙ sym c.is_covered-covered.ensures ∙ c.if-not-covered.false) in
    let k = room_counts _ _ _ _ _ _ g (ap length c.requires.united) in
    omega (arith, c.len-i-end.ensures.served)

pub loop-i-preserved : goal.loop-i-preserved
loop-i-preserved c =
    let h : c.loop-i.i < length c.args.old.now = omega arith in
    let t = c.loop-i.invariant in
    elim c.if-not-covered.branch [
      | then-not-covered w ↦
          rw (w.out-is, w.placed-is) (put_other _ _ _ _ _ h _ _ _ t c.read-read.ensures (sym c.is_covered-covered.ensures ∙ w.if-not-covered.true) w.push.ensures)
      | else-not-covered+then-not-placed w ↦
          let e = w.if-not-placed.true in
          rw (w.out-is, w.placed-is) (put_first _ _ _ _ _ h _ _ (rw e at t) c.read-read.ensures (sym c.is_covered-covered.ensures ∙ w.if-not-covered.false) w.push_grown.ensures)
      | else-not-covered+else-not-placed w ↦
          let e = w.if-not-placed.false in
          rw (w.out-is, w.placed-is, e) (put_later _ _ _ _ _ h _ (rw e at t) c.read-read.ensures (sym c.is_covered-covered.ensures ∙ w.if-not-covered.false))
    ]

pub returns : goal.returns
returns c = put_end _ _ _ _ _ _ (omega arith) c.loop-i.invariant
