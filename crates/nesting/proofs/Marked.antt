-- The marks of the types that read whole, put down in a lent row of bytes: all of them, or nothing is written.
-- Assumes nothing.
use Rattle.std.proofs.Common.{ℕ, ◌+◌, ◌-◌, ◌<◌, ◌≤◌, ◌≡◌, refl, sym, ap, subst, ◌∙◌, Bool, true, false, List, ◌∷◌, length, arith}
use Rattle.std.specs.Prelude.{None, Some}
use lib.ListN.{set}
use borrow.Author.Tests.{le-leb, lt-leb}
use Rattle.fields.proofs.Filling.{Filling, filling-start, filling-room, filling-set, filling-end}
use Rattle.nesting.specs.declared.graph.Graph.{Graph}
use Rattle.nesting.specs.Graph.{is_set, whole_at, first_over, WholeTypes, walkable, mark, marks_from, whole_marks, Marking}
use Rattle.nesting.proofs.Ranges.{length-marks, marks-start, marks-more, marks-end}

-- the marks of the types before `k` are put down, and the others stay
pub record Putting (g : Graph) (old out : List ℕ) (k : ℕ) : Type 0 where
  pub fill : Filling (whole_marks g) old out k (marks_from (whole_at 16 g) (g.count - k) k)

module _ (g : Graph) (old : List ℕ) where
  pub row-short : length old < g.count → Marking g old old false
  unfolding walkable
  row-short h = record { is = rw (lt-leb g.count (length old) h) refl; bytes = refl }

  pub row-over : g.count ≤ length old → WholeTypes g None → Marking g old old false
  unfolding walkable
  row-over h w = record { is = rw (le-leb g.count (length old) h, lt-leb g.count (first_over g) w) refl; bytes = refl }

  pub putting-start : g.count ≤ length old → Putting g old old 0
  unfolding whole_marks
  putting-start h =
      let l = length-marks (whole_at 16 g) g.count 0 in
      record { fill = rw (← marks-start (whole_at 16 g) g.count) (filling-start (marks_from (whole_at 16 g) g.count 0) old (omega arith)) }

  module _ (out : List ℕ) (k : ℕ) (P : Putting g old out k) where
    pub putting-room : k < g.count → k < length out
    putting-room h =
        let l = length-marks (whole_at 16 g) (g.count - k) k in
        let r = filling-room (whole_marks g) old out k (marks_from (whole_at 16 g) (g.count - k) k) P.fill in
        omega arith

    pub putting-step : (whole : List Bool) (v : ℕ) → k < g.count → WholeTypes g (Some whole) → v ≡ mark (is_set whole k) → Putting g old (set out k v) (k + 1)
    putting-step whole v h w e =
        let p : ℕ → Bool = whole_at 16 g in
        let q : v ≡ mark (p k) = e ∙ ap mark (w.1 k h) in
        let rest : List ℕ = marks_from p (g.count - (k + 1)) (k + 1) in
        let m : marks_from p (g.count - k) k ≡ v ∷ rest = marks-more p g.count k h ∙ ap (λ x. x ∷ rest) (sym q) in
        record { fill = filling-set (whole_marks g) old out k v rest (subst (Filling (whole_marks g) old out k) m P.fill) }

    pub putting-end : (whole : List Bool) → g.count ≤ length old → WholeTypes g (Some whole) → g.count ≤ k → Marking g old out true
    unfolding walkable
    putting-end whole a w h = record {
      is = rw (le-leb g.count (length old) a, le-leb g.count (first_over g) w.0) refl;
      bytes = filling-end (whole_marks g) old out k (subst (Filling (whole_marks g) old out k) (marks-end (whole_at 16 g) g.count k h) P.fill);
    }

pub ruleset marking = (row-short, row-over, putting-start, putting-room, putting-step, putting-end)
