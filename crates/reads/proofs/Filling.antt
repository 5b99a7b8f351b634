-- Packets filled by the reads with one in the place of those that pass, step by step.
use Rattle.std.proofs.Common.{◌≡◌, ◌+◌, ◌<◌, ◌≤◌, ℕ, Bool, true, false, List, ◌∷◌, length, map, drop, get_or, sym, ap, ap₂, ◌∙◌, add-one}
use Rattle.packing.specs.declared.Cost.{Cost}
use Rattle.packing.specs.declared.Fill.{Fill}
use Rattle.packing.specs.Told.{step_of, steps_of}
use Rattle.std.proofs.Math.Seq.{drop-cons}
use lib.ListN.{drop_of_length-le}
use Rattle.reads.specs.declared.row.Row.{Row}
use Rattle.reads.specs.Rows.{size_in}
use Rattle.planner.specs.Merging.{in_place}
use Rattle.reads.specs.Held.{Held, no_held, size_of}
use Rattle.reads.proofs.Placing.{left_of, place_start, place_other, place_first, place_later, place_end}
use Rattle.fields.specs.declared.Size.{Size}

module _ (c : Cost) (b : ℕ) (p : Held → Bool) (new : Held) (rs : List Held) (i : ℕ) (f whole : Fill) where
  pub fill_start : (z : Fill) → f ≡ z → steps_of c b z (map size_of (in_place p new rs)) ≡ steps_of c b f (map size_of (left_of p new false rs))
  fill_start z e = ap₂ (λ x l. steps_of c b x (map size_of l)) (sym e) (sym (place_start p new rs))

  pub fill_other : (placed : Bool) (r : Held) (f' : Fill) → i < length rs → r ≡ get_or rs i no_held → p r ≡ false
      → whole ≡ steps_of c b f (map size_of (left_of p new placed (drop i rs))) → f' ≡ step_of c b f r.size → whole ≡ steps_of c b f' (map size_of (left_of p new placed (drop (i + 1) rs)))
  unfolding steps_of
  fill_other placed r f' h q e t s =
      let rest : List Size = map size_of (left_of p new placed (drop (i + 1) rs)) in
      t ∙ ap (λ l. steps_of c b f (map size_of l)) (place_other p new rs i placed h (ap p (sym q) ∙ e))
      ∙ ap (λ (x : Held). steps_of c b (step_of c b f x.size) rest) (sym q) ∙ ap (λ x. steps_of c b x rest) (sym s)

  pub fill_first : (r : Held) (f' : Fill) → i < length rs → r ≡ get_or rs i no_held → p r ≡ true
      → whole ≡ steps_of c b f (map size_of (left_of p new false (drop i rs))) → f' ≡ step_of c b f new.size → whole ≡ steps_of c b f' (map size_of (left_of p new true (drop (i + 1) rs)))
  unfolding steps_of
  fill_first r f' h q e t s =
      t ∙ ap (λ l. steps_of c b f (map size_of l)) (place_first p new rs i h (ap p (sym q) ∙ e))
      ∙ ap (λ x. steps_of c b x (map size_of (left_of p new true (drop (i + 1) rs)))) (sym s)

  pub fill_later : (r : Held) → i < length rs → r ≡ get_or rs i no_held → p r ≡ true
      → whole ≡ steps_of c b f (map size_of (left_of p new true (drop i rs))) → whole ≡ steps_of c b f (map size_of (left_of p new true (drop (i + 1) rs)))
  fill_later r h q e t = t ∙ ap (λ l. steps_of c b f (map size_of l)) (place_later p new rs i h (ap p (sym q) ∙ e))

  pub fill_end : (placed : Bool) → length rs ≤ i → whole ≡ steps_of c b f (map size_of (left_of p new placed (drop i rs))) → f ≡ whole
  unfolding steps_of
  fill_end placed h t = sym (t ∙ ap (λ l. steps_of c b f (map size_of l)) (place_end p new rs i placed h))

-- ---- packets filled by records
left_row : (rows : List Row) (i : ℕ) (d : Row) → i < length rows → drop i rows ≡ get_or rows i d ∷ drop (i + 1) rows
left_row rows i d h = rw add-one (drop-cons rows i d h)

module _ (c : Cost) (b : ℕ) (rows : List Row) (i : ℕ) (f : Fill) where
  pub all_next : (d : Row) → i < length rows → steps_of c b f (map size_in (drop i rows)) ≡ steps_of c b (step_of c b f (size_in (get_or rows i d))) (map size_in (drop (i + 1) rows))
  unfolding steps_of
  all_next d h = ap (λ l. steps_of c b f (map size_in l)) (left_row rows i d h)

  pub all_end : length rows ≤ i → steps_of c b f (map size_in (drop i rows)) ≡ f
  unfolding steps_of
  all_end h = ap (λ l. steps_of c b f (map size_in l)) (drop_of_length-le rows h)
