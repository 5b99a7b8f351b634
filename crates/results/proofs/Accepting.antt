-- The two files of the sorted answer: the refusals of the plan, of the results, and of counts that differ; and what is answered then.
-- Assumes nothing.
use Prim.Native.Nat.{ℕ, zero, suc, ◌≤◌, min}
use mathlib.Core.Path.{◌≡◌, refl, sym, ap, ap₂, ◌∙◌}
use mathlib.Core.List.{List}
use lib.ListN.{length, drop}
use native.Mathlib.Omega.{arith}
use borrow.Author.Tests.{eq-eqb, ne_eqb}
use Rattle.fields.specs.Format.{Verdict, fine, bad, first, joined, onward, leading, given, many_read, many}
use Rattle.fields.specs.Fields.{number, counted}
use Rattle.fields.specs.Files.{opening_check, fields_check, file_check, file_of}
use Rattle.fields.specs.Places.{value_at, place_at, told}
use Rattle.fields.specs.Writing.{writing, buffer}
use Rattle.fields.specs.declared.Refusal.{Refusal}
use Rattle.fields.specs.declared.Refusal.TheVariants.{CountsDiffer}
use Rattle.std.specs.Prelude.{Err, Ok, Result}
use Rattle.fields.proofs.Chains.{told-bad, told-good}
use Rattle.fields.proofs.Lawful.{first_fine}
use Rattle.fields.proofs.WholeFiles.{opening-fine}
use Rattle.plans.specs.Plans.{plan as plan_fields, reads_of, plan_verdict}
use Rattle.results.specs.Results.{result_field, results, results_of, fields_verdict, results_alike, results_verdict}
use Rattle.fields.specs.Files.{counts_verdict}
use Rattle.results.specs.Sorting.{sort_verdict}
use Rattle.results.specs.Told.{pair_count}
use Rattle.fields.proofs.Verdicts.{told-fine}

-- ---- there are as many results as the count says
row-length : (n : ℕ) (l : List ℕ) (i : ℕ) → length (many_read result_field n l i).value ≡ n
unfolding many_read onward joined given
row-length zero l i = refl
row-length (suc n) l i = ap suc (row-length n (result_field.read l i).rest (result_field.read l i).place)

results-length : (s : List ℕ) → length (results_of s) ≡ value_at (number 2 65535) s 1
unfolding results_of file_of counted leading onward joined many value_at
results-length s = let a = (number 2 65535).read (drop 1 s) 1 in row-length a.value a.rest a.place

-- ---- the refusals in their order
module _ (plan s : List ℕ) where
  abbrev counts : Verdict
  counts = counts_verdict (length (reads_of plan)) (length (results_of s))

  pub plan-refused : (r : Refusal) → told (plan_verdict plan) (length plan) ≡ Err r → Err r ≡ told (sort_verdict plan s) (length plan)
  unfolding sort_verdict
  plan-refused r e = sym (told-bad (plan_verdict plan) (first (results_verdict s) counts) (length plan) (length plan) r e)

  module _ (p : ℕ) (e : told (plan_verdict plan) (length plan) ≡ Ok p) where
    behind-plan : told (sort_verdict plan s) (length plan) ≡ told (first (results_verdict s) counts) (length plan)
    unfolding sort_verdict
    behind-plan = (told-good (plan_verdict plan) (first (results_verdict s) counts) (length plan) (length plan) p e).0

    pub results-refused : (r : Refusal) → told (results_verdict s) (length s) ≡ Err r → Err r ≡ told (sort_verdict plan s) (length plan)
    results-refused r f = sym (behind-plan ∙ told-bad (results_verdict s) counts (length s) (length plan) r f)

    -- `n` reads and `m` results
    module _ (q : ℕ) (f : told (results_verdict s) (length s) ≡ Ok q) (n m : ℕ) (a : n ≡ length (reads_of plan)) (b : m ≡ value_at (number 2 65535) s 1) where
      behind-results : told (sort_verdict plan s) (length plan) ≡ told (counts_verdict n m) (length plan)
      behind-results =
          behind-plan ∙ (told-good (results_verdict s) counts (length s) (length plan) q f).0
          ∙ ap₂ (λ x y. told (counts_verdict x y) (length plan)) (sym a) (results-length s ∙ sym b)

      pub counts_same : n ≡ m → Ok (length plan) ≡ told (sort_verdict plan s) (length plan)
      unfolding counts_verdict told
      counts_same z = let w : told (counts_verdict n m) (length plan) ≡ Ok (length plan) = rw (eq-eqb n m z) in sym (behind-results ∙ w)

      pub counts-differ : (n ≡ m → ⊥) → n ≡ value_at (number 2 256) plan 1 → (k : ℕ) → k ≡ pair_count plan s → Err (CountsDiffer k) ≡ told (sort_verdict plan s) (length plan)
      unfolding counts_verdict told pair_count
      counts-differ z c k g =
          let w : told (counts_verdict n m) (length plan) ≡ Err (CountsDiffer (min n m)) = rw (ne_eqb n m z) in
          let x : k ≡ min n m = g ∙ ap₂ min (sym c) (sym b) in
          ap (λ j. Err (CountsDiffer j)) x ∙ sym (behind-results ∙ w)

-- ---- files that are accepted are not over their limits
module _ (plan s : List ℕ) (p : ℕ) (e : told (sort_verdict plan s) (length plan) ≡ Ok p) where
  accepted : sort_verdict plan s ≡ fine
  accepted = told-fine (sort_verdict plan s) (length plan) p e

  pub not-over : (length plan ≤ 65536) × (length s ≤ 65536)
  unfolding sort_verdict plan_verdict results_verdict fields_verdict file_check
  not-over =
      let a = first_fine (plan_verdict plan) (first (results_verdict s) (counts_verdict (length (reads_of plan)) (length (results_of s)))) accepted in
      let b = first_fine (results_verdict s) (counts_verdict (length (reads_of plan)) (length (results_of s))) a.1 in
      let c = first_fine (fields_verdict s) (results_alike (value_at (number 2 65535) s 1) s (place_at (number 2 65535) s 1)) b.0 in
      let x = first_fine (opening_check 65536 plan) (fields_check (plan_fields.read (drop 1 plan) 1)) a.0 in
      let y = first_fine (opening_check 65536 s) (fields_check (results.read (drop 1 s) 1)) c.0 in
      ((opening-fine 65536 plan x.0).0, (opening-fine 65536 s y.0).0)

  pub accepted-written : (r : Result ℕ Refusal) (file old : List ℕ) → r ≡ writing fine file old → r ≡ writing (sort_verdict plan s) file old
  accepted-written r file old d = rw accepted d

-- ---- files that are refused leave the buffer as it was
pub unwritten : (v : Verdict) (p : ℕ) (r : Refusal) (file old : List ℕ) → told v p ≡ Err r → (Err r ≡ writing v file old) × (old ≡ buffer (Err r) file old)
unfolding told writing buffer
unwritten fine p r file old e = let z : ◌≡◌ {A = ℕ} 0 1 = cc in absurd (omega arith)
unwritten (bad x) p r file old e = let z : x ≡ r = cc in (ap Err (sym z), refl)
