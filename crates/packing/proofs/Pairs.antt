-- A loop over two size tables side by side, and one over sizes: the sizes that are left, one read more, and the end.
-- Assumes nothing.
use Prim.Native.Nat.{ℕ, ◌+◌, ◌≤◌, ◌<◌}
use lib.ListN.{length, drop, get_or, drop_of_length-le}
use mathlib.Core.Logic.{◌⊎◌, inl, inr}
use mathlib.Core.Path.{◌≡◌, refl, ap, ap₂, ◌∙◌}
use mathlib.Core.List.{List, [], ◌∷◌}
use denote.Ref.{Bor}
use Rattle.std.specs.Prelude.{None, Option, Some}
use Rattle.std.proofs.Common.{Iter, add-one}
use Rattle.std.proofs.Math.Seq.{drop-cons}
use Rattle.std.specs.declared.iter.Zip.{Zip}
use Rattle.std.proofs.iter.Yields.{fronts}
use Rattle.std.proofs.lemmas.Iterator.{zips}
use Rattle.std.proofs.lemmas.Slice.Zip.{Zip-more, either_empty_from_Zip}
use Rattle.std.specs.Iterator.Adapters.{zip_first, zip_second}
use Rattle.std.specs.Slice.Iter.{iter_rest}
use Rattle.fields.specs.declared.Size.{Size}
use Rattle.packing.specs.Tables.{sizes_of}
use Rattle.packing.specs.Facts.{size_at}
use Rattle.packing.proofs.Sizing.{size-one}

-- the sizes that a `zip` of two tables has left
abbrev pub left : Zip (Iter ℕ) (Iter ℕ) → List Size
left s = sizes_of (iter_rest (zip_first s)) (iter_rest (zip_second s))

-- the size of a read that it yields
abbrev pub size_of : Bor ℕ × Bor ℕ → Size
size_of p = record { request = p.0.now; reply = p.1.now }

module _ (s t : Zip (Iter ℕ) (Iter ℕ)) (r : Option (Bor ℕ × Bor ℕ)) where
  pub left-more : (p : Bor ℕ × Bor ℕ) → r ≡ Some p → zips fronts fronts s r t → left s ≡ size_of p ∷ left t
  unfolding sizes_of
  left-more p e y = let w = Zip-more s t r p e y in ap₂ sizes_of w.0 w.1

  pub left-none : r ≡ None → zips fronts fronts s r t → left s ≡ []
  unfolding sizes_of
  left-none e y = go (iter_rest (zip_first s)) (iter_rest (zip_second s)) (either_empty_from_Zip s t r e y)
    where
      go : (ts us : List ℕ) → (ts ≡ []) ⊎ (us ≡ []) → sizes_of ts us ≡ []
      go ts us (inl e) = rw e refl
      go [] us (inr e) = refl
      go (n ∷ ts) us (inr e) = rw e refl

-- ---- a table of sizes, by their positions
module _ (zs : List Size) (i : ℕ) where
  pub sizes_next : i < length zs → drop i zs ≡ size_at zs i ∷ drop (i + 1) zs
  sizes_next h =
      let d : Size = record { request = 0; reply = 0 } in
      let e : drop i zs ≡ get_or zs i d ∷ drop (i + 1) zs = rw add-one (drop-cons zs i d h) in
      e ∙ ap (λ z. z ∷ drop (i + 1) zs) (size-one zs i d h)

  pub sizes_end : length zs ≤ i → drop i zs ≡ []
  sizes_end h = drop_of_length-le zs h
