-- Records that are lent, and the reads that they tell.
use Rattle.std.proofs.Common.{◌≡◌, ◌<◌, ℕ, zero, suc, List, [], ◌∷◌, length, map, get_or, refl, ap, ◌∙◌, arith}
use Rattle.reads.specs.declared.row.Row.{Row}
use Rattle.reads.specs.Held.{no_held, size_of}
use Rattle.reads.specs.Rows.{held_in, size_in}

module _ (members : List ℕ) where
  -- one record tells one read
  pub row_at : (rows : List Row) (i : ℕ) (d : Row) → i < length rows → held_in members (get_or rows i d) ≡ get_or (map (held_in members) rows) i no_held
  row_at [] i d h = absurd (omega arith)
  row_at (r ∷ rows) zero d h = refl
  row_at (r ∷ rows) (suc i) d h = row_at rows i d (omega arith)

  -- the record in turn
  pub row_told : (rows : List Row) (i : ℕ) (row : Row) → i < length rows → row ≡ get_or rows i row → held_in members row ≡ get_or (map (held_in members) rows) i no_held
  row_told rows i row h e = ap (held_in members) e ∙ row_at rows i row h

  -- the sizes of records
  pub sizes_told : (rows : List Row) → map size_in rows ≡ map size_of (map (held_in members) rows)
  sizes_told [] = refl
  sizes_told (r ∷ rows) = ap (λ l. size_in r ∷ l) (sizes_told rows)
