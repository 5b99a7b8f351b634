-- The texts behind a count are those that the list has in that row: no-group names, together names, tags.
-- Assumes nothing.
use Prim.Native.Nat.{ℕ}
use mathlib.Core.Path.{◌≡◌, sym, ◌∙◌}
use mathlib.Core.List.{List}
use native.Mathlib.Omega.{arith}
use lib.ListN.{length}
use Rattle.fields.specs.Fields.{number}
use Rattle.fields.specs.Places.{place_at, texts_from}
use Rattle.fields.proofs.Rows.{texts-are}
use Rattle.lists.specs.Lists.{list_of}
use Rattle.lists.specs.Rows.{row_place, row_most, row_format, row_texts}
use Rattle.lists.specs.declared.read.Row.{Row}
use Rattle.lists.proofs.Places.{lawful-row, row-limit, row-reads, row-ends, row-are, row-count}
use Rattle.lists.proofs.Access.{row_is}

pub row-left : (row : Row) (s : List ℕ) (at n : ℕ) → at ≡ place_at (number 2 (row_most row)) s (row_place row s) → n ≡ length (row_texts row (list_of s))
    → texts_from n s at ≡ row_texts row (list_of s)
row-left row s at n e g =
    rw (g ∙ row-count row s, e)
    (texts-are (row_format row) (lawful-row row) s (row-reads row s) (row-ends row s) _ _
    ∙ sym (row-are row s ∙ row_is (row_format row) (lawful-row row) s (row-reads row s) (row_most row) (let h = row-limit row in omega (arith, h)) (row_place row s) 0))

pub ruleset rows = (row-left)
