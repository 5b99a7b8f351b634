-- Texts in a row, as the iterator of that name gives them.
-- Assumes nothing: these are definitions.
use Rattle.std.specs.Prelude.{ℕ, List}
use Rattle.fields.specs.Places.{texts_from}
use Rattle.fields.specs.declared.row.Texts.{Texts}

-- the texts that are left
abbrev pub texts_left : Texts → List (List ℕ)
texts_left row = texts_from row.left row.file.now row.at
