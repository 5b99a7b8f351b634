-- The three rows of texts in a list: where the count of each stands, how many texts it may have, their format, and what the list has of them.
-- Assumes nothing: these are definitions.
use Rattle.std.specs.Prelude.{ℕ, List}
use Rattle.fields.specs.Text.{Text}
use Rattle.fields.specs.Format.{Format}
use Rattle.fields.specs.Fields.{text}
use Rattle.lists.specs.declared.read.Row.{Row}
use Rattle.lists.specs.declared.read.Row.TheVariants.{NoGroup, Together, Tags}
use Rattle.lists.specs.Lists.{TagList, tag}
use Rattle.lists.specs.Access.{no_group_place, together_place, tags_place}

-- where the count of a row stands
abbrev pub row_place : Row → List ℕ → ℕ
row_place NoGroup s = no_group_place s
row_place Together s = together_place s
row_place Tags s = tags_place s

-- rule 3.1: the most texts of a row
abbrev pub row_most : Row → ℕ
row_most NoGroup = 256
row_most Together = 64
row_most Tags = 256

-- what a row is made of
abbrev pub row_format : Row → Format Text
row_format NoGroup = text 136
row_format Together = text 128
row_format Tags = tag

-- the texts of a row
abbrev pub row_texts : Row → TagList → List Text
row_texts NoGroup w = w.no_group
row_texts Together w = w.together
row_texts Tags w = w.tags
