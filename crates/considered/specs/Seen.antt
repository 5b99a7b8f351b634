-- What the tables hold: a row for each tag that is looked at, and one for each struct above it, as the planner's own tags and rows.
-- Assumes nothing: these are definitions.
use Rattle.std.specs.Prelude.{ℕ, Bool, false, List, Option, None, length, get_or}
use Rattle.std.specs.Option.{option_map}
use Rattle.fields.specs.Text.{Text}
use Rattle.fields.specs.declared.Size.{Size}
use Rattle.catalog.specs.Catalog.{catalog_of}
use Rattle.considered.specs.Answers.{text_at}
use Rattle.sizes.specs.Sizes.{read_size}
use Rattle.planner.specs.Lists.{given}
use Rattle.planner.specs.Tags.{Element, Tag}
use Rattle.planner.specs.Rows.{Row}
use Rattle.considered.specs.declared.tags.Element.{Element as ElementRow}
use Rattle.considered.specs.declared.tags.Tag.{Tag as TagRow}
use Rattle.considered.specs.declared.tags.Row.{Row as AboveRow}

-- an element of an array, of which the name is told by its bytes
abbrev pub element_seen : Element → ElementRow
element_seen e = record { width = e.width; index = e.index; array = length e.array }

-- what is seen of a tag: whether it is the first that is so called, the element that it is, and the size of a plain read of it
pub record Seen : Type 0 where
  pub first : Bool
  pub element : Option ElementRow
  pub size : Size

-- what is to be seen of a tag of a catalog file
abbrev pub seen_of : List ℕ → Tag → Seen
seen_of catalog t = record { first = t.first; element = option_map element_seen t.element; size = read_size (catalog_of catalog) t.text }

-- what a row tells of its tag
abbrev pub seen_in : TagRow → Seen
seen_in t = record { first = t.is_first; element = t.element; size = t.size }

-- where the tag of a row stands
abbrev pub place_in : TagRow → ℕ
place_in t = t.place

-- the planner's row that a row of the table is
abbrev pub row_in : AboveRow → Row
row_in r = record { tag = r.tag; end = r.end; size = r.size }

-- the text of the tag of a row, in the list file
abbrev pub text_in : List ℕ → TagRow → Text
text_in list t = text_at list t.place

-- no tag: its place is past every list, of any length
abbrev pub no_tag : TagRow
no_tag = record { place = 18446744073709551615; is_first = false; element = None; size = record { request = 0; reply = 0 } }

-- the tag at a position
abbrev pub tag_in : List TagRow → ℕ → TagRow
tag_in tags p = get_or tags p no_tag

-- the index of the tag at a position, 0 where it is no element
unfoldable pub index_in : List TagRow → ℕ → ℕ
index_in tags p = given (tag_in tags p).element 0 (λ e. e.index)
