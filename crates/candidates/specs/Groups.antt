-- The groups as a list: what a row of the table tells, with the positions of all groups in a row beside it.
-- Assumes nothing: these are definitions.
use Rattle.std.specs.Prelude.{ℕ, ◌+◌, ◌-◌, ◌≤◌, ◌<◌, Bool, cond, ◌&&◌, List, [], ◌∷◌, ◌++◌, take, drop, length, get_or, ltb, leb, sum_by}
use Rattle.candidates.specs.Columns.{Bunch}
use Rattle.candidates.specs.declared.table.Shape.{Shape}
use Rattle.candidates.specs.declared.table.Shape.TheVariants.{Struct, Run}
use Rattle.candidates.specs.declared.table.Group.{Group}
use Rattle.candidates.specs.declared.table.Entry.{Entry}
use Rattle.candidates.specs.declared.groups.Served.{Served}

-- no group
abbrev pub no_bunch : Bunch
no_bunch = record { tag = 0; end = 0; number = 0; weight = 0; serves = [] }

-- the group of a number
unfoldable pub bunch_at : List Bunch → ℕ → Bunch
bunch_at bs j = get_or bs j no_bunch

-- the number that a shape has in a group: 0 for a struct, one more than its cluster's for a run
abbrev pub number_of : Shape → ℕ
number_of (Struct size) = 0
number_of (Run number width) = number

-- the bytes of the struct or of an element
abbrev pub weight_of : Shape → ℕ
weight_of (Struct size) = size
weight_of (Run number width) = width

-- how many positions a group serves
abbrev pub served_count : Bunch → ℕ
served_count b = length b.serves

-- a group whose struct, or element, has 255 bytes at most
abbrev pub Narrow : Bunch → Type 0
Narrow b = b.weight < 256

-- a group with the positions that it serves
abbrev pub bunch_with : Group → List ℕ → Bunch
bunch_with g ps = record { tag = g.tag; end = g.end; number = number_of g.shape; weight = weight_of g.shape; serves = ps }

-- the group of a row
abbrev pub bunch_in : List ℕ → Entry → Bunch
bunch_in positions row = bunch_with row.group (take (row.to - row.from) (drop row.from positions))

-- a group as it is lent
abbrev pub bunch : Served → Bunch
bunch s = bunch_with s.group s.serves.now

-- groups have room behind those that are there
pub record Room (bs more : List Bunch) : Type 0 where
  pub groups : length bs + length more ≤ 8448
  pub served : sum_by served_count bs + sum_by served_count more ≤ 16640

-- whether there is room for one group more, which serves `n` positions: 8,448 groups at most, which serve 16,640 positions at most
unfoldable pub has_room_for : List Bunch → ℕ → Bool
has_room_for bs n = ltb (length bs) 8448 && leb (sum_by served_count bs + n) 16640

-- the groups with one more, if there is room for it
unfoldable pub added : List Bunch → Bunch → List Bunch
added bs b = cond (has_room_for bs (served_count b)) (bs ++ b ∷ []) bs
