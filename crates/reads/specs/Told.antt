-- What the planner calls the reads of a table, for a planning `g` whose groups have numbers; and what the functions over the table answer.
-- Assumes nothing: these are definitions.
use Rattle.std.specs.Prelude.{ℕ, ◌≡◌, ◌+◌, min, max, Bool, List, [], ◌∷◌, map, get_or, None, Option, Some}
use Rattle.fields.specs.Text.{Text}
use Rattle.fields.specs.declared.Size.{Size}
use Rattle.planner.specs.Lists.{keep, least, greatest}
use Rattle.planner.specs.Candidates.{Group}
use Rattle.planner.specs.Merging.{Pending, Given, tag_at, name_of, size_of, is_covered as covers, merged_of}
use Rattle.reads.specs.declared.extent.Extent.{Extent}
use Rattle.reads.specs.declared.row.GroupRead.{GroupRead}
use Rattle.reads.specs.Held.{Held, is_covered, served, IsMarked}

-- the group of a number
abbrev pub group_in : (ℕ → Group) → Option ℕ → Option Group
group_in ks None = None
group_in ks (Some j) = Some (ks j)

-- a plain read has the name of its tag
abbrev pub name_in : Given → Option Group → List ℕ → Text
name_in g None ps = (tag_at g (get_or ps 0 0)).text
name_in g (Some k) ps = name_of g k.shape ps

-- the planner's read under way
abbrev pub pending_of : Given → (ℕ → Group) → Held → Pending
pending_of g ks r = record { group = group_in ks r.group; serves = r.serves; name = name_in g (group_in ks r.group) r.serves; size = r.size }

-- the planner's reads under way
abbrev pub reads_of : Given → (ℕ → Group) → List Held → List Pending
reads_of g ks rs = map (pending_of g ks) rs

-- a plain read of a tag
abbrev pub plain_held : ℕ → Size → Held
plain_held i z = record { group = None; start = 0; end = 0; serves = i ∷ []; size = z }

-- a plain read of each tag, the first being at position `i`
unfoldable pub plain_from : ℕ → List Size → List Held
plain_from i [] = []
plain_from i (z ∷ zs) = plain_held i z ∷ plain_from (i + 1) zs

-- the table after a merge is the planner's reads after it, for each planning that has the group, marked so, and its size
abbrev pub MergeTold : List Bool → GroupRead → List Held → List Held → Type 0
MergeTold marks into old new =
    (g : Given) (ks : ℕ → Group) → IsMarked (ks into.group).serves marks
    → record { request = into.request; reply = into.reply } ≡ size_of g (ks into.group).shape (served (keep (is_covered marks) old))
    → reads_of g ks new ≡ (merged_of g (ks into.group) (reads_of g ks old) (keep (covers (ks into.group)) (reads_of g ks old))).reads

-- the number of a position
abbrev pub number_at : List ℕ → ℕ → ℕ
number_at ns p = get_or ns p 0

-- an extent, if there is one, with a number more
abbrev pub wider : Option Extent → ℕ → Extent
wider None n = record { least = n; greatest = n }
wider (Some e) n = record { least = min e.least n; greatest = max e.greatest n }

-- the least and the greatest of numbers
unfoldable pub extent_of : List ℕ → Option Extent
extent_of [] = None
extent_of (n ∷ ns) = Some (record { least = least (n ∷ ns); greatest = greatest (n ∷ ns) })
