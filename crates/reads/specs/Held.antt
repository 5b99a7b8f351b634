-- Reads under way as values: which of them are covered, the positions that they serve, and their packets.
-- Assumes nothing: these are definitions.
use Rattle.std.specs.Prelude.{ℕ, ◌≡◌, ◌+◌, Bool, false, cond, ◌&&◌, List, [], ◌∷◌, ◌++◌, map, length, get_or, ltb, leb, sum_by, Option, None}
use Rattle.std.specs.List.{list_all}
use Rattle.names.specs.Pieces.{joined}
use Rattle.packing.specs.declared.Cost.{Cost}
use Rattle.packing.specs.Told.{started, steps_of}
use Rattle.planner.specs.Lists.{is_one_of}
use Rattle.fields.specs.Fields.{limited}
use Rattle.fields.specs.declared.Size.{Size}

-- a read under way: the number of its group, none for a plain read; where its name stands in the list; the positions that it serves; its size
pub record Held : Type 0 where
  pub group : Option ℕ
  pub start : ℕ
  pub end : ℕ
  pub serves : List ℕ
  pub size : Size

-- a read of these sizes alone
abbrev pub sized : ℕ → ℕ → Held
sized request reply = record { group = None; start = 0; end = 0; serves = []; size = record { request = request; reply = reply } }

-- no read
abbrev pub no_held : Held
no_held = sized 0 0

-- how many positions it serves
abbrev pub count_of : Held → ℕ
count_of r = length r.serves

-- its size
abbrev pub size_of : Held → Size
size_of r = r.size

-- the bytes of its reply
abbrev pub reply_of : Held → ℕ
reply_of r = r.size.reply

-- no entry of a size table is larger
abbrev pub largest_size : ℕ
largest_size = 1099511627776

-- the bytes of its reply; a larger one counts 0
abbrev pub limited_reply : Held → ℕ
limited_reply r = limited largest_size (reply_of r)

-- whether there is room for one read more, which serves `n` positions: 256 reads at most, which serve 256 positions at most
unfoldable pub has_room : List Held → ℕ → Bool
has_room rs n = ltb (length rs) 256 && leb (sum_by count_of rs + n) 256

-- the reads with one more, if there is room for it
unfoldable pub added : List Held → Held → List Held
added rs r = cond (has_room rs (count_of r)) (rs ++ r ∷ []) rs

-- a read whose positions are all marked
abbrev pub is_covered : List Bool → Held → Bool
is_covered marks r = list_all (λ p. get_or marks p false) r.serves

-- the positions that reads serve, in order
unfoldable pub served : List Held → List ℕ
served rs = joined (map (λ r. r.serves) rs)

-- the packets of reads
abbrev pub packets_in : Cost → ℕ → List Held → ℕ
packets_in cost budget rs = (steps_of cost budget (started budget) (map size_of rs)).packets

-- marks that tell which positions are among these
abbrev pub IsMarked : List ℕ → List Bool → Type 0
IsMarked ps marks = (p : ℕ) → get_or marks p false ≡ is_one_of ps p
