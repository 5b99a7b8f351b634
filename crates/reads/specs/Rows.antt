-- How a table of records, with the positions of all reads in a row, tells reads; and what a record and covered reads become.
-- Assumes nothing: these are definitions.
use Rattle.std.specs.Prelude.{ℕ, ◌≡◌, ◌+◌, ◌-◌, Bool, List, take, drop, Some}
use Rattle.planner.specs.Lists.{keep}
use Rattle.planner.specs.Merging.{in_place}
use Rattle.reads.specs.declared.row.Row.{Row}
use Rattle.reads.specs.declared.row.Read.{Read}
use Rattle.reads.specs.declared.row.GroupRead.{GroupRead}
use Rattle.reads.specs.Held.{Held, is_covered, served}
use Rattle.fields.specs.declared.Size.{Size}

-- the positions of a record
abbrev pub serves_in : List ℕ → Row → List ℕ
serves_in members row = take (row.to - row.from) (drop row.from members)

-- its size
abbrev pub size_in : Row → Size
size_in row = record { request = row.request; reply = row.reply }

-- the read of a record
abbrev pub held_in : List ℕ → Row → Held
held_in members row = record { group = row.group; start = row.start; end = row.end; serves = serves_in members row; size = size_in row }

-- a read as it is lent
abbrev pub held : Read → Held
held r = record { group = r.group; start = r.start; end = r.end; serves = r.serves.now; size = record { request = r.request; reply = r.reply } }

-- the read of a group, which serves these positions
abbrev pub grouped : GroupRead → List ℕ → Held
grouped r ps = record { group = Some r.group; start = r.start; end = r.end; serves = ps; size = record { request = r.request; reply = r.reply } }

-- the reads with the covered ones as one
unfoldable pub merged : List Bool → GroupRead → List Held → List Held
merged marks into rs = in_place (is_covered marks) (grouped into (served (keep (is_covered marks) rs))) rs

-- a record that took in others: so many positions more, and it is the read of a group
pub record GrownBy (old : Row) (more : ℕ) (into : GroupRead) (new : Row) : Type 0 where
  pub from : new.from ≡ old.from
  pub to : new.to ≡ old.to + more
  pub group : new.group ≡ Some into.group
  pub start : new.start ≡ into.start
  pub end : new.end ≡ into.end
  pub request : new.request ≡ into.request
  pub reply : new.reply ≡ into.reply
