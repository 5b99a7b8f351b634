-- What is said of rows and of tags by their positions, of the tables as they are lent.
-- Assumes nothing: these are definitions.
use Rattle.std.specs.Prelude.{ℕ, Bool, cond, List, map, length, sum_by, Option, None}
use Rattle.fields.specs.Text.{Text}
use Rattle.planner.specs.Lists.{keep, rising}
use Rattle.planner.specs.Candidates.{is_near, clusters_of}
use Rattle.considered.specs.declared.tags.Element.{Element}
use Rattle.candidates.specs.Columns.{Bunch, Elements as ToldElements, names_of, firsts_of, elements_of, positions, is_in_run, bunches_from, array_runs, is_first_piece, runs_in, runs_for}
use Rattle.candidates.specs.Groups.{served_count}
use Rattle.candidates.specs.Heads.{key_at, is_name_under, names_under, tags_under, is_group, groups_from}
use Rattle.candidates.specs.Runs.{is_member, is_last, piece_in}
use Rattle.candidates.specs.declared.listed.Listed.{Listed}
use Rattle.candidates.specs.declared.above.Above.{Above}
use Rattle.candidates.specs.declared.above.Keyed.{Keyed}
use Rattle.candidates.specs.declared.runs.Elements.{Elements}

-- the name of each tag
abbrev pub names : Listed → ℕ → Text
names l = names_of l.list.now l.tags.now

-- whether a tag is the first of its name
abbrev pub firsts : Listed → ℕ → Bool
firsts l = firsts_of l.tags.now

-- the elements that tags are
abbrev pub elements : Listed → ToldElements
elements l = elements_of l.tags.now

-- ---- rows

-- the key of each row
abbrev pub keys : Above → ℕ → Text
keys a = key_at (names a.listed) a.rows.now

-- whether a name lies under the struct of a row
abbrev pub name_in : Keyed → ℕ → ℕ → Bool
name_in k = is_name_under (firsts k.above.listed) k.above.rows.now k.heads.now

-- how many names lie under the struct of a row
abbrev pub names_in : Keyed → ℕ → ℕ
names_in k = names_under (firsts k.above.listed) k.above.rows.now k.heads.now

-- the tags that are or lie under the struct of a row
abbrev pub tags_in : Keyed → ℕ → List ℕ
tags_in k = tags_under k.above.rows.now k.heads.now

-- whether a row is the first with its key, and two names lie under its struct
abbrev pub starts_group : Keyed → ℕ → Bool
starts_group k = is_group (firsts k.above.listed) k.above.rows.now k.heads.now

-- the groups from a row on
abbrev pub groups_in : Keyed → ℕ → List Bunch
groups_in k = groups_from (firsts k.above.listed) k.above.rows.now k.heads.now

-- ---- elements

-- how many tags there are
abbrev pub count_of : Elements → ℕ
count_of e = length e.listed.tags.now

-- whether a tag is an element of the array of another
abbrev pub member_of : Elements → ℕ → ℕ → Bool
member_of e = is_member (names e.listed) (firsts e.listed) (elements e.listed)

-- whether a tag is the last element of its array
abbrev pub last_of : Elements → ℕ → Bool
last_of e = is_last (names e.listed) (firsts e.listed) (elements e.listed) (count_of e)

-- the element that spells the runs of an array
unfoldable pub speller_at : Elements → ℕ → Option Element
speller_at e p = cond (last_of e p) (piece_in e.listed.tags.now p) None

-- the indexes of the array of a tag, rising
abbrev pub indexes_of : Elements → ℕ → List ℕ
indexes_of e p = rising (map (elements e.listed).index (keep (member_of e p) (positions 0 (count_of e))))

-- the tags of a run at these indexes
abbrev pub run_tags : Elements → ℕ → List ℕ → List ℕ
run_tags e p is = keep (is_in_run (names e.listed) (elements e.listed) p is) (positions 0 (count_of e))

-- the runs at these indexes of the array of a tag
abbrev pub cluster_runs : Elements → ℕ → List ℕ → List Bunch
cluster_runs e p is =
    bunches_from (names e.listed) (elements e.listed) (positions 0 (count_of e)) p 1 (clusters_of (is_near e.gap ((elements e.listed).width p)) is)

-- the runs of the array of a tag
abbrev pub runs_at : Elements → ℕ → List Bunch
runs_at e =
    let all = positions 0 (count_of e) in
    array_runs (names e.listed) (elements e.listed) e.gap all (keep (is_first_piece (firsts e.listed) (elements e.listed)) all)

-- all runs
abbrev pub all_runs : Elements → List Bunch
all_runs e = runs_in (names e.listed) (firsts e.listed) (elements e.listed) e.gap (count_of e)

-- those that are put behind groups
abbrev pub runs_behind : Elements → List Bunch → List Bunch
runs_behind e bs = runs_for (names e.listed) (firsts e.listed) (elements e.listed) e.gap (count_of e) (length bs) (sum_by served_count bs)
