use Rattle.considered.proofs.Considering.{seeing-start, seeing-next, here-limited}
use Rattle.considered.specs.Seen.{row_in, seen_of, text_in}
use Rattle.considered.specs.Answers.{text_at}
use Rattle.planner.specs.Rows.{row_of}
use Rattle.planner.specs.Tags.{tag_behind}
use Rattle.lists.specs.Lists.{list_of}
use Rattle.catalog.specs.Catalog.{catalog_of}
use Rattle.considered.specs.declared.tags.Tag.{Tag}
use mathlib.Core.List.{List, ◌++◌, map}
use mathlib.Core.Path.{ap, ◌∙◌}
use lib.ListN.{length, get_or}
use native.Mathlib.Omega.{arith}
use Rattle.considered.proofs.see_tags.Goals as goal

pub loop-place-init : goal.loop-place-init
loop-place-init c = seeing-start _ _ _ _ _ c.requires.no_tags c.requires.no_rows

pub loop-place-preserved : goal.loop-place-preserved
loop-place-preserved c =
    let f = c.args.files.now in
    let C = catalog_of f.catalog.now in
    let W = list_of f.list.now in
    let t = text_at f.list.now (get_or c.args.places.now c.loop-place.place-index 0) in
    seeing-next f.catalog.now f.list.now c.requires.limited c.args.places.now _ c.loop-place.rows _ c.loop-place.invariant c.requires.places c.requires.few c.loop-place-test.true _ _ _ c.see_tag-tag.ensures.place
    (c.see_tag-tag.ensures.tag ∙ ap (λ (x : List Tag). seen_of f.catalog.now (tag_behind C W (map (text_in f.list.now) x) t)) c.rows.ensures.rows)
    (c.see_tag-tag.ensures.rows ∙ ap (λ (x : List Tag). map row_in c.loop-place.rows ++ map (row_of (length x)) (tag_behind C W (map (text_in f.list.now) x) t).above) c.rows.ensures.rows)
    (c.push.ensures.room (omega arith))

pub see_tag-tag-requires-clause-limited : goal.see_tag-tag-requires-clause-limited
see_tag-tag-requires-clause-limited c = here-limited c.args.files.now.catalog.now c.args.files.now.list.now c.requires.limited c.args.places.now c.loop-place.place-index c.requires.places c.loop-place-test.true
