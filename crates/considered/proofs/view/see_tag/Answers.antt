use Rattle.considered.proofs.Viewing.{none-map, tag_seen, rows_seen}
use Rattle.considered.specs.Seen.{row_in, seen_of, text_in}
use Rattle.planner.specs.Rows.{row_of}
use Rattle.planner.specs.Tags.{tag_behind}
use Rattle.lists.specs.Lists.{list_of}
use Rattle.catalog.specs.Catalog.{catalog_of}
use mathlib.Core.List.{◌++◌, map}
use mathlib.Core.Path.{ap, ◌∙◌}
use lib.ListN.{length}
use Rattle.considered.proofs.view.see_tag.Goals as goal

pub returns-clause-tag : goal.returns-clause-tag
returns-clause-tag c =
    let f = c.args.files.now in
    let before = map (text_in f.list.now) c.args.before.now in
    tag_seen f.catalog.now f.list.now c.args.before.now c.text_at-name.result.now _ _ c.first_alike-twin.ensures c.is_spelled-is_known.ensures _ _ _ (none-map _ _ _ c.is_none.ensures) c.view_tag-view.ensures.element c.view_tag-view.ensures.size
    ∙ ap (λ x. seen_of f.catalog.now (tag_behind (catalog_of f.catalog.now) (list_of f.list.now) before x)) c.text_at-name.ensures

pub returns-clause-rows : goal.returns-clause-rows
returns-clause-rows c =
    let f = c.args.files.now in
    let before = map (text_in f.list.now) c.args.before.now in
    rows_seen f.catalog.now f.list.now c.args.before.now c.text_at-name.result.now _ _ c.first_alike-twin.ensures c.is_spelled-is_known.ensures _ _ _ c.view_tag-view.ensures.rows
    ∙ ap (λ x. map row_in c.args.rows.now ++ map (row_of (length c.args.before.now)) (tag_behind (catalog_of f.catalog.now) (list_of f.list.now) before x).above) c.text_at-name.ensures
