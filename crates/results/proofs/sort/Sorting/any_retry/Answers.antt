use Rattle.std.proofs.Common.{rules, tests, refl, ◌∙◌}
use Rattle.std.proofs.lemmas.Iterator.Consumers.{YieldsList-from_first}
use Rattle.std.proofs.lemmas.Iterator.Search.{any_from_yields_List}
use Rattle.fields.specs.Places.{places_from}
use Rattle.plans.specs.Plans.{member}
use Rattle.results.specs.Told.{shown, shown_retry, turn_entry}
use Rattle.results.proofs.Entries.{retry-any}
use Rattle.results.proofs.sort.Sorting.any_retry.Goals as goal

pub returns : goal.returns
returns c =
    let plan = c.args.self.now.plan.now in
    let results = c.args.self.now.results.now in
    let turn = c.args.turn in
    any_from_yields_List (λ p. shown_retry (shown (turn_entry plan p results turn))) c.any.new.self _ c.any.result c.any.ensures.ran
    (YieldsList-from_first (λ p. p) _ (places_from member turn.count plan turn.from) refl) (λ x b q k. search (rules, tests))
    ∙ retry-any plan results turn turn.count turn.from
