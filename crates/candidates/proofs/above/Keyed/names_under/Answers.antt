use Rattle.std.proofs.Common.{rules, tests, refl, ◌∙◌, ◌-◌, length}
use Rattle.std.proofs.lemmas.Iterator.{YieldsList-from_range}
use Rattle.std.proofs.lemmas.Iterator.Consumers.{count_from_yields_List, YieldsList-from_filter}
use Rattle.candidates.specs.Lent.{firsts, name_in}
use Rattle.candidates.proofs.Under.{names-counted}
use Rattle.candidates.proofs.above.Keyed.names_under.Goals as goal

pub returns : goal.returns
returns c =
    let k = c.args.self.now in
    let n = length k.above.rows.now in
    count_from_yields_List c.filter.result _ c.count.ensures.ran
    (YieldsList-from_filter _ (name_in k c.args.j) (YieldsList-from_range c.args.j n (n - c.args.j) c.filter.ensures.source refl) c.filter.ensures.closure (λ x b q h. search (rules, tests)))
    ∙ names-counted (firsts k.above.listed) k.above.rows.now k.heads.now c.args.j
