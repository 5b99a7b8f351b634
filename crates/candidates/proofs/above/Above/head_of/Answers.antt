-- The search finds the first row that is its own and has the key, or none before the row.
use Rattle.std.proofs.Common.{rules, tests, sym, refl, ◌∙◌, arith}
use Rattle.std.proofs.lemmas.Iterator.{YieldsList-from_range}
use Rattle.std.proofs.lemmas.Iterator.Search.{find_from_yields_List}
use Rattle.std.proofs.lemmas.Iterator.Adapters.{option_map_id}
use Rattle.candidates.specs.Heads.{is_head}
use Rattle.candidates.specs.Lent.{keys}
use Rattle.candidates.proofs.Heads.{head-found}
use Rattle.candidates.proofs.above.Above.head_of.Goals as goal

pub returns : goal.returns
returns c =
    let key = keys c.args.self.now in
    let j = c.args.j in
    let found =
    sym (option_map_id c.find.result)
    ∙ find_from_yields_List (is_head key c.args.heads.now j) c.find.new.self _ c.find.result c.find.ensures.ran (YieldsList-from_range 0 j j refl (omega arith)) (λ x b q k. search (rules, tests)) in
    rw (c.unwrap_or.ensures, found) (head-found key c.args.heads.now j c.requires.heads)
