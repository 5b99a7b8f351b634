-- `token_count` meets its contract: all tokens are counted where there is a first one, and there are none where there is not.
use mathlib.Core.Path.{sym, ◌∙◌}
use native.Mathlib.Omega.{arith}
use Rattle.names.proofs.Listings.{first-based}
use Rattle.planning.proofs.Reckoned.{none_first}
use Rattle.planning.proofs.bind.token_count.Goals as goal

pub tokens_from-requires : goal.tokens_from-requires
tokens_from-requires c = first-based _ _ _ (sym c.first_token.ensures ∙ c.in-Ok.is) (omega (arith, c.requires))

pub returns-in-Err : goal.returns-in-Err
returns-in-Err c = none_first _ _ (sym c.first_token.ensures ∙ c.in-Err.is)
