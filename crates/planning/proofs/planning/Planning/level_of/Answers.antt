-- `level_of` meets its contract: a struct that is too large, no struct, one that is bound together, and one that is not.
use mathlib.Core.Path.{ap, ◌∙◌}
use native.Mathlib.Omega.{arith}
use lib.ListN.{length}
use Rattle.names.specs.Name.{tokens_of}
use Rattle.fields.specs.Text.{alike}
use Rattle.catalog.specs.Finding.{any}
use Rattle.lists.specs.Lists.{list_of}
use Rattle.planning.proofs.Leveling.{level-long, level-bound, level-free}
use Rattle.planning.proofs.planning.Planning.level_of.Goals.{then-name-gt-LONGEST_NAME-via-then-name-gt-LONGEST_NAME, then-name-gt-LONGEST_NAME-via-else-name-gt-LONGEST_NAME+then-not-is_together}
use Rattle.planning.proofs.planning.Planning.level_of.Goals as goal

pub returns-then-name-gt-LONGEST_NAME : goal.returns-then-name-gt-LONGEST_NAME
returns-then-name-gt-LONGEST_NAME c = elim c.then-name-gt-LONGEST_NAME.branch [
  | then-name-gt-LONGEST_NAME-via-then-name-gt-LONGEST_NAME w ↦ level-long c.args.self.now c.args.room c.args.j (omega (arith, ap length c.text-name.ensures.text, w.if-name-gt-LONGEST_NAME.true))
  | then-name-gt-LONGEST_NAME-via-else-name-gt-LONGEST_NAME+then-not-is_together w ↦
      level-free c.args.self.now c.args.room c.args.j (omega (arith, c.weight.ensures, c.from.ensures, c.if-room-from.false)) _ (w.is_together.ensures ∙ ap (λ t. any (alike t) (list_of c.args.self.now.list.now).together) c.text-name.ensures.text) w.if-not-is_together.true
]

pub returns : goal.returns
returns c = level-bound c.args.self.now c.args.room c.args.j (omega (arith, c.weight.ensures, c.from.ensures, c.if-room-from.false)) _ (c.is_together.ensures ∙ ap (λ t. any (alike t) (list_of c.args.self.now.list.now).together) c.text-name.ensures.text) _ c.if-not-is_together.false (c.token_count.ensures ∙ ap (λ t. length (tokens_of t)) c.text-name.ensures.text)
