use Rattle.std.proofs.Common.{ap, ap₂, ◌∙◌}
use Rattle.planner.specs.Merging.{in_place}
use Rattle.reads.specs.Held.{is_covered}
use Rattle.reads.specs.Rows.{grouped, merged}
use Rattle.reads.specs.Told.{reads_of}
use Rattle.reads.proofs.Telling.{merged_told}
use Rattle.reads.proofs.table.Reads.merge.Goals as goal

pub returns-clause-merged : goal.returns-clause-merged
unfolding merged
returns-clause-merged c = c.put_merged.ensures ∙ ap₂ (λ ps rs. in_place (is_covered c.args.marks.now) (grouped c.args.into ps) rs) c.unite-n.ensures.positions c.copy-old.ensures

pub returns-clause-told : goal.returns-clause-told
returns-clause-told c g ks m z = ap (reads_of g ks) (returns-clause-merged c) ∙ merged_told g ks c.args.marks.now c.args.into c.args.self.now m z
