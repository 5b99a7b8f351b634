use Rattle.considered.proofs.Fronts.{level-told}
use lib.Seq.{length-take-le}
use mathlib.Core.Path.{sym}
use Rattle.considered.proofs.levels.Resolved.front.Goals as goal

pub slice_bounds-result-end : goal.slice_bounds-result-end
slice_bounds-result-end c = let s = c.args.self.now in sym (length-take-le _ _ (level-told s.files.now.catalog.now s.name.now s.levels.now c.args.level _ s.short s.levelled c.requires).within)

pub invariant_of-result : goal.invariant_of-result
invariant_of-result c = let s = c.args.self.now in let l = level-told s.files.now.catalog.now s.name.now s.levels.now c.args.level _ s.short s.levelled c.requires in record { some = l.some; leads = l.leads }
