use Rattle.std.proofs.Common.{◌≡◌, true, false, take, get_or}
use Rattle.std.specs.List.{list_all}
use Rattle.reads.proofs.marks.all_marked.Given as goal

-- the positions looked at are marked
abbrev pub invariant-loop-p : goal.invariant-loop-p
invariant-loop-p l = list_all (λ p. get_or l.marks p false) (take l.p-index l.positions) ≡ true
