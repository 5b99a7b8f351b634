-- What all give is what those left give, behind the first so far that is the same with case ignored.
use Rattle.std.proofs.Common.{◌≡◌, ◌-◌, None}
use Rattle.values.proofs.Walks.{searching}
use Rattle.values.proofs.dig.find_member.Given as goal

abbrev pub invariant-loop : goal.invariant-loop
invariant-loop l = searching l.name l.s None l.n l.from ≡ searching l.name l.s l.called (l.n - l.counter) l.at
