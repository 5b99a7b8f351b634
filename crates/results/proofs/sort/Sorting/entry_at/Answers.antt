use Rattle.std.proofs.Common.{refl}
use Rattle.results.proofs.Members.{flag-none, flag-some}
use Rattle.results.proofs.Showing.{shows-lost, shows-whole, shows-missing, shows-cut, shows-none}
use Rattle.results.proofs.sort.Sorting.entry_at.Goals as goal

pub returns-then-turn : goal.returns-then-turn
returns-then-turn c = shows-lost c.args.self.now.plan.now c.args.p c.args.self.now.results.now c.args.turn c.if-turn.true

pub returns-then-not-has_path : goal.returns-then-not-has_path
returns-then-not-has_path c =
    shows-whole c.args.self.now.plan.now c.args.p c.args.self.now.results.now c.args.turn c.if-turn.false _ _ refl refl
    (flag-none c.args.self.now.plan.now c.args.p _ refl _ refl _ c.has_path.ensures c.if-not-has_path.true)

pub returns-in-Some : goal.returns-in-Some
returns-in-Some c =
    shows-cut c.args.self.now.plan.now c.args.p c.args.self.now.results.now c.args.turn c.if-turn.false _ _ c.text_past.ensures refl
    (flag-some c.args.self.now.plan.now c.args.p _ c.text_past.ensures _ refl _ c.has_path.ensures c.if-not-has_path.false)
    c.in-Value.is _ _ _ c.past-count.ensures c.number_at-keys.ensures.number c.past-first.ensures _ c.dig_from.ensures _ c.in-Some.is

pub returns-in-None : goal.returns-in-None
returns-in-None c =
    shows-none c.args.self.now.plan.now c.args.p c.args.self.now.results.now c.args.turn c.if-turn.false _ _ c.text_past.ensures refl
    (flag-some c.args.self.now.plan.now c.args.p _ c.text_past.ensures _ refl _ c.has_path.ensures c.if-not-has_path.false)
    c.in-Value.is _ _ _ c.past-count.ensures c.number_at-keys.ensures.number c.past-first.ensures _ c.dig_from.ensures c.in-None.is

pub returns-in_default : goal.returns-in_default
returns-in_default c =
    shows-missing c.args.self.now.plan.now c.args.p c.args.self.now.results.now c.args.turn c.if-turn.false _ _ refl refl
    (flag-some c.args.self.now.plan.now c.args.p _ refl _ refl _ c.has_path.ensures c.if-not-has_path.false)
    c.in_default.not-Value
