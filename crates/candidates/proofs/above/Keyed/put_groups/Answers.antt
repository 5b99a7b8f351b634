use native.Mathlib.Omega.{arith}
use mathlib.Core.Path.{sym, ap₂, ◌∙◌}
use Rattle.candidates.specs.Groups.{bunch_with}
use Rattle.candidates.proofs.Putting.{putting-as, putting-end, one-few, one-serves, one-put}
use Rattle.candidates.proofs.Under.{groups-more, groups-skip, groups_none}
use Rattle.candidates.proofs.above.Keyed.put_groups.Goals as goal
use Rattle.candidates.proofs.above.Keyed.put_groups.Goals.{then-is_group, else-is_group}

pub push-requires : goal.push-requires
push-requires c =
    let e = groups-more _ _ _ _ (omega arith) (sym c.is_group.ensures ∙ c.if-is_group.true) in
    record {
      few = one-few _ _ _ _ c.loop-j.invariant _ _ e;
      room = one-serves _ _ _ _ c.loop-j.invariant _ _ e _ (c.rows.ensures.rows ∙ c.tags_under.ensures);
    }

pub loop-j-preserved : goal.loop-j-preserved
loop-j-preserved c = elim c.if-is_group.branch [
  | then-is_group w ↦ rw w.groups-is (one-put _ _ _ _ c.loop-j.invariant _ _ (groups-more _ _ _ _ (omega arith) (sym c.is_group.ensures ∙ w.if-is_group.true)) _ _ w.push.ensures
      (ap₂ bunch_with w.struct_in.ensures (w.rows.ensures.rows ∙ w.tags_under.ensures)))
  | else-is_group w ↦ rw w.groups-is (putting-as _ _ _ _ c.loop-j.invariant _ (groups-skip _ _ _ _ (omega arith) (sym c.is_group.ensures ∙ w.if-is_group.false)))
]

pub returns : goal.returns
returns c = putting-end _ _ _ _ c.loop-j.invariant (groups_none _ _ _ _ (omega arith))
