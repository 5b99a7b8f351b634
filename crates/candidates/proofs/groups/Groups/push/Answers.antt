use Rattle.std.proofs.Common.{[], ◌∷◌, ◌++◌, length, take, sum_by, ap, refl, ◌∙◌, arith}
use Rattle.std.proofs.lemmas.List.{length-map, length-take}
use Rattle.std.proofs.lemmas.List.Sums.{sum_by-append}
use Rattle.candidates.specs.Groups.{served_count, bunch_in, bunch_with}
use Rattle.candidates.proofs.Pushing.{pushed, pushed-within}
use Rattle.candidates.proofs.groups.Groups.push.Goals as goal

pub returns : goal.returns
returns c =
    let h = c.self.invariant in
    let r = c.requires in
    let groups = c.self.inside in
    let n = ap length c.self.view_is ∙ refl in
    let m = length-map (take groups.count groups.rows) (bunch_in groups.positions) in
    let t = length-take groups.count groups.rows in
    rw c.copy_from_slice.ensures.after
    (pushed groups.positions c.args.serves.now groups.used _ groups.rows groups.count _ (omega arith) h.2 refl (omega arith) refl refl ∙ ap (λ x. x ++ bunch_with c.args.group c.args.serves.now ∷ []) c.self.view_is)

pub invariant_of-self-2 : goal.invariant_of-self-2
invariant_of-self-2 c =
    let h = c.self.invariant in
    let r = c.requires in
    let groups = c.self.inside in
    let n = ap length c.self.view_is ∙ refl in
    let m = length-map (take groups.count groups.rows) (bunch_in groups.positions) in
    let t = length-take groups.count groups.rows in
    let s = ap (sum_by served_count) (returns c) ∙ sum_by-append served_count c.args.self.now (bunch_with c.args.group c.args.serves.now ∷ []) in
    let u = ap (sum_by served_count) c.self.view_is in
    (omega arith, omega arith, pushed-within groups.positions c.args.serves.now groups.used 0 groups.rows groups.count _ (omega arith) h.2 refl, omega arith)
