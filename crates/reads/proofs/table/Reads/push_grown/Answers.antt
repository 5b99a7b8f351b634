use Rattle.reads.specs.declared.row.Row.{Row}
use Rattle.std.proofs.Common.{◌≡◌, ◌+◌, ◌<◌, [], ◌∷◌, ◌++◌, length, map, take, sum_by, ap, refl, sym, ◌∙◌, arith}
use Rattle.std.proofs.lemmas.List.{length-map, length-take, set-set, get_or-set_same}
use Rattle.std.proofs.lemmas.List.Sums.{sum_by-append}
use Rattle.reads.specs.Held.{count_of}
use Rattle.reads.specs.Rows.{grouped, held_in}
use Rattle.reads.proofs.Pushing.{pushed, pushed-within, grown_is}
use Rattle.reads.proofs.table.Reads.push_grown.Goals as goal

pub returns : goal.returns
returns c =
    let h = c.self.invariant in
    let r = c.requires in
    let reads = c.self.inside in
    let n = ap length c.self.view_is ∙ refl in
    let m = length-map (take reads.count reads.rows) (held_in reads.members) in
    let t = length-take reads.count reads.rows in
    let g = c.grow.ensures in
    let l : reads.count < length reads.rows = omega arith in
    let i = c.index-self-self-2.is in
    let q = sym i ∙ i ∙ get_or-set_same _ _ _ _ l in
    let f : c.grow.new.self.from ≡ reads.used = g.from ∙ ap (λ (r : Row). r.from) q in
    let k = ap (λ (r : Row). r.to) q in
    let e : c.grow.new.self.to ≡ reads.used + length c.args.serves.now = omega (arith, g.to, k) in
    rw (c.copy_from_slice.ensures.after, set-set)
    (pushed reads.members c.args.serves.now reads.used _ reads.rows reads.count c.grow.new.self (omega arith) h.2 e (omega arith) f (omega arith)
    ∙ ap (λ x. map (held_in reads.members) (take reads.count reads.rows) ++ x ∷ []) (grown_is _ _ _ _ _ g)
    ∙ ap (λ x. x ++ grouped c.args.into c.args.serves.now ∷ []) c.self.view_is)

pub invariant_of-self-2 : goal.invariant_of-self-2
invariant_of-self-2 c =
    let h = c.self.invariant in
    let r = c.requires in
    let reads = c.self.inside in
    let n = ap length c.self.view_is ∙ refl in
    let m = length-map (take reads.count reads.rows) (held_in reads.members) in
    let t = length-take reads.count reads.rows in
    let s = ap (sum_by count_of) (returns c) ∙ sum_by-append count_of c.args.self.now (grouped c.args.into c.args.serves.now ∷ []) in
    let u = ap (sum_by count_of) c.self.view_is in
    let g = c.grow.ensures in
    let l : reads.count < length reads.rows = omega arith in
    let i = c.index-self-self-2.is in
    let k = ap (λ (r : Row). r.to) (sym i ∙ i ∙ get_or-set_same _ _ _ _ l) in
    let e : c.grow.new.self.to ≡ reads.used + length c.args.serves.now = omega (arith, g.to, k) in
    (omega arith, omega arith, rw set-set (pushed-within reads.members c.args.serves.now reads.used 0 reads.rows reads.count c.grow.new.self (omega arith) h.2 e), omega arith)
