-- The positions of the reads that a test keeps: no more than those of all reads.
use Rattle.std.proofs.Common.{◌≡◌, ◌+◌, ◌-◌, ◌<◌, ◌≤◌, ℕ, zero, suc, Bool, true, false, cond, not, List, [], ◌∷◌, ◌++◌, length, drop, take, get_or, sum_by, refl, sym, ap, ◌∙◌, arith, length-append, append_assoc}
use Rattle.std.proofs.lemmas.List.{append-nil, length-take, length-drop}
use Rattle.std.proofs.lemmas.Slice.{take-put_mid}
use borrow.Rule.Slice.PartMut.{put_mid}
use Rattle.std.proofs.lemmas.List.Sums.{sum_by-cons}
use Rattle.names.specs.Pieces.{joined}
use Rattle.planner.specs.Lists.{keep}
use Rattle.reads.specs.Held.{Held, no_held, count_of, served}
use Rattle.reads.proofs.Steps.{kept_yes, kept_not, kept_end}

pub served_none : served [] ≡ []
unfolding served joined
served_none = refl

pub served_more : (r : Held) (rs : List Held) → served (r ∷ rs) ≡ r.serves ++ served rs
unfolding served joined
served_more r rs = refl

-- the positions of those that are kept, and of the others
pub split_counts : (p : Held → Bool) (rs : List Held) → length (served (keep p rs)) + sum_by count_of (keep (λ x. not (p x)) rs) ≡ sum_by count_of rs
unfolding keep served joined
split_counts p [] = refl
split_counts p (r ∷ rs) = go (p r) (split_counts p rs)
  where
    go : (b : Bool) → length (served (keep p rs)) + sum_by count_of (keep (λ x. not (p x)) rs) ≡ sum_by count_of rs
        → length (served (cond b (r ∷ keep p rs) (keep p rs))) + sum_by count_of (cond (not b) (r ∷ keep (λ x. not (p x)) rs) (keep (λ x. not (p x)) rs)) ≡ sum_by count_of (r ∷ rs)
    go true h =
        let a = length-append r.serves (served (keep p rs)) in
        let k : length (served (r ∷ keep p rs)) + sum_by count_of (keep (λ x. not (p x)) rs) ≡ sum_by count_of (r ∷ rs) = rw (sum_by-cons count_of r rs) (omega (arith, a)) in
        k
    go false h =
        let k : length (served (keep p rs)) + sum_by count_of (r ∷ keep (λ x. not (p x)) rs) ≡ sum_by count_of (r ∷ rs) =
        omega (arith, sum_by-cons count_of r rs, sum_by-cons count_of r (keep (λ x. not (p x)) rs))
        in
        k

-- the positions of those left are among those of all
pub left_counts : (p : Held → Bool) (rs : List Held) (i : ℕ) → length (served (keep p (drop i rs))) ≤ length (served (keep p rs))
unfolding keep
left_counts p rs zero = omega arith
left_counts p [] (suc i) = omega arith
left_counts p (r ∷ rs) (suc i) = go (p r) (left_counts p rs i)
  where
    go : (b : Bool) → length (served (keep p (drop i rs))) ≤ length (served (keep p rs)) → length (served (keep p (drop i rs))) ≤ length (served (cond b (r ∷ keep p rs) (keep p rs)))
    go true h = omega (arith, ap length (served_more r (keep p rs)), length-append r.serves (served (keep p rs)))
    go false h = h

-- the room for the positions of one read more
pub unite_room : (p : Held → Bool) (rs : List Held) (i : ℕ) (front : List ℕ) → i < length rs → p (get_or rs i no_held) ≡ true
    → front ++ served (keep p (drop i rs)) ≡ served (keep p rs) → length front + length (get_or rs i no_held).serves ≤ sum_by count_of rs
unite_room p rs i front h e t =
    let k = ap served (kept_yes p rs i h e) ∙ served_more (get_or rs i no_held) (keep p (drop (i + 1) rs)) in
    let s = split_counts p rs in
    let l = ap length t in
    let m = ap length k in
    omega (arith, length-append front (served (keep p (drop i rs))), length-append (get_or rs i no_held).serves (served (keep p (drop (i + 1) rs))))

-- ---- the positions put, step by step
module _ (p : Held → Bool) (rs : List Held) (i : ℕ) (front whole : List ℕ) (t : front ++ served (keep p (drop i rs)) ≡ whole) where
  pub unite_more : (r : Held) (front' : List ℕ) → i < length rs → r ≡ get_or rs i no_held → p r ≡ true → front' ≡ front ++ r.serves → front' ++ served (keep p (drop (i + 1) rs)) ≡ whole
  unite_more r front' h q e f =
      let k = ap served (kept_yes p rs i h (ap p (sym q) ∙ e)) ∙ served_more (get_or rs i no_held) (keep p (drop (i + 1) rs)) ∙ ap (λ x. x.serves ++ served (keep p (drop (i + 1) rs))) (sym q) in
      ap (λ x. x ++ served (keep p (drop (i + 1) rs))) f ∙ append_assoc front r.serves (served (keep p (drop (i + 1) rs))) ∙ ap (λ x. front ++ x) (sym k) ∙ t

  pub unite_skip : (r : Held) → i < length rs → r ≡ get_or rs i no_held → p r ≡ false → front ++ served (keep p (drop (i + 1) rs)) ≡ whole
  unite_skip r h q e = ap (λ x. front ++ served x) (sym (kept_not p rs i h (ap p (sym q) ∙ e))) ∙ t

  pub unite_end : length rs ≤ i → front ≡ whole
  unite_end h = sym (ap (λ x. front ++ x) (ap served (kept_end p rs i h) ∙ served_none) ∙ append-nil front) ∙ t

-- the positions of one read more have room behind those put, and stand there
pub unite_fits : (p : Held → Bool) (rs : List Held) (i n : ℕ) (out : List ℕ) (r : Held) → n ≤ length out → i < length rs → r ≡ get_or rs i no_held → p r ≡ true
    → take n out ++ served (keep p (drop i rs)) ≡ served (keep p rs) → n + length r.serves ≤ sum_by count_of rs
unite_fits p rs i n out r l h q e t =
    let k = unite_room p rs i (take n out) h (ap p (sym q) ∙ e) t in
    let s = ap (λ x. length x.serves) q in
    let m = length-take n out in
    omega arith

pub put_behind : (out serves serves' : List ℕ) (n k : ℕ) → n ≤ length out → serves' ≡ serves → take (n + length serves) (put_mid n k out serves') ≡ take n out ++ serves
put_behind out serves serves' n k l e = ap (λ x. take (n + length serves) (put_mid n k out x)) e ∙ take-put_mid n k out serves (n + length serves) refl l

pub put_length : (out serves serves' : List ℕ) (n k : ℕ) → n + length serves ≤ length out → k ≡ n + length serves - n → serves' ≡ serves → length (put_mid n k out serves') ≡ length out
put_length out serves serves' n k l e s =
    let a = length-append (take n out) (serves' ++ drop k (drop n out)) in
    let b = length-append serves' (drop k (drop n out)) in
    let c = length-drop k (drop n out) in
    let d = length-drop n out in
    let f = length-take n out in
    let g = ap length s in
    omega arith
