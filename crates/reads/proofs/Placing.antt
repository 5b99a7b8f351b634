-- Reads with one in the place of those that pass: what is left to put, and the room for it.
use Rattle.std.proofs.Common.{◌≡◌, ◌+◌, ◌<◌, ◌≤◌, ℕ, Bool, true, false, cond, not, List, [], ◌∷◌, ◌++◌, length, drop, get_or, sum_by, refl, sym, ap, ◌∙◌, arith, length-append, append_assoc}
use Rattle.std.proofs.lemmas.List.{append-nil}
use Rattle.std.proofs.lemmas.List.Sums.{sum_by-append, sum_by-cons}
use Rattle.planner.specs.Lists.{keep}
use Rattle.planner.specs.Merging.{in_place}
use Rattle.reads.specs.Held.{Held, no_held, count_of, served}
use Rattle.reads.proofs.Steps.{left_next, left_end, kept_yes}
use Rattle.reads.proofs.Uniting.{split_counts, served_more, left_counts}

-- what is left to put of the reads left, where the new one is put or is not
unfoldable pub left_of : (Held → Bool) → Held → Bool → List Held → List Held
left_of p new placed rs = cond placed (keep (λ x. not (p x)) rs) (in_place p new rs)

module _ (p : Held → Bool) (new : Held) where
  pub place_start : (rs : List Held) → left_of p new false rs ≡ in_place p new rs
  unfolding left_of
  place_start rs = refl

  module _ (rs : List Held) (i : ℕ) where
    pub place_other : (placed : Bool) → i < length rs → p (get_or rs i no_held) ≡ false → left_of p new placed (drop i rs) ≡ get_or rs i no_held ∷ left_of p new placed (drop (i + 1) rs)
    unfolding left_of keep in_place
    place_other true h e = ap (left_of p new true) (left_next rs i h) ∙ rw e refl
    place_other false h e = ap (left_of p new false) (left_next rs i h) ∙ rw e refl

    pub place_first : i < length rs → p (get_or rs i no_held) ≡ true → left_of p new false (drop i rs) ≡ new ∷ left_of p new true (drop (i + 1) rs)
    unfolding left_of keep in_place
    place_first h e = ap (left_of p new false) (left_next rs i h) ∙ rw e refl

    pub place_later : i < length rs → p (get_or rs i no_held) ≡ true → left_of p new true (drop i rs) ≡ left_of p new true (drop (i + 1) rs)
    unfolding left_of keep
    place_later h e = ap (left_of p new true) (left_next rs i h) ∙ rw e refl

    pub place_end : (placed : Bool) → length rs ≤ i → left_of p new placed (drop i rs) ≡ []
    unfolding left_of keep in_place
    place_end true h = ap (left_of p new true) (left_end rs i h)
    place_end false h = ap (left_of p new false) (left_end rs i h)

  -- no more reads than before
  kept_fewer : (q : Held → Bool) (rs : List Held) → length (keep q rs) ≤ length rs
  unfolding keep
  kept_fewer q [] = omega arith
  kept_fewer q (r ∷ rs) = go (q r) (kept_fewer q rs)
    where
      go : (b : Bool) → length (keep q rs) ≤ length rs → length (cond b (r ∷ keep q rs) (keep q rs)) ≤ length (r ∷ rs)
      go true h = omega arith
      go false h = omega arith

  pub placed_few : (rs : List Held) → length (in_place p new rs) ≤ length rs
  unfolding in_place
  placed_few [] = omega arith
  placed_few (r ∷ rs) = go (p r) (placed_few rs)
    where
      go : (b : Bool) → length (in_place p new rs) ≤ length rs → length (cond b (new ∷ keep (λ x. not (p x)) rs) (r ∷ in_place p new rs)) ≤ length (r ∷ rs)
      go true h = omega (arith, kept_fewer (λ x. not (p x)) rs)
      go false h = omega arith

  placed_sum : (rs : List Held) → sum_by count_of (in_place p new rs) ≤ count_of new + sum_by count_of (keep (λ x. not (p x)) rs)
  unfolding in_place keep
  placed_sum [] = omega arith
  placed_sum (r ∷ rs) = go (p r) (placed_sum rs)
    where
      go : (b : Bool) → sum_by count_of (in_place p new rs) ≤ count_of new + sum_by count_of (keep (λ x. not (p x)) rs)
          → sum_by count_of (cond b (new ∷ keep (λ x. not (p x)) rs) (r ∷ in_place p new rs)) ≤ count_of new + sum_by count_of (cond (not b) (r ∷ keep (λ x. not (p x)) rs) (keep (λ x. not (p x)) rs))
      go true h =
          let k : sum_by count_of (new ∷ keep (λ x. not (p x)) rs) ≤ count_of new + sum_by count_of (keep (λ x. not (p x)) rs) = omega (arith, sum_by-cons count_of new (keep (λ x. not (p x)) rs)) in
          k
      go false h =
          let k : sum_by count_of (r ∷ in_place p new rs) ≤ count_of new + sum_by count_of (r ∷ keep (λ x. not (p x)) rs) =
          omega (arith, sum_by-cons count_of r (in_place p new rs), sum_by-cons count_of r (keep (λ x. not (p x)) rs))
          in
          k

  -- one read more is put
  moved : (all out out' rest : List Held) (x : Held) → all ≡ out ++ x ∷ rest → out' ≡ out ++ x ∷ [] → all ≡ out' ++ rest
  moved all out out' rest x t e = t ∙ sym (ap (λ l. l ++ rest) e ∙ append_assoc out (x ∷ []) rest)

  module _ (rs out : List Held) (i : ℕ) (h : i < length rs) where
    pub put_other : (placed : Bool) (r : Held) (out' : List Held) → in_place p new rs ≡ out ++ left_of p new placed (drop i rs) → r ≡ get_or rs i no_held → p r ≡ false → out' ≡ out ++ r ∷ []
        → in_place p new rs ≡ out' ++ left_of p new placed (drop (i + 1) rs)
    put_other placed r out' t q e o =
        moved (in_place p new rs) out out' (left_of p new placed (drop (i + 1) rs)) r
        (t ∙ ap (λ l. out ++ l) (place_other rs i placed h (ap p (sym q) ∙ e) ∙ ap (λ x. x ∷ left_of p new placed (drop (i + 1) rs)) (sym q))) o

    pub put_first : (r : Held) (out' : List Held) → in_place p new rs ≡ out ++ left_of p new false (drop i rs) → r ≡ get_or rs i no_held → p r ≡ true → out' ≡ out ++ new ∷ []
        → in_place p new rs ≡ out' ++ left_of p new true (drop (i + 1) rs)
    put_first r out' t q e o =
        moved (in_place p new rs) out out' (left_of p new true (drop (i + 1) rs)) new (t ∙ ap (λ l. out ++ l) (place_first rs i h (ap p (sym q) ∙ e))) o

    pub put_later : (r : Held) → in_place p new rs ≡ out ++ left_of p new true (drop i rs) → r ≡ get_or rs i no_held → p r ≡ true → in_place p new rs ≡ out ++ left_of p new true (drop (i + 1) rs)
    put_later r t q e = t ∙ ap (λ l. out ++ l) (place_later rs i h (ap p (sym q) ∙ e))

  pub put_end : (rs out : List Held) (i : ℕ) (placed : Bool) → length rs ≤ i → in_place p new rs ≡ out ++ left_of p new placed (drop i rs) → out ≡ in_place p new rs
  put_end rs out i placed h t = sym (t ∙ ap (λ l. out ++ l) (place_end rs i placed h) ∙ append-nil out)

  -- what is put goes on with the new one
  pub goes_on : (rs out : List Held) (i : ℕ) → i < length rs → in_place p new rs ≡ out ++ left_of p new false (drop i rs) → p (get_or rs i no_held) ≡ true
      → in_place p new rs ≡ out ++ new ∷ left_of p new true (drop (i + 1) rs)
  goes_on rs out i h t e = t ∙ ap (λ l. out ++ l) (place_first rs i h e)

  -- or with the next read
  pub goes_over : (rs out : List Held) (i : ℕ) (placed : Bool) → i < length rs → in_place p new rs ≡ out ++ left_of p new placed (drop i rs) → p (get_or rs i no_held) ≡ false
      → in_place p new rs ≡ out ++ get_or rs i no_held ∷ left_of p new placed (drop (i + 1) rs)
  goes_over rs out i placed h t e = t ∙ ap (λ l. out ++ l) (place_other rs i placed h e)

  -- the room for the next read
  module _ (rs out rest : List Held) (next : Held) (t : in_place p new rs ≡ out ++ next ∷ rest) where
    pub room_few : length out < length rs
    room_few = let l = ap length t in omega (arith, placed_few rs, length-append out (next ∷ rest))

    pub room_counts : count_of new ≡ length (served (keep p rs)) → sum_by count_of out + count_of next ≤ sum_by count_of rs
    room_counts u =
        let z = sum_by-cons count_of next rest in
        let l = ap (sum_by count_of) t ∙ sum_by-append count_of out (next ∷ rest) in omega (arith, placed_sum rs, split_counts p rs)

-- one that passes has no more positions than all that pass
pub own_count : (p : Held → Bool) (rs : List Held) (i : ℕ) → i < length rs → p (get_or rs i no_held) ≡ true → length (get_or rs i no_held).serves ≤ length (served (keep p rs))
own_count p rs i h e =
    let a = split_counts p (drop i rs) in
    let k = ap (λ l. length (served l)) (kept_yes p rs i h e) ∙ ap length (served_more (get_or rs i no_held) (keep p (drop (i + 1) rs))) in
    omega (arith, length-append (get_or rs i no_held).serves (served (keep p (drop (i + 1) rs))), left_counts p rs i)
