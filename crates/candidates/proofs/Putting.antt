-- Positions gathered one by one, and groups put one behind the other, alone or several at once: what is left gives the whole. For the loops
-- that gather and put them. Assumes nothing.
use Prim.Native.Nat.{ℕ, ◌+◌, ◌≤◌, ◌<◌}
use native.Mathlib.Omega.{arith}
use mathlib.Core.Path.{◌≡◌, refl, sym, ap, subst, ◌∙◌}
use mathlib.Core.List.{List, [], ◌∷◌, ◌++◌, map, map-append, append-nil, append_assoc}
use lib.ListN.{length, length-append}
use Rattle.std.specs.List.{sum_by}
use Rattle.std.proofs.lemmas.List.Sums.{sum_by-append, sum_by-cons}
use Rattle.names.specs.Pieces.{joined}
use Rattle.candidates.specs.Columns.{Bunch}
use Rattle.candidates.specs.Groups.{served_count, Room}
use Rattle.candidates.proofs.Kept.{joined-append}

-- ---- positions

-- of the positions `all`, those of `done` were met before the place `k`, and those of `left` are still to be met
pub record Gathering (all done left : List ℕ) (k : ℕ) : Type 0 where
  pub few : length done ≤ k
  pub whole : done ++ left ≡ all

pub gathering-start : (all done left : List ℕ) (k : ℕ) → done ≡ [] → all ≡ left → Gathering all done left k
gathering-start all done left k e f = rw e (record { few = omega arith; whole = sym f })

module _ (all done left : List ℕ) (k : ℕ) (g : Gathering all done left k) where
  pub gathering-yes : (p : ℕ) (rest next : List ℕ) → left ≡ p ∷ rest → next ≡ done ++ p ∷ [] → Gathering all next rest (k + 1)
  gathering-yes p rest next e f =
      rw f (record {
        few = let n = length-append done (p ∷ []) in let m = g.few in omega arith;
        whole = append_assoc done (p ∷ []) rest ∙ ap (λ (l : List ℕ). done ++ l) (sym e) ∙ g.whole;
      })

  pub gathering-no : (rest : List ℕ) → left ≡ rest → Gathering all done rest (k + 1)
  gathering-no rest e = let m = g.few in record { few = omega arith; whole = ap (λ (l : List ℕ). done ++ l) (sym e) ∙ g.whole }

  pub gathering-end : left ≡ [] → done ≡ all
  gathering-end e = sym (append-nil done) ∙ ap (λ (l : List ℕ). done ++ l) (sym e) ∙ g.whole

-- ---- the positions of groups
abbrev pub served_by : List Bunch → List ℕ
served_by bs = joined (map (λ b. b.serves) bs)

pub served-append : (xs bs : List Bunch) → served_by (xs ++ bs) ≡ served_by xs ++ served_by bs
served-append xs bs = ap joined (map-append (λ (b : Bunch). b.serves) xs bs) ∙ joined-append (map (λ b. b.serves) xs) (map (λ b. b.serves) bs)

-- how many they are
pub served-sum : (bs : List Bunch) → sum_by served_count bs ≡ length (served_by bs)
unfolding joined
served-sum [] = refl
served-sum (b ∷ bs) = sum_by-cons served_count b bs ∙ ap (λ (n : ℕ). length b.serves + n) (served-sum bs) ∙ sym (length-append b.serves (served_by bs))

-- ---- groups

-- of the groups `all`, put behind `old`, those of `left` are still to be put behind `now`
pub record Putting (old all now left : List Bunch) : Type 0 where
  pub room : Room now left
  pub whole : now ++ left ≡ old ++ all

pub putting-start : (old all left : List Bunch) → all ≡ left → Room old all → Putting old all old left
putting-start old all left e r = record { room = subst (Room old) e r; whole = ap (λ (l : List Bunch). old ++ l) (sym e) }

module _ (old all now left : List Bunch) (m : Putting old all now left) where
  pub putting-as : (rest : List Bunch) → left ≡ rest → Putting old all now rest
  putting-as rest e = subst (Putting old all now) e m

  pub putting-end : left ≡ [] → now ≡ old ++ all
  putting-end e = sym (append-nil now) ∙ ap (λ (l : List Bunch). now ++ l) (sym e) ∙ m.whole

  -- some of them put
  module _ (xs rest : List Bunch) (e : left ≡ xs ++ rest) where
    both : length left ≡ length xs + length rest
    both = ap length e ∙ length-append xs rest

    both-served : sum_by served_count left ≡ sum_by served_count xs + sum_by served_count rest
    both-served = ap (sum_by served_count) e ∙ sum_by-append served_count xs rest

    -- the next ones have room
    pub putting-room : Room now xs
    putting-room = let r = m.room in let a = both in let b = both-served in record { groups = omega (arith, r.groups); served = omega (arith, r.served) }

    pub putting-more : (next : List Bunch) → next ≡ now ++ xs → Putting old all next rest
    putting-more next f =
        let r = m.room in
        let a = both in
        let b = both-served in
        rw f (record {
          room = record {
            groups = omega (arith, r.groups, length-append now xs);
            served = omega (arith, r.served, sum_by-append served_count now xs);
          };
          whole = append_assoc now xs rest ∙ ap (λ (l : List Bunch). now ++ l) (sym e) ∙ m.whole;
        })

  -- one of them
  module _ (b : Bunch) (rest : List Bunch) (e : left ≡ b ∷ rest) where
    -- one more group has a place, and its positions have room
    pub one-few : length now < 8448
    one-few = omega (arith, (putting-room (b ∷ []) rest e).groups)

    pub one-serves : (ps : List ℕ) → ps ≡ b.serves → sum_by served_count now + length ps ≤ 16640
    one-serves ps f = let r = putting-room (b ∷ []) rest e in omega (arith, ap length f, r.served, sum_by-cons served_count b [])

    pub one-put : (c : Bunch) (next : List Bunch) → next ≡ now ++ c ∷ [] → c ≡ b → Putting old all next rest
    one-put c next f q = putting-more (b ∷ []) rest e next (f ∙ ap (λ (x : Bunch). now ++ x ∷ []) q)
