-- A row of marks as a list, and the same row as a test of numbers.
-- Which number has the first mark comes out alike, and so does whether a type is linked to a mark.
-- Assumes nothing.
use Rattle.std.proofs.Common.{ℕ, zero, suc, ◌+◌, ◌-◌, ◌<◌, ◌≤◌, ◌≡◌, refl, sym, ap, ◌∙◌, Bool, true, false, cond, List, [], ◌∷◌, length, get_or, take, arith}
use lib.Seq.{length-take-le}
use Rattle.std.specs.Option.{is_some}
use borrow.Author.Tests.{ltb-true, ltb-false}
use lib.Dec.{ltb}
use mathlib.Core.Bool.{false≢true, true≢false}
use Rattle.std.specs.Prelude.{None, Option, Some}
use Rattle.std.specs.List.{position, position_or_len}
use Rattle.nesting.specs.declared.graph.Graph.{Graph}
use Rattle.nesting.specs.Graph.{is_set, linked, any_from, first_from, onward, listed}
use Rattle.nesting.specs.Marks.{reaches}
use Rattle.nesting.proofs.Ranges.{any-start, any_here, any-more, any-end}
use Rattle.nesting.proofs.Links.{onward-is, onward-not}

zero_left : (u : ℕ) → 0 + u ≡ u
zero_left u = omega arith

first-row : (p : ℕ → Bool) (xs : List Bool) (n i : ℕ) → n ≤ length xs → ((u : ℕ) → u < n → p (i + u) ≡ get_or xs u false)
    → i + position_or_len (λ (b : Bool). b) (take n xs) ≡ first_from p n i
unfolding first_from
first-row p xs zero i h f = omega arith
first-row p [] (suc n) i h f = absurd (omega arith)
first-row p (x ∷ xs) (suc n) i h f =
    let z : i + 0 ≡ i = omega arith in
    let r = first-row p xs n (i + 1) (omega arith) (λ u l. let w : i + 1 + u ≡ i + suc u = omega arith in rw w (f (suc u) (omega arith))) in
    let e : p i ≡ x = ap p (sym z) ∙ f 0 (omega arith) in
    rw e (go x r)
  where
    go : (b : Bool) → i + 1 + position_or_len (λ (b : Bool). b) (take n xs) ≡ first_from p n (i + 1)
        → i + position_or_len (λ (b : Bool). b) (b ∷ take n xs) ≡ cond b i (first_from p n (i + 1))
    go true r = omega arith
    go false r = let y : i + (1 + position_or_len (λ (b : Bool). b) (take n xs)) ≡ i + 1 + position_or_len (λ (b : Bool). b) (take n xs) = omega arith in y ∙ r

-- whether type `k` is linked to a mark: `u` is the first type left
module _ (g : Graph) (marks : List Bool) (k : ℕ) where
  -- what is left from type `u` on gives the whole
  abbrev pub Reaching : ℕ → Type 0
  Reaching u = any_from (onward (is_set marks) g.links k) (g.count - u) u ≡ reaches g marks k

  pub reaching-start : Reaching 0
  unfolding reaches
  reaching-start = any-start (onward (is_set marks) g.links k) g.count

  module _ (u : ℕ) (left : Reaching u) where
    pub reaching-here : u < g.count → linked g.links k u ≡ true → is_set marks u ≡ true → true ≡ reaches g marks k
    reaching-here h l m = sym (any_here (onward (is_set marks) g.links k) g.count u h (onward-is (is_set marks) g.links k u l ∙ m)) ∙ left

    pub reaching-unmarked : u < g.count → linked g.links k u ≡ true → is_set marks u ≡ false → Reaching (u + 1)
    reaching-unmarked h l m = sym (any-more (onward (is_set marks) g.links k) g.count u h (onward-is (is_set marks) g.links k u l ∙ m)) ∙ left

    pub reaching-unlinked : u < g.count → linked g.links k u ≡ false → Reaching (u + 1)
    reaching-unlinked h l = sym (any-more (onward (is_set marks) g.links k) g.count u h (onward-not (is_set marks) g.links k u l)) ∙ left

    pub reaching-end : g.count ≤ u → false ≡ reaches g marks k
    reaching-end h = sym (any-end (onward (is_set marks) g.links k) g.count u h) ∙ left

pub ruleset reaching = (reaching-start, reaching-here, reaching-unmarked, reaching-unlinked, reaching-end)

pub first_rows : (marks : List Bool) (n : ℕ) → n ≤ length marks → position (λ (b : Bool). b) (take n marks) ≡ listed n (first_from (is_set marks) n 0)
unfolding listed
first_rows marks n h =
    let e = sym (zero_left (position_or_len (λ (b : Bool). b) (take n marks))) ∙ first-row (is_set marks) marks n 0 h (λ u l. ap (is_set marks) (zero_left u)) in
    rw (length-take-le n marks h, e) refl

-- what was found, and that nothing was
pub listed-some : (n x : ℕ) → is_some (listed n x) ≡ true → x < n
unfolding listed
listed-some n x e = go (ltb x n) refl e
  where
    go : (b : Bool) → ltb x n ≡ b → is_some (cond b (Some x) None) ≡ true → x < n
    go true h q = ltb-true x n h
    go false h q = absurd (false≢true q)

pub listed-none : (n x : ℕ) → is_some (listed n x) ≡ false → n ≤ x
unfolding listed
listed-none n x e = go (ltb x n) refl e
  where
    go : (b : Bool) → ltb x n ≡ b → is_some (cond b (Some x) None) ≡ false → n ≤ x
    go false h q = ltb-false x n h
    go true h q = absurd (true≢false q)

-- by the words of the code: `r` is what was found, and `b` whether something was
pub found_within : (n x : ℕ) (r : Option ℕ) (b : Bool) → r ≡ listed n x → b ≡ is_some r → b ≡ true → x < n
found_within n x r b e g h = listed-some n x (sym (ap is_some e) ∙ sym g ∙ h)

pub found_none : (n x : ℕ) (r : Option ℕ) (b : Bool) → r ≡ listed n x → b ≡ is_some r → b ≡ false → n ≤ x
found_none n x r b e g h = listed-none n x (sym (ap is_some e) ∙ sym g ∙ h)
