-- The table as it is made, and with one entry more: that entry is set, and every other stays.
-- Assumes nothing.
use Rattle.std.proofs.Common.{ℕ, ◌<◌, ◌≤◌, ◌≡◌, refl, arith, Bool, true, false, cond, List, length}
use lib.ListN.{set, get_or, replicate, get_or-replicate, get_or-eq_default, length-replicate}
use lib.Seq.{get_or-set_same, get_or-set_other}
use lib.Dec.{eqb, ltb}
use borrow.Author.Tests.{eqb-true, eqb-false, ltb-true, ltb-false}
use Rattle.std.specs.Prelude.{None, Option, Some, IsSome}
use Rattle.nesting.specs.declared.graph.Graph.{Graph}
use Rattle.nesting.specs.Graph.{is_set, Unlinked, Made}

pub set_one : (t : List Bool) (k j : ℕ) → k < length t → is_set (set t k true) j ≡ cond (eqb j k) true (is_set t j)
set_one t k j h = go (eqb j k) refl
  where
    go : (b : Bool) → eqb j k ≡ b → is_set (set t k true) j ≡ cond b true (is_set t j)
    go true e = rw (eqb-true j k e, get_or-set_same t k true false h) refl
    go false e = get_or-set_other t k j true false (eqb-false j k e)

-- ---- the table as it is made

-- what holds of each entry of a table that is all the same, and past its end, holds of any
pub blank : {A : Type 0} (n i : ℕ) (x d : A) (P : A → Type 0) → P x → P d → P (get_or (replicate n x) i d)
blank {A = A} n i x d P a b = go (ltb i n) refl
  where
    go : (t : Bool) → ltb i n ≡ t → P (get_or (replicate n x) i d)
    go true e = rw (get_or-replicate {A = A} n i x d (ltb-true i n e)) a
    go false e =
        let q : length (replicate {A = A} n x) ≤ i = rw (length-replicate {A = A} n x) (ltb-false i n e) in
        rw (get_or-eq_default (replicate {A = A} n x) d {n = i} q) b

pub making-none : (n : ℕ) (r : Option Graph) → r ≡ None → 128 < n → Made n r
making-none n r e h = rw e h

pub making-some : (n : ℕ) (g : Graph) (r : Option Graph) → r ≡ Some g → Unlinked n g → Made n r
making-some n g r e u = rw e u

-- a table for so many types as there may be
pub made-some : (n : ℕ) (r : Option Graph) → Made n r → n ≤ 128 → IsSome r
made-some n None m h = absurd (omega arith)
made-some n (Some g) m h = refl

pub made-is : (n : ℕ) (r : Option Graph) (g : Graph) → Made n r → r ≡ Some g → Unlinked n g
made-is n r g m e = rw e at m

pub ruleset making = (making-none, making-some)

-- for a caller whose types are no more than there may be
pub ruleset made = (made-some, made-is)
