-- The bytes of a part that is cut at the end of the file first, and that may end before it starts: they are those of the part itself.
-- Assumes nothing.
use Rattle.std.proofs.Common.{ℕ, ◌-◌, ◌≤◌, ◌≡◌, refl, sym, ap, ◌∙◌, Bool, true, false, List, length, drop, min, arith}
use Rattle.std.proofs.lemmas.List.{take_all}
use lib.ListN.{length-drop}
use lib.Dec.{leb}
use borrow.Author.Tests.{leb-true, leb-false}
use Rattle.fields.specs.Places.{part}
use Rattle.fields.proofs.Lists.{part_none}

-- past the end there are no more bytes
part-past : (s : List ℕ) (a e : ℕ) → length s ≤ e → part a e s ≡ part a (length s) s
part-past s a e h =
    let d = length-drop a s in
    take_all (e - a) (drop a s) (omega arith) ∙ sym (take_all (length s - a) (drop a s) (omega arith))

part-cut : (s : List ℕ) (a e : ℕ) → part a (min e (length s)) s ≡ part a e s
part-cut s a e = go (leb e (length s)) refl
  where
    go : (b : Bool) → leb e (length s) ≡ b → part a (min e (length s)) s ≡ part a e s
    go true t = let h = leb-true e (length s) t in let z : min e (length s) ≡ e = omega arith in ap (λ x. part a x s) z
    go false t = let h = leb-false e (length s) t in let z : min e (length s) ≡ length s = omega arith in ap (λ x. part a x s) z ∙ sym (part-past s a e (omega arith))

-- a part that would start behind its end has no bytes
part-late : (s : List ℕ) (a e : ℕ) → part (min a e) e s ≡ part a e s
part-late s a e = go (leb a e) refl
  where
    go : (b : Bool) → leb a e ≡ b → part (min a e) e s ≡ part a e s
    go true t = let h = leb-true a e t in let z : min a e ≡ a = omega arith in ap (λ x. part x e s) z
    go false t = let h = leb-false a e t in part_none s (min a e) e (omega arith) ∙ sym (part_none s a e (omega arith))

pub part-kept : (s : List ℕ) (a e : ℕ) → part (min a (min e (length s))) (min e (length s)) s ≡ part a e s
part-kept s a e = part-late s a (min e (length s)) ∙ part-cut s a e

pub ruleset parts = (part-kept)
