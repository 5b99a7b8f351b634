-- Where a scan ends: as many places on as bytes pass in a row, which is what a chain of iterators counts.
-- Assumes nothing.
use mathlib.Core.Path.{◌≡◌, refl, ◌∙◌}
use mathlib.Core.Bool.{Bool, true, false, cond}
use mathlib.Core.List.{[], ◌∷◌}
use Prim.Native.Nat.{ℕ, suc, ◌+◌, ◌-◌, ◌≤◌, ◌<◌}
use native.Mathlib.Omega.{arith}
use lib.ListN.{length, take, drop, get_or, length-drop}
use Rattle.std.proofs.Common.{min}
use Rattle.std.proofs.lemmas.List.{drop_min, take_all}
use Rattle.std.specs.List.{prefix_len}
use Rattle.fields.specs.Text.{Text}
use Rattle.fields.specs.Places.{scan}
use Rattle.names.specs.Name.{is_letter, is_name_byte, name_length}

-- a scan goes on over what passes
pub scan_prefix : (f : ℕ → Bool) (s : Text) (i : ℕ) → scan f s i ≡ i + prefix_len f s
unfolding scan
scan_prefix f [] i = omega arith
scan_prefix f (b ∷ r) i = go (f b) (scan_prefix f r (i + 1))
  where
    go : (x : Bool) → scan f r (i + 1) ≡ i + 1 + prefix_len f r → cond x (scan f r (i + 1)) i ≡ i + cond x (1 + prefix_len f r) 0
    go true h = omega arith
    go false h = omega arith

-- which is within what is left
pub prefix_within : (f : ℕ → Bool) (s : Text) → prefix_len f s ≤ length s
prefix_within f [] = omega arith
prefix_within f (b ∷ r) = go (f b) (prefix_within f r)
  where
    go : (x : Bool) → prefix_len f r ≤ length r → cond x (1 + prefix_len f r) 0 ≤ suc (length r)
    go true h = omega arith
    go false h = omega arith

pub prefix_from : (f : ℕ → Bool) (s : Text) (i : ℕ) → prefix_len f (drop i s) ≤ length s - i
prefix_from f s i = let h = prefix_within f (drop i s) in let l = length-drop i s in omega arith

pub ruleset scan_laws = (scan_prefix, prefix_from)

-- what is left from a place on, cut at the end first
pub rest_cut : (s : Text) (i : ℕ) → take (length s - min i (length s)) (drop (min i (length s)) s) ≡ drop i s
rest_cut s i = let l = length-drop (min i (length s)) s in take_all (length s - min i (length s)) (drop (min i (length s)) s) (omega arith) ∙ drop_min i s

pub ruleset rest_laws = (rest_cut)

-- a name goes on over the bytes of a name, from a letter on
pub length_none : (t : Text) → length t < 1 → name_length t ≡ 0
unfolding name_length
length_none [] h = refl
length_none (b ∷ r) h = absurd (omega arith)

pub length_other : (t : Text) → is_letter (get_or t 0 0) ≡ false → name_length t ≡ 0
unfolding name_length
length_other [] e = refl
length_other (b ∷ r) e = rw e

pub length_prefix : (t : Text) → is_letter (get_or t 0 0) ≡ true → 0 < length t → name_length t ≡ prefix_len is_name_byte t
unfolding name_length is_name_byte
length_prefix [] e h = absurd (omega arith)
length_prefix (b ∷ r) e h = let p = scan_prefix is_name_byte r 1 in rw e p

pub ruleset length_laws = (length_none, length_other, length_prefix)
