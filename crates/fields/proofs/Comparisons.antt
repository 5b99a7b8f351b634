-- What std answers when it compares texts is what the definitions say: `==`, `eq_ignore_ascii_case` and `<` on slices of bytes.
-- `compared` is the ruleset of a function that compares in std's way and answers `same`, `alike` or `earlier`.
-- Assumes nothing.
use mathlib.Core.Path.{◌≡◌, refl, sym, ap₂, ◌∙◌}
use mathlib.Core.Bool.{Bool, true, false, cond, ◌&&◌, ◌||◌}
use mathlib.Core.List.{List, [], ◌∷◌, map}
use Prim.Native.Nat.{ℕ}
use native.Mathlib.Omega.{arith}
use lib.Dec.{eqb}
use Rattle.std.specs.Prelude.{Some}
use Rattle.std.specs.Char.{to_ascii_lowercase}
use Rattle.std.specs.Str.{bytes_eq}
use Rattle.std.specs.List.{list_any}
use Rattle.std.specs.Ordering.{nat_cmp, is_lt, is_some_and}
use Rattle.std.specs.Cmp.Lexicographic.{slice_partial_cmp}
use Rattle.std.proofs.lemmas.Bool.Decides.{nat_tests}
use Rattle.std.proofs.lemmas.Cmp.{same_from_slice_cmp_tested}
use Rattle.fields.specs.Text.{between, lower, lowered, same, alike, earlier}
use Rattle.fields.proofs.Texts.{same_refl, same-is}

-- `==`
pub bytes_same : (a b : List ℕ) → bytes_eq a b ≡ same a b
unfolding same
bytes_same [] [] = refl
bytes_same [] (y ∷ t) = refl
bytes_same (x ∷ s) [] = refl
bytes_same (x ∷ s) (y ∷ t) = split (eqb x y) (bytes_same s t)
  where
    split : (b : Bool) → bytes_eq s t ≡ same s t → (b && bytes_eq s t) ≡ cond b (same s t) false
    split true e = e
    split false e = refl

-- one text among several
pub any_bytes : (a : List ℕ) (l : List (List ℕ)) → list_any (bytes_eq a) l ≡ list_any (same a) l
any_bytes a [] = refl
any_bytes a (b ∷ r) = ap₂ (λ (x y : Bool). x || y) (bytes_same a b) (any_bytes a r)

-- `eq_ignore_ascii_case`
lower_same : (b : ℕ) → lower b ≡ to_ascii_lowercase b
unfolding lower between
lower_same b = grind (arith, nat_tests)

pub lowered_map : (s : List ℕ) → map to_ascii_lowercase s ≡ lowered s
unfolding lowered
lowered_map [] = refl
lowered_map (b ∷ r) = ap₂ (λ (h : ℕ) (l : List ℕ). h ∷ l) (sym (lower_same b)) (lowered_map r)

pub alike_true : (a b : List ℕ) → map to_ascii_lowercase a ≡ map to_ascii_lowercase b → alike a b ≡ true
unfolding alike
alike_true a b e = rw (sym (lowered_map a) ∙ e ∙ lowered_map b) (same_refl (lowered b))

pub alike_map : (a b : List ℕ) → alike a b ≡ true → map to_ascii_lowercase a ≡ map to_ascii_lowercase b
unfolding alike
alike_map a b e = lowered_map a ∙ same-is (lowered a) (lowered b) e ∙ sym (lowered_map b)

-- `<`
pub earlier_less : (a b : List ℕ) → is_some_and is_lt (slice_partial_cmp (λ x y. Some (nat_cmp x y)) a b) ≡ earlier a b
unfolding earlier
earlier_less a b = same_from_slice_cmp_tested nat_cmp is_lt earlier refl (λ _ _. refl) (λ _ _. refl) (λ x y xs ys o h. grind (arith, nat_tests)) a b _ refl

pub ruleset compared = (bytes_same, any_bytes, alike_true, alike_map, earlier_less)
