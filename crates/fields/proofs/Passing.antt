-- Fields are passed and walked by their places alone: one law for each kind of field, and one for rows, counts and flags.
-- Assumes nothing.
use mathlib.Core.Path.{◌≡◌, refl, ap, ◌∙◌}
use mathlib.Core.List.{List, [], ◌∷◌}
use Prim.Native.Nat.{ℕ, zero, suc, ◌+◌, ◌-◌, ◌≤◌, ◌<◌}
use native.Mathlib.Omega.{arith}
use lib.ListN.{length, take, drop}
use Rattle.fields.specs.Format.{Format, joined, onward, leading, many_read, many, held, flag_of}
use Rattle.fields.specs.Fields.{number, choice, counted, optional, whole, limited, text_of, text_past}
use Rattle.fields.specs.Places.{check_at, value_at, place_at, places_from, texts_from}
use Rattle.fields.specs.Seamless.{Seamless, seamless_number, seamless_choice}
use Rattle.fields.proofs.Chains.{next, row_checks, onward-next, held_none, held-some}
use Rattle.fields.proofs.Reading.{number-value, number-place, choice-value, choice-place, text-place, indexed-text-place, many-place-none, held-place-none, held-place-some}

pub ruleset passed = (number-place, choice-place, text-place, indexed-text-place)

-- ---- rows
module _ {A : Type 0} (f : Format A) (s : List ℕ) (i : ℕ) where
  many-passed : (n : ℕ) → Seamless f → place_at (many f (suc n)) s i ≡ place_at (many f n) s (place_at f s i)
  unfolding many many_read onward joined place_at
  many-passed n F = ap (λ l. (many_read f n l (f.read (drop i s) i).place).place) (F.along s i)

  -- `k` of `n` are passed
  pub past_onward : (n k : ℕ) → Seamless f → k < n → place_at (many f (n - k)) s i ≡ place_at (many f (n - (k + 1))) s (place_at f s i)
  past_onward n k F h = let z : n - k ≡ suc (n - (k + 1)) = omega arith in rw z (many-passed (n - (k + 1)) F)

  pub past_done : (n k : ℕ) → n ≤ k → place_at (many f (n - k)) s i ≡ i
  past_done n k h = many-place-none f s i (n - k) (omega arith)

pub ruleset rows = (past_onward, past_done)

-- ---- a field that says what follows it
module _ {A B : Type 0} (f : Format A) (key : B → A) (g : A → Format B) (s : List ℕ) (i : ℕ) (F : Seamless f) where
  leading-checked : check_at (leading f key g) s i ≡ next (check_at f s i) (λ q. check_at (g (value_at f s i)) s q)
  unfolding leading check_at value_at
  leading-checked = onward-next _ (f.read (drop i s) i) (λ a. (g a).read) s (F.along s i)

  leading-passed : place_at (leading f key g) s i ≡ place_at (g (value_at f s i)) s (place_at f s i)
  unfolding leading onward joined value_at place_at
  leading-passed = ap (λ l. ((g (f.read (drop i s) i).value).read l (f.read (drop i s) i).place).place) (F.along s i)

module _ {A : Type 0} (f : Format A) (s : List ℕ) (i : ℕ) where
  pub counted_checked : (w max : ℕ) → check_at (counted w max f) s i ≡ next (check_at (number w max) s i) (λ q. check_at (many f (limited max (whole w (take w (drop i s))))) s q)
  unfolding counted
  counted_checked w max =
      leading-checked (number w max) length (many f) s i (seamless_number w max)
      ∙ ap (λ n. next (check_at (number w max) s i) (λ q. check_at (many f n) s q)) (number-value s i max w)

  pub counted_passed : (w max : ℕ) → place_at (counted w max f) s i ≡ place_at (many f (limited max (whole w (take w (drop i s))))) s (i + length (take w (drop i s)))
  unfolding counted
  counted_passed w max =
      leading-passed (number w max) length (many f) s i (seamless_number w max)
      ∙ ap (λ n. place_at (many f n) s (place_at (number w max) s i)) (number-value s i max w)
      ∙ ap (λ p. place_at (many f (limited max (whole w (take w (drop i s))))) s p) (number-place s i max w)

  pub optional_checked : check_at (optional f) s i ≡ next (check_at (choice 1) s i) (λ q. check_at (held f (limited 1 (whole 1 (take 1 (drop i s))))) s q)
  unfolding optional
  optional_checked =
      leading-checked (choice 1) flag_of (held f) s i (seamless_choice 1)
      ∙ ap (λ n. next (check_at (choice 1) s i) (λ q. check_at (held f n) s q)) (choice-value s i 1)

  pub optional_passed : place_at (optional f) s i ≡ place_at (held f (limited 1 (whole 1 (take 1 (drop i s))))) s (i + length (take 1 (drop i s)))
  unfolding optional
  optional_passed =
      leading-passed (choice 1) flag_of (held f) s i (seamless_choice 1)
      ∙ ap (λ n. place_at (held f n) s (place_at (choice 1) s i)) (choice-value s i 1)
      ∙ ap (λ p. place_at (held f (limited 1 (whole 1 (take 1 (drop i s))))) s p) (choice-place s i 1)

pub ruleset counts = (counted_checked, counted_passed)

pub ruleset flags = (optional_checked, optional_passed, held_none, held-some, held-place-none, held-place-some)

-- ---- places and texts in a row
module _ (s : List ℕ) (i : ℕ) where
  pub places_done : {A : Type 0} (f : Format A) (n : ℕ) → n ≡ 0 → places_from f n s i ≡ []
  unfolding places_from
  places_done f zero e = refl
  places_done f (suc n) e = absurd (omega arith)

  pub places_onward : {A : Type 0} (f : Format A) (n : ℕ) → 0 < n → places_from f n s i ≡ i ∷ places_from f (n - 1) s (place_at f s i)
  unfolding places_from
  places_onward f zero h = absurd (omega arith)
  places_onward f (suc n) h = let z : suc n - 1 ≡ n = omega arith in rw z

  pub texts_done : (n : ℕ) → n ≡ 0 → texts_from n s i ≡ []
  unfolding texts_from
  texts_done zero e = refl
  texts_done (suc n) e = absurd (omega arith)

  pub texts_onward : (n : ℕ) → 0 < n → texts_from n s i ≡ text_of (drop i s) ∷ texts_from (n - 1) s (text_past (drop i s) i)
  unfolding texts_from
  texts_onward zero h = absurd (omega arith)
  texts_onward (suc n) h = let z : suc n - 1 ≡ n = omega arith in rw z

pub ruleset places = (places_done, places_onward, texts_done, texts_onward)
