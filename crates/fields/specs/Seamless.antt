-- What stands behind a field: of every format that files are made of, what is left is the file from the place told on.
-- So a reader may go on by the place alone. The trait `Field` asks this of each of its kinds, and here it is shown.
-- Assumes nothing.
use mathlib.Core.Path.{◌≡◌, refl, sym, ap, ◌∙◌}
use mathlib.Core.List.{List, [], ◌∷◌}
use Prim.Native.Nat.{ℕ, zero, suc, ◌+◌}
use lib.ListN.{length, take, drop}
use Rattle.std.proofs.Common.{drop-drop}
use Rattle.fields.specs.Format.{Format, joined, onward, ◌then◌, leading, given, many_read, many, held_read, held, mapped, among}
use Rattle.fields.specs.Fields.{numeric, number, choice, text_past, text_rest, text, indexed_text, counted, optional}
use Rattle.std.specs.Prelude.{Option}
use Rattle.fields.specs.declared.Refusal.{Refusal}

-- what is left is the file from the place told on
pub record Seamless {A : Type 0} (f : Format A) : Type 0 where
  pub along : (s : List ℕ) (i : ℕ) → (f.read (drop i s) i).rest ≡ drop (f.read (drop i s) i).place s

-- dropping as many as could be taken
there : (n : ℕ) (l : List ℕ) → drop n l ≡ drop (length (take n l)) l
there zero l = refl
there (suc n) [] = refl
there (suc n) (b ∷ r) = there n r

-- the same from a place of a file on
behind : (n i : ℕ) (s : List ℕ) → drop n (drop i s) ≡ drop (i + length (take n (drop i s))) s
behind n i s = there n (drop i s) ∙ drop-drop (length (take n (drop i s))) i s

-- behind a number with a refusal of its own
pub seamless_numeric : (w : ℕ) (over : ℕ → Refusal) (max : ℕ) → Seamless (numeric w over max)
unfolding numeric
seamless_numeric w over max = record { along = λ s i. behind w i s }

-- behind a number
pub seamless_number : (w max : ℕ) → Seamless (number w max)
unfolding number
seamless_number w max = seamless_numeric w _ max

-- behind a byte that chooses
pub seamless_choice : (max : ℕ) → Seamless (choice max)
unfolding choice
seamless_choice max = seamless_numeric 1 _ max

-- what is left behind a text at a place
text_behind : (l s : List ℕ) (i : ℕ) → drop i s ≡ l → text_rest l ≡ drop (text_past l i) s
unfolding text_rest text_past
text_behind [] s i e = sym e
text_behind (n ∷ r) s i e =
    let d : drop (i + 1) s ≡ r = sym (drop-drop 1 i s) ∙ ap (drop 1) e in
    let h = behind n (i + 1) s in rw d at h

-- behind a text
pub seamless_text : (max : ℕ) → Seamless (text max)
unfolding text
seamless_text max = record { along = λ s i. text_behind (drop i s) s i refl }

-- behind a text whose indexes have a limit
pub seamless_indexed_text : (max most : ℕ) → Seamless (indexed_text max most)
unfolding indexed_text
seamless_indexed_text max most = record { along = λ s i. text_behind (drop i s) s i refl }

-- behind two fields in a row
pub seamless_then : {A B : Type 0} (f : Format A) (g : Format B) → Seamless f → Seamless g → Seamless (f then g)
unfolding ◌then◌ onward joined
seamless_then f g F G = record { along = λ s i. rw (F.along s i) (G.along s (f.read (drop i s) i).place) }

-- behind a field and what it says that follows
pub seamless_leading : {A B : Type 0} (f : Format A) (key : B → A) (g : A → Format B) → Seamless f → ((a : A) → Seamless (g a)) → Seamless (leading f key g)
unfolding leading onward joined
seamless_leading f key g F G = record { along = λ s i. rw (F.along s i) ((G (f.read (drop i s) i).value).along s (f.read (drop i s) i).place) }

-- behind the same bytes for another type of value
pub seamless_mapped : {A B : Type 0} (to : A → B) (from : B → A) (f : Format A) → Seamless f → Seamless (mapped to from f)
unfolding mapped
seamless_mapped to from f F = record { along = F.along }

-- behind one kind of value among several
pub seamless_among : {A B : Type 0} (to : A → B) (from : B → Option A) (f : Format A) → Seamless f → Seamless (among to from f)
unfolding among
seamless_among to from f F = record { along = F.along }

module _ {A : Type 0} (f : Format A) (F : Seamless f) where
  -- what is left behind fields in a row
  many_along : (n : ℕ) (s : List ℕ) (i : ℕ) → (many_read f n (drop i s) i).rest ≡ drop (many_read f n (drop i s) i).place s
  unfolding many_read onward joined given
  many_along zero s i = refl
  many_along (suc n) s i = rw (F.along s i) (many_along n s (f.read (drop i s) i).place)

  -- behind fields in a row
  pub seamless_many : (n : ℕ) → Seamless (many f n)
  unfolding many
  seamless_many n = record { along = many_along n }

  -- what is left behind a field that may be missing
  held_along : (n : ℕ) (s : List ℕ) (i : ℕ) → (held_read f n (drop i s) i).rest ≡ drop (held_read f n (drop i s) i).place s
  unfolding held_read mapped given
  held_along zero s i = refl
  held_along (suc n) s i = F.along s i

  -- behind a field that may be missing
  pub seamless_held : (n : ℕ) → Seamless (held f n)
  unfolding held
  seamless_held n = record { along = held_along n }

  -- behind a count and so many fields
  pub seamless_counted : (w max : ℕ) → Seamless (counted w max f)
  unfolding counted
  seamless_counted w max = seamless_leading (number w max) length (many f) (seamless_number w max) seamless_many

  -- behind a flag and the field that it tells
  pub seamless_optional : Seamless (optional f)
  unfolding optional
  seamless_optional = seamless_leading (choice 1) _ (held f) (seamless_choice 1) seamless_held
