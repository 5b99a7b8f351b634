-- No tag of a list stands past the end of its file, and no row of a table of those that are looked at past the longest list.
-- Assumes nothing.
use Prim.Native.Nat.{ℕ, zero, suc, ◌+◌, ◌-◌, ◌^◌, ◌≤◌, ◌<◌}
use mathlib.Core.Path.{◌≡◌, refl, sym, subst}
use mathlib.Core.List.{List, [], ◌∷◌, map}
use native.Mathlib.Omega.{arith}
use lib.ListN.{length, take, drop, get_or, length-take, length-drop}
use Rattle.fields.specs.Format.{Format, many, fine, All}
use Rattle.fields.specs.Fields.{number, text, text_past, counted, whole, limited}
use Rattle.fields.specs.Places.{value_at, place_at, places_from}
use Rattle.fields.proofs.Lists.{Bytes}
use Rattle.fields.proofs.Lawful.{Lawful}
use Rattle.fields.proofs.LawfulFields.{lawful-text}
use Rattle.fields.proofs.Reading.{many-place-none, many-place-more, number-place, text-place}
use Rattle.fields.proofs.Rows.{counted-place}
use Rattle.lists.specs.Lists.{tag, longest_list, list_verdict}
use Rattle.lists.specs.Access.{budget_place, no_group_place, together_place, tags_place, tag_places}
use Rattle.lists.proofs.Places.{tag-alike}
use Rattle.lists.proofs.Round.{list-accepted}
use Rattle.considered.specs.declared.tags.Tag.{Tag}
use Rattle.considered.specs.Seen.{place_in}

-- a field that starts inside a file of `b` bytes or at its end does not end past it
abbrev Inside : {A : Type 0} → Format A → Type 0
Inside f = (s : List ℕ) (b i : ℕ) → length s ≤ b → i ≤ b → place_at f s i ≤ b

number-inside : (w most : ℕ) → Inside (number w most)
number-inside w most s b i l h =
    let e = number-place s i most w in
    let a = length-take w (drop i s) in
    let d = length-drop i s in
    omega arith

text-past : (t : List ℕ) (i : ℕ) → text_past t i ≤ i + length t
unfolding text_past
text-past [] i = omega arith
text-past (n ∷ r) i = let a = length-take n r in omega arith

text-inside : (most : ℕ) → Inside (text most)
text-inside most s b i l h =
    let e = text-place s i most in
    let a = text-past (drop i s) i in
    let d = length-drop i s in
    omega arith

tag-inside : Inside tag
tag-inside s b i l h = let e = tag-alike s 128 i in let a = text-inside 128 s b i l h in omega arith

many-inside : {A : Type 0} (f : Format A) → Lawful f → Inside f → (n : ℕ) → Inside (many f n)
many-inside f F a zero s b i l h = rw (many-place-none f s i 0 (omega arith)) h
many-inside f F a (suc n) s b i l h =
    let z : suc n - 1 ≡ n = omega arith in
    rw (many-place-more f s i (suc n) F (omega arith), z) (many-inside f F a n s b (place_at f s i) l (a s b i l h))

places-inside : (n : ℕ) (s : List ℕ) (b at i : ℕ) → length s ≤ b → at ≤ b → get_or (places_from tag n s at) i 0 ≤ b
unfolding places_from
places-inside zero s b at i l h = omega arith
places-inside (suc n) s b at zero l h = h
places-inside (suc n) s b at (suc i) l h = places-inside n s b (place_at tag s at) i l (tag-inside s b at l h)

counted-inside : {A : Type 0} (f : Format A) → Lawful f → Inside f → (w most : ℕ) → most < 256 ^ w → Inside (counted w most f)
counted-inside f F a w most m s b i l h =
    let x = length-take w (drop i s) in
    let y = length-drop i s in
    rw (counted-place f s i (limited most (whole w (take w (drop i s)))) (i + length (take w (drop i s))) w most m refl refl)
    (many-inside f F a (limited most (whole w (take w (drop i s)))) s b (i + length (take w (drop i s))) l (omega arith))

pub place_inside : (s : List ℕ) (b i : ℕ) → length s ≤ b → 1 ≤ b → get_or (tag_places s) i 0 ≤ b
unfolding tag_places tags_place together_place no_group_place budget_place
place_inside s b i l h =
    let p = number-inside 4 4294967295 s b 1 l h in
    let q = number-inside 2 65535 s b (budget_place s) l p in
    let r = counted-inside (text 136) (lawful-text 136) (text-inside 136) 2 256 (omega arith) s b (no_group_place s) l q in
    let t = counted-inside (text 128) (lawful-text 128) (text-inside 128) 2 64 (omega arith) s b (together_place s) l r in
    let u = number-inside 2 256 s b (tags_place s) l t in
    places-inside (value_at (number 2 256) s (tags_place s)) s b (place_at (number 2 256) s (tags_place s)) i l u

-- ---- rows of tags
near-all : (b : ℕ) (ps : List ℕ) (tags : List Tag) → map place_in tags ≡ ps → ((i : ℕ) → get_or ps i 0 ≤ b) → All (λ (t : Tag). t.place ≤ b) tags
near-all b ps [] e h = tt
near-all b ps (t ∷ ts) e h =
    let near : (i : ℕ) → get_or (map place_in (t ∷ ts)) i 0 ≤ b = λ i. subst (λ l. get_or l i 0 ≤ b) (sym e) (h i) in
    (near 0, near-all b (map place_in ts) ts refl (λ i. near (suc i)))

-- rows that stand where the tags of an accepted list do stand no further than the longest list is long
pub tags-near : (list : List ℕ) (tags : List Tag) → Bytes list → list_verdict list ≡ fine → map place_in tags ≡ tag_places list → All (λ (t : Tag). t.place ≤ longest_list) tags
tags-near list tags b e m = near-all longest_list (tag_places list) tags m (λ i. place_inside list longest_list i (list-accepted list b e).2 (omega arith))
