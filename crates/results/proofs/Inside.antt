-- A cut stands inside the results file, so its place fits the four bytes that an entry has for it.
-- The bytes that the code puts for entries are then their layout.
-- Assumes nothing.
use Prim.Native.Nat.{ℕ, zero, suc, ◌≤◌}
use mathlib.Core.Path.{◌≡◌, refl, sym, ap, ap₂}
use mathlib.Core.Bool.{Bool}
use mathlib.Core.List.{List, [], ◌∷◌, ◌++◌}
use Rattle.std.specs.Prelude.{None, Option, Some}
use native.Mathlib.Omega.{arith}
use lib.Dec.{ltb, eqb}
use lib.ListN.{length}
use Rattle.fields.specs.Text.{Text, same, alike}
use Rattle.fields.specs.Options.{and_then, or_else}
use Rattle.fields.specs.Format.{All, leading, among, held_lay, many_lay, ◌then◌}
use Rattle.fields.specs.Fields.{numeric, number, choice, digits, text}
use Rattle.fields.specs.Places.{value_at, place_at}
use Rattle.fields.proofs.Lists.{cond-elim, all_append}
use Rattle.fields.proofs.LawfulFields.{lawful-text}
use Rattle.fields.proofs.Filling.{digits-fit}
use Rattle.plans.specs.Plans.{Step, named, indexed, first_of, Member, read}
use Rattle.values.specs.Alike.{kind_at, count_place}
use Rattle.values.specs.Dig.{any_value, count_at, first_place, item_places, name_places, find_name, member_place, item_place, step_place, dig_place}
use Rattle.results.specs.Results.{nothing, result_field}
use Rattle.results.specs.Sorting.{Entry, cut, retry, received, reply_by, cut_or, cut_from, entry_of, is_plain, entries_from, all_retry, other_entries, read_entries, entry_byte, cut_place, if_retry, if_received, after_entry, entry}
use Rattle.results.specs.Told.{shown, shown_bytes, laid, reply_at, pair_count, entries_at, all_entries}
use Rattle.results.proofs.Onward.{number-onward, text-onward, then-onward, value-onward, result-onward, status-onward, choice-onward, places-below, below_at}

-- ---- a walk stays below a bound that the file does not pass
abbrev Below : ℕ → Option ℕ → Type 0
Below b None = Unit {0}
Below b (Some q) = q ≤ b

below_then : (b : ℕ) (o : Option ℕ) (f : ℕ → Option ℕ) → Below b o → ((q : ℕ) → q ≤ b → Below b (f q)) → Below b (and_then o f)
unfolding and_then
below_then b None f h g = tt
below_then b (Some q) f h g = g q h

below-else : (b : ℕ) (x y : Option ℕ) → Below b x → Below b y → Below b (or_else x y)
unfolding or_else
below-else b None y h g = g
below-else b (Some q) y h g = h

module _ (s : List ℕ) (b : ℕ) (h : length s ≤ b) where
  first_below : (p : ℕ) → p ≤ b → first_place s p ≤ b
  unfolding first_place count_place
  first_below p l =
      let x = (number-onward 4 4294967295 s p).1 in
      let y = (choice-onward 3 s (place_at (number 4 4294967295) s p)).1 in
      let z = (number-onward 2 65535 s (place_at (choice 3) s (place_at (number 4 4294967295) s p))).1 in
      omega arith

  find-below : (t : Text → Bool) (ps : List ℕ) → All (λ x. x ≤ b) ps → Below b (find_name t s ps)
  unfolding find_name
  find-below t [] a = tt
  find-below t (p ∷ ps) a = cond-elim (Below b) (t (value_at (text 128) s p)) (λ _. a.0) (λ _. find-below t ps a.1)

  member_below : (p : ℕ) (t : Text) → p ≤ b → Below b (member_place s p t)
  unfolding member_place name_places
  member_below p t l =
      let a = places-below (text 128 then any_value) (then-onward (text 128) any_value (lawful-text 128) (text-onward 128) value-onward) (count_at s p) s (first_place s p) b h (first_below p l) in
      below_then b _ _
      (below-else b (find_name (same t) s (name_places s p)) (find_name (alike t) s (name_places s p)) (find-below (same t) (name_places s p) a) (find-below (alike t) (name_places s p) a))
      (λ q m. let x = (text-onward 128 s q).1 in omega arith)

  item-below : (p n : ℕ) → p ≤ b → Below b (item_place s p n)
  unfolding item_place item_places
  item-below p n l = cond-elim (Below b) (ltb n (count_at s p)) (λ _. below_at (item_places s p) n b (places-below any_value value-onward (count_at s p) s (first_place s p) b h (first_below p l))) (λ _. tt)

  step-below : (k : Step) (p : ℕ) → p ≤ b → Below b (step_place s k p)
  unfolding step_place
  step-below (named t) p l = cond-elim (Below b) (eqb (kind_at s p) 2) (λ _. member_below p t l) (λ _. tt)
  step-below (indexed n) p l = cond-elim (Below b) (eqb (kind_at s p) 1) (λ _. item-below p n l) (λ _. tt)
  step-below (first_of n) p l = cond-elim (Below b) (eqb (kind_at s p) 1) (λ _. item-below p n l) (λ _. tt)

  dig-below : (ks : List Step) (p : ℕ) → p ≤ b → Below b (dig_place s ks p)
  unfolding dig_place
  dig-below [] p l = l
  dig-below (k ∷ ks) p l = below_then b (step_place s k p) (dig_place s ks) (step-below k p l) (λ q m. dig-below ks q m)

-- ---- entries whose place fits
abbrev Small : Entry → Type 0
Small (cut q) = q ≤ 65536
Small retry = Unit {0}
Small received = Unit {0}

small_cut : (o : Option ℕ) → Below 65536 o → Small (cut_or o)
unfolding cut_or
small_cut None h = tt
small_cut (Some q) h = h

module _ (s : List ℕ) (h : length s ≤ 65536) where
  small-entry : (k at : ℕ) → at ≤ 65536 → (o : Option (List Step)) → Small (entry_of s (reply_by k at) o)
  unfolding entry_of cut_from reply_by
  small-entry k at l None = tt
  small-entry zero at l (Some ks) = small_cut (dig_place s ks at) (dig-below s 65536 h ks at l)
  small-entry (suc zero) at l (Some ks) = tt
  small-entry (suc (suc k)) at l (Some ks) = tt

  small-from : (k at : ℕ) → at ≤ 65536 → (ms : List Member) → All Small (entries_from s (reply_by k at) ms)
  unfolding entries_from
  small-from k at l [] = tt
  small-from k at l (m ∷ ms) = (small-entry k at l m.path, small-from k at l ms)

  small-lost : (ms : List Member) → All Small (all_retry ms)
  unfolding all_retry
  small-lost [] = tt
  small-lost (m ∷ ms) = (tt, small-lost ms)

  small-other : (k at : ℕ) → at ≤ 65536 → (ms : List Member) → All Small (other_entries s (reply_by k at) ms)
  unfolding other_entries reply_by
  small-other zero at l ms = small-from 0 at l ms
  small-other (suc zero) at l ms = small-lost ms
  small-other (suc (suc k)) at l ms = small-from (suc (suc k)) at l ms

  small-read : (k at : ℕ) → at ≤ 65536 → (ms : List Member) → All Small (read_entries s (reply_by k at) ms)
  unfolding read_entries
  small-read k at l ms = cond-elim (All Small) (is_plain ms) (λ _. (tt, tt)) (λ _. small-other k at l ms)

  small-entries : (plan : List ℕ) (n p q : ℕ) → q ≤ 65536 → All Small (entries_at n plan p s q)
  unfolding entries_at reply_at
  small-entries plan zero p q l = tt
  small-entries plan (suc n) p q l =
      let x = (status-onward s q).1 in
      let y = (result-onward s q).1 in
      all_append Small (read_entries s (reply_at s q) (value_at read plan p).members) (entries_at n plan (place_at read plan p) s (place_at result_field s q))
      (small-read (value_at (choice 2) s q) (place_at (choice 2) s q) (omega arith) (value_at read plan p).members)
      (small-entries plan n (place_at read plan p) (place_at result_field s q) (omega arith))

-- ---- the layout of entries
lay-entry : (e : Entry) → Small e → entry.lay e ≡ shown_bytes (shown e)
unfolding entry leading entry_byte after_entry among cut_place if_retry if_received held_lay nothing choice number numeric digits shown_bytes shown
lay-entry (cut q) h = ap (λ x. 0 ∷ x) (sym (digits-fit 4 q (omega arith)))
lay-entry retry h = refl
lay-entry received h = refl

lay-entries : (es : List Entry) → All Small es → many_lay entry es ≡ laid es
unfolding many_lay laid
lay-entries [] h = refl
lay-entries (e ∷ es) h = ap₂ ◌++◌ (lay-entry e h.0) (lay-entries es h.1)

pub laid-is : (plan s : List ℕ) → length s ≤ 65536 → many_lay entry (all_entries plan s) ≡ laid (all_entries plan s)
unfolding all_entries
laid-is plan s h =
    let x = (number-onward 2 65535 s 1).1 in
    lay-entries _ (small-entries s h plan (pair_count plan s) (place_at (number 2 256) plan 1) (place_at (number 2 65535) s 1) (omega arith))
