-- A plan of at most 65,536 bytes has less than 65,536 members, whatever the bytes: a member that is there takes two of them, and past
-- the end of the file a read has none.
-- Assumes nothing.
use Prim.Native.Nat.{ℕ, zero, suc, ◌+◌, ◌≤◌, ◌<◌, min}
use mathlib.Core.Path.{◌≡◌, refl, sym, ap, ◌∙◌}
use mathlib.Core.Bool.{Bool, true, false}
use mathlib.Core.List.{List}
use native.Mathlib.Omega.{arith}
use lib.Dec.{leb}
use lib.ListN.{length, take, drop, length-append}
use borrow.Author.Tests.{leb-true, leb-false}
use Rattle.fields.specs.Format.{many}
use Rattle.fields.specs.Fields.{whole, limited, number, text_past}
use Rattle.fields.specs.Places.{value_at, place_at}
use Rattle.fields.proofs.Lists.{drop_past}
use Rattle.fields.proofs.LawfulFields.{limited-max}
use Rattle.fields.proofs.Rows.{values_length, counted-place}
use Rattle.plans.specs.Plans.{member, members, read}
use Rattle.plans.proofs.Round.{lawful-member}
use Rattle.plans.proofs.Places.{read_past}
use Rattle.results.specs.Results.{result_field}
use Rattle.results.specs.Sorting.{read_entries}
use Rattle.results.specs.Told.{reply_at, pair_count, entries_at, all_entries}
use Rattle.results.proofs.Members.{members-at}
use Rattle.results.proofs.Onward.{text-past-onward, members-onward}
use Rattle.results.proofs.Turning.{length-read}

module _ (plan : List ℕ) where
  -- where the name of the read at `p` ends, how many members it has, and where they start
  abbrev named : ℕ → ℕ
  named p = text_past (drop p plan) p

  abbrev many-of : ℕ → ℕ
  many-of p = limited 256 (whole 2 (take 2 (drop (named p) plan)))

  abbrev start_of : ℕ → ℕ
  start_of p = named p + length (take 2 (drop (named p) plan))

  member-count : (p : ℕ) → length (value_at read plan p).members ≡ many-of p
  member-count p = sym (ap length (members-at plan p (named p) (many-of p) (start_of p) refl refl refl)) ∙ values_length member plan lawful-member (many-of p) (start_of p)

  read-end : (p : ℕ) → place_at read plan p ≡ place_at (many member (many-of p)) plan (start_of p)
  read-end p = sym (read_past plan p (named p) (place_at members plan (named p)) refl refl) ∙ counted-place member plan (named p) (many-of p) (start_of p) 2 256 (omega arith) refl refl

  -- a read that starts inside the file ends two bytes on for each member, or at the end
  read-onward : (p : ℕ) → (p ≤ place_at read plan p) × (min (p + length (value_at read plan p).members + length (value_at read plan p).members) (length plan) ≤ place_at read plan p) × (length (value_at read plan p).members ≤ 256)
  read-onward p =
      let c = member-count p in
      let e = read-end p in
      let t = (text-past-onward plan p).0 in
      let m = members-onward (many-of p) plan (start_of p) in
      let m0 = m.0 in
      let m1 = m.1 in
      let l = limited-max 256 (whole 2 (take 2 (drop (named p) plan))) in
      (omega arith, omega arith, omega arith)

  -- past the end a read has no members
  none-past : (p : ℕ) → length plan ≤ p → length (value_at read plan p).members ≡ 0
  unfolding limited whole
  none-past p h = let t = (text-past-onward plan p).0 in member-count p ∙ rw (drop_past plan (named p) (omega arith))

  module _ (s : List ℕ) where
    length-next : (n p q : ℕ) → length (entries_at (suc n) plan p s q) ≡ length (value_at read plan p).members + length (entries_at n plan (place_at read plan p) s (place_at result_field s q))
    unfolding entries_at reply_at
    length-next n p q =
        length-append (read_entries s (reply_at s q) (value_at read plan p).members) (entries_at n plan (place_at read plan p) s (place_at result_field s q))
        ∙ ap (λ k. k + length (entries_at n plan (place_at read plan p) s (place_at result_field s q))) (length-read s (place_at _ s q) (value_at _ s q) (value_at read plan p).members)

    entries-past : (n p q : ℕ) → length plan ≤ p → length (entries_at n plan p s q) ≡ 0
    unfolding entries_at
    entries-past zero p q h = refl
    entries-past (suc n) p q h =
        let a = length-next n p q in
        let b = none-past p h in
        let o = (read-onward p).0 in
        let c = entries-past n (place_at read plan p) (place_at result_field s q) (omega arith) in
        omega arith

    entries-few : (n p q : ℕ) → length (entries_at n plan p s q) + length (entries_at n plan p s q) + min p (length plan) ≤ length plan + 512
    unfolding entries_at
    entries-few zero p q = omega arith
    entries-few (suc n) p q = split (leb (length plan) (place_at read plan p)) refl (entries-few n (place_at read plan p) (place_at result_field s q))
      where
        split : (b : Bool) → leb (length plan) (place_at read plan p) ≡ b
            → length (entries_at n plan (place_at read plan p) s (place_at result_field s q)) + length (entries_at n plan (place_at read plan p) s (place_at result_field s q)) + min (place_at read plan p) (length plan) ≤ length plan + 512
            → length (entries_at (suc n) plan p s q) + length (entries_at (suc n) plan p s q) + min p (length plan) ≤ length plan + 512
        split true e r =
            let h = leb-true (length plan) (place_at read plan p) e in
            let a = length-next n p q in
            let c = entries-past n (place_at read plan p) (place_at result_field s q) h in
            let o = read-onward p in
            let o2 = o.2 in
            omega arith
        split false e r =
            let h = leb-false (length plan) (place_at read plan p) e in
            let a = length-next n p q in
            let o = read-onward p in
            let o0 = o.0 in
            let o1 = o.1 in
            omega arith

    pub few-entries : length plan ≤ 65536 → length (all_entries plan s) < 65536
    unfolding all_entries
    few-entries h = let f = entries-few (pair_count plan s) (place_at (number 2 256) plan 1) (place_at (number 2 65535) s 1) in omega arith
