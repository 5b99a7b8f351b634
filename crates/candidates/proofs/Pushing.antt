-- A table with one group more: the rows before it tell the same groups.
use Rattle.std.proofs.Common.{◌≡◌, ◌+◌, ◌-◌, ◌<◌, ◌≤◌, ℕ, List, [], ◌∷◌, ◌++◌, length, take, drop, map, set, refl, sym, ap, ap₂, ◌∙◌, arith}
use borrow.Rule.Slice.PartMut.{put_mid}
use Rattle.std.specs.List.{between}
use Rattle.std.proofs.lemmas.Slice.{between_is, between-put_mid, take-put_mid_below}
use Rattle.std.proofs.lemmas.List.{take_more_set, take-take, map-append}
use Rattle.fields.specs.Format.{All}
use Rattle.fields.proofs.Lists.{all_append, all-weaken}
use Rattle.candidates.specs.declared.table.Entry.{Entry}
use Rattle.candidates.specs.Groups.{bunch_in, bunch_with}

module _ (members members' : List ℕ) (used : ℕ) (e : take used members' ≡ take used members) where
  same-front : (n : ℕ) → n ≤ used → take n members' ≡ take n members
  same-front n h = sym (take-take n used members' h) ∙ ap (take n) e ∙ take-take n used members h

  -- the rows before a place are told by the positions before it
  pub same-rows : (rows : List Entry) → All (λ row. row.to ≤ used) rows → map (bunch_in members') rows ≡ map (bunch_in members) rows
  same-rows [] h = refl
  same-rows (r ∷ rows) h =
      ap₂ (λ x y. x ∷ y)
      (ap (bunch_with r.group) (between_is members' r.from r.to ∙ ap (drop r.from) (same-front r.to h.0) ∙ sym (between_is members r.from r.to)))
      (same-rows rows h.1)

module _ (members serves : List ℕ) (used k : ℕ) (rows : List Entry) (count : ℕ) (row : Entry) (b : count < length rows) (h : All (λ row. row.to ≤ used) (take count rows))
    (t : row.to ≡ used + length serves) where
  pub pushed : used ≤ length members → row.from ≡ used → k ≡ row.to - used
      → map (bunch_in (put_mid used k members serves)) (take (count + 1) (set rows count row))
      ≡ map (bunch_in members) (take count rows) ++ bunch_with row.group serves ∷ []
  pushed a f n =
      let members' : List ℕ = put_mid used k members serves in
      ap (map (bunch_in members')) (take_more_set rows count row b)
      ∙ map-append (bunch_in members') (take count rows) (row ∷ [])
      ∙ ap₂ (λ x y. x ++ y ∷ []) (same-rows members members' used (take-put_mid_below used k members serves used (omega arith) a) (take count rows) h)
      (ap (bunch_with row.group) (ap (λ x. between x row.to members') f ∙ between-put_mid used k members serves row.to a (omega arith)))

  pub pushed-within : All (λ row. row.to ≤ used + length serves) (take (count + 1) (set rows count row))
  pushed-within =
      rw (take_more_set rows count row b)
      (all_append (λ (row : Entry). row.to ≤ used + length serves) (take count rows) (row ∷ [])
      (all-weaken (λ row. row.to ≤ used) (λ row. row.to ≤ used + length serves) (take count rows) (λ row k. omega arith) h) (omega arith, tt))
