-- A merge of the table is the planner's.
use Rattle.std.proofs.lemmas.List.{length-map}
use Rattle.std.proofs.lemmas.List.Sums.{sum_by-cons}
use Rattle.std.proofs.Common.{◌+◌, length, map, sum_by, ◌≡◌, ℕ, Bool, true, false, cond, not, List, [], ◌∷◌, ◌++◌, get_or, Some, refl, sym, ap, ap₂, ◌∙◌, ◌&&◌}
use Rattle.std.specs.List.{list_all}
use Rattle.names.specs.Pieces.{joined}
use Rattle.catalog.specs.Finding.{every}
use Rattle.planner.specs.Lists.{keep, is_one_of, sum}
use Rattle.planner.specs.Candidates.{Group}
use Rattle.planner.specs.Merging.{Pending, Given, size_of as group_size, read_of, served_by, merged_of, is_covered as covers, in_place}
use Rattle.reads.specs.declared.row.GroupRead.{GroupRead}
use Rattle.reads.specs.Held.{Held, sized, size_of, reply_of, is_covered, served, IsMarked}
use Rattle.reads.specs.Rows.{grouped, merged}
use Rattle.reads.specs.Told.{name_in, pending_of, reads_of}
use Rattle.fields.specs.declared.Size.{Size}

-- a test on each of a list
all_agree : (p q : ℕ → Bool) (xs : List ℕ) → ((x : ℕ) → p x ≡ q x) → list_all p xs ≡ every q xs
unfolding every
all_agree p q [] h = refl
all_agree p q (x ∷ xs) h = ap₂ (λ a b. a && b) (h x) (all_agree p q xs h) ∙ go (q x)
  where
    go : (b : Bool) → (b && every q xs) ≡ cond b (every q xs) false
    go true = refl
    go false = refl

module _ (g : Given) (ks : ℕ → Group) where
  -- a function of each keeps what it tests
  module _ (p : Held → Bool) (q : Pending → Bool) (h : (r : Held) → p r ≡ q (pending_of g ks r)) where
    pub kept_told : (rs : List Held) → reads_of g ks (keep p rs) ≡ keep q (reads_of g ks rs)
    unfolding keep
    kept_told [] = refl
    kept_told (r ∷ rs) = rw (sym (h r)) (go (p r) (kept_told rs))
      where
        go : (b : Bool) → reads_of g ks (keep p rs) ≡ keep q (reads_of g ks rs)
            → reads_of g ks (cond b (r ∷ keep p rs) (keep p rs)) ≡ cond b (pending_of g ks r ∷ keep q (reads_of g ks rs)) (keep q (reads_of g ks rs))
        go true e = ap (λ x. pending_of g ks r ∷ x) e
        go false e = e

  module _ (p : Held → Bool) (q : Pending → Bool) (h : (r : Held) → p r ≡ q (pending_of g ks r)) (new : Held) where
    pub placed_told : (rs : List Held) → reads_of g ks (in_place p new rs) ≡ in_place q (pending_of g ks new) (reads_of g ks rs)
    unfolding in_place
    placed_told [] = refl
    placed_told (r ∷ rs) = rw (sym (h r)) (go (p r) (placed_told rs))
      where
        go : (b : Bool) → reads_of g ks (in_place p new rs) ≡ in_place q (pending_of g ks new) (reads_of g ks rs)
            → reads_of g ks (cond b (new ∷ keep (λ x. not (p x)) rs) (r ∷ in_place p new rs))
            ≡ cond b (pending_of g ks new ∷ keep (λ x. not (q x)) (reads_of g ks rs)) (pending_of g ks r ∷ in_place q (pending_of g ks new) (reads_of g ks rs))
        go true e = ap (λ x. pending_of g ks new ∷ x) (kept_told (λ x. not (p x)) (λ x. not (q x)) (λ r. ap not (h r)) rs)
        go false e = ap (λ x. pending_of g ks r ∷ x) e

  -- the positions that reads serve
  pub served_told : (rs : List Held) → served_by (reads_of g ks rs) ≡ served rs
  unfolding served_by served joined
  served_told [] = refl
  served_told (r ∷ rs) = ap (λ x. r.serves ++ x) (served_told rs)

  -- marks that tell the positions of a group tell what it covers
  module _ (marks : List Bool) (j : ℕ) (m : (p : ℕ) → get_or marks p false ≡ is_one_of (ks j).serves p) where
    pub covered_told : (r : Held) → is_covered marks r ≡ covers (ks j) (pending_of g ks r)
    unfolding covers
    covered_told r = all_agree (λ p. get_or marks p false) (is_one_of (ks j).serves) r.serves m

  -- the merge
  pub merged_told : (marks : List Bool) (into : GroupRead) (rs : List Held) → IsMarked (ks into.group).serves marks
      → record { request = into.request; reply = into.reply } ≡ group_size g (ks into.group).shape (served (keep (is_covered marks) rs))
      → reads_of g ks (merged marks into rs) ≡ (merged_of g (ks into.group) (reads_of g ks rs) (keep (covers (ks into.group)) (reads_of g ks rs))).reads
  unfolding merged merged_of read_of
  merged_told marks into rs m z =
      let p = is_covered marks in
      let q = covers (ks into.group) in
      let h = covered_told marks into.group m in
      let sv : List ℕ = served (keep p rs) in
      let new : pending_of g ks (grouped into sv) ≡ read_of g (ks into.group) sv =
      ap (λ (s : Size). record { group = Some (ks into.group); serves = sv; name = name_in g (Some (ks into.group)) sv; size = s }) z
      in
      let same : sv ≡ served_by (keep q (reads_of g ks rs)) = sym (served_told (keep p rs)) ∙ ap served_by (kept_told p q h rs) in
      placed_told p q h (grouped into sv) rs ∙ ap (λ x. in_place q x (reads_of g ks rs)) (new ∙ ap (read_of g (ks into.group)) same)

  -- ---- what the covered reads come to
  replies_told : (rs : List Held) → sum_by reply_of rs ≡ sum (map (λ r. r.size.reply) (reads_of g ks rs))
  unfolding sum
  replies_told [] = refl
  replies_told (r ∷ rs) = sum_by-cons reply_of r rs ∙ ap (λ n. r.size.reply + n) (replies_told rs)

  -- the sizes of all
  pub sizes_read : (rs : List Held) → map size_of rs ≡ map (λ r. r.size) (reads_of g ks rs)
  sizes_read [] = refl
  sizes_read (r ∷ rs) = ap (λ y. r.size ∷ y) (sizes_read rs)

  module _ (p : Held → Bool) (q : Pending → Bool) (h : (r : Held) → p r ≡ q (pending_of g ks r)) where
    pub count_told : (rs : List Held) → length (keep p rs) ≡ length (keep q (reads_of g ks rs))
    count_told rs = sym (length-map (keep p rs) (pending_of g ks)) ∙ ap length (kept_told p q h rs)

    pub served_kept : (rs : List Held) → served (keep p rs) ≡ served_by (keep q (reads_of g ks rs))
    served_kept rs = sym (served_told (keep p rs)) ∙ ap served_by (kept_told p q h rs)

    pub replies_kept : (rs : List Held) → sum_by reply_of (keep p rs) ≡ sum (map (λ r. r.size.reply) (keep q (reads_of g ks rs)))
    replies_kept rs = replies_told (keep p rs) ∙ ap (λ l. sum (map (λ r. r.size.reply) l)) (kept_told p q h rs)

    -- their sizes with one in the place of those that pass
    pub sizes_placed : (request reply : ℕ) (made : Pending) → made.size ≡ record { request = request; reply = reply } → (rs : List Held)
        → map size_of (in_place p (sized request reply) rs) ≡ map (λ r. r.size) (in_place q made (reads_of g ks rs))
    unfolding in_place
    sizes_placed request reply made e [] = refl
    sizes_placed request reply made e (r ∷ rs) = rw (sym (h r)) (go (p r) (sizes_placed request reply made e rs))
      where
        go : (b : Bool) → map size_of (in_place p (sized request reply) rs) ≡ map (λ r. r.size) (in_place q made (reads_of g ks rs))
            → map size_of (cond b (sized request reply ∷ keep (λ x. not (p x)) rs) (r ∷ in_place p (sized request reply) rs))
            ≡ map (λ r. r.size) (cond b (made ∷ keep (λ x. not (q x)) (reads_of g ks rs)) (pending_of g ks r ∷ in_place q made (reads_of g ks rs)))
        go true k =
            ap₂ (λ x y. x ∷ y) (sym e)
            (sizes_read (keep (λ x. not (p x)) rs) ∙ ap (map (λ r. r.size)) (kept_told (λ x. not (p x)) (λ x. not (q x)) (λ r. ap not (h r)) rs))
        go false k = ap (λ y. r.size ∷ y) k
