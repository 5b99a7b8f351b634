-- The types of a file are what stands at their places, and a search by name goes through both in the same order.
-- Assumes nothing.
use Rattle.std.proofs.Common.{ℕ, zero, suc, ◌+◌, ◌<◌, ◌≡◌, refl, sym, ap, ◌∙◌, Bool, true, false, cond, List, [], ◌∷◌, length, map, take, drop, get_or, ◌≤◌, None, Some, arith}
use Rattle.std.specs.Prelude.{Option, IsSome, slice_get}
use Rattle.std.specs.List.{position_or_len}
use Rattle.std.proofs.lemmas.Option.{none-some, same_Some}
use lib.Dec.{ltb}
use borrow.Author.Tests.{ltb-true, ltb-false, lt-ltb, le-ltb}
use Rattle.fields.specs.Text.{Text, same}
use Rattle.fields.specs.Places.{value_at}
use Rattle.catalog.specs.Catalog.{Node, TypeDef, type_def, counts, catalog_of}
use Rattle.catalog.specs.Finding.{is_struct}
use Rattle.catalog.specs.Alike.{name_at, types_start, type_places}
use Rattle.catalog.specs.declared.Kind.{Kind}
use Rattle.catalog.specs.declared.Kind.TheVariants.{Atomic, Struct, String}
use Rattle.nesting.specs.declared.graph.Graph.{Graph}
use Rattle.nesting.specs.Graph.{type_index, member_index, Made}
use Rattle.nesting.proofs.Setting.{made-some, made-is}
use Rattle.nodes.specs.Placed.{place_index}
use Rattle.fields.specs.Writing.{answered}
use Rattle.fields.proofs.Patches.{answer-front}
use Rattle.nodes.proofs.Places.{types-counted as types-limited}
use Rattle.fields.proofs.Rows.{places-length}
use Rattle.fields.proofs.LawfulFields.{limited-max}
use Rattle.fields.specs.Fields.{whole}
use Rattle.nodes.proofs.Standing.{typed}
use Rattle.nodes.proofs.Tabling.{types-mapped}

-- ---- what stands at the place of a number
module _ {A : Type 0} (f : ℕ → A) where
  pub mapped-at : (ps : List ℕ) (k : ℕ) (d : A) → slice_get (map f ps) k ≡ Some d → (k < length ps) × (f (get_or ps k 0) ≡ d)
  mapped-at [] k d e = absurd (none-some d e)
  mapped-at (p ∷ ps) zero d e = (omega arith, same_Some (f p) d e)
  mapped-at (p ∷ ps) (suc k) d e = let r = mapped-at ps k d e in (omega (arith, r.0), r.1)

  pub length-mapped : (ps : List ℕ) → length (map f ps) ≡ length ps
  length-mapped [] = refl
  length-mapped (p ∷ ps) = ap suc (length-mapped ps)

pub type-at : (s : List ℕ) (k : ℕ) (d : TypeDef) → slice_get (catalog_of s).types k ≡ Some d
    → (k < length (type_places s)) × (value_at type_def s (get_or (type_places s) k 0) ≡ d)
type-at s k d e = mapped-at (value_at type_def s) (type_places s) k d (ap (λ (ds : List TypeDef). slice_get ds k) (types-mapped s) ∙ e)

pub types-counted : (s : List ℕ) → length (type_places s) ≡ length (catalog_of s).types
types-counted s = sym (length-mapped (value_at type_def s) (type_places s)) ∙ ap length (types-mapped s)

-- ---- the search by name
position-cons : (t : ℕ → Bool) (p : ℕ) (ps : List ℕ) → position_or_len t (p ∷ ps) ≡ cond (t p) 0 (1 + position_or_len t ps)
position-cons t p ps = go (t p) refl
  where
    go : (b : Bool) → t p ≡ b → position_or_len t (p ∷ ps) ≡ cond b 0 (1 + position_or_len t ps)
    go true e = rw e refl
    go false e = rw e refl

less_suc : (x n : ℕ) → ltb (1 + x) (suc n) ≡ ltb x n
less_suc x n = go (ltb x n) refl
  where
    go : (b : Bool) → ltb x n ≡ b → ltb (1 + x) (suc n) ≡ b
    go true e = let h = ltb-true x n e in lt-ltb (1 + x) (suc n) (omega arith)
    go false e = let h = ltb-false x n e in le-ltb (1 + x) (suc n) (omega arith)

module _ (s : List ℕ) (w : Text) where
  index-mapped : (ps : List ℕ) (i : ℕ)
      → type_index w (map (value_at type_def s) ps) i
      ≡ cond (ltb (position_or_len (λ p. same (name_at s p) w) ps) (length ps)) (Some (i + position_or_len (λ p. same (name_at s p) w) ps)) None
  unfolding type_index
  index-mapped [] i = refl
  index-mapped (p ∷ ps) i =
      rw (← typed s p w) (go (same (name_at s p) w) (index-mapped ps (i + 1)))
      ∙ ap (λ n. cond (ltb n (suc (length ps))) (Some (i + n)) None) (sym (position-cons (λ p. same (name_at s p) w) p ps))
    where
      go : (b : Bool) → type_index w (map (value_at type_def s) ps) (i + 1)
          ≡ cond (ltb (position_or_len (λ p. same (name_at s p) w) ps) (length ps)) (Some (i + 1 + position_or_len (λ p. same (name_at s p) w) ps)) None
          → cond b (Some i) (type_index w (map (value_at type_def s) ps) (i + 1))
          ≡ cond (ltb (cond b 0 (1 + position_or_len (λ p. same (name_at s p) w) ps)) (suc (length ps))) (Some (i + cond b 0 (1 + position_or_len (λ p. same (name_at s p) w) ps))) None
      go true e = let z : i + 0 ≡ i = omega arith in rw (lt-ltb 0 (suc (length ps)) (omega arith), z) refl
      go false e =
          let z : i + (1 + position_or_len (λ p. same (name_at s p) w) ps) ≡ i + 1 + position_or_len (λ p. same (name_at s p) w) ps = omega arith in
          rw (less_suc (position_or_len (λ p. same (name_at s p) w) ps) (length ps), z) e

  pub index_of : (ps : List ℕ) → place_index s w ps ≡ type_index w (map (value_at type_def s) ps) 0
  unfolding place_index
  index_of ps =
      let z : 0 + position_or_len (λ p. same (name_at s p) w) ps ≡ position_or_len (λ p. same (name_at s p) w) ps = omega arith in
      sym (index-mapped ps 0 ∙ rw z refl)

  pub index-placed : place_index s w (type_places s) ≡ type_index w (catalog_of s).types 0
  index-placed = index_of (type_places s) ∙ ap (λ ds. type_index w ds 0) (types-mapped s)

-- ---- a struct member's type
module _ (s : List ℕ) (m : Node) where
  pub member-struct : m.kind ≡ Struct → member_index (catalog_of s) m ≡ type_index m.type_name (catalog_of s).types 0
  unfolding member_index is_struct
  member-struct e = rw e refl

  pub member-other : (m.kind ≡ Struct → ⊥) → member_index (catalog_of s) m ≡ None
  unfolding member_index is_struct
  member-other n = go m.kind refl
    where
      go : (k : Kind) → m.kind ≡ k → cond (is_struct k) (type_index m.type_name (catalog_of s).types 0) None ≡ None
      go Atomic e = refl
      go Struct e = absurd (n e)
      go String e = refl

-- ---- how many types there are
pub types-few : (s : List ℕ) → length (type_places s) ≤ 128
unfolding type_places
types-few s =
    let l = places-length type_def s (value_at counts s 1).1 (types_start s) in
    let c = types-limited s in
    let m = limited-max 128 (whole 2 (take 2 (drop (1 + length (take 2 (drop 1 s))) s))) in
    omega arith

-- by the words of the code, whose places `ts` are those of the file
module _ (s ts : List ℕ) (e : ts ≡ type_places s) where
  pub index_here : (w : Text) → place_index s w ts ≡ type_index w (catalog_of s).types 0
  index_here w = ap (place_index s w) e ∙ index-placed s w

  pub placed-few : length ts ≤ 128
  placed-few = let f = types-few s in let l = ap length e in omega arith

  -- a graph of as many types is there
  pub graph-there : (r : Option Graph) → Made (length ts) r → IsSome r
  graph-there r m = made-some (length ts) r m placed-few

pub ruleset indexing = (index_here, member-struct, member-other, placed-few)

pub ruleset making = (graph-there, made-is)

-- ---- the places, as they were written down
pub types-front : (s old out : List ℕ) (n : ℕ) → n ≡ length (type_places s) → out ≡ answered (type_places s) old → take n out ≡ type_places s
types-front s old out n e w = answer-front (type_places s) old out n w e
