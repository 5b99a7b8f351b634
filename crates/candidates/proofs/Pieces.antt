-- The element that a tag is: what its row tells, and that none of no bytes counts.
-- Assumes nothing.
use Rattle.std.proofs.Common.{ℕ, ◌≡◌, Bool, true, false, List, [], take, refl, sym, ap, ◌∙◌, arith}
use mathlib.Core.Bool.{cond}
use Rattle.std.specs.Prelude.{Option, Some, None, is_some}
use lib.Dec.{ltb}
use borrow.Author.Tests.{lt-ltb}
use Rattle.std.proofs.lemmas.Option.{none-some}
use Rattle.planner.specs.Lists.{given}
use Rattle.considered.specs.Seen.{tag_in, index_in}
use Rattle.considered.specs.declared.tags.Tag.{Tag}
use Rattle.considered.specs.declared.tags.Element.{Element}
use Rattle.candidates.specs.Columns.{names_of, elements_of, is_piece}
use Rattle.candidates.specs.Runs.{piece_in}

module _ (tags : List Tag) (q : ℕ) where
  -- ---- the element, found by its row
  pub piece-absent : (tag_in tags q).element ≡ None → None ≡ piece_in tags q
  unfolding piece_in is_piece elements_of given
  piece-absent h = rw h

  pub piece-flat : (x : Element) → (tag_in tags q).element ≡ Some x → x.width ≡ 0 → None ≡ piece_in tags q
  unfolding piece_in is_piece elements_of given
  piece-flat x h w = rw h (rw w)

  pub piece-wide : (x : Element) → (tag_in tags q).element ≡ Some x → (x.width ≡ 0 → ⊥) → Some x ≡ piece_in tags q
  unfolding piece_in is_piece elements_of given
  piece-wide x h w = rw h (rw (lt-ltb 0 x.width (omega arith)))

  -- ---- the end of its array's name
  pub array-some : (x : Element) (list : List ℕ) → (tag_in tags q).element ≡ Some x → take x.array (names_of list tags q) ≡ take ((elements_of tags).end q) (names_of list tags q)
  unfolding elements_of given
  array-some x list h = rw h

  pub array-none : (list : List ℕ) → (tag_in tags q).element ≡ None → [] ≡ take ((elements_of tags).end q) (names_of list tags q)
  unfolding elements_of given
  array-none list h = rw h

  -- ---- what an element is known by

  pub record PieceIs (x : Element) : Type 0 where
    pub wide : is_piece (elements_of tags) q ≡ true
    pub width : x.width ≡ (elements_of tags).width q
    pub index : x.index ≡ (elements_of tags).index q
    pub array : x.array ≡ (elements_of tags).end q

  found : (x : Element) (o : Option Element) → cond (ltb 0 (given o 0 (λ y. y.width))) o None ≡ Some x → (o ≡ Some x) × (ltb 0 x.width ≡ true)
  unfolding given
  found x None h = absurd (none-some x h)
  found x (Some y) h = go (ltb 0 y.width) refl h
    where
      go : (b : Bool) → ltb 0 y.width ≡ b → cond b (Some y) None ≡ Some x → (Some y ≡ Some x) × (ltb 0 x.width ≡ true)
      go true e f = let z : y ≡ x = cc in (f, ap (λ (k : Element). ltb 0 k.width) (sym z) ∙ e)
      go false e f = absurd (none-some x f)

  pub piece-some : (x : Element) → piece_in tags q ≡ Some x → PieceIs x
  unfolding piece_in is_piece elements_of index_in given
  piece-some x h =
      let f = found x (tag_in tags q).element h in
      record {
        wide = ap (λ (o : Option Element). ltb 0 (given o 0 (λ y. y.width))) f.0 ∙ f.1;
        width = sym (ap (λ (o : Option Element). given o 0 (λ y. y.width)) f.0);
        index = sym (ap (λ (o : Option Element). given o 0 (λ y. y.index)) f.0);
        array = sym (ap (λ (o : Option Element). given o 0 (λ y. y.array)) f.0);
      }

  missing : (o : Option Element) → cond (ltb 0 (given o 0 (λ y. y.width))) o None ≡ None → ltb 0 (given o 0 (λ y. y.width)) ≡ false
  unfolding given
  missing None h = refl
  missing (Some y) h = go (ltb 0 y.width) h
    where
      go : (b : Bool) → cond b (Some y) None ≡ None → b ≡ false
      go true f = absurd (none-some y (sym f))
      go false f = refl

  pub piece-none : piece_in tags q ≡ None → is_piece (elements_of tags) q ≡ false
  unfolding piece_in is_piece elements_of given
  piece-none h = missing (tag_in tags q).element h

  -- whether it is one
  pub piece-there : is_some (piece_in tags q) ≡ is_piece (elements_of tags) q
  unfolding piece_in is_piece elements_of given
  piece-there = there (tag_in tags q).element
    where
      there : (o : Option Element) → is_some (cond (ltb 0 (given o 0 (λ y. y.width))) o None) ≡ ltb 0 (given o 0 (λ y. y.width))
      there None = refl
      there (Some y) = go (ltb 0 y.width)
        where
          go : (b : Bool) → is_some (cond b (Some y) None) ≡ b
          go true = refl
          go false = refl

pub ruleset pieces = (piece-absent, piece-flat, piece-wide)

pub ruleset arrays = (array-some, array-none)
