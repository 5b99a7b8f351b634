-- Tables of any length, laid out as a graph: what the graph tells of its types is what the tables tell.
-- For more types than there may be nothing is looked at.
-- Assumes nothing.
use Rattle.std.proofs.Common.{ℕ, zero, suc, ◌+◌, ◌*◌, ◌/◌, ◌%◌, ◌<◌, ◌≤◌, ◌≡◌, refl, sym, ap, ◌∙◌, Bool, true, false, cond, not, ◌&&◌, List, [], ◌∷◌, length, drop, min, replicate, arith}
use Rattle.std.specs.Prelude.{None, Option, Some}
use Rattle.std.proofs.Math.Nat.{min-eq_left}
use Rattle.std.proofs.lemmas.List.{get_or-take, get_or-drop}
use lib.Dec.{leb, eqb}
use borrow.Author.Tests.{le-leb, lt-leb, eqb-true, eqb-false}
use Rattle.nesting.specs.declared.graph.Graph.{Graph}
use Rattle.fields.specs.Writing.{answered}
use Rattle.nesting.specs.Graph.{is_set, marked, linked, any_from, every_from, first_from, onward, spared, over_at, whole_at, first_over, listed, OneMore, OneLinkMore, Unlinked, Made, marks_from, whole_marks, walkable, Marking}
use Rattle.nesting.specs.Tables.{truths, rows_of, tables, first_told, TablesMarked, Laid, MadeOf, LinksLaid, PartsLaid}
use Rattle.nesting.proofs.Ranges.{any_same, every-same, first-same, marks_same}
use Rattle.nesting.proofs.Setting.{blank}

-- ---- graphs that tell the same of their types
pub record Agree (g h : Graph) : Type 0 where
  pub count : g.count ≡ h.count
  pub links : (j u : ℕ) → j < g.count → u < g.count → linked g.links j u ≡ linked h.links j u
  pub parts : (j : ℕ) → j < g.count → is_set g.parts j ≡ is_set h.parts j

module _ (g h : Graph) (A : Agree g h) where
  onward-agree : (p q : ℕ → Bool) (k u : ℕ) → k < g.count → u < g.count → p u ≡ q u → onward p g.links k u ≡ onward q h.links k u
  unfolding onward
  onward-agree p q k u a b e = rw (A.links k u a b, e) refl

  spared-agree : (p q : ℕ → Bool) (k u : ℕ) → k < g.count → u < g.count → p u ≡ q u → spared p g.links k u ≡ spared q h.links k u
  unfolding spared
  spared-agree p q k u a b e = rw (A.links k u a b, e) refl

  pub over-agree : (levels k : ℕ) → k < g.count → over_at levels g k ≡ over_at levels h k
  unfolding over_at
  over-agree zero k l = refl
  over-agree (suc n) k l =
      any_same (onward (over_at n g) g.links k) (onward (over_at n h) h.links k) g.count 0
      (λ u m. let b : u < g.count = omega arith in onward-agree (over_at n g) (over_at n h) k u l b (over-agree n u b))
      ∙ ap (λ c. any_from (onward (over_at n h) h.links k) c 0) A.count

  pub whole-agree : (levels k : ℕ) → k < g.count → whole_at levels g k ≡ whole_at levels h k
  unfolding whole_at
  whole-agree zero k l = refl
  whole-agree (suc n) k l =
      ap (λ b. not b && every_from (spared (whole_at n g) g.links k) g.count 0) (A.parts k l)
      ∙ ap (λ b. not (is_set h.parts k) && b)
      (every-same (spared (whole_at n g) g.links k) (spared (whole_at n h) h.links k) g.count 0
      (λ u m. let b : u < g.count = omega arith in spared-agree (whole_at n g) (whole_at n h) k u l b (whole-agree n u b))
      ∙ ap (λ c. every_from (spared (whole_at n h) h.links k) c 0) A.count)

  pub first-agree : first_over g ≡ first_over h
  unfolding first_over
  first-agree =
      ap (λ n. cond (leb g.count 128) n g.count) (first-same (over_at 16 g) (over_at 16 h) g.count 0 (λ u l. over-agree 16 u (omega arith)))
      ∙ ap (λ c. cond (leb c 128) (first_from (over_at 16 h) c 0) c) A.count

  pub marks-agree : whole_marks g ≡ whole_marks h
  unfolding whole_marks
  marks-agree =
      marks_same (whole_at 16 g) (whole_at 16 h) g.count 0 (λ u l. whole-agree 16 u (omega arith)) ∙ ap (λ c. marks_from (whole_at 16 h) c 0) A.count

-- ---- bytes as truths
-- THEOREM: an entry is set where its byte is 1
pub truth-at : (t : List ℕ) (i : ℕ) → is_set (truths t) i ≡ marked t i
unfolding marked
truth-at [] i = refl
truth-at (b ∷ t) zero = refl
truth-at (b ∷ t) (suc i) = truth-at t i

-- ---- rows of a table
linked_at : (n : ℕ) (t : List Bool) (j u : ℕ) → j < n → u < 128 → linked (rows_of n t) j u ≡ is_set t (j * 128 + u)
unfolding rows_of
linked_at zero t j u h l = absurd (omega arith)
linked_at (suc n) t zero u h l = let z : 0 * 128 + u ≡ u = omega arith in rw z (get_or-take 128 t u false l)
linked_at (suc n) t (suc j) u h l =
    let z : 128 + (j * 128 + u) ≡ suc j * 128 + u = omega arith in
    linked_at n (drop 128 t) j u (omega arith) l ∙ get_or-drop 128 t (j * 128 + u) false ∙ ap (is_set t) z

-- THEOREM: the link from type `j` to type `u` is set where the byte at `j * 128 + u` is 1
pub linked-at : (n : ℕ) (t : List ℕ) (j u : ℕ) → j < n → u < 128 → linked (rows_of n (truths t)) j u ≡ marked t (j * 128 + u)
linked-at n t j u h l = linked_at n (truths t) j u h l ∙ truth-at t (j * 128 + u)

-- ---- the graph that the tables are laid out in
module _ (links parts : List ℕ) (count : ℕ) (g : Graph) (L : Laid links parts count g) where
  pub laid-few : count ≤ 128
  laid-few = let e = L.count in let f = g.few in omega arith

  pub laid-agree : Agree g (tables links parts count)
  laid-agree =
      let f = laid-few in
      let e = L.count in
      record {
        count = L.count ∙ sym (min-eq_left f);
        links = λ j u a b. L.links j u (omega arith) (omega arith) ∙ sym (linked-at 128 links j u (omega arith) (omega arith));
        parts = λ j a. L.parts j (omega arith) ∙ sym (truth-at parts j);
      }

-- ---- laying them out
-- the entries before `i` of the table of links are noted
pub record LinksGoing (ls : List ℕ) (old out : Graph) (i : ℕ) : Type 0 where
  pub done : (j u : ℕ) → u < 128 → j * 128 + u < i → linked out.links j u ≡ cond (marked ls (j * 128 + u)) true (linked old.links j u)
  pub left : (j u : ℕ) → u < 128 → i ≤ j * 128 + u → linked out.links j u ≡ linked old.links j u
  pub parts : out.parts ≡ old.parts
  pub count : out.count ≡ old.count

module _ (links : List ℕ) (old : Graph) where
  pub links-start : LinksGoing links old old 0
  links-start = record { done = λ j u l h. absurd (omega arith); left = λ j u l h. refl; parts = refl; count = refl }

  module _ (out : Graph) (i : ℕ) (G : LinksGoing links old out i) where
    pub links-here : (next : Graph) → marked links i ≡ true → OneLinkMore (i / 128) (i % 128) out.links next.links → next.parts ≡ out.parts → next.count ≡ out.count
        → LinksGoing links old next (i + 1)
    links-here next e m p n = record {
      done = λ j u l h. m j u ∙ done j u l h (eqb j (i / 128)) refl (eqb u (i % 128)) refl;
      left = λ j u l h. m j u ∙ left j u l h (eqb j (i / 128)) refl (eqb u (i % 128)) refl;
      parts = p ∙ G.parts;
      count = n ∙ G.count;
    }
      where
        here : (j u : ℕ) → j ≡ i / 128 → u ≡ i % 128 → j * 128 + u ≡ i
        here j u a b = omega arith

        done : (j u : ℕ) → u < 128 → j * 128 + u < i + 1 → (a : Bool) → eqb j (i / 128) ≡ a → (b : Bool) → eqb u (i % 128) ≡ b
            → cond (a && b) true (linked out.links j u) ≡ cond (marked links (j * 128 + u)) true (linked old.links j u)
        done j u l h true x true y = rw (here j u (eqb-true j (i / 128) x) (eqb-true u (i % 128) y), e) refl
        done j u l h true x false y = let z = eqb-false u (i % 128) y in let w = eqb-true j (i / 128) x in G.done j u l (omega arith)
        done j u l h false x b y = let z = eqb-false j (i / 128) x in G.done j u l (omega arith)

        left : (j u : ℕ) → u < 128 → i + 1 ≤ j * 128 + u → (a : Bool) → eqb j (i / 128) ≡ a → (b : Bool) → eqb u (i % 128) ≡ b
            → cond (a && b) true (linked out.links j u) ≡ linked old.links j u
        left j u l h true x true y = let z = here j u (eqb-true j (i / 128) x) (eqb-true u (i % 128) y) in absurd (omega arith)
        left j u l h true x false y = G.left j u l (omega arith)
        left j u l h false x b y = G.left j u l (omega arith)

    pub links-past : marked links i ≡ false → LinksGoing links old out (i + 1)
    links-past e = record {
      done = λ j u l h. done j u l h (eqb (j * 128 + u) i) refl;
      left = λ j u l h. G.left j u l (omega arith);
      parts = G.parts;
      count = G.count;
    }
      where
        done : (j u : ℕ) → u < 128 → j * 128 + u < i + 1 → (a : Bool) → eqb (j * 128 + u) i ≡ a
            → linked out.links j u ≡ cond (marked links (j * 128 + u)) true (linked old.links j u)
        done j u l h true x = let z = eqb-true (j * 128 + u) i x in G.left j u l (omega arith) ∙ rw (z, e) refl
        done j u l h false x = let z = eqb-false (j * 128 + u) i x in G.done j u l (omega arith)

    pub links-end : old.count * 128 ≤ i → LinksLaid links old out
    links-end h = record { links = λ j u a l. G.done j u l (omega arith); parts = G.parts; count = G.count }

pub ruleset linking = (links-start, links-here, links-past, links-end)

-- the types before `k` that have AOI 2 are noted
pub record PartsGoing (ps : List ℕ) (old out : Graph) (k : ℕ) : Type 0 where
  pub done : (j : ℕ) → j < k → is_set out.parts j ≡ cond (marked ps j) true (is_set old.parts j)
  pub left : (j : ℕ) → k ≤ j → is_set out.parts j ≡ is_set old.parts j
  pub links : out.links ≡ old.links
  pub count : out.count ≡ old.count

module _ (parts : List ℕ) (old : Graph) where
  pub parts-start : PartsGoing parts old old 0
  parts-start = record { done = λ j h. absurd (omega arith); left = λ j h. refl; links = refl; count = refl }

  module _ (out : Graph) (k : ℕ) (G : PartsGoing parts old out k) where
    pub parts-here : (next : Graph) → marked parts k ≡ true → OneMore k out.parts next.parts → next.links ≡ out.links → next.count ≡ out.count → PartsGoing parts old next (k + 1)
    parts-here next e m l n = record {
      done = λ j h. m j ∙ done j h (eqb j k) refl;
      left = λ j h. m j ∙ left j h (eqb j k) refl;
      links = l ∙ G.links;
      count = n ∙ G.count;
    }
      where
        done : (j : ℕ) → j < k + 1 → (a : Bool) → eqb j k ≡ a → cond a true (is_set out.parts j) ≡ cond (marked parts j) true (is_set old.parts j)
        done j h true x = rw (eqb-true j k x, e) refl
        done j h false x = let z = eqb-false j k x in G.done j (omega arith)

        left : (j : ℕ) → k + 1 ≤ j → (a : Bool) → eqb j k ≡ a → cond a true (is_set out.parts j) ≡ is_set old.parts j
        left j h true x = let z = eqb-true j k x in absurd (omega arith)
        left j h false x = G.left j (omega arith)

    pub parts-past : marked parts k ≡ false → PartsGoing parts old out (k + 1)
    parts-past e = record {
      done = λ j h. done j h (eqb j k) refl;
      left = λ j h. G.left j (omega arith);
      links = G.links;
      count = G.count;
    }
      where
        done : (j : ℕ) → j < k + 1 → (a : Bool) → eqb j k ≡ a → is_set out.parts j ≡ cond (marked parts j) true (is_set old.parts j)
        done j h true x = let z = eqb-true j k x in G.left j (omega arith) ∙ rw (z, e) refl
        done j h false x = let z = eqb-false j k x in G.done j (omega arith)

    pub parts-end : old.count ≤ k → PartsLaid parts old out
    parts-end h = record { parts = λ j a. G.done j (omega arith); links = G.links; count = G.count }

pub ruleset parting = (parts-start, parts-here, parts-past, parts-end)

module _ (links parts : List ℕ) (count : ℕ) where
  pub laid-none : (r : Option Graph) → Made count r → r ≡ None → MadeOf links parts count None
  laid-none r m e = rw e at m

  pub laid-some : (g mid out : Graph) → Unlinked count g → LinksLaid links g mid → PartsLaid parts mid out → Laid links parts count out
  laid-some g mid out U A B =
      let n = U.count in
      let c = A.count in
      record {
        count = B.count ∙ A.count ∙ U.count;
        links =
            λ j v a b.
            let f = g.few in
            ap (λ t. linked t j v) B.links ∙ A.links j v (omega arith) (omega arith)
            ∙ ap (cond (marked links (j * 128 + v)) true) (ap (λ t. linked t j v) U.links ∙ no-link j v) ∙ aside (marked links (j * 128 + v));
        parts =
            λ j a.
            B.parts j (omega arith) ∙ ap (cond (marked parts j) true) (ap (λ t. is_set t j) (A.parts ∙ U.parts) ∙ blank 128 j false false (λ b. b ≡ false) refl refl)
            ∙ aside (marked parts j);
      }
    where
      aside : (b : Bool) → cond b true false ≡ b
      aside true = refl
      aside false = refl

      no-link : (j v : ℕ) → linked (replicate 128 (replicate 128 false)) j v ≡ false
      no-link j v = blank 128 j (replicate 128 false) [] (λ row. is_set row v ≡ false) (blank 128 v false false (λ b. b ≡ false) refl refl) refl

pub ruleset laying = (laid-none)

-- ---- refusal 7 of the tables
module _ (links : List ℕ) (count : ℕ) where
  -- THEOREM: of more types than there may be none is told
  pub over-many : 128 < count → None ≡ first_told links count
  unfolding first_told
  over-many h = rw (lt-leb count 128 h) refl

  pub over-laid : (g : Graph) → Laid links [] count g → listed g.count (first_over g) ≡ first_told links count
  unfolding first_told
  over-laid g L =
      rw (le-leb count 128 (laid-few links [] count g L)) (ap (λ n. listed n (first_over g)) L.count ∙ ap (listed count) (first-agree g (tables links [] count) (laid-agree links [] count g L)))

-- by the words of the code: `r` is the graph that was made
module _ (links : List ℕ) (count : ℕ) (r : Option Graph) (m : MadeOf links [] count r) where
  pub told-none : r ≡ None → None ≡ first_told links count
  told-none e = over-many links count (rw e at m)

  pub told-some : (g : Graph) (x : Option ℕ) → r ≡ Some g → x ≡ listed g.count (first_over g) → x ≡ first_told links count
  told-some g x e q = q ∙ over-laid links count g (rw e at m)

pub ruleset telling = (told-none, told-some)

-- ---- which types of the tables read whole
module _ (links parts : List ℕ) (count : ℕ) (old : List ℕ) where
  -- THEOREM: for more types than there may be nothing is written
  pub marking-many : 128 < count → TablesMarked links parts count old old false
  marking-many h = record { is = rw (lt-leb count 128 h) refl; bytes = refl }

  -- THEOREM: for more types than there is room for nothing is written
  pub marking-short : count ≤ 128 → length old < count → TablesMarked links parts count old old false
  unfolding walkable
  marking-short a h =
      record { is = rw (le-leb count 128 a) (short (min count 128) (first_over (tables links parts count)) (min-eq_left a)); bytes = refl }
    where
      short : (n x : ℕ) → n ≡ count → false ≡ (leb n (length old) && leb n x)
      short n x e = rw (e, lt-leb count (length old) h) refl

  pub marking-laid : (g : Graph) (out : List ℕ) (b : Bool) → Laid links parts count g → Marking g old out b → TablesMarked links parts count old out b
  unfolding walkable
  marking-laid g out b L M =
      let A = laid-agree links parts count g L in
      record {
        is =
            M.is
            ∙ ap (λ n. leb g.count (length old) && leb g.count n) (first-agree g (tables links parts count) A)
            ∙ ap (λ n. leb n (length old) && leb n (first_over (tables links parts count))) A.count
            ∙ rw (le-leb count 128 (laid-few links parts count g L)) refl;
        bytes = M.bytes ∙ ap (λ t. cond b (answered t old) old) (marks-agree g (tables links parts count) A);
      }

  -- THEOREM: for no more types than there may be it is said of the tables as of a graph
  pub marking-is : (out : List ℕ) (b : Bool) → count ≤ 128 → TablesMarked links parts count old out b → Marking (tables links parts count) old out b
  marking-is out b h M = record { is = M.is ∙ ap (λ t. t && walkable (tables links parts count) (length old)) (le-leb count 128 h); bytes = M.bytes }

  pub marks-none : (r : Option Graph) → MadeOf links parts count r → r ≡ None → TablesMarked links parts count old old false
  marks-none r m e = marking-many (rw e at m)

pub ruleset marking = (marks-none)
