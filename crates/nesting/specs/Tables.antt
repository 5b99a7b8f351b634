-- The types of a catalog as numbers, with tables of bytes, of any length: the rows of links, one after the other, and which types have
-- AOI 2. An entry is set where its byte is 1; past the end of a table none is. More types than 128 are not looked at.
-- Assumes nothing: these are definitions.
use Rattle.std.specs.Prelude.{ℕ, zero, suc, ◌+◌, ◌*◌, ◌<◌, Bool, true, cond, ◌&&◌, List, [], ◌∷◌, ◌≡◌, length, map, min, take, drop, leb, eqb, None, Option, Some}
use Rattle.std.proofs.Math.Nat.{min-le_right}
use Rattle.nesting.specs.declared.graph.Graph.{Graph}
use Rattle.fields.specs.Writing.{answered}
use Rattle.nesting.specs.Graph.{widest, is_set, marked, linked, first_over, listed, whole_marks, walkable}

-- which entries of a table are set: those that are 1
abbrev pub truths : List ℕ → List Bool
truths t = map (λ b. eqb b 1) t

-- so many rows of a table, 128 entries each
unfoldable pub rows_of : ℕ → List Bool → List (List Bool)
rows_of zero t = []
rows_of (suc n) t = take widest t ∷ rows_of n (drop widest t)

-- the tables as a graph of so many types, of 128 where they are more
abbrev pub tables : List ℕ → List ℕ → ℕ → Graph
tables links parts count = record { links = rows_of widest (truths links); parts = truths parts; count = min count widest; few = min-le_right count widest }

-- refusal 7 over a table of links: the first type nested over 16, if one is
unfoldable pub first_told : List ℕ → ℕ → Option ℕ
first_told links count = cond (leb count widest) (listed count (first_over (tables links [] count))) None

-- what marking the types that read whole answers, and what the marks `old` become: nothing is written where it says no
pub record TablesMarked (links parts : List ℕ) (count : ℕ) (old out : List ℕ) (r : Bool) : Type 0 where
  pub is : r ≡ (leb count widest && walkable (tables links parts count) (length old))
  pub bytes : out ≡ cond r (answered (whole_marks (tables links parts count)) old) old

-- a graph that tells of `n` types what the tables `ls` and `ps` tell
pub record Laid (ls ps : List ℕ) (n : ℕ) (g : Graph) : Type 0 where
  pub count : g.count ≡ n
  pub links : (j u : ℕ) → j < n → u < n → linked g.links j u ≡ marked ls (j * widest + u)
  pub parts : (j : ℕ) → j < n → is_set g.parts j ≡ marked ps j

-- the graph that is made of the tables: none where the types are more than there may be
abbrev pub MadeOf : List ℕ → List ℕ → ℕ → Option Graph → Type 0
MadeOf ls ps n None = widest < n
MadeOf ls ps n (Some g) = Laid ls ps n g

-- the links that a table has of the graph's types are noted
pub record LinksLaid (ls : List ℕ) (old out : Graph) : Type 0 where
  pub links : (j u : ℕ) → j < old.count → u < widest → linked out.links j u ≡ cond (marked ls (j * widest + u)) true (linked old.links j u)
  pub parts : out.parts ≡ old.parts
  pub count : out.count ≡ old.count

-- each of the graph's types that has AOI 2 by a table is noted
pub record PartsLaid (ps : List ℕ) (old out : Graph) : Type 0 where
  pub parts : (j : ℕ) → j < old.count → is_set out.parts j ≡ cond (marked ps j) true (is_set old.parts j)
  pub links : out.links ≡ old.links
  pub count : out.count ≡ old.count
