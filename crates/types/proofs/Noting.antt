-- Each type's links and its AOI are noted once, and those of later types are blank till then.
-- The graph then tells of the file's types.
-- Assumes nothing.
use Rattle.std.proofs.Common.{ℕ, ◌+◌, ◌<◌, ◌≤◌, ◌≡◌, refl, sym, ap, ◌∙◌, Bool, true, false, cond, ◌&&◌, List, [], length, get_or, replicate, arith}
use lib.Dec.{eqb}
use borrow.Author.Tests.{eqb-true, eqb-false, ne_eqb}
use Rattle.fields.specs.Places.{value_at}
use Rattle.catalog.specs.Catalog.{TypeDef, Catalog, type_def, catalog_of}
use Rattle.catalog.specs.Finding.{any, is_parts}
use Rattle.catalog.specs.Alike.{type_places}
use Rattle.nesting.specs.declared.graph.Graph.{Graph}
use Rattle.nesting.specs.Graph.{is_set, linked, is_of, OneMore, Resolves}
use Rattle.nesting.proofs.Setting.{blank}
use Rattle.types.specs.Tables.{RowLinked, TypeNoted}
use Rattle.types.proofs.Places.{type-at, types-counted}

-- ---- one type
module _ (c : Catalog) (d : TypeDef) (k : ℕ) (old mid : Graph) (R : RowLinked c d.members k old mid) where
  pub noted-parts : (out : Graph) → is_parts d.aoi ≡ true → OneMore k mid.parts out.parts → out.links ≡ mid.links → out.count ≡ mid.count → TypeNoted c d k old out
  noted-parts out e m l n = record {
    links = λ j u. ap (λ t. linked t j u) l ∙ R.links j u;
    parts = λ j. m j ∙ ap (cond (eqb j k) true) (ap (λ t. is_set t j) R.parts) ∙ go j (eqb j k);
    count = n ∙ R.count;
  }
    where
      go : (j : ℕ) (b : Bool) → cond b true (is_set old.parts j) ≡ cond (b && is_parts d.aoi) true (is_set old.parts j)
      go j true = sym (ap (λ x. cond x true (is_set old.parts j)) e)
      go j false = refl

  pub noted-whole : is_parts d.aoi ≡ false → TypeNoted c d k old mid
  noted-whole e = record { links = R.links; parts = λ j. ap (λ t. is_set t j) R.parts ∙ go j (eqb j k); count = R.count }
    where
      go : (j : ℕ) (b : Bool) → is_set old.parts j ≡ cond (b && is_parts d.aoi) true (is_set old.parts j)
      go j true = sym (ap (λ x. cond x true (is_set old.parts j)) e)
      go j false = refl

pub ruleset noting = (noted-parts, noted-whole)

-- ---- all types: those before `k` are noted
pub record Noted (s : List ℕ) (g : Graph) (k : ℕ) : Type 0 where
  pub count : g.count ≡ length (type_places s)
  pub links : (j u : ℕ) → j < k → linked g.links j u ≡ any (is_of (catalog_of s) u) (value_at type_def s (get_or (type_places s) j 0)).members
  pub parts : (j : ℕ) → j < k → is_set g.parts j ≡ is_parts (value_at type_def s (get_or (type_places s) j 0)).aoi
  pub no_links : (j u : ℕ) → k ≤ j → linked g.links j u ≡ false
  pub no_parts : (j : ℕ) → k ≤ j → is_set g.parts j ≡ false

pub noted-start : (s ts : List ℕ) (g : Graph) → ts ≡ type_places s → g.count ≡ length ts → g.links ≡ replicate 128 (replicate 128 false) → g.parts ≡ replicate 128 false → Noted s g 0
noted-start s ts g e n l p = record {
  count = n ∙ ap length e;
  links = λ j u h. absurd (omega arith);
  parts = λ j h. absurd (omega arith);
  no_links =
      λ j u h.
      ap (λ t. linked t j u) l ∙ blank 128 j (replicate 128 false) [] (λ row. is_set row u ≡ false) (blank 128 u false false (λ b. b ≡ false) refl refl) refl;
  no_parts = λ j h. ap (λ t. is_set t j) p ∙ blank 128 j false false (λ b. b ≡ false) refl refl;
}

pub noted-step : (s : List ℕ) (g out : Graph) (k : ℕ) → Noted s g k → TypeNoted (catalog_of s) (value_at type_def s (get_or (type_places s) k 0)) k g out → Noted s out (k + 1)
noted-step s g out k N T = record {
  count = T.count ∙ N.count;
  links = λ j u h. T.links j u ∙ link j u h (eqb j k) refl;
  parts = λ j h. T.parts j ∙ part j h (eqb j k) refl;
  no_links = λ j u h. let x : (j ≡ k → ⊥) = λ e. omega arith in T.links j u ∙ rw (ne_eqb j k x) (N.no_links j u (omega arith));
  no_parts = λ j h. let x : (j ≡ k → ⊥) = λ e. omega arith in T.parts j ∙ rw (ne_eqb j k x) (N.no_parts j (omega arith));
}
  where
    or-false : (b : Bool) → cond b true false ≡ b
    or-false true = refl
    or-false false = refl

    d : ℕ → TypeDef
    d j = value_at type_def s (get_or (type_places s) j 0)

    link : (j u : ℕ) → j < k + 1 → (b : Bool) → eqb j k ≡ b → cond (b && any (is_of (catalog_of s) u) (d k).members) true (linked g.links j u) ≡ any (is_of (catalog_of s) u) (d j).members
    link j u h true e = rw (N.no_links j u (let x = eqb-true j k e in omega arith), eqb-true j k e) (or-false (any (is_of (catalog_of s) u) (d k).members))
    link j u h false e = let x = eqb-false j k e in N.links j u (omega arith)

    part : (j : ℕ) → j < k + 1 → (b : Bool) → eqb j k ≡ b → cond (b && is_parts (d k).aoi) true (is_set g.parts j) ≡ is_parts (d j).aoi
    part j h true e = rw (N.no_parts j (let x = eqb-true j k e in omega arith), eqb-true j k e) (or-false (is_parts (d k).aoi))
    part j h false e = let x = eqb-false j k e in N.parts j (omega arith)

pub noted-end : (s ts : List ℕ) (g : Graph) (k : ℕ) → ts ≡ type_places s → Noted s g k → length ts ≤ k → Resolves (catalog_of s) g
noted-end s ts g k q N h = record {
  count = N.count ∙ types-counted s;
  parts = λ j d e. let a = type-at s j d e in let n = ap length q in N.parts j (omega (arith, a.0)) ∙ ap (λ (t : TypeDef). is_parts t.aoi) a.1;
  links = λ j u d e l. let a = type-at s j d e in let n = ap length q in N.links j u (omega (arith, a.0)) ∙ ap (λ (t : TypeDef). any (is_of (catalog_of s) u) t.members) a.1;
}

pub ruleset graphs = (noted-start, noted-step, noted-end)
