-- The extent of numbers, number by number.
use Rattle.std.proofs.Common.{◌≡◌, ◌+◌, ◌<◌, ◌≤◌, ℕ, min, max, List, [], ◌∷◌, length, map, drop, get_or, None, Option, Some, unwrap_or, refl, ap, ap₂, ◌∙◌, arith}
use lib.ListN.{drop_of_length-le}
use Rattle.fields.proofs.Lists.{drop-next}
use Rattle.planner.specs.Lists.{least, greatest}
use Rattle.reads.specs.declared.extent.Extent.{Extent}
use Rattle.reads.specs.Told.{wider, extent_of}

-- an extent with numbers more
unfoldable pub widened : Option Extent → List ℕ → Option Extent
widened e [] = e
widened e (n ∷ ns) = widened (Some (wider e n)) ns

-- an extent of two numbers
abbrev two : ℕ → ℕ → Extent
two n m = record { least = n; greatest = m }

same_extent : (a b c d : ℕ) → a ≡ b → c ≡ d → Some (two a c) ≡ Some (two b d)
same_extent a b c d p q = ap₂ (λ (x y : ℕ). Some (two x y)) p q

-- one that is there keeps its own numbers
widened_more : (e : Extent) (n : ℕ) (ns : List ℕ) → widened (Some e) (n ∷ ns) ≡ Some (two (min e.least (least (n ∷ ns))) (max e.greatest (greatest (n ∷ ns))))
unfolding widened least greatest
widened_more e n [] = same_extent _ _ _ _ refl (omega arith)
widened_more e n (m ∷ ms) = widened_more (wider (Some e) n) m ms ∙ same_extent _ _ _ _ (omega arith) (omega arith)

widened_all : (ns : List ℕ) → widened None ns ≡ extent_of ns
unfolding widened extent_of least greatest
widened_all [] = refl
widened_all (n ∷ []) = same_extent _ _ _ _ refl (omega arith)
widened_all (n ∷ m ∷ ms) = widened_more (wider None n) m ms

module _ (f : ℕ → ℕ) (ps : List ℕ) where
  pub wider_next : (e : Option Extent) (i : ℕ) → i < length ps → widened e (map f (drop i ps)) ≡ widened (Some (wider e (f (get_or ps i 0)))) (map f (drop (i + 1) ps))
  unfolding widened
  wider_next e i h = ap (λ l. widened e (map f l)) (drop-next ps i h)

  pub wider_end : (e : Option Extent) (i : ℕ) → length ps ≤ i → widened e (map f (drop i ps)) ≡ e
  unfolding widened
  wider_end e i h = ap (λ l. widened e (map f l)) (drop_of_length-le ps h)

  pub wider_start : widened None (map f ps) ≡ extent_of (map f ps)
  wider_start = widened_all (map f ps)

-- the least and the greatest, 0 of none
abbrev pub zero_extent : Extent
zero_extent = record { least = 0; greatest = 0 }

pub least-is : (ns : List ℕ) (o : Option Extent) (e : Extent) → o ≡ extent_of ns → e ≡ unwrap_or o zero_extent → (e.least ≡ least ns) × (e.greatest ≡ greatest ns)
unfolding extent_of least greatest
least-is ns o e p q = go ns (q ∙ ap (λ x. unwrap_or x zero_extent) p)
  where
    go : (ns : List ℕ) → e ≡ unwrap_or (extent_of ns) zero_extent → (e.least ≡ least ns) × (e.greatest ≡ greatest ns)
    go [] q = (ap (λ (x : Extent). x.least) q, ap (λ (x : Extent). x.greatest) q)
    go (n ∷ ns) q = (ap (λ (x : Extent). x.least) q, ap (λ (x : Extent). x.greatest) q)
