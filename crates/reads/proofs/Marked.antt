-- Positions that are all marked, one by one.
use Rattle.std.proofs.Common.{◌≡◌, ◌+◌, ◌<◌, ◌≤◌, ℕ, Bool, true, false, List, length, take, get_or, sym, ap, ap₂, ◌∙◌, ◌&&◌}
use Rattle.std.specs.List.{list_all}
use Rattle.std.proofs.lemmas.List.{take_all}
use Rattle.std.proofs.lemmas.List.Folds.{list_all_more, list_all_at}

module _ (marks : List Bool) (ps : List ℕ) (i : ℕ) where
  pub marked_next : i < length ps → get_or marks (get_or ps i 0) false ≡ true → list_all (λ p. get_or marks p false) (take i ps) ≡ true
      → list_all (λ p. get_or marks p false) (take (i + 1) ps) ≡ true
  marked_next h e t = list_all_more (λ p. get_or marks p false) ps i 0 h ∙ ap₂ (λ a b. a && b) t e

  pub marked_not : i < length ps → get_or marks (get_or ps i 0) false ≡ false → list_all (λ p. get_or marks p false) ps ≡ false
  marked_not h e = list_all_at (λ p. get_or marks p false) ps i 0 h e

  pub marked_end : length ps ≤ i → list_all (λ p. get_or marks p false) (take i ps) ≡ true → list_all (λ p. get_or marks p false) ps ≡ true
  marked_end h t = ap (list_all (λ p. get_or marks p false)) (sym (take_all i ps h)) ∙ t
