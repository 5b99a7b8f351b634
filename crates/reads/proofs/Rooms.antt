-- Room for one read more.
use Rattle.std.proofs.Common.{◌≡◌, ◌+◌, ◌-◌, ◌<◌, ◌≤◌, ◌&&◌, Bool, true, false, ℕ, List, [], ◌∷◌, ◌++◌, length, sum_by, ltb, refl, arith}
use borrow.Author.Tests.{lt-ltb, le-ltb, le-leb, lt-leb}
use Rattle.reads.specs.Held.{Held, count_of, has_room, added}

module _ (rs : List Held) (n : ℕ) where
  pub no_row : 256 ≤ length rs → has_room rs n ≡ false
  unfolding has_room
  no_row h = rw (le-ltb (length rs) 256 h) refl

  pub no_place : 256 - sum_by count_of rs < n → has_room rs n ≡ false
  unfolding has_room
  no_place h = rw (lt-leb (sum_by count_of rs + n) 256 (omega arith)) (go (ltb (length rs) 256))
    where
      go : (b : Bool) → (b && false) ≡ false
      go true = refl
      go false = refl

  pub room : length rs < 256 → n ≤ 256 - sum_by count_of rs → sum_by count_of rs ≤ 256 → has_room rs n ≡ true
  unfolding has_room
  room h l m = rw (lt-ltb (length rs) 256 h, le-leb (sum_by count_of rs + n) 256 (omega arith)) refl

module _ (rs : List Held) (r : Held) where
  pub added_no_row : 256 ≤ length rs → added rs r ≡ rs
  unfolding added
  added_no_row h = rw (no_row rs (count_of r) h) refl

  pub added_no_place : 256 - sum_by count_of rs < count_of r → added rs r ≡ rs
  unfolding added
  added_no_place h = rw (no_place rs (count_of r) h) refl

  pub added_room : length rs < 256 → count_of r ≤ 256 - sum_by count_of rs → sum_by count_of rs ≤ 256 → added rs r ≡ rs ++ r ∷ []
  unfolding added
  added_room h l m = rw (room rs (count_of r) h l m) refl
