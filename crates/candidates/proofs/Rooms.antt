-- Room for one group more.
use Rattle.std.proofs.Common.{◌≡◌, ◌+◌, ◌-◌, ◌<◌, ◌≤◌, ◌&&◌, Bool, true, false, ℕ, List, [], ◌∷◌, ◌++◌, length, sum_by, ltb, refl, arith}
use borrow.Author.Tests.{lt-ltb, le-ltb, le-leb, lt-leb}
use Rattle.candidates.specs.Columns.{Bunch}
use Rattle.candidates.specs.Groups.{served_count, has_room_for, added}

module _ (bs : List Bunch) (n : ℕ) where
  pub no_row : 8448 ≤ length bs → has_room_for bs n ≡ false
  unfolding has_room_for
  no_row h = rw (le-ltb (length bs) 8448 h) refl

  pub no_place : 16640 - sum_by served_count bs < n → has_room_for bs n ≡ false
  unfolding has_room_for
  no_place h = rw (lt-leb (sum_by served_count bs + n) 16640 (omega arith)) (go (ltb (length bs) 8448))
    where
      go : (b : Bool) → (b && false) ≡ false
      go true = refl
      go false = refl

  pub room : length bs < 8448 → n ≤ 16640 - sum_by served_count bs → sum_by served_count bs ≤ 16640 → has_room_for bs n ≡ true
  unfolding has_room_for
  room h l m = rw (lt-ltb (length bs) 8448 h, le-leb (sum_by served_count bs + n) 16640 (omega arith)) refl

module _ (bs : List Bunch) (b : Bunch) where
  pub added_no_row : 8448 ≤ length bs → added bs b ≡ bs
  unfolding added
  added_no_row h = rw (no_row bs (served_count b) h) refl

  pub added_no_place : 16640 - sum_by served_count bs < served_count b → added bs b ≡ bs
  unfolding added
  added_no_place h = rw (no_place bs (served_count b) h) refl

  pub added_room : length bs < 8448 → served_count b ≤ 16640 - sum_by served_count bs → sum_by served_count bs ≤ 16640 → added bs b ≡ bs ++ b ∷ []
  unfolding added
  added_room h l m = rw (room bs (served_count b) h l m) refl
