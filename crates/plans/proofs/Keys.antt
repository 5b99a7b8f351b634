-- Keys: what their byte leads to, how they are checked and where they end.
-- Assumes nothing.
use Prim.Native.Nat.{ℕ, zero, suc, ◌≤◌}
use mathlib.Core.Path.{◌≡◌, refl}
use mathlib.Core.List.{List}
use native.Mathlib.Omega.{arith}
use Rattle.fields.specs.Format.{among}
use Rattle.fields.specs.Fields.{number, choice, text}
use Rattle.fields.specs.Places.{outcome, check_at, value_at, place_at}
use Rattle.fields.proofs.Chains.{next, leading_next}
use Rattle.fields.proofs.Reading.{leading-place, choice-value, choice-place}
use Rattle.plans.specs.Plans.{step_byte, after_byte, step}
use Rattle.plans.specs.Access.{key_kind}
use Rattle.plans.specs.declared.layout.KeyKind.TheVariants.{Member, Index, Several}
use Rattle.plans.proofs.Round.{lawful-kind}

-- ---- the byte
pub kind_first : (n : ℕ) → n ≡ 0 → key_kind n ≡ Member
unfolding key_kind
kind_first n e = rw e

pub kind_second : (n : ℕ) → n ≡ 1 → key_kind n ≡ Index
unfolding key_kind
kind_second n e = rw e

pub kind_last : (n : ℕ) → 2 ≤ n → key_kind n ≡ Several
unfolding key_kind
kind_last zero h = absurd (omega arith)
kind_last (suc zero) h = absurd (omega arith)
kind_last (suc (suc n)) h = refl

pub ruleset kinds = (choice-value, kind_first, kind_second, kind_last)

-- ---- what stands behind it
module _ (s : List ℕ) (p : ℕ) where
  pub checked_member : (n : ℕ) → key_kind n ≡ Member → check_at (after_byte n) s p ≡ check_at (text 128) s p
  unfolding after_byte among check_at outcome key_kind
  checked_member zero h = refl
  checked_member (suc zero) h = cc
  checked_member (suc (suc n)) h = cc

  pub checked_index : (n : ℕ) → key_kind n ≡ Index → check_at (after_byte n) s p ≡ check_at (number 4 4294967295) s p
  unfolding after_byte among check_at outcome key_kind
  checked_index zero h = cc
  checked_index (suc zero) h = refl
  checked_index (suc (suc n)) h = refl

  pub checked_several : (n : ℕ) → key_kind n ≡ Several → check_at (after_byte n) s p ≡ check_at (number 4 4294967295) s p
  unfolding after_byte among check_at outcome key_kind
  checked_several zero h = cc
  checked_several (suc zero) h = refl
  checked_several (suc (suc n)) h = refl

  pub passed_member : (n : ℕ) → key_kind n ≡ Member → place_at (after_byte n) s p ≡ place_at (text 128) s p
  unfolding after_byte among place_at key_kind
  passed_member zero h = refl
  passed_member (suc zero) h = cc
  passed_member (suc (suc n)) h = cc

  pub passed_index : (n : ℕ) → key_kind n ≡ Index → place_at (after_byte n) s p ≡ place_at (number 4 4294967295) s p
  unfolding after_byte among place_at key_kind
  passed_index zero h = cc
  passed_index (suc zero) h = refl
  passed_index (suc (suc n)) h = refl

  pub passed_several : (n : ℕ) → key_kind n ≡ Several → place_at (after_byte n) s p ≡ place_at (number 4 4294967295) s p
  unfolding after_byte among place_at key_kind
  passed_several zero h = cc
  passed_several (suc zero) h = refl
  passed_several (suc (suc n)) h = refl

module _ (s : List ℕ) (i : ℕ) where
  pub step_next : check_at step s i ≡ next (check_at (choice 2) s i) (λ q. check_at (after_byte (value_at (choice 2) s i)) s q)
  unfolding step
  step_next = leading_next (choice 2) s i step_byte after_byte lawful-kind

  pub step_passed : place_at step s i ≡ place_at (after_byte (value_at (choice 2) s i)) s (place_at (choice 2) s i)
  unfolding step
  step_passed = leading-place (choice 2) step_byte after_byte s i lawful-kind

pub ruleset checks = (step_next, checked_member, checked_index, checked_several)

pub ruleset passes = (step_passed, passed_member, passed_index, passed_several)
