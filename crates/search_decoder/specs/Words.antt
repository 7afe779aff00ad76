-- SameBefore    two lists have one length, and the same numbers before a place
-- IsFinish      a codeword that is as a given list before a place, and differs from what was received at most `left` times
--               from there on
use Rattle.std.specs.Prelude.{ℕ, ◌≡◌, ◌<◌, ◌≤◌, Bool, List, length, drop, slice_index}
use Rattle.order_theory.specs.Basis.{Basis, times}
use Rattle.order_theory.specs.Codes.{IsCodeword, distance}

pub record SameBefore (place : ℕ) (xs ys : List ℕ) : Type 0 where
  pub long : length xs ≡ length ys
  pub same : (p : ℕ) → p < place → slice_index xs p ≡ slice_index ys p

pub record IsFinish (b : Basis) (marks : List Bool) (got front : List ℕ) (place left : ℕ) (x : List ℕ) : Type 0 where
  pub is_codeword : IsCodeword (times b) b marks x
  pub front_same : SameBefore place front x
  pub close : distance (drop place got) (drop place x) ≤ left
