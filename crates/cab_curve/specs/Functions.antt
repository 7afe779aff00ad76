-- function_at          row k of a table of functions
-- IsFunctionRow        a row has the weight of function k of a curve, and its exponents
-- IsFunctionTable      the rows are the functions up to a weight, and each weight has the number of functions before it
use Rattle.std.specs.Prelude.{ℕ, ◌≡◌, ◌+◌, ◌<◌, ◌≤◌, List, length, slice_index, slice_index_or}
use Rattle.curve_theory.specs.Semigroup.{x_exponent, y_exponent, function_count, weight_at, place_of}
use Rattle.cab_curve.specs.declared.functions.Function.{Function}

abbrev pub function_at : List Function → ℕ → Function
function_at rows k = slice_index_or rows k (record { weight = 0; i = 0; j = 0 })

pub record IsFunctionRow (a b top k : ℕ) (row : Function) : Type 0 where
  pub within : row.weight ≤ top
  pub weight_is : row.weight ≡ weight_at a b top k
  pub i_is : row.i ≡ x_exponent a b (weight_at a b top k)
  pub j_is : row.j ≡ y_exponent a b (weight_at a b top k)
  pub j_below : row.j < a

pub record IsFunctionTable (a b top : ℕ) (rows : List Function) (places : List ℕ) : Type 0 where
  pub count_is : length rows ≡ function_count a b top
  pub rows_are : (k : ℕ) → k < length rows → IsFunctionRow a b top k (function_at rows k)
  pub weights : length places ≡ top + 1
  pub places_are : (w : ℕ) → w ≤ top → slice_index places w ≡ place_of a b w
