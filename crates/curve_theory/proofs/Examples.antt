-- The curve y^2 + y = x^3 over GF(4)
use Rattle.std.proofs.lemmas.Nat.Gcd.{IsGcd-from_zero, IsGcd-swap, IsGcd-from_sub}
use Rattle.std.proofs.lemmas.List.Elements.{All-from_recursion}
use Rattle.std.specs.List.{AllPairs}
use Rattle.curve_theory.proofs.Equation.{equation_from}
use Rattle.std.proofs.Common.{◌<◌, ◌≤◌, ◌%◌, arith, zero, suc, ◌≡◌, ℕ, ◌+◌, ◌*◌, List, [], ◌∷◌, map, refl, get_or}
use Rattle.curve_theory.specs.Semigroup.{is_pair, pairs, is_member, y_exponent, x_exponent, weight_at, at_place, function_count}
use Rattle.curve_theory.specs.Curve.{Term, value, IsEquation}
use Rattle.curve_theory.specs.Weights.{one_by_weights, times_x_by_weights, times_y_by_weights}
use Rattle.curve_theory.specs.Normal.{weight_coefficient, relation, inverse_of, normal_form}

abbrev entry4 : ℕ → ℕ → ℕ
entry4 x y = get_or (0 ∷ 0 ∷ 0 ∷ 0 ∷ 0 ∷ 1 ∷ 2 ∷ 3 ∷ 0 ∷ 2 ∷ 3 ∷ 1 ∷ 0 ∷ 3 ∷ 1 ∷ 2 ∷ []) (4 * x + y) 0

abbrev times4 : ℕ → ℕ → ℕ
times4 x y = entry4 (x % 4) (y % 4)

abbrev term : ℕ → ℕ → ℕ → Term
term i j c = record { i = i; j = j; c = c }

abbrev terms_a : List Term
terms_a = term 0 2 1 ∷ term 0 1 1 ∷ term 3 0 1 ∷ []

abbrev weights_to_10 : List ℕ
weights_to_10 = 0 ∷ 1 ∷ 2 ∷ 3 ∷ 4 ∷ 5 ∷ 6 ∷ 7 ∷ 8 ∷ 9 ∷ 10 ∷ []

relation_example : map (weight_coefficient 2 3 (relation 4 times4 2 terms_a)) weights_to_10 ≡ 0 ∷ 0 ∷ 0 ∷ 1 ∷ 0 ∷ 0 ∷ 1 ∷ 0 ∷ 0 ∷ 0 ∷ 0 ∷ []
unfolding relation inverse_of
relation_example = refl

cube_example : map (weight_coefficient 2 3 (normal_form times4 2 (relation 4 times4 2 terms_a) 0 3)) weights_to_10 ≡ 0 ∷ 0 ∷ 0 ∷ 1 ∷ 0 ∷ 0 ∷ 1 ∷ 0 ∷ 0 ∷ 1 ∷ 0 ∷ []
unfolding relation inverse_of
cube_example = refl

labels_example : map (weight_at 2 3 9) (0 ∷ 1 ∷ 2 ∷ 3 ∷ 4 ∷ 5 ∷ 6 ∷ 7 ∷ 8 ∷ []) ≡ 0 ∷ 2 ∷ 3 ∷ 4 ∷ 5 ∷ 6 ∷ 7 ∷ 8 ∷ 9 ∷ []
unfolding weight_at at_place is_member y_exponent
labels_example = refl

count_example : function_count 2 3 9 ≡ 9
unfolding function_count is_member y_exponent
count_example = refl

pairs_example : map (pairs 2 3) (0 ∷ 2 ∷ 3 ∷ 4 ∷ 5 ∷ 6 ∷ 7 ∷ 8 ∷ 9 ∷ []) ≡ 1 ∷ 2 ∷ 2 ∷ 3 ∷ 4 ∷ 5 ∷ 6 ∷ 7 ∷ 8 ∷ []
unfolding pairs is_pair is_member y_exponent
pairs_example = refl

value_example : value times4 terms_a 3 2 ≡ 0
value_example = refl

-- y^3, and x·y^3, step by step
y_cube : ℕ → ℕ
y_cube = times_y_by_weights times4 2 3 (relation 4 times4 2 terms_a) 6 (times_y_by_weights times4 2 3 (relation 4 times4 2 terms_a) 3 (times_y_by_weights times4 2 3 (relation 4 times4 2 terms_a) 0 one_by_weights))

steps_example : map y_cube weights_to_10 ≡ 0 ∷ 0 ∷ 0 ∷ 1 ∷ 0 ∷ 0 ∷ 1 ∷ 0 ∷ 0 ∷ 1 ∷ 0 ∷ []
unfolding relation inverse_of y_cube x_exponent y_exponent
steps_example = refl

times_x_example : map (times_x_by_weights 2 y_cube) (3 ∷ 5 ∷ 8 ∷ 11 ∷ []) ≡ 0 ∷ 1 ∷ 1 ∷ 1 ∷ []
unfolding relation inverse_of y_cube x_exponent y_exponent
times_x_example = refl

-- the equation is one in the sense of the theorems
distinct_a : AllPairs (λ s t. s.i ≡ t.i → s.j ≡ t.j → ⊥) terms_a
distinct_a zero (suc zero) d l m e f = absurd (omega arith)
distinct_a zero (suc (suc zero)) d l m e f = absurd (omega arith)
distinct_a (suc zero) (suc (suc zero)) d l m e f = absurd (omega arith)
distinct_a i zero d l m e f = absurd (omega arith)
distinct_a (suc i) (suc zero) d l m e f = absurd (omega arith)
distinct_a (suc (suc i)) (suc (suc zero)) d l m e f = absurd (omega arith)
distinct_a i (suc (suc (suc j))) d l m e f = absurd (omega arith)

pub equation_a : IsEquation 4 2 3 terms_a
equation_a =
    equation_from 4 2 3 terms_a (omega arith) (omega arith)
    (IsGcd-swap 3 2 1 (IsGcd-from_sub 3 2 1 (omega arith) (IsGcd-swap 2 1 1 (IsGcd-from_sub 2 1 1 (omega arith) (IsGcd-from_sub 1 1 1 (omega arith) (IsGcd-swap 1 0 1 (IsGcd-from_zero 1 0 refl)))))))
    (All-from_recursion (λ t. (0 < t.c) × (t.c < 4)) terms_a ((omega arith, omega arith), ((omega arith, omega arith), ((omega arith, omega arith), tt))))
    (All-from_recursion (λ t. 2 * t.i + 3 * t.j ≤ 2 * 3) terms_a (omega arith, (omega arith, (omega arith, tt))))
    distinct_a refl refl
