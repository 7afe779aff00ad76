-- What is accepted is a C_ab equation
use Rattle.std.proofs.Common.{◌≡◌, ℕ, ◌+◌, ◌*◌, ◌<◌, ◌≤◌, ◌^◌, Bool, true, false, not, ltb, ◌&&◌, ◌||◌, None, List, length, take, get_or, ◌∙◌, ap, subst, arith}
use Rattle.std.specs.List.{All}
use Rattle.std.proofs.lemmas.Bool.{and_parts, or_parts, ltb-true, ltb-false, both_ways, not-false}
use Rattle.std.proofs.lemmas.List.{length-take-le, get_or-take, get_or_default}
use Rattle.curve_theory.specs.declared.Term.{Term}
use Rattle.curve_theory.specs.Curve.{has_term}
use Rattle.curve_theory.proofs.Equation.{AreDistinct, IsTermAt, has_term-from, equation_from}
use Rattle.weight_semi.specs.Generators.{AreGenerators}
use Rattle.cab_curve.specs.First.{least}
use Rattle.cab_curve.specs.Equation.{IsCurve, term_at, is_bad_term}
use Rattle.cab_curve.proofs.Least.{least-none}

-- what is known of a term that is not bad
record IsGoodTerm (size a b : ℕ) (ts : List Term) (k : ℕ) : Type 0 where
  above : 0 < (term_at ts k).c
  below : (term_at ts k).c < size
  weight : a * (term_at ts k).i + b * (term_at ts k).j ≤ a * b
  new : has_term (take k ts) (term_at ts k).i (term_at ts k).j ≡ false

good_term : (size a b : ℕ) (ts : List Term) (k : ℕ) → is_bad_term size a b ts k ≡ false → IsGoodTerm size a b ts k
unfolding is_bad_term
good_term size a b ts k h =
    let t : Term = term_at ts k in
    let symbol : Bool = ltb 0 t.c && ltb t.c size in
    let heavy : Bool = ltb (a * b) (a * t.i + b * t.j) in
    let parts = or_parts (not symbol || heavy) (has_term (take k ts) t.i t.j) h in
    let low = or_parts (not symbol) heavy parts.0 in
    let both = and_parts (ltb 0 t.c) (ltb t.c size) (not-false symbol low.0) in
    record {
      above = ltb-true 0 t.c both.0;
      below = ltb-true t.c size both.1;
      weight = ltb-false (a * b) (a * t.i + b * t.j) low.1;
      new = parts.1;
    }

distinct_terms : (size a b : ℕ) (ts : List Term) → ((k : ℕ) → k < length ts → IsGoodTerm size a b ts k) → AreDistinct ts
distinct_terms size a b ts good = λ i j d l m e f.
    let none : Term = record { i = 0; j = 0; c = 0 } in
    let at : get_or ts j d ≡ term_at ts j = get_or_default ts j d none m in
    let front : length (take j ts) ≡ j = length-take-le j ts (omega arith) in
    let term : IsTermAt (take j ts) (term_at ts j).i (term_at ts j).j i = record {
      below = omega arith;
      same_i = λ q. ap (λ (t : Term). t.i) (get_or-take j ts i q l ∙ get_or_default ts i q d (omega arith)) ∙ e ∙ ap (λ (t : Term). t.i) at;
      same_j = λ q. ap (λ (t : Term). t.j) (get_or-take j ts i q l ∙ get_or_default ts i q d (omega arith)) ∙ f ∙ ap (λ (t : Term). t.j) at;
    } in
    both_ways (has_term (take j ts) (term_at ts j).i (term_at ts j).j) (good j m).new (has_term-from (take j ts) (term_at ts j).i (term_at ts j).j i term)

all_terms : (P : Term → Type 0) (ts : List Term) → ((k : ℕ) → k < length ts → P (term_at ts k)) → All P ts
all_terms P ts h = λ k d l. subst P (get_or_default ts k (record { i = 0; j = 0; c = 0 }) d l) (h k l)

pub accepted : (bits a b : ℕ) (ts : List Term) → 2 ≤ bits → bits ≤ 8 → AreGenerators a b → least (length ts) (is_bad_term (2 ^ bits) a b ts) ≡ None →
    has_term ts 0 a ≡ true → has_term ts b 0 ≡ true → IsCurve (record { bits = bits; a = a; b = b; terms = ts })
accepted bits a b ts low high gens none y_lead x_lead =
    let good : (k : ℕ) → k < length ts → IsGoodTerm (2 ^ bits) a b ts k = λ k l. good_term (2 ^ bits) a b ts k (least-none (length ts) (is_bad_term (2 ^ bits) a b ts) none k l) in
    record {
      bits_least = low;
      bits_most = high;
      generators = gens;
      equation = equation_from (2 ^ bits) a b ts (omega (arith, gens.a_least)) (omega (arith, gens.b_least)) gens.coprime
          (all_terms (λ t. (0 < t.c) × (t.c < 2 ^ bits)) ts (λ k l. ((good k l).above, (good k l).below)))
          (all_terms (λ t. a * t.i + b * t.j ≤ a * b) ts (λ k l. (good k l).weight))
          (distinct_terms (2 ^ bits) a b ts good) y_lead x_lead;
    }
