-- The table of the functions of a curve, weight by weight
use Rattle.std.proofs.Common.{◌≡◌, ℕ, ◌+◌, ◌<◌, ◌≤◌, true, false, List, [], ◌∷◌, ◌++◌, length, length-append, get_or, sym, ◌∙◌, ap, subst, refl, inl, inr, arith}
use Rattle.std.proofs.lemmas.Bool.{cases_lt}
use Rattle.std.proofs.lemmas.List.{get_or_append_left}
use Rattle.std.proofs.Math.Seq.{get_or-append_seam}
use Rattle.field_theory.specs.Sums.{count_below}
use Rattle.field_theory.proofs.Counts.{count_below-le, count_below-next_yes, count_below-next_no}
use Rattle.curve_theory.specs.Semigroup.{is_member, x_exponent, y_exponent, function_count, weight_at, place_of}
use Rattle.curve_theory.proofs.Places.{weight_at-place}
use Rattle.cab_curve.specs.declared.functions.Function.{Function}
use Rattle.cab_curve.specs.Functions.{function_at, IsFunctionTable}

each_push : {A : Type 0} (P : ℕ → A → Type 0) (xs : List A) (y d : A) → ((k : ℕ) → k < length xs → P k (get_or xs k d)) → P (length xs) y →
    (k : ℕ) → k < length (xs ++ y ∷ []) → P k (get_or (xs ++ y ∷ []) k d)
each_push {A} P xs y d all last k l =
    let n : length (xs ++ y ∷ []) ≡ length xs + 1 = length-append xs (y ∷ []) in
    elim (cases_lt k (length xs)) [
      | inl m ↦ subst (λ (v : A). P k v) (sym (get_or_append_left xs (y ∷ []) d k m)) (all k m)
      | inr m ↦
          let e : k ≡ length xs = omega arith in
          subst (λ (v : ℕ). P v (get_or (xs ++ y ∷ []) v d)) (sym e) (subst (λ (v : A). P (length xs) v) (sym (get_or-append_seam xs y [] d)) last)
    ]

-- a row is that of function k, whose weight is below w
pub record IsListed (a b w k : ℕ) (row : Function) : Type 0 where
  pub below : row.weight < w
  pub member : is_member a b row.weight ≡ true
  pub place : place_of a b row.weight ≡ k
  pub i_is : row.i ≡ x_exponent a b row.weight
  pub j_is : row.j ≡ y_exponent a b row.weight
  pub j_below : row.j < a

-- the rows and places of the weights below w
pub record AreListed (a b w : ℕ) (rows : List Function) (places : List ℕ) : Type 0 where
  pub count_is : length rows ≡ place_of a b w
  pub rows_are : (k : ℕ) → k < length rows → IsListed a b w k (function_at rows k)
  pub weights : length places ≡ w
  pub places_are : (v : ℕ) → v < length places → get_or places v 0 ≡ place_of a b v

listed_later : {a b w k : ℕ} {row : Function} → IsListed a b w k row → IsListed a b (w + 1) k row
listed_later h = let l : _ = h.below in record { below = omega arith; member = h.member; place = h.place; i_is = h.i_is; j_is = h.j_is; j_below = h.j_below }

pub listed_none : (a b : ℕ) → AreListed a b 0 [] []
unfolding place_of
listed_none a b = record { count_is = refl; rows_are = λ k l. absurd (omega arith); weights = refl; places_are = λ v l. absurd (omega arith) }

pub listed_no_member : (a b w : ℕ) (rows : List Function) (places : List ℕ) → AreListed a b w rows places → is_member a b w ≡ false → AreListed a b (w + 1) rows (places ++ length rows ∷ [])
unfolding place_of
listed_no_member a b w rows places h none = record {
  count_is = h.count_is ∙ sym (count_below-next_no w (is_member a b) none);
  rows_are = λ k l. listed_later (h.rows_are k l);
  weights = length-append places (length rows ∷ []) ∙ ap (λ (n : ℕ). n + 1) h.weights;
  places_are = each_push (λ v x. x ≡ place_of a b v) places (length rows) 0 h.places_are (h.count_is ∙ ap (place_of a b) (sym h.weights));
}

pub listed_member : (a b w : ℕ) (row : Function) (rows : List Function) (places : List ℕ) → AreListed a b w rows places → is_member a b w ≡ true →
    row.weight ≡ w → row.i ≡ x_exponent a b w → row.j ≡ y_exponent a b w → row.j < a → AreListed a b (w + 1) (rows ++ row ∷ []) (places ++ length rows ∷ [])
unfolding place_of
listed_member a b w row rows places h some e ei ej lj = record {
  count_is = length-append rows (row ∷ []) ∙ ap (λ (n : ℕ). n + 1) h.count_is ∙ sym (count_below-next_yes w (is_member a b) some);
  rows_are = each_push (λ k r. IsListed a b (w + 1) k r) rows row _ (λ k l. listed_later (h.rows_are k l)) (record {
    below = omega arith;
    member = ap (is_member a b) e ∙ some;
    place = ap (place_of a b) e ∙ sym h.count_is;
    i_is = ei ∙ ap (x_exponent a b) (sym e);
    j_is = ej ∙ ap (y_exponent a b) (sym e);
    j_below = lj;
  });
  weights = length-append places (length rows ∷ []) ∙ ap (λ (n : ℕ). n + 1) h.weights;
  places_are = each_push (λ v x. x ≡ place_of a b v) places (length rows) 0 h.places_are (h.count_is ∙ ap (place_of a b) (sym h.weights));
}

pub table_of_listed : (a b top : ℕ) (rows : List Function) (places : List ℕ) → AreListed a b (top + 1) rows places → IsFunctionTable a b top rows places
unfolding function_count place_of
table_of_listed a b top rows places h = record {
  count_is = h.count_is;
  rows_are = λ k l.
      let r : IsListed a b (top + 1) k (function_at rows k) = h.rows_are k l in
      let low : (function_at rows k).weight < top + 1 = r.below in
      let e : weight_at a b top k ≡ (function_at rows k).weight =
      ap (weight_at a b top) (sym r.place) ∙ weight_at-place a b top (function_at rows k).weight (omega arith) r.member in
      record {
        within = omega arith;
        weight_is = sym e;
        i_is = r.i_is ∙ ap (x_exponent a b) (sym e);
        j_is = r.j_is ∙ ap (y_exponent a b) (sym e);
        j_below = r.j_below;
      };
  weights = h.weights;
  places_are = λ w l. let n : length places ≡ top + 1 = h.weights in h.places_are w (omega arith);
}

pub listed_few : {a b w : ℕ} {rows : List Function} {places : List ℕ} → AreListed a b w rows places → length rows ≤ w
unfolding place_of
listed_few {a} {b} {w} h = let few : count_below w (is_member a b) ≤ w = count_below-le w (is_member a b) in let n : _ = h.count_is in omega arith
