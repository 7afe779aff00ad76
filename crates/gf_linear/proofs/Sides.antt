-- A matrix joined with a column of right sides, and the solution that its reduced form gives
use Rattle.std.proofs.Common.{◌≡◌, ◌≢◌, ℕ, suc, ◌+◌, ◌*◌, ◌^◌, ◌<◌, ◌≤◌, List, length, get_or, set, sym, ◌∙◌, ap, subst, inl, inr, arith, All, nat_lt, add-one}
use Rattle.std.proofs.lemmas.Bool.{cases_lt, cond-true, cond-false, lt-ltb, ltb-true, false_from_ne_true}
use Rattle.std.proofs.lemmas.List.{get_or-set_same, get_or-set_other}
use Rattle.field_theory.specs.Field.{IsField}
use Rattle.gf_theory.specs.Field.{gf_mul, IsModulus}
use Rattle.gf_theory.proofs.Fields.{field_of_bits}
use Rattle.linear_theory.specs.Linear.{dot, IsFree, IsReduced, SameSpan}
use Rattle.linear_theory.proofs.Joined.{joined_none, values_solve, values_free, values_below, reduced_width}
use Rattle.linear_theory.proofs.Solving.{pivot_apart}
use Rattle.gf_linear.specs.Cells.{cell}
use Rattle.gf_linear.specs.Elimination.{beside_column}
use Rattle.gf_linear.proofs.Forms.{cells_below, symbols_at}
use Rattle.gf_linear.proofs.Steps.{All-cells}

column_left : (rows : ℕ → ℕ → ℕ) (n : ℕ) (rhs : ℕ → ℕ) (i p : ℕ) → p < n → beside_column rows n rhs i p ≡ rows i p
column_left rows n rhs i p l = cond-true (nat_lt p n) (rows i p) (rhs i) (lt-ltb p n l)

column_right : (rows : ℕ → ℕ → ℕ) (n : ℕ) (rhs : ℕ → ℕ) (i p : ℕ) → n ≤ p → beside_column rows n rhs i p ≡ rhs i
column_right rows n rhs i p l = cond-false (nat_lt p n) (rows i p) (rhs i) (false_from_ne_true (nat_lt p n) (λ e. let w : p < n = ltb-true p n e in absurd (omega arith)))

pub column_row : (rows : ℕ → ℕ → ℕ) (row : ℕ → ℕ) (m n : ℕ) (rhs : ℕ → ℕ) (i p x : ℕ) → m ≡ n → ((q : ℕ) → q < n → row q ≡ rows i q) → x ≡ rhs i → beside_column (λ k. row) m (λ k. x) 0 p ≡ beside_column rows n rhs i p
column_row rows row m n rhs i p x e h f = subst (λ (k : ℕ). beside_column (λ q. row) k (λ q. x) 0 p ≡ beside_column rows n rhs i p) (sym e) (elim (cases_lt p n) [
  | inl l ↦ column_left (λ q. row) n (λ q. x) 0 p l ∙ h p l ∙ sym (column_left rows n rhs i p l)
  | inr l ↦ column_right (λ q. row) n (λ q. x) 0 p l ∙ f ∙ sym (column_right rows n rhs i p l)
])

-- the joined matrix holds symbols
pub column_symbols : (b n : ℕ) (xs rhs ys : List ℕ) → All (λ a. a < 2 ^ b) xs → All (λ a. a < 2 ^ b) rhs → length ys ≡ length rhs * (n + 1)
    → ((i p : ℕ) → i < length rhs → p < n + 1 → cell ys (n + 1) i p ≡ beside_column (cell xs n) n (λ k. get_or rhs k 0) i p) → All (λ a. a < 2 ^ b) ys
column_symbols b n xs rhs ys sx sr ly joined =
    All-cells (λ a. a < 2 ^ b) (length rhs) (n + 1) ys ly (λ i p li lp. subst (λ (x : ℕ). x < 2 ^ b) (sym (joined i p li lp)) (elim (cases_lt p n) [
      | inl u ↦ subst (λ (x : ℕ). x < 2 ^ b) (sym (column_left (cell xs n) n (λ k. get_or rhs k 0) i p u)) (cells_below b xs n sx i p)
      | inr u ↦ subst (λ (x : ℕ). x < 2 ^ b) (sym (column_right (cell xs n) n (λ k. get_or rhs k 0) i p u)) (symbols_at b rhs sr i)
    ]))

module _ (b md n r k : ℕ) (xs rhs ys zs : List ℕ) (m : IsModulus b md) (sy : All (λ a. a < 2 ^ b) ys) (sz : All (λ a. a < 2 ^ b) zs)
    (joined : (i p : ℕ) → i < r → p < n + 1 → cell ys (n + 1) i p ≡ beside_column (cell xs n) n (λ k. get_or rhs k 0) i p)
    (h : IsReduced (n + 1) (cell zs (n + 1)) r k) (span : SameSpan (gf_mul b md) (n + 1) (cell ys (n + 1)) r (cell zs (n + 1)) r) where
  field : IsField (2 ^ b) (gf_mul b md)
  field = field_of_bits b md m

  left : (i : ℕ) → i < r → (j : ℕ) → j < n → cell ys (n + 1) i j ≡ cell xs n i j
  left i li j lj = joined i j li (omega arith) ∙ column_left (cell xs n) n (λ k. get_or rhs k 0) i j lj

  right : (i : ℕ) → i < r → cell ys (n + 1) i n ≡ get_or rhs i 0
  right i li = joined i n li (omega arith) ∙ column_right (cell xs n) n (λ k. get_or rhs k 0) i n (omega arith)

  same : SameSpan (gf_mul b md) (suc n) (cell ys (n + 1)) r (cell zs (n + 1)) r
  same = subst (λ (w : ℕ). SameSpan (gf_mul b md) w (cell ys (n + 1)) r (cell zs (n + 1)) r) (add-one n) span

  wide : (g : IsReduced (suc n) (cell zs (n + 1)) r k) × ((t : ℕ) → g.pivots t ≡ h.pivots t)
  wide = reduced_width (suc n) (add-one n) h

  pub sides_none : ((t : ℕ) × (t < k) × (h.pivots t ≡ n)) → (y : ℕ → ℕ) → ((i : ℕ) → i < r → dot (gf_mul b md) n (cell xs n i) y ≡ get_or rhs i 0) → ⊥
  sides_none w y solves =
      joined_none (2 ^ b) (gf_mul b md) field n r k (cell xs n) (cell ys (n + 1)) (cell zs (n + 1)) (λ i. get_or rhs i 0) (cells_below b ys (n + 1) sy) (cells_below b zs (n + 1) sz) left right wide.0 same
      w.0 y w.1 (wide.1 w.0 ∙ w.2) solves

  module _ (x : ℕ → ℕ) (at_pivots : (t : ℕ) → t < k → x (h.pivots t) ≡ cell zs (n + 1) t n) (elsewhere : (j : ℕ) → ((t : ℕ) → t < k → h.pivots t ≢ j) → x j ≡ 0) where
    at : (t : ℕ) → t < k → x (wide.0.pivots t) ≡ cell zs (n + 1) t n
    at t l = ap x (wide.1 t) ∙ at_pivots t l

    off : (j : ℕ) → ((t : ℕ) → t < k → wide.0.pivots t ≢ j) → x j ≡ 0
    off j d = elsewhere j (λ t l e. d t l (wide.1 t ∙ e))

    pub sides_solve : ((t : ℕ) → t < k → h.pivots t < n) → (i : ℕ) → i < r → dot (gf_mul b md) n (cell xs n i) x ≡ get_or rhs i 0
    sides_solve low =
        values_solve (2 ^ b) (gf_mul b md) field n r k (cell xs n) (cell ys (n + 1)) (cell zs (n + 1)) (λ i. get_or rhs i 0) (cells_below b ys (n + 1) sy) (cells_below b zs (n + 1) sz) left right wide.0 same
        x at off (λ t l. subst (λ (q : ℕ). q < n) (sym (wide.1 t)) (low t l))

    pub sides_free : (j : ℕ) → j < n → IsFree (2 ^ b) (gf_mul b md) (cell xs n) r j → x j ≡ 0
    sides_free =
        values_free (2 ^ b) (gf_mul b md) field n r k (cell xs n) (cell ys (n + 1)) (cell zs (n + 1)) (λ i. get_or rhs i 0) (cells_below b ys (n + 1) sy) (cells_below b zs (n + 1) sz) left right wide.0 same x at off

    pub sides_below : (j : ℕ) → x j < 2 ^ b
    sides_below =
        values_below (2 ^ b) (gf_mul b md) field n r k (cell xs n) (cell ys (n + 1)) (cell zs (n + 1)) (λ i. get_or rhs i 0) (cells_below b ys (n + 1) sy) (cells_below b zs (n + 1) sz) left right wide.0 same x at off

-- ---- the solution is written pivot by pivot
pub pivots_low : (p : ℕ → ℕ) (n t lead : ℕ) → lead ≡ p t → lead < n → ((u : ℕ) → u < t → p u < n) → (u : ℕ) → u < t + 1 → p u < n
pivots_low p n t lead e l h u lu = elim (cases_lt u t) [ inl a ↦ h u a | inr a ↦ let w : t ≡ u = omega arith in let v : p t ≡ p u = ap p w in omega arith ]

pub pivots_written : (n r k t lead v : ℕ) (rows : ℕ → ℕ → ℕ) (xs : List ℕ) (h : IsReduced n rows r k) (value : ℕ → ℕ) → t < k → lead ≡ h.pivots t → lead < length xs → v ≡ value t
    → ((u : ℕ) → u < t → get_or xs (h.pivots u) 0 ≡ value u) → (u : ℕ) → u < t + 1 → get_or (set xs lead v) (h.pivots u) 0 ≡ value u
pivots_written n r k t lead v rows xs h value lt e l ev old u lu = elim (cases_lt u t) [
  | inl a ↦ get_or-set_other xs lead (h.pivots u) v 0 (λ d. let w : u ≡ t = pivot_apart h u t (omega arith) lt (d ∙ e) in omega arith) ∙ old u a
  | inr a ↦
      let w : t ≡ u = omega arith in
      subst (λ (q : ℕ). get_or (set xs lead v) (h.pivots q) 0 ≡ value q) w
      (ap (λ (q : ℕ). get_or (set xs lead v) q 0) (sym e) ∙ get_or-set_same xs lead v 0 l ∙ ev)
]

pub others_zero : (p : ℕ → ℕ) (t lead v : ℕ) (xs : List ℕ) → lead ≡ p t → ((j : ℕ) → ((u : ℕ) → u < t → p u ≢ j) → get_or xs j 0 ≡ 0) → (j : ℕ) → ((u : ℕ) → u < t + 1 → p u ≢ j) → get_or (set xs lead v) j 0 ≡ 0
others_zero p t lead v xs e old j d = get_or-set_other xs lead j v 0 (λ f. d t (omega arith) (sym e ∙ sym f)) ∙ old j (λ u lu. d u (omega arith))
