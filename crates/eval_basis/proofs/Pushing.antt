-- Lists and tables that grow at their end
use Rattle.std.proofs.Common.{◌≡◌, ℕ, suc, ◌+◌, ◌*◌, ◌<◌, List, [], ◌∷◌, ◌++◌, length, slice_index, sym, ◌∙◌, ap, subst, inl, inr, arith}
use Rattle.std.proofs.lemmas.List.{get_or_append_left, get_or-append-add, get_or_push, length-append, length_push}
use Rattle.std.proofs.lemmas.Nat.{mul-add-lt}
use Rattle.field_theory.proofs.Sums.{eq_or_below}
use Rattle.eval_basis.specs.Flat.{IsList, IsTable}

pub list_none : (f : ℕ → ℕ) (xs : List ℕ) → xs ≡ [] → IsList 0 f xs
list_none f xs e = record { long = ap length e; entries = λ k l. absurd (omega arith) }

pub list_more : (k v : ℕ) (f : ℕ → ℕ) (xs now : List ℕ) → IsList k f xs → now ≡ xs ++ v ∷ [] → v ≡ f k → IsList (k + 1) f now
list_more k v f xs now h e is = record {
  long = ap length e ∙ length_push xs v ∙ ap (λ (x : ℕ). x + 1) h.long;
  entries = λ i l. ap (λ (ys : List ℕ). slice_index ys i) e ∙ elim (eq_or_below i k (let w : i < suc k = omega arith in w)) [
    | inl u ↦ get_or_push xs v 0 i (h.long ∙ sym u) ∙ is ∙ ap f (sym u)
    | inr b ↦ get_or_append_left xs (v ∷ []) 0 i (omega (arith, h.long)) ∙ h.entries i b
  ];
}

-- the rows before i, and of row i the entries before j
pub record IsPushed (n : ℕ) (f : ℕ → ℕ → ℕ) (xs : List ℕ) (i j : ℕ) : Type 0 where
  pub long : length xs ≡ i * n + j
  pub rows : (a b : ℕ) → a < i → b < n → slice_index xs (a * n + b) ≡ f a b
  pub row : (b : ℕ) → b < j → slice_index xs (i * n + b) ≡ f i b

pub pushed_none : (n : ℕ) (f : ℕ → ℕ → ℕ) (xs : List ℕ) → xs ≡ [] → IsPushed n f xs 0 0
pushed_none n f xs e = record { long = ap length e ∙ (let z : 0 ≡ 0 * n + 0 = omega arith in z); rows = λ a b la lb. absurd (omega arith); row = λ b lb. absurd (omega arith) }

pub pushed_more : (n : ℕ) (f : ℕ → ℕ → ℕ) (xs now : List ℕ) (i j v : ℕ) → IsPushed n f xs i j → now ≡ xs ++ v ∷ [] → v ≡ f i j → j < n → IsPushed n f now i (j + 1)
pushed_more n f xs now i j v h e is lj = record {
  long = ap length e ∙ length_push xs v ∙ ap (λ (x : ℕ). x + 1) h.long ∙ (let z : i * n + j + 1 ≡ i * n + (j + 1) = omega arith in z);
  rows = λ a b la lb.
      ap (λ (ys : List ℕ). slice_index ys (a * n + b)) e
      ∙ get_or_append_left xs (v ∷ []) 0 (a * n + b) (omega (arith, mul-add-lt a n b i la lb, h.long))
      ∙ h.rows a b la lb;
  row = λ b lb. ap (λ (ys : List ℕ). slice_index ys (i * n + b)) e ∙ elim (eq_or_below b j (let w : b < suc j = omega arith in w)) [
    | inl u ↦ get_or_push xs v 0 (i * n + b) (h.long ∙ ap (λ (x : ℕ). i * n + x) (sym u)) ∙ is ∙ ap (λ (x : ℕ). f i x) (sym u)
    | inr m ↦ get_or_append_left xs (v ∷ []) 0 (i * n + b) (omega (arith, h.long)) ∙ h.row b m
  ];
}

pub pushed_row : (n : ℕ) (f : ℕ → ℕ → ℕ) (xs : List ℕ) (i j : ℕ) → IsPushed n f xs i j → j ≡ n → IsPushed n f xs (i + 1) 0
pushed_row n f xs i j h e = record {
  long = h.long ∙ (let z : i * n + j ≡ (i + 1) * n + 0 = omega arith in z);
  rows = λ a b la lb. elim (eq_or_below a i (let w : a < suc i = omega arith in w)) [
    | inl u ↦ subst (λ (s : ℕ). slice_index xs (s * n + b) ≡ f s b) (sym u) (h.row b (omega arith))
    | inr m ↦ h.rows a b m lb
  ];
  row = λ b lb. absurd (omega arith);
}

-- a whole row
pub pushed_list : (n : ℕ) (f : ℕ → ℕ → ℕ) (xs r now : List ℕ) (i : ℕ) → IsPushed n f xs i 0 → now ≡ xs ++ r → length r ≡ n → ((b : ℕ) → b < n → slice_index r b ≡ f i b) → IsPushed n f now (i + 1) 0
pushed_list n f xs r now i h e long is =
    let base : length xs ≡ i * n = omega (arith, h.long) in
    record {
      long = ap length e ∙ length-append xs r ∙ omega (arith, h.long);
      rows = λ a b la lb. ap (λ (ys : List ℕ). slice_index ys (a * n + b)) e ∙ elim (eq_or_below a i (let w : a < suc i = omega arith in w)) [
        | inl u ↦
            subst (λ (s : ℕ). slice_index (xs ++ r) (s * n + b) ≡ f s b) (sym u)
            (ap (λ (s : ℕ). slice_index (xs ++ r) (s + b)) (sym base) ∙ get_or-append-add xs r b 0 ∙ is b lb)
        | inr m ↦ get_or_append_left xs r 0 (a * n + b) (omega (arith, mul-add-lt a n b i m lb, h.long)) ∙ h.rows a b m lb
      ];
      row = λ b lb. absurd (omega arith);
    }

pub pushed_all : (n i : ℕ) (f : ℕ → ℕ → ℕ) (xs : List ℕ) → IsPushed n f xs i 0 → i ≡ n → IsTable n f xs
pushed_all n i f xs h e = record {
  long = h.long ∙ (let z : i * n + 0 ≡ i * n = omega arith in z) ∙ ap (λ (s : ℕ). s * n) e;
  entries = λ a b la lb. h.rows a b (omega arith) lb;
}

pub ruleset pushing = (list_none, list_more, pushed_none, pushed_more, pushed_row, pushed_list, pushed_all)
