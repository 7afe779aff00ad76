-- Combinations of rows, some columns at a time.
use Rattle.std.proofs.Common.{◌≡◌, ℕ, suc, ◌+◌, ◌*◌, ◌-◌, ◌<◌, ◌≤◌, ◌^◌, List, length, take, drop, get_or, replicate, slice_index, sym, ap, ◌∙◌, subst, inl, inr, refl, arith, bit_xor, All}
use Rattle.std.proofs.lemmas.Bool.{cases_lt}
use Rattle.std.proofs.lemmas.List.{get_or-replicate}
use Rattle.field_theory.specs.Field.{IsField}
use Rattle.field_theory.proofs.Sums.{sum_below}
use Rattle.linear_theory.specs.Linear.{combine}
use Rattle.gf_theory.specs.Field.{gf_mul, IsModulus}
use Rattle.gf_theory.proofs.Fields.{field_of_bits}
use Rattle.gf_linear.specs.Cells.{cell, AreLanes}
use Rattle.gf_linear.specs.Nibbles.{looked_up}
use Rattle.gf_linear.proofs.Forms.{cells_below}
use Rattle.gf_linear.proofs.Steps.{part-row}
use Rattle.gf_linear.proofs.Sixteens.{looked_up-product}
use Rattle.std.proofs.lemmas.List.Elements.{All-from_get_or}

module _ (b m : ℕ) (factors rows : List ℕ) (cols at : ℕ) where
  abbrev sums : ℕ → ℕ → ℕ
  sums i = combine (gf_mul b m) i (slice_index factors) (cell rows cols)

  pub lanes_start : AreLanes (sums 0) at (replicate 32 0)
  lanes_start = record { width = refl; value = λ i l. get_or-replicate 32 i 0 0 l }

  pub lanes_next :
      (i k : ℕ) (low high old lanes : List ℕ) → k ≡ cols → at + 32 ≤ cols → All (λ a. a < 2 ^ b) rows → AreLanes (sums i) at old
      → ((j : ℕ) → j < 16 → j < 2 ^ b → get_or low j 0 ≡ gf_mul b m (get_or factors i 0) j)
      → ((j : ℕ) → j * 16 < 2 ^ b → get_or high j 0 ≡ gf_mul b m (get_or factors i 0) (j * 16))
      → length lanes ≡ 32
      → ((j : ℕ) → j < 32 → get_or lanes j 0 ≡ bit_xor (get_or old j 0) (looked_up low high (get_or (take k (drop (i * cols) rows)) (at + j) 0)))
      → AreLanes (sums (i + 1)) at lanes
  lanes_next i k low high old lanes e room symbols h lows highs long value =
      subst (λ (n : ℕ). AreLanes (sums n) at lanes) (let s : suc i ≡ i + 1 = omega arith in s) (record {
        width = long;
        value = λ j l.
            value j l
            ∙ ap (λ (x : ℕ). bit_xor x (looked_up low high (get_or (take k (drop (i * cols) rows)) (at + j) 0))) (h.value j l)
            ∙ ap (bit_xor (sums i (at + j)))
            (ap (looked_up low high) (part-row cols i k rows (at + j) e (omega arith))
            ∙ looked_up-product b m (get_or factors i 0) (cell rows cols i (at + j)) low high (cells_below b rows cols symbols i (at + j)) lows highs);
      })

-- the lanes from a column on are written: all columns before it are done
pub columns_more :
    (n q at : ℕ) (f : ℕ → ℕ) (xs ys : List ℕ) → ((p : ℕ) → p < q → p < length xs → get_or xs p 0 ≡ f p) → at ≤ q → at ≤ length xs
    → ((p : ℕ) → p < at → get_or ys p 0 ≡ get_or xs p 0) → ((p : ℕ) → at ≤ p → p < at + n → get_or ys p 0 ≡ f p)
    → (p : ℕ) → p < at + n → get_or ys p 0 ≡ f p
columns_more n q at f xs ys done below within before here p l = elim (cases_lt p at) [
  | inl u ↦ before p u ∙ done p (omega arith) (omega arith)
  | inr u ↦ here p u l
]

-- lanes that are the values of a function, at their columns
pub lanes_columns : (at : ℕ) (f : ℕ → ℕ) (lanes ys : List ℕ) → AreLanes f at lanes → ((i : ℕ) → i < 32 → get_or ys (at + i) 0 ≡ get_or lanes i 0)
    → (p : ℕ) → at ≤ p → p < at + 32 → get_or ys p 0 ≡ f p
lanes_columns at f lanes ys h here p lo hi =
    let e : at + (p - at) ≡ p = omega arith in
    subst (λ (q : ℕ). get_or ys q 0 ≡ f q) e (here (p - at) (omega arith) ∙ h.value (p - at) (omega arith))

-- 32 columns more, behind those from `from` on
pub columns_grow : (from at : ℕ) (f : ℕ → ℕ) (xs ys lanes : List ℕ) → ((p : ℕ) → from ≤ p → p < at → get_or xs p 0 ≡ f p)
    → AreLanes f at lanes → ((i : ℕ) → i < 32 → get_or ys (at + i) 0 ≡ get_or lanes i 0) → ((p : ℕ) → p < at → get_or ys p 0 ≡ get_or xs p 0)
    → (p : ℕ) → from ≤ p → p < at + 32 → get_or ys p 0 ≡ f p
columns_grow from at f xs ys lanes done h here before p lo hi = elim (cases_lt p at) [
  | inl u ↦ before p u ∙ done p lo u
  | inr u ↦ lanes_columns at f lanes ys h here p u hi
]

pub combined_symbols : (b m r n : ℕ) (factors rows ys : List ℕ) → IsModulus b m → length ys ≡ n
    → ((q : ℕ) → q < n → get_or ys q 0 ≡ combine (gf_mul b m) r (slice_index factors) (cell rows n) q) → All (λ a. a < 2 ^ b) ys
combined_symbols b m r n factors rows ys modulus e value =
    let field : IsField (2 ^ b) (gf_mul b m) = field_of_bits b m modulus in
    All-from_get_or (λ a. a < 2 ^ b) ys 0
    (λ q l. subst (λ (x : ℕ). x < 2 ^ b) (sym (value q (omega arith)))
    (sum_below (2 ^ b) (gf_mul b m) field r (λ i. gf_mul b m (get_or factors i 0) (cell rows n i q)) (λ i li. field.mul_below (get_or factors i 0) (cell rows n i q))))
