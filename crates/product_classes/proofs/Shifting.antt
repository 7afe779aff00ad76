-- The products with one member, as far as they are found, and the entries that they make the same
use Rattle.std.proofs.Common.{ℕ, ◌≡◌, ◌≢◌, ◌+◌, ◌<◌, ◌≤◌, List, length, set, get_or, sym, ◌∙◌, ap, inl, inr, arith, replicate}
use Rattle.std.specs.Prelude.{slice_index, slice_index_or, []}
use Rattle.std.proofs.lemmas.Bool.{cases_eq}
use Rattle.std.proofs.lemmas.List.{get_or-set_same, get_or-set_other, length-set, get_or-replicate, length-replicate, get_or_read_under}
use Rattle.std.proofs.lemmas.List.Elements.{All-get_or}
use Rattle.field_theory.proofs.Sums.{sum-same}
use Rattle.gf_theory.specs.Field.{gf_mul}
use Rattle.order_theory.specs.Basis.{Basis, IsWord, IsSoundBasis, times, vector}
use Rattle.order_theory.specs.Errors.{entry}
use Rattle.product_classes.specs.Shifts.{HasShift, IsSource}
use Rattle.product_classes.specs.declared.shifts.Shift.{Shift}

-- the products of the members below i are found, or are none
pub record IsFilled (b : Basis) (by i : ℕ) (next back : List ℕ) : Type 0 where
  pub next_long : length next ≡ b.n
  pub back_long : length back ≡ b.n
  pub later : (j : ℕ) → i ≤ j → j < b.n → slice_index next j ≡ b.n
  pub products : (j : ℕ) → j < b.n → slice_index next j < b.n → (p : ℕ) → p < b.n → times b (vector b by p) (vector b j p) ≡ vector b (slice_index next j) p
  pub forth : (q : ℕ) → q < b.n → slice_index back q < b.n → slice_index next (slice_index back q) ≡ q

pub none_filled : (b : Basis) (by x y n : ℕ) (next back : List ℕ) → n ≡ b.n → x ≡ b.n → y ≡ b.n → next ≡ replicate x n → back ≡ replicate y n → IsFilled b by 0 next back
none_filled b by x y n next back en ex ey e1 e2 =
    let at : (k z : ℕ) (xs : List ℕ) → z ≡ b.n → xs ≡ replicate z n → k < b.n → slice_index xs k ≡ b.n =
    λ k z xs ez es l. ap (λ (v : List ℕ). slice_index v k) es ∙ get_or-replicate z k n 0 (omega arith) ∙ en in
    record {
      next_long = ap length e1 ∙ length-replicate x n ∙ ex;
      back_long = ap length e2 ∙ length-replicate y n ∙ ey;
      later = λ j _ l. at j x next ex e1 l;
      products = λ j l u p. absurd (omega (arith, at j x next ex e1 l));
      forth = λ q l u. absurd (omega (arith, at q y back ey e2 l));
    }

-- no product is found
pub past_filled : (b : Basis) (by i : ℕ) (next back : List ℕ) → IsFilled b by i next back → IsFilled b by (i + 1) next back
past_filled b by i next back h = record {
  next_long = h.next_long;
  back_long = h.back_long;
  later = λ j u l. h.later j (omega arith) l;
  products = h.products;
  forth = h.forth;
}

-- the product of member i is member q
pub one_filled : (b : Basis) (by i q : ℕ) (next back : List ℕ) → i < b.n → q < b.n → ((p : ℕ) → p < b.n → times b (vector b by p) (vector b i p) ≡ vector b q p)
    → IsFilled b by i next back → IsFilled b by (i + 1) (set next i q) (set back q i)
one_filled b by i q next back li lq is h = record {
  next_long = length-set next i q ∙ h.next_long;
  back_long = length-set back q i ∙ h.back_long;
  later = λ j u l. get_or-set_other next i j q 0 (omega arith) ∙ h.later j (omega arith) l;
  products = λ j l u p lp. elim (cases_eq j i) [
    | inl f ↦
        let at : slice_index (set next i q) j ≡ q = ap (λ (x : ℕ). slice_index (set next i q) x) f ∙ get_or-set_same next i q 0 (omega (arith, h.next_long)) in
        ap (λ (x : ℕ). times b (vector b by p) (vector b x p)) f ∙ is p lp ∙ sym (ap (λ (x : ℕ). vector b x p) at)
    | inr ne ↦
        let at : slice_index (set next i q) j ≡ slice_index next j = get_or-set_other next i j q 0 ne in
        h.products j l (omega (arith, at)) p lp ∙ sym (ap (λ (x : ℕ). vector b x p) at)
  ];
  forth = λ r l u. elim (cases_eq r q) [
    | inl f ↦
        let at : slice_index (set back q i) r ≡ i = ap (λ (x : ℕ). slice_index (set back q i) x) f ∙ get_or-set_same back q i 0 (omega (arith, h.back_long)) in
        ap (λ (x : ℕ). slice_index (set next i q) x) at ∙ get_or-set_same next i q 0 (omega (arith, h.next_long)) ∙ sym f
    | inr ne ↦
        let at : slice_index (set back q i) r ≡ slice_index back r = get_or-set_other back q r i 0 ne in
        let known : slice_index next (slice_index back r) ≡ r = h.forth r l (omega (arith, at)) in
        let other : slice_index back r ≢ i = λ f. absurd (omega (arith, known, h.later i (omega arith) li, ap (λ (x : ℕ). slice_index next x) f)) in
        ap (λ (x : ℕ). slice_index (set next i q) x) at ∙ get_or-set_other next i (slice_index back r) q 0 other ∙ known
  ];
}

-- the product of members by and i is member q, as the code finds it
pub product_is : (b : Basis) (fb fm by i q : ℕ) (x y z : List ℕ) → IsSoundBasis b → fb ≡ b.bits → fm ≡ b.modulus
    → x ≡ slice_index_or b.vectors by [] → y ≡ slice_index_or b.vectors i [] → z ≡ slice_index_or b.vectors q [] → q < b.n
    → ((p : ℕ) → p < length z → gf_mul fb fm (slice_index x p) (slice_index y p) ≡ slice_index z p)
    → (p : ℕ) → p < b.n → times b (vector b by p) (vector b i p) ≡ vector b q p
product_is b fb fm by i q x y z h eb em ex ey ez lq prod p l =
    let word : IsWord b.bits b.n (slice_index_or b.vectors q []) = All-get_or (IsWord b.bits b.n) b.vectors q [] (omega (arith, h.sound.shape.n_vectors)) h.sound.shape.vector_words in
    let long : length z ≡ b.n = ap length ez ∙ word.n_long in
    let e : gf_mul fb fm (slice_index x p) (slice_index y p) ≡ slice_index z p = prod p (omega arith) in
    rw (eb, em, ex, ey, ez) at e

pub filled_all : (b : Basis) (by i : ℕ) (shift : Shift) → IsFilled b by i shift.next.items shift.back.items → HasShift b shift
filled_all b by i shift h = record {
  room = record { n_next = h.next_long; n_back = h.back_long };
  by = by;
  products = h.products;
  forth = h.forth;
}

-- where vector g times vector i' is vector i, and vector g times vector j is vector j', the entries (i, j) and (i', j') are one
pub entry_shifts : (b : Basis) (w : List ℕ) (g i j i' j' : ℕ) → IsSoundBasis b
    → ((p : ℕ) → p < b.n → times b (vector b g p) (vector b i' p) ≡ vector b i p) → ((p : ℕ) → p < b.n → times b (vector b g p) (vector b j p) ≡ vector b j' p)
    → entry (times b) b w i j ≡ entry (times b) b w i' j'
entry_shifts b w g i j i' j' h row column =
    sum-same b.n (λ p. times b (get_or w p 0) (times b (vector b i p) (vector b j p))) (λ p. times b (get_or w p 0) (times b (vector b i' p) (vector b j' p)))
    (λ p l. ap (λ (x : ℕ). times b (get_or w p 0) x)
    (ap (λ (x : ℕ). times b x (vector b j p)) (sym (row p l) ∙ h.sound.field.mul_comm (vector b g p) (vector b i' p))
    ∙ h.sound.field.mul_assoc (vector b i' p) (vector b g p) (vector b j p)
    ∙ ap (λ (x : ℕ). times b (vector b i' p) x) (column p l)))

-- the place that the products with one member lead to
pub source_at : (b : Basis) (shift : Shift) (i j i' j' : ℕ) → IsSoundBasis b → HasShift b shift → i < b.n → j < b.n
    → i' ≡ slice_index shift.back.items i → j' ≡ slice_index shift.next.items j → i' < b.n → j' < b.n → IsSource b i j i' j'
source_at b shift i j i' j' h s li lj e1 e2 l1 l2 =
    let leads : slice_index shift.next.items i' ≡ i = ap (λ (q : ℕ). slice_index shift.next.items q) e1 ∙ s.forth i li (omega (arith, e1)) in
    record {
      row = l1;
      column = l2;
      same = λ w. entry_shifts b w s.by i j i' j' h
          (λ p l. s.products i' l1 (omega (arith, leads)) p l ∙ ap (λ (q : ℕ). vector b q p) leads)
          (λ p l. s.products j lj (omega (arith, e2)) p l ∙ ap (λ (q : ℕ). vector b q p) (sym e2));
    }

-- an entry of a list, as it is read
pub read_at : (xs : List ℕ) (i n x : ℕ) → x ≡ get_or xs i x → i < n → length xs ≡ n → x ≡ slice_index xs i
read_at xs i n x e l f = get_or_read_under xs i n x 0 e l (sym f)
