-- The known part of the matrix of an error: what its syndromes below a member tell of its entries
use Rattle.std.proofs.Common.{◌≡◌, ℕ, ◌^◌, ◌<◌, sym, ◌∙◌, ap, subst, inl, inr, arith, bit_xor}
use Rattle.std.proofs.lemmas.Bool.{cases_lt}
use Rattle.field_theory.specs.Sums.{xor_sum}
use Rattle.linear_theory.specs.Linear.{dot, syndromes}
use Rattle.field_theory.proofs.Sums.{sum-same, zero-mul, xor_mid}
use Rattle.linear_theory.proofs.Spans.{xor_back}
use Rattle.linear_theory.proofs.Duals.{dot_comm, dot_combine}
use Rattle.std.specs.Int.Bits.{xor_self, xor_zero_r}
use Rattle.std.proofs.lemmas.Nat.{xor_comm}
use Rattle.order_theory.specs.Basis.{Basis, IsSound, IsSpannedBelow, HasLead, vector, lead, rank_at, sum_at, product}
use Rattle.linear_theory.proofs.Functionals.{dot_xor, dot_scale}
use Rattle.order_theory.proofs.Shape.{cases_value, earlier}

xor_apart : (a b c : ℕ) → bit_xor (bit_xor c a) (bit_xor c b) ≡ bit_xor a b
xor_apart a b c = xor_mid c a c b ∙ ap (λ x. bit_xor x (bit_xor a b)) (xor_self c) ∙ xor_comm 0 (bit_xor a b) ∙ xor_zero_r (bit_xor a b)

module _ (mul : ℕ → ℕ → ℕ) (b : Basis) (h : IsSound mul b) where
  -- the product of e and the vector of member k
  abbrev pub syn : (ℕ → ℕ) → ℕ → ℕ
  syn e k = dot mul b.n e (vector b k)

  -- a combination of the vectors of smaller rank has one product with both
  pub spanned_same : (e w : ℕ → ℕ) (s : ℕ) (v : ℕ → ℕ) → ((m : ℕ) → m < b.n → rank_at b m < s → syn e m ≡ syn w m) → IsSpannedBelow mul b s v → dot mul b.n e v ≡ dot mul b.n w v
  spanned_same e w s v same c =
      let size : ℕ = 2 ^ b.bits in
      let sums : (x : ℕ → ℕ) → dot mul b.n x v ≡ xor_sum b.n (λ k. mul (c.factors k) (dot mul b.n (vector b k) x)) =
      λ x. dot_comm (2 ^ b.bits) mul h.field b.n x v ∙ dot_combine (2 ^ b.bits) mul h.field b.n (vector b) b.n c.factors v x c.is_sum in
      sums e
      ∙ sum-same b.n (λ k. mul (c.factors k) (dot mul b.n (vector b k) e)) (λ k. mul (c.factors k) (dot mul b.n (vector b k) w))
      (λ k l. elim (cases_lt (rank_at b k) s) [
        | inl u ↦ ap (λ y. mul (c.factors k) y) (dot_comm (2 ^ b.bits) mul h.field b.n (vector b k) e ∙ same k l u ∙ dot_comm (2 ^ b.bits) mul h.field b.n w (vector b k))
        | inr u ↦
            ap (λ y. mul y (dot mul b.n (vector b k) e)) (c.only_below k l u) ∙ zero-mul (2 ^ b.bits) mul h.field (dot mul b.n (vector b k) e)
            ∙ sym (ap (λ y. mul y (dot mul b.n (vector b k) w)) (c.only_below k l u) ∙ zero-mul (2 ^ b.bits) mul h.field (dot mul b.n (vector b k) w))
      ])
      ∙ sym (sums w)

  -- where the sum is a member, an entry is the rest and the lead times the syndrome
  lead_split : (e : ℕ → ℕ) (i j k : ℕ) → syndromes mul b.n e (vector b) i j ≡ bit_xor (dot mul b.n e (λ p. bit_xor (product mul b i j p) (mul (lead b i j) (vector b k p)))) (mul (lead b i j) (syn e k))
  lead_split e i j k =
      sym (ap (λ y. bit_xor y (mul (lead b i j) (syn e k)))
      (dot_xor (2 ^ b.bits) mul h.field b.n e (product mul b i j) (λ p. mul (lead b i j) (vector b k p)) ∙ ap (λ y. bit_xor (dot mul b.n e (product mul b i j)) y) (dot_scale (2 ^ b.bits) mul h.field b.n e (lead b i j) (vector b k)))
      ∙ xor_back (dot mul b.n e (product mul b i j)) (mul (lead b i j) (syn e k)))

  pub entry_at_member : (e w : ℕ → ℕ) (k : ℕ) → k < b.n → ((m : ℕ) → m < k → syn e m ≡ syn w m) → (i j : ℕ) → i < b.n → j < b.n → sum_at b i j ≡ rank_at b k →
      bit_xor (syndromes mul b.n e (vector b) i j) (syndromes mul b.n w (vector b) i j) ≡ mul (lead b i j) (bit_xor (syn e k) (syn w k))
  entry_at_member e w k lk same i j li lj s =
      let c : HasLead mul b i j k = h.member_products i j k li lj lk s in
      let v : ℕ → ℕ = λ p. bit_xor (product mul b i j p) (mul (lead b i j) (vector b k p)) in
      let rest : dot mul b.n e v ≡ dot mul b.n w v = spanned_same e w (rank_at b k) v (λ m l u. same m (earlier mul b h m k l lk u)) c.rest in
      ap (λ y. bit_xor y (syndromes mul b.n w (vector b) i j)) (lead_split e i j k ∙ ap (λ y. bit_xor y (mul (lead b i j) (syn e k))) rest)
      ∙ ap (λ y. bit_xor (bit_xor (dot mul b.n w v) (mul (lead b i j) (syn e k))) y) (lead_split w i j k)
      ∙ xor_apart (mul (lead b i j) (syn e k)) (mul (lead b i j) (syn w k)) (dot mul b.n w v)
      ∙ sym (h.field.mul_xor (lead b i j) (syn e k) (syn w k))

  pub entry_before : (e w : ℕ → ℕ) (k : ℕ) → k < b.n → ((m : ℕ) → m < k → syn e m ≡ syn w m) → (i j : ℕ) → i < b.n → j < b.n → sum_at b i j < rank_at b k →
      syndromes mul b.n e (vector b) i j ≡ syndromes mul b.n w (vector b) i j
  entry_before e w k lk same i j li lj s =
      let few : rank_at b k < b.count = h.shape.ranks_below k lk in
      elim (cases_value b.n (rank_at b) (sum_at b i j)) [
        | inl m ↦
            let lm : m.0 < k = earlier mul b h m.0 k m.1 lk (subst (λ (x : ℕ). x < rank_at b k) m.2 s) in
            let c : HasLead mul b i j m.0 = h.member_products i j m.0 li lj m.1 m.2 in
            let v : ℕ → ℕ = λ p. bit_xor (product mul b i j p) (mul (lead b i j) (vector b m.0 p)) in
            let rest : dot mul b.n e v ≡ dot mul b.n w v = spanned_same e w (rank_at b m.0) v (λ q l u. same q (let f : q < m.0 = earlier mul b h q m.0 l m.1 u in omega arith)) c.rest in
            lead_split e i j m.0
            ∙ ap (λ y. bit_xor y (mul (lead b i j) (syn e m.0))) rest
            ∙ ap (λ y. bit_xor (dot mul b.n w v) (mul (lead b i j) y)) (same m.0 lm)
            ∙ sym (lead_split w i j m.0)
        | inr d ↦
            spanned_same e w (sum_at b i j) (product mul b i j) (λ m l u. same m (earlier mul b h m k l lk (omega arith))) (h.other_products i j li lj (omega arith) d)
      ]
