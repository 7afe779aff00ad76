-- A vector that is not 0 is as heavy as the pairs of the first member at which its syndrome is not 0
use Rattle.std.proofs.Common.{◌≡◌, ◌≢◌, ℕ, ◌+◌, ◌*◌, ◌^◌, ◌<◌, ◌≤◌, sym, ◌∙◌, ap, subst, inl, inr, arith, bit_xor}
use Rattle.std.proofs.lemmas.Bool.{cases_eq}
use Rattle.std.specs.Int.Bits.{xor_self, xor_zero_r}
use Rattle.linear_theory.specs.Linear.{dot, rank, syndromes, weight}
use Rattle.field_theory.proofs.Sums.{sum-zero, zero-mul, zero_below, xor_below, xor_same}
use Rattle.linear_theory.proofs.Corners.{syndromes-below, rank-le-weight}
use Rattle.linear_theory.proofs.Duals.{dual_combination, dot_below, dot_comm}
use Rattle.counting_theory.specs.Ranks.{IsRank}
use Rattle.counting_theory.specs.Votes.{IsFirstSum, pairs}
use Rattle.counting_theory.proofs.Bound.{pairs-le-rank}
use Rattle.order_theory.specs.Basis.{Basis, IsSound, vector, dual, lead, rank_at, sum_at, pairs_at, HasLead}
use Rattle.linear_theory.proofs.Functionals.{dot_xor}
use Rattle.order_theory.proofs.Fields.{first_or_none, mul_not_zero}
use Rattle.linear_theory.proofs.Wrongs.{IsRank-rank}
use Rattle.order_theory.proofs.Parts.{rank_of_zeros, zeros_of_rank}
use Rattle.order_theory.proofs.Shape.{dual_below, lead_below}
use Rattle.order_theory.proofs.Known.{syn, entry_before, entry_at_member}
use Rattle.order_theory.proofs.Weights.{weight_triangle}

module _ (mul : ℕ → ℕ → ℕ) (b : Basis) (h : IsSound mul b) where
  -- the ranks of the parts of the matrix of e
  abbrev pub ranks_of : (ℕ → ℕ) → ℕ → ℕ → ℕ
  ranks_of e i j = rank (2 ^ b.bits) mul j (syndromes mul b.n e (vector b)) i

  pub entries_below : (e : ℕ → ℕ) (i j : ℕ) → syndromes mul b.n e (vector b) i j < 2 ^ b.bits
  entries_below e i j = syndromes-below (2 ^ b.bits) mul h.field b.n e (vector b) i j

  pub syn_below : (e : ℕ → ℕ) (k : ℕ) → syn mul b h e k < 2 ^ b.bits
  syn_below e k = dot_below (2 ^ b.bits) mul h.field b.n e (vector b k)

  pub are_ranks : (e : ℕ → ℕ) → IsRank b.n (ranks_of e)
  are_ranks e = IsRank-rank (2 ^ b.bits) mul h.field b.n (syndromes mul b.n e (vector b)) (entries_below e)

  pub ranks-le-weight : (e : ℕ → ℕ) (i j : ℕ) → ranks_of e i j ≤ weight b.n e
  ranks-le-weight e i j = rank-le-weight (2 ^ b.bits) mul h.field b.n e (vector b) i j

  dot_of_zero : (v : ℕ → ℕ) → dot mul b.n (λ p. 0) v ≡ 0
  dot_of_zero v = sum-zero b.n (λ p. mul 0 (v p)) (λ p l. zero-mul (2 ^ b.bits) mul h.field (v p))

  -- with no syndrome below k no entry at a sum below k
  no_entry : (e : ℕ → ℕ) (k : ℕ) → k < b.n → ((m : ℕ) → m < k → syn mul b h e m ≡ 0) → (i j : ℕ) → i < b.n → j < b.n → sum_at b i j < rank_at b k → syndromes mul b.n e (vector b) i j ≡ 0
  no_entry e k lk none i j li lj s =
      entry_before mul b h e (λ p. 0) k lk (λ m l. none m l ∙ sym (dot_of_zero (vector b m))) i j li lj s
      ∙ dot_of_zero (λ p. mul (vector b i p) (vector b j p))

  an_entry : (e : ℕ → ℕ) (k : ℕ) → k < b.n → ((m : ℕ) → m < k → syn mul b h e m ≡ 0) → syn mul b h e k ≢ 0 → (i j : ℕ) → i < b.n → j < b.n → sum_at b i j ≡ rank_at b k → syndromes mul b.n e (vector b) i j ≢ 0
  an_entry e k lk none some i j li lj s z =
      let c : HasLead mul b i j k = h.member_products i j k li lj lk s in
      let differ : bit_xor (syndromes mul b.n e (vector b) i j) (syndromes mul b.n (λ p. 0) (vector b) i j) ≡ mul (lead b i j) (bit_xor (syn mul b h e k) (syn mul b h (λ p. 0) k)) =
      entry_at_member mul b h e (λ p. 0) k lk (λ m l. none m l ∙ sym (dot_of_zero (vector b m))) i j li lj s in
      let left : bit_xor (syndromes mul b.n e (vector b) i j) (syndromes mul b.n (λ p. 0) (vector b) i j) ≡ 0 =
      ap (λ (y : ℕ). bit_xor y (syndromes mul b.n (λ p. 0) (vector b) i j)) z ∙ ap (λ (y : ℕ). bit_xor 0 y) (dot_of_zero (λ p. mul (vector b i p) (vector b j p))) in
      let right : bit_xor (syn mul b h e k) (syn mul b h (λ p. 0) k) ≡ syn mul b h e k = ap (λ (y : ℕ). bit_xor (syn mul b h e k) y) (dot_of_zero (vector b k)) ∙ xor_zero_r (syn mul b h e k) in
      mul_not_zero (2 ^ b.bits) mul h.field (lead b i j) (syn mul b h e k) (lead_below mul b h i j) c.lead_not_zero (syn_below e k) (zero_below (2 ^ b.bits) mul h.field) some
      (sym (ap (λ (y : ℕ). mul (lead b i j) y) right) ∙ sym differ ∙ left)

  first_sum : (e : ℕ → ℕ) (k : ℕ) → k < b.n → ((m : ℕ) → m < k → syn mul b h e m ≡ 0) → syn mul b h e k ≢ 0 → IsFirstSum b.n (ranks_of e) (sum_at b) (rank_at b k)
  first_sum e k lk none some = record {
    zero_before = λ i j li lj s. rank_of_zeros (2 ^ b.bits) mul h.field (j + 1) (syndromes mul b.n e (vector b)) (i + 1)
        (λ q p lq lp. no_entry e k lk none q p (omega arith) (omega arith) (within i j q p li lj (omega arith) (omega arith) s));
    first_at = λ i j li lj s. elim (cases_eq (ranks_of e (i + 1) (j + 1)) 0) [
      | inl z ↦ absurd (an_entry e k lk none some i j li lj s (zeros_of_rank (2 ^ b.bits) mul h.field (j + 1) (syndromes mul b.n e (vector b)) (i + 1) z i j (omega arith) (omega arith)))
      | inr d ↦ omega arith
    ];
  }
    where
      within : (i j q p : ℕ) → i < b.n → j < b.n → q ≤ i → p ≤ j → sum_at b i j < rank_at b k → sum_at b q p < rank_at b k
      within i j q p li lj lq lp s =
          let few : rank_at b k < b.count = h.shape.ranks_below k lk in
          elim (cases_eq (q + p) (i + j)) [
            | inl e ↦
                let eq : i ≡ q = omega arith in
                let ep : j ≡ p = omega arith in
                subst (λ (m : ℕ). sum_at b q m < rank_at b k) ep (subst (λ (m : ℕ). sum_at b m j < rank_at b k) eq s)
            | inr d ↦ let u : sum_at b q p < sum_at b i j = h.sums_order.rise.rises i j q p li lj lq lp (omega arith) (omega arith) in omega arith
          ]

  pub heavy : (e : ℕ → ℕ) → ((p : ℕ) → e p < 2 ^ b.bits) → (p : ℕ) → p < b.n → e p ≢ 0 → (k : ℕ) × (k < b.n) × (syn mul b h e k ≢ 0) × (pairs_at b k ≤ weight b.n e)
  heavy e small p lp d = elim (first_or_none b.n (syn mul b h e)) [
    | inl w ↦ (
      w.0,
      w.1,
      w.2,
      (let some : pairs b.n (sum_at b) (rank_at b w.0) ≤ ranks_of e b.n b.n = pairs-le-rank (are_ranks e) h.sums_order.rise (first_sum e w.0 w.1 w.3 w.2) (h.shape.ranks_below w.0 w.1) in
          let is : pairs_at b w.0 ≡ pairs b.n (sum_at b) (rank_at b w.0) = (h.pairs_counted w.0 w.1).counted in
          let few : ranks_of e b.n b.n ≤ weight b.n e = ranks-le-weight e b.n b.n in
          omega arith),
    )
    | inr z ↦ absurd (d (dual_combination (2 ^ b.bits) mul h.field b.n (vector b) (dual b) e (dual_below mul b h) small h.shape.duals_fit p lp
        ∙ sum-zero b.n (λ i. mul (dot mul b.n e (vector b i)) (dual b i p)) (λ i l. ap (λ (y : ℕ). mul y (dual b i p)) (z i l) ∙ zero-mul (2 ^ b.bits) mul h.field (dual b i p))))
  ]

  pub syn_xor : (u w : ℕ → ℕ) (k : ℕ) → syn mul b h (λ q. bit_xor (u q) (w q)) k ≡ bit_xor (syn mul b h u k) (syn mul b h w k)
  syn_xor u w k =
      dot_comm (2 ^ b.bits) mul h.field b.n (λ q. bit_xor (u q) (w q)) (vector b k)
      ∙ dot_xor (2 ^ b.bits) mul h.field b.n (vector b k) u w
      ∙ ap (λ (x : ℕ). bit_xor x (dot mul b.n (vector b k) w)) (dot_comm (2 ^ b.bits) mul h.field b.n (vector b k) u)
      ∙ ap (λ (x : ℕ). bit_xor (syn mul b h u k) x) (dot_comm (2 ^ b.bits) mul h.field b.n (vector b k) w)

  xor_none : (a : ℕ) → bit_xor a a ≡ 0
  xor_none a = xor_self a

  -- two vectors within t of a third one, whose difference has no syndrome at a member with at most 2t pairs, are one
  pub near_unique : (t : ℕ) (u w y : ℕ → ℕ) → ((p : ℕ) → u p < 2 ^ b.bits) → ((p : ℕ) → w p < 2 ^ b.bits)
      → ((k : ℕ) → k < b.n → pairs_at b k ≤ 2 * t → syn mul b h u k ≡ syn mul b h w k)
      → weight b.n (λ p. bit_xor (u p) (y p)) ≤ t → weight b.n (λ p. bit_xor (w p) (y p)) ≤ t → (p : ℕ) → p < b.n → u p ≡ w p
  near_unique t u w y su sw same hu hw p lp = elim (cases_eq (bit_xor (u p) (w p)) 0) [
    | inl e ↦ xor_same (u p) (w p) e
    | inr d ↦
        let z : ℕ → ℕ = λ q. bit_xor (u q) (w q) in
        let f : (k : ℕ) × (k < b.n) × (syn mul b h z k ≢ 0) × (pairs_at b k ≤ weight b.n z) = heavy z (λ q. xor_below (2 ^ b.bits) mul h.field (u q) (w q) (su q) (sw q)) p lp d in
        let few : pairs_at b f.0 ≤ 2 * t = omega (arith, f.3, weight_triangle b.n u w y) in
        absurd (f.2 (syn_xor u w f.0 ∙ ap (λ (x : ℕ). bit_xor x (syn mul b h w f.0)) (same f.0 f.1 few) ∙ xor_none (syn mul b h w f.0)))
  ]

  -- two vectors that differ somewhere differ in as many places as some member has pairs at which they have other syndromes
  pub far_apart : (u w : ℕ → ℕ) → ((p : ℕ) → u p < 2 ^ b.bits) → ((p : ℕ) → w p < 2 ^ b.bits) → (p : ℕ) → p < b.n → u p ≢ w p →
      (k : ℕ) × (k < b.n) × (syn mul b h u k ≢ syn mul b h w k) × (pairs_at b k ≤ weight b.n (λ q. bit_xor (u q) (w q)))
  far_apart u w su sw p lp differ =
      let z : ℕ → ℕ = λ q. bit_xor (u q) (w q) in
      let f : (k : ℕ) × (k < b.n) × (syn mul b h z k ≢ 0) × (pairs_at b k ≤ weight b.n z) =
      heavy z (λ q. xor_below (2 ^ b.bits) mul h.field (u q) (w q) (su q) (sw q)) p lp (λ e. differ (xor_same (u p) (w p) e)) in
      (f.0, f.1, (λ e. f.2 (syn_xor u w f.0 ∙ ap (λ (x : ℕ). bit_xor x (syn mul b h w f.0)) e ∙ xor_none (syn mul b h w f.0))), f.3)
