-- The code of the members with small labels, by all functions
use Rattle.std.proofs.Common.{◌≡◌, ℕ, ◌^◌, ◌<◌, ◌≤◌, Bool, List, suc, sym, ◌∙◌, ap, inl, inr, arith}
use Rattle.std.specs.Prelude.{slice_index}
use Rattle.std.proofs.lemmas.Bool.{cases_eq, le-leb, leb-true}
use Rattle.field_theory.proofs.Sums.{sum-same, sum-zero, zero-mul}
use Rattle.linear_theory.specs.Linear.{dot}
use Rattle.order_theory.specs.Basis.{Basis, IsWord, IsSound, rank_at, label, vector}
use Rattle.order_theory.specs.Codes.{IsCodeword}
use Rattle.order_theory.specs.Domains.{IsOrdered, HasMembers}
use Rattle.order_theory.specs.Labels.{HasLabels, AreMarkedUpTo, IsOrthogonalUpTo, LabelLaw}
use Rattle.order_theory.proofs.Known.{spanned_same}
use Rattle.order_theory.proofs.Origins.{spanned_all}

module _ (mul : ℕ → ℕ → ℕ) (b : Basis) (sound : IsSound mul b) (ev sum lead : ℕ → ℕ → ℕ) (labels : ℕ → ℕ) (marks : List Bool) (s : ℕ) (x : List ℕ)
    (o : IsOrdered (2 ^ b.bits) mul b.n b.count ev sum lead) (m : HasMembers mul b ev sum lead) (l : HasLabels b labels) (marks_up : AreMarkedUpTo b marks s) where
  -- labels do not fall
  labels_up : (i j : ℕ) → i ≤ j → j < b.count → labels i ≤ labels j
  labels_up i j le lj = elim (cases_eq i j) [
    | inl e ↦ let f : labels i ≡ labels j = ap labels e in omega arith
    | inr d ↦ let f : labels i < labels j = l.rise i j (omega arith) lj in omega arith
  ]

  zero_products : (v : ℕ → ℕ) → dot mul b.n (λ p. 0) v ≡ 0
  zero_products v = sum-zero b.n (λ p. mul 0 (v p)) (λ p k. zero-mul (2 ^ b.bits) mul sound.field (v p))

  orthogonal : IsCodeword mul b marks x → IsOrthogonalUpTo mul b ev labels s x
  orthogonal h = record {
    products = λ i li low.
        spanned_same mul b sound (slice_index x) (λ p. 0) (suc i) (ev i)
        (λ k lk before.
        let lk' : rank_at b k < b.count = m.ranks_below k lk in
        let up : labels (rank_at b k) ≤ labels i = labels_up (rank_at b k) i (omega arith) li in
        let e : label b k ≡ labels (rank_at b k) = l.of_members k lk in
        h.orthogonal k lk (marks_up.marks_are k lk ∙ le-leb (label b k) s (omega arith)) ∙ sym (zero_products (vector b k)))
        (spanned_all mul b sound.field ev sum lead o m b.count (omega arith) i li)
        ∙ zero_products (ev i);
  }

  codeword : IsWord b.bits b.n x → IsOrthogonalUpTo mul b ev labels s x → IsCodeword mul b marks x
  codeword w h = record {
    is_word = w;
    orthogonal = λ k lk marked.
        let low : label b k ≤ s = leb-true (label b k) s (sym (marks_up.marks_are k lk) ∙ marked) in
        let e : label b k ≡ labels (rank_at b k) = l.of_members k lk in
        sum-same b.n (λ p. mul (slice_index x p) (vector b k p)) (λ p. mul (slice_index x p) (ev (rank_at b k) p)) (λ p lp. ap (λ (y : ℕ). mul (slice_index x p) y) (m.vectors k p lk lp))
        ∙ h.products (rank_at b k) (m.ranks_below k lk) (omega arith);
  }

pub label_law : LabelLaw
label_law mul b ev sum lead labels marks s x sound o m l marks_up w =
    (orthogonal mul b sound ev sum lead labels marks s x o m l marks_up, codeword mul b sound ev sum lead labels marks s x o m l marks_up w)
