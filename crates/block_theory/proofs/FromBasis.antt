-- The vectors of the marked members of a basis: they are words, they are independent, and their code is that of the marks.
use Rattle.std.proofs.Common.{◌≡◌, ◌↔◌, ℕ, ◌<◌, ◌^◌, Bool, List, [], length, get_or, slice_index, sym, ◌∙◌, ap, subst, inl, inr, arith}
use Rattle.std.proofs.lemmas.Bool.{cases_lt}
use Rattle.linear_theory.specs.Linear.{dot, AreIndependent}
use Rattle.linear_theory.proofs.Picks.{independent_picks}
use Rattle.linear_theory.proofs.Entries.{independent_entries}
use Rattle.order_theory.specs.Basis.{Basis, vector, dual, times, IsWord, IsSoundBasis}
use Rattle.order_theory.specs.Codes.{IsCodeword}
use Rattle.block_theory.specs.Checks.{check_at, IsInCode}
use Rattle.block_theory.specs.Marked.{chosen, checks_of}
use Rattle.block_theory.proofs.Choosing.{set_marks, length-chosen, place_of, chosen-at, place_of-below, place_of-marked, place_of-rises, place_of-found}

module _ (b : Basis) (marks : List Bool) (sound : IsSoundBasis b) (same : length marks ≡ b.n) where
  vectors_long : length b.vectors ≡ b.n
  vectors_long = sound.sound.shape.n_vectors

  as_many : length marks ≡ length b.vectors
  as_many = same ∙ sym vectors_long

  pub chosen_count : length (chosen marks b.vectors) ≡ set_marks marks
  chosen_count = length-chosen marks b.vectors as_many

  place_below : (t : ℕ) → t < set_marks marks → place_of marks t < b.n
  place_below t l = let e : length marks ≡ b.n = same in let h : place_of marks t < length marks = place_of-below marks t l in omega arith

  chosen_vector : (i : ℕ) → i < set_marks marks → get_or (chosen marks b.vectors) i [] ≡ get_or b.vectors (place_of marks i) []
  chosen_vector i l = chosen-at marks b.vectors i [] as_many l

  pub chosen_word : (i : ℕ) → i < length (chosen marks b.vectors) → IsWord b.bits b.n (get_or (chosen marks b.vectors) i [])
  chosen_word i l =
      let count : length (chosen marks b.vectors) ≡ set_marks marks = chosen_count in
      let li : i < set_marks marks = omega arith in
      let long : length b.vectors ≡ b.n = vectors_long in
      let low : place_of marks i < b.n = place_below i li in
      subst (IsWord b.bits b.n) (sym (chosen_vector i li)) (sound.sound.shape.vector_words (place_of marks i) [] (omega arith))

  -- ---- the code

  pub code_is : (x : List ℕ) → IsInCode (checks_of b marks) x ↔ IsCodeword (times b) b marks x
  code_is x = (
    λ h. record {
      is_word = h.is_word;
      orthogonal = λ k l m. (let (t, lt, at) = place_of-found marks k m in
          let count : length (chosen marks b.vectors) ≡ set_marks marks = chosen_count in
          ap (λ (q : ℕ). dot (times b) b.n (slice_index x) (vector b q)) (sym at)
          ∙ ap (λ (r : List ℕ). dot (times b) b.n (slice_index x) (slice_index r)) (sym (chosen_vector t lt))
          ∙ h.orthogonal t (omega arith));
    },
    λ h. record {
      is_word = h.is_word;
      orthogonal = λ i l. (let count : length (chosen marks b.vectors) ≡ set_marks marks = chosen_count in
          let li : i < set_marks marks = omega arith in
          ap (λ (r : List ℕ). dot (times b) b.n (slice_index x) (slice_index r)) (chosen_vector i li)
          ∙ h.orthogonal (place_of marks i) (place_below i li) (place_of-marked marks i li));
    },
  )

  -- ---- the vectors are independent

  places_apart : (t u : ℕ) → t < set_marks marks → u < set_marks marks → place_of marks t ≡ place_of marks u → t ≡ u
  places_apart t u lt lu e = elim (cases_lt t u) [
    | inl a ↦ (let h : place_of marks t < place_of marks u = place_of-rises marks t u a lu in absurd (omega arith))
    | inr a ↦ elim (cases_lt u t) [
      | inl c ↦ (let h : place_of marks u < place_of marks t = place_of-rises marks u t c lt in absurd (omega arith))
      | inr c ↦ omega arith
    ]
  ]

  pub chosen_independent : AreIndependent (2 ^ b.bits) (times b) b.n (check_at (checks_of b marks)) (set_marks marks)
  chosen_independent =
      independent_entries (check_at (checks_of b marks)) (λ i l p lp. ap (λ (r : List ℕ). get_or r p 0) (sym (chosen_vector i l)))
      (independent_picks (2 ^ b.bits) (times b) sound.sound.field b.n (vector b) (dual b) (place_of marks) (set_marks marks) sound.sound.shape.duals_fit place_below places_apart)
