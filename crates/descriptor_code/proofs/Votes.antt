-- The ledger of a built code is the plain one
use Rattle.std.proofs.Common.{◌≡◌, ℕ, zero, suc, ◌+◌, ◌<◌, ◌≤◌, ◌^◌, Bool, true, false, not, cond, ◌&&◌, ◌||◌, eqb, List, [], ◌∷◌, ◌++◌, length, map, filter, get_or, take, sym, ◌∙◌, ap, subst, refl, inl, inr, arith, append-nil, bit_xor}
use Rattle.std.specs.Prelude.{slice_index, if◌then◌else◌}
use Rattle.std.proofs.lemmas.List.{map-append}
use Rattle.std.proofs.lemmas.List.Elements.{filter_more}
use Rattle.field_theory.specs.Sums.{one_if, count_pairs, any_below, all_below}
use Rattle.field_theory.proofs.Sums.{sum-same}
use Rattle.field_theory.proofs.Totals.{count_same}
use Rattle.linear_theory.specs.Linear.{in_span, rank, syndromes}
use Rattle.counting_theory.specs.Ranks.{candidate, right as is_right, wrong as is_wrong}
use Rattle.counting_theory.specs.Votes.{right_votes, wrong_votes}
use Rattle.order_theory.specs.Basis.{Basis}
use Rattle.order_theory.specs.Codes.{marked}
use Rattle.vote_core.specs.declared.ledger.VoteLine.{VoteLine}
use Rattle.vote_core.specs.Ledgers.{line_of, lines_below}

-- ---- a rank reads only the entries of its part

all_below-entries : (n : ℕ) (p q : ℕ → Bool) → ((i : ℕ) → i < n → p i ≡ q i) → all_below n p ≡ all_below n q
all_below-entries zero p q h = refl
all_below-entries (suc n) p q h =
    ap (λ (b : Bool). b && p n) (all_below-entries n p q (λ i l. h i (omega arith))) ∙ ap (λ (b : Bool). all_below n q && b) (h n (omega arith))

any_below-entries : (n : ℕ) (p q : ℕ → Bool) → ((i : ℕ) → i < n → p i ≡ q i) → any_below n p ≡ any_below n q
any_below-entries zero p q h = refl
any_below-entries (suc n) p q h =
    ap (λ (b : Bool). b || p n) (any_below-entries n p q (λ i l. h i (omega arith))) ∙ ap (λ (b : Bool). any_below n q || b) (h n (omega arith))

in_span-entries :
    (size : ℕ) (mul : ℕ → ℕ → ℕ) (n : ℕ) (rows others : ℕ → ℕ → ℕ) (r : ℕ) (v w : ℕ → ℕ) → ((i j : ℕ) → i < r → j < n → rows i j ≡ others i j) → ((j : ℕ) → j < n → v j ≡ w j) →
    in_span size mul n rows r v ≡ in_span size mul n others r w
unfolding in_span
in_span-entries size mul n rows others zero v w same same_v = all_below-entries n (λ j. eqb (v j) 0) (λ j. eqb (w j) 0) (λ j l. ap (λ (x : ℕ). eqb x 0) (same_v j l))
in_span-entries size mul n rows others (suc r) v w same same_v =
    any_below-entries size (λ c. in_span size mul n rows r (λ j. bit_xor (v j) (mul c (rows r j)))) (λ c. in_span size mul n others r (λ j. bit_xor (w j) (mul c (others r j))))
    (λ c l.
    in_span-entries size mul n rows others r (λ j. bit_xor (v j) (mul c (rows r j))) (λ j. bit_xor (w j) (mul c (others r j))) (λ i j li lj. same i j (omega arith) lj)
    (λ j lj. ap (λ (x : ℕ). bit_xor x (mul c (rows r j))) (same_v j lj) ∙ ap (λ (x : ℕ). bit_xor (w j) (mul c x)) (same r j (omega arith) lj)))

pub rank-entries : (size : ℕ) (mul : ℕ → ℕ → ℕ) (n : ℕ) (rows others : ℕ → ℕ → ℕ) (r : ℕ) → ((i j : ℕ) → i < r → j < n → rows i j ≡ others i j) → rank size mul n rows r ≡ rank size mul n others r
unfolding rank
rank-entries size mul n rows others zero same = refl
rank-entries size mul n rows others (suc r) same =
    let before : rank size mul n rows r ≡ rank size mul n others r = rank-entries size mul n rows others r (λ i j l m. same i j (omega arith) m) in
    let last : in_span size mul n rows r (rows r) ≡ in_span size mul n others r (others r) =
    in_span-entries size mul n rows others r (rows r) (others r) (λ i j l m. same i j (omega arith) m) (λ j m. same r j (omega arith) m) in
    ap (λ (k : ℕ). k + cond (in_span size mul n rows r (rows r)) 0 1) before ∙ ap (λ (b : Bool). rank size mul n others r + cond b 0 1) last

-- ---- a count of candidates reads only the ranks up to n

module _ (n : ℕ) (R S sums others : ℕ → ℕ → ℕ) (ranks : (i j : ℕ) → i ≤ n → j ≤ n → R i j ≡ S i j) (same : (i j : ℕ) → i < n → j < n → sums i j ≡ others i j) (r : ℕ) where
  candidate_is : (i j : ℕ) → i < n → j < n → candidate R i j ≡ candidate S i j
  unfolding candidate
  candidate_is i j li lj =
      ap (λ (a : ℕ). eqb a (R i j) && eqb (R i (j + 1)) (R i j)) (ranks (i + 1) j (omega arith) (omega arith))
      ∙ ap (λ (a : ℕ). eqb (S (i + 1) j) (R i j) && eqb a (R i j)) (ranks i (j + 1) (omega arith) (omega arith))
      ∙ ap (λ (a : ℕ). eqb (S (i + 1) j) a && eqb (S i (j + 1)) a) (ranks i j (omega arith) (omega arith))

  right_is : (i j : ℕ) → i < n → j < n → is_right R i j ≡ is_right S i j
  unfolding is_right
  right_is i j li lj =
      ap (λ (b : Bool). b && eqb (R (i + 1) (j + 1)) (R i j)) (candidate_is i j li lj)
      ∙ ap (λ (a : ℕ). candidate S i j && eqb a (R i j)) (ranks (i + 1) (j + 1) (omega arith) (omega arith))
      ∙ ap (λ (a : ℕ). candidate S i j && eqb (S (i + 1) (j + 1)) a) (ranks i j (omega arith) (omega arith))

  wrong_is : (i j : ℕ) → i < n → j < n → is_wrong R i j ≡ is_wrong S i j
  unfolding is_wrong
  wrong_is i j li lj =
      ap (λ (b : Bool). b && not (eqb (R (i + 1) (j + 1)) (R i j))) (candidate_is i j li lj)
      ∙ ap (λ (a : ℕ). candidate S i j && not (eqb a (R i j))) (ranks (i + 1) (j + 1) (omega arith) (omega arith))
      ∙ ap (λ (a : ℕ). candidate S i j && not (eqb (S (i + 1) (j + 1)) a)) (ranks i j (omega arith) (omega arith))

  pub right_votes_same : right_votes n R sums r ≡ right_votes n S others r
  unfolding right_votes
  right_votes_same =
      count_same n (λ i j. eqb (sums i j) r && is_right R i j) (λ i j. eqb (others i j) r && is_right S i j)
      (λ i j li lj. ap (λ (a : ℕ). one_if (eqb a r && is_right R i j)) (same i j li lj) ∙ ap (λ (b : Bool). one_if (eqb (others i j) r && b)) (right_is i j li lj))

  pub wrong_votes_same : wrong_votes n R sums r ≡ wrong_votes n S others r
  unfolding wrong_votes
  wrong_votes_same =
      count_same n (λ i j. eqb (sums i j) r && is_wrong R i j) (λ i j. eqb (others i j) r && is_wrong S i j)
      (λ i j li lj. ap (λ (a : ℕ). one_if (eqb a r && is_wrong R i j)) (same i j li lj) ∙ ap (λ (b : Bool). one_if (eqb (others i j) r && b)) (wrong_is i j li lj))

-- ---- the lines of the members that are not marked

if_cases : {X : Type 0} (t : Bool) (x : ℕ) (f : ℕ → X) (line : X) → line ≡ f x → (if t then [] else (line ∷ [])) ≡ map f (cond (not t) (x ∷ []) [])
if_cases true x f line e = refl
if_cases false x f line e = ap (λ (l : _). l ∷ []) e

pub lines_are :
    (b : Basis) (marks : List Bool) (e : List ℕ) (t : ℕ → Bool) (f : ℕ → VoteLine) (xs : List ℕ) → ((k : ℕ) → k < length xs → marked marks k ≡ t (get_or xs k 0)) →
    ((k : ℕ) → k < length xs → line_of b e k ≡ f (get_or xs k 0)) → (k : ℕ) → k ≤ length xs → lines_below b marks e k ≡ map f (filter (λ i. not (t i)) (take k xs))
lines_are b marks e t f xs mark line zero l = refl
lines_are b marks e t f xs mark line (suc k) l =
    ap (λ (ls : List VoteLine). ls ++ (if marked marks k then [] else (line_of b e k ∷ []))) (lines_are b marks e t f xs mark line k (omega arith))
    ∙ ap (λ (m : Bool). map f (filter (λ i. not (t i)) (take k xs)) ++ (if m then [] else (line_of b e k ∷ []))) (mark k (omega arith))
    ∙ ap (λ (ls : List VoteLine). map f (filter (λ i. not (t i)) (take k xs)) ++ ls) (if_cases (t (get_or xs k 0)) (get_or xs k 0) f (line_of b e k) (line k (omega arith)))
    ∙ sym (map-append f (filter (λ i. not (t i)) (take k xs)) (cond (not (t (get_or xs k 0))) (get_or xs k 0 ∷ []) []))
    ∙ ap (map f) (sym (filter_more (λ i. not (t i)) xs k 0 (omega arith)))
    ∙ ap (λ (m : ℕ). map f (filter (λ i. not (t i)) (take m xs))) (let s : k + 1 ≡ suc k = omega arith in s)
