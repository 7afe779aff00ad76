-- The numbers of the members with few pairs, one member after the other
use Rattle.std.proofs.Common.{◌≡◌, ℕ, ◌+◌, ◌*◌, ◌<◌, ◌≤◌, Bool, true, false, List, [], ◌∷◌, ◌++◌, length, map, take, get_or, sym, ◌∙◌, ap, arith}
use Rattle.std.specs.List.{range_with_len}
use Rattle.std.proofs.lemmas.List.{take_all}
use Rattle.std.proofs.lemmas.List.FromFn.{length-map-range_with_len, get_or-map-range_with_len}
use Rattle.order_theory.specs.Basis.{Basis, label, pairs_at}
use Rattle.order_theory.specs.Codes.{marked}
use Rattle.block_theory.specs.Marked.{chosen}
use Rattle.eval_basis.specs.declared.checked.CheckRule.TheVariants.{Small}
use Rattle.eval_basis.specs.Rules.{rule_checks}
use Rattle.eval_basis.proofs.Marks.{marked-checked_by}
use Rattle.descriptor_code.proofs.Lists.{chosen_kept, chosen_left}
use Rattle.code_design.specs.Serving.{improved}
use Rattle.code_texts.specs.declared.design.MemberNumbers.{MemberNumbers}
use Rattle.descriptor_design.specs.Steps.{numbers_at, few_numbers}

nobody : MemberNumbers
nobody = record { label = 0; pairs = 0 }

abbrev pub numbers : Basis → List MemberNumbers
numbers b = map (numbers_at b) (range_with_len 0 b.n)

abbrev pub so_far : Basis → ℕ → ℕ → List MemberNumbers
so_far b t k = chosen (take k (improved b t)) (take k (numbers b))

module _ (b : Basis) (t : ℕ) where
  n_marks : length (improved b t) ≡ b.n
  n_marks = length-map-range_with_len (λ k. rule_checks (Small (2 * t + 1)) (label b k) (pairs_at b k)) 0 b.n

  n_numbers : length (numbers b) ≡ b.n
  n_numbers = length-map-range_with_len (numbers_at b) 0 b.n

  number_is : (k : ℕ) → k < b.n → get_or (numbers b) k nobody ≡ numbers_at b k
  number_is k l = get_or-map-range_with_len (numbers_at b) 0 b.n k k nobody l (omega arith)

  mark_is : (k l p : ℕ) (m : Bool) → k < b.n → l ≡ label b k → p ≡ pairs_at b k → m ≡ rule_checks (Small (2 * t + 1)) l p → marked (improved b t) k ≡ m
  mark_is k l p m low label_is pairs_is e =
      marked-checked_by b (Small (2 * t + 1)) k low
      ∙ ap (λ (w : ℕ). rule_checks (Small (2 * t + 1)) w (pairs_at b k)) (sym label_is)
      ∙ ap (λ (w : ℕ). rule_checks (Small (2 * t + 1)) l w) (sym pairs_is)
      ∙ sym e

  pub few_kept : (k l p : ℕ) (m : Bool) (x : MemberNumbers) (now next : List MemberNumbers) → k < b.n → l ≡ label b k → p ≡ pairs_at b k → m ≡ rule_checks (Small (2 * t + 1)) l p → m ≡ true → x ≡ numbers_at b k →
      now ≡ so_far b t k → next ≡ now ++ x ∷ [] → next ≡ so_far b t (k + 1)
  few_kept k l p m x now next low label_is pairs_is e yes_m x_is before is =
      chosen_kept (improved b t) (numbers b) k nobody now next (omega (arith, n_marks)) (omega (arith, n_numbers)) (mark_is k l p m low label_is pairs_is e ∙ yes_m) before
      (is ∙ ap (λ (y : MemberNumbers). now ++ y ∷ []) (x_is ∙ sym (number_is k low)))

  pub few_left : (k l p : ℕ) (m : Bool) (now : List MemberNumbers) → k < b.n → l ≡ label b k → p ≡ pairs_at b k → m ≡ rule_checks (Small (2 * t + 1)) l p → m ≡ false →
      now ≡ so_far b t k → now ≡ so_far b t (k + 1)
  few_left k l p m now low label_is pairs_is e no_m before =
      chosen_left (improved b t) (numbers b) k nobody now (omega (arith, n_marks)) (omega (arith, n_numbers)) (mark_is k l p m low label_is pairs_is e ∙ no_m) before

  pub few_all : (k n : ℕ) (now : List MemberNumbers) → n ≡ b.n → n ≤ k → now ≡ so_far b t k → now ≡ few_numbers b t
  few_all k n now n_is done before =
      before
      ∙ ap (λ (ms : List Bool). chosen ms (take k (numbers b))) (take_all k (improved b t) (omega (arith, n_marks)))
      ∙ ap (λ (xs : List MemberNumbers). chosen (improved b t) xs) (take_all k (numbers b) (omega (arith, n_numbers)))
