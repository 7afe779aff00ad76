use Rattle.std.proofs.Common.{ℕ, ◌≡◌, ◌<◌, ◌≤◌, length, inl, inr, arith, sym, ap, ◌∙◌, take, drop, true, List, Some}
use Rattle.std.proofs.lemmas.Grind.{common_steps}
use Rattle.std.proofs.lemmas.Bool.Decides.{nat_tests}
use Rattle.std.proofs.lemmas.List.{take_all, drop_all}
use Rattle.std.specs.List.{list_all}
use Rattle.command_words.specs.Numerals.{is_digit, value_from, value_of, is_numeral}
use Rattle.command_words.proofs.NumeralLemmas.{number_in-no_numeral, number_in-out, number_in-is, number_in-overflow, is_numeral-length, is_numeral-digit, is_numeral-is}
use Rattle.command_words.proofs.numeral.read_numeral.Goals as goal
use Rattle.command_words.proofs.numeral.read_numeral.Goals.{then-is_empty-via-then-is_empty, then-is_empty-via-else-is_empty+then-text-gt20, then-digit-lt48-via-then-digit-lt48, then-digit-lt48-via-else-digit-lt48+then-digit-gt57, else-least-value-via-then-least-value+else-value-greatest, else-least-value-via-else-least-value}

pub returns-then-is_empty-clause-value : goal.returns-then-is_empty-clause-value
returns-then-is_empty-clause-value c =
    number_in-no_numeral _ _ _ (is_numeral-length c.args.text.now (elim c.then-is_empty.branch [
      | then-is_empty-via-then-is_empty w ↦ inl (grind (arith, common_steps, nat_tests, c.is_empty.ensures))
      | then-is_empty-via-else-is_empty+then-text-gt20 w ↦ inr (omega arith)
    ]))

pub returns-then-digit-lt48-clause-value : goal.returns-then-digit-lt48-clause-value
returns-then-digit-lt48-clause-value c =
    number_in-no_numeral _ _ _ (is_numeral-digit c.args.text.now c.loop-digit.digit-index c.loop-digit-test.true (elim c.then-digit-lt48.branch [
      | then-digit-lt48-via-then-digit-lt48 w ↦ inl (omega arith)
      | then-digit-lt48-via-else-digit-lt48+then-digit-gt57 w ↦ inr (omega arith)
    ]))

pub returns-in_err-shifted-clause-value : goal.returns-in_err-shifted-clause-value
returns-in_err-shifted-clause-value c =
    c.from_residual.ensures
    ∙ number_in-overflow c.args.least c.args.greatest c.loop-digit.value c.loop-digit.digit-index c.args.text.now c.loop-digit-test.true c.loop-digit.invariant.so_far (grind (arith, c.in_err-shifted.ensures))

pub returns-in_err-value-clause-value : goal.returns-in_err-value-clause-value
returns-in_err-value-clause-value c =
    c.from_residual-in_err-value.ensures
    ∙ number_in-overflow c.args.least c.args.greatest c.loop-digit.value c.loop-digit.digit-index c.args.text.now c.loop-digit-test.true c.loop-digit.invariant.so_far (grind (arith, c.in_err-value.ensures))

at_end : (text : List ℕ) (i : ℕ) (value : ℕ) → length text ≤ i → value_from value (drop i text) ≡ value_of text → value ≡ value_of text
at_end text i value l h = ap (λ (ds : List ℕ). value_from value ds) (sym (drop_all i text l)) ∙ h

all_digits : (text : List ℕ) (i : ℕ) → length text ≤ i → list_all is_digit (take i text) ≡ true → list_all is_digit text ≡ true
all_digits text i l h = ap (λ (ds : List ℕ). list_all is_digit ds) (sym (take_all i text l)) ∙ h

pub returns-then-value-greatest-clause-value : goal.returns-then-value-greatest-clause-value
returns-then-value-greatest-clause-value c =
    let e : c.loop-digit.value ≡ value_of c.args.text.now = at_end c.args.text.now c.loop-digit.digit-index c.loop-digit.value (omega arith) c.loop-digit.invariant.so_far in
    let d : list_all is_digit c.args.text.now ≡ true = all_digits c.args.text.now c.loop-digit.digit-index (omega arith) c.loop-digit.invariant.digits in
    let some : 0 < length c.args.text.now = grind (arith, common_steps, nat_tests, c.is_empty.ensures) in
    let n : is_numeral c.args.text.now ≡ true = is_numeral-is c.args.text.now some (omega arith) d in
    ap (λ (v : ℕ). Some v) e ∙ number_in-is c.args.least c.args.greatest c.args.text.now n (omega arith) (omega arith)

pub returns-else-least-value-clause-value : goal.returns-else-least-value-clause-value
returns-else-least-value-clause-value c =
    let e : c.loop-digit.value ≡ value_of c.args.text.now = at_end c.args.text.now c.loop-digit.digit-index c.loop-digit.value (omega arith) c.loop-digit.invariant.so_far in
    number_in-out c.args.least c.args.greatest c.args.text.now (elim c.else-least-value.branch [
      | else-least-value-via-then-least-value+else-value-greatest w ↦ inr (omega arith)
      | else-least-value-via-else-least-value w ↦ inl (omega arith)
    ])
