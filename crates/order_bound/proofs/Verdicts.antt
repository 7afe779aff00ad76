-- What the checks by plain lists say of a text
use Rattle.std.proofs.Common.{◌≡◌, ℕ, ◌+◌, ◌*◌, ◌^◌, ◌<◌, ◌≤◌, List, length, refl, ap, sym, ◌∙◌, subst, arith, All}
use Rattle.std.specs.Prelude.{slice_index}
use Rattle.order_domain.specs.declared.Point.{Point}
use Rattle.order_domain.specs.Domain.{Domain}
use Rattle.order_domain.specs.Values.{value_at, sum_or_count}
use Rattle.counting_theory.specs.Votes.{pairs}
use Rattle.eval_basis.specs.declared.checked.CheckRule.{CheckRule}
use Rattle.order_bound.specs.declared.functions.Functions.{Functions}
use Rattle.order_bound.specs.declared.reader.Entries.{Entries}
use Rattle.order_bound.specs.declared.reader.Stop.{Stop}
use Rattle.order_bound.specs.declared.reader.Stop.TheVariants.{NoMemory, Line}
use Rattle.order_bound.specs.TableForm.{IsBadForm}
use Rattle.order_bound.specs.Reading.{AreRead, OnLine}
use Rattle.order_bound.specs.Checking.{IsGrid, AreFunctions, AreIndices, IsLabelBy, IsDualBy, IsHeadBy}
use Rattle.order_bound.specs.TableChecks.{IsGoodLabel, IsGoodDual, AreGood, IsFirstBad, IsGoodHead, IsSaid, IsAccepted, IsRefused, bad_form, bad_label, bad_dual, bad_head}
use Rattle.order_bound.proofs.Counting.{pairs-le-count}
use Rattle.order_bound.proofs.Conversions.{n_duals, duals_small, head_from, head_to, n_indices, label_from, label_to, indices_found, dual_from, dual_to, first_bad, all_good}

pub form_refused : (d : Domain) (modulus : ℕ) (points : List Point) (rule : CheckRule) (text : List ℕ) (size : ℕ) (stop : Stop) → size ≡ 2 ^ d.bits → OnLine stop (IsBadForm size (length points) text) → OnLine stop (IsRefused d modulus points rule text)
form_refused d modulus points rule text size NoMemory e h = tt
form_refused d modulus points rule text size (Line line) e h = bad_form line (subst (λ (s : ℕ). IsBadForm s (length points) text line) e h)

module _ (d : Domain) (modulus : ℕ) (points : List Point) (rule : CheckRule) (text : List ℕ) (size checked bound : ℕ) (cols : Entries) (read : AreRead size (length points) text checked bound cols) (e_size : size ≡ 2 ^ d.bits)
    (functions : Functions) (are : AreFunctions d functions) (indices : List ℕ) (at : AreIndices functions.labels.items cols.labels.items indices) where
  pub r : AreRead (2 ^ d.bits) (length points) text checked bound cols
  r = subst (λ (s : ℕ). AreRead s (length points) text checked bound cols) e_size read

  pub said : IsSaid (2 ^ d.bits) (length points) text checked bound r.entries
  said = record { lines = r.lines; n_entries = r.n_entries }

  pub n_lists : length cols.duals.items ≡ length indices * length indices
  n_lists =
      let e : length indices ≡ length points = n_indices (2 ^ d.bits) (length points) r.entries cols r.are_columns r.lines.forms r.n_entries d functions are indices at in
      n_duals (2 ^ d.bits) (length points) r.entries cols r.are_columns r.lines.forms r.n_entries ∙ ap (λ (x : ℕ). x * x) (sym e)

  pub n_is : length indices ≡ length points
  n_is = n_indices (2 ^ d.bits) (length points) r.entries cols r.are_columns r.lines.forms r.n_entries d functions are indices at

  pub n_duals_are : length cols.duals.items ≡ length points * length points
  n_duals_are = n_duals (2 ^ d.bits) (length points) r.entries cols r.are_columns r.lines.forms r.n_entries

  pub lists_small : (bits : ℕ) → bits ≡ d.bits → All (λ x. x < 2 ^ bits) cols.duals.items
  lists_small bits e = subst (λ (b : ℕ). All (λ x. x < 2 ^ b) cols.duals.items) (sym e) (duals_small (2 ^ d.bits) (length points) r.entries cols r.are_columns r.lines.forms r.n_entries)

  pub label_refused : (k : ℕ) → IsFirstBad (length indices) (IsLabelBy d functions rule cols.labels.items cols.pairs.items cols.marks.items indices) k → IsRefused d modulus points rule text (k + 3)
  label_refused k h = bad_label checked bound r.entries k said
      (first_bad (length points) k _ (IsGoodLabel d rule r.entries)
      (label_from (2 ^ d.bits) (length points) r.entries cols r.are_columns r.lines.forms r.n_entries d functions are indices at rule)
      (label_to (2 ^ d.bits) (length points) r.entries cols r.are_columns r.lines.forms r.n_entries d functions are indices at rule)
      (subst (λ (n : ℕ). IsFirstBad n (IsLabelBy d functions rule cols.labels.items cols.pairs.items cols.marks.items indices) k) n_is h))

  module _ (good : AreGood (length indices) (IsLabelBy d functions rule cols.labels.items cols.pairs.items cols.marks.items indices)) where
    good_here : AreGood (length points) (IsLabelBy d functions rule cols.labels.items cols.pairs.items cols.marks.items indices)
    good_here = subst (λ (n : ℕ). AreGood n (IsLabelBy d functions rule cols.labels.items cols.pairs.items cols.marks.items indices)) n_is good

    labels_good : AreGood (length points) (IsGoodLabel d rule r.entries)
    labels_good = all_good (length points) _ (IsGoodLabel d rule r.entries) (label_from (2 ^ d.bits) (length points) r.entries cols r.are_columns r.lines.forms r.n_entries d functions are indices at rule) good_here

    found : (k : ℕ) → k < length points → slice_index indices k < d.count
    found = indices_found (2 ^ d.bits) (length points) r.entries cols r.are_columns r.lines.forms r.n_entries d functions are indices at rule good_here

    pub functions_within : (j : ℕ) → j < length indices → slice_index indices j < d.count
    functions_within j l = found j (omega (arith, n_is))

    module _ (bits : ℕ) (e_bits : bits ≡ d.bits) (end : ℕ) (before_end : (j : ℕ) → j < length indices → slice_index indices j < end) (values : List ℕ) (grid : IsGrid (length points) end (λ p i. value_at d modulus points i p) values) where
      above : (k : ℕ) → k < length points → slice_index indices k < end
      above k l = before_end k (omega (arith, n_is))

      pub values_fit : length values ≡ length indices * end
      values_fit = grid.long ∙ ap (λ (x : ℕ). x * end) (sym n_is)

      pub dual_refused : (k : ℕ) → IsFirstBad (length indices) (IsDualBy bits modulus (length indices) end values cols.duals.items indices) k → IsRefused d modulus points rule text (k + 3)
      dual_refused k h = bad_dual checked bound r.entries k said labels_good
          (first_bad (length points) k _ (IsGoodDual d modulus points r.entries)
          (dual_from (2 ^ d.bits) (length points) r.entries cols r.are_columns r.lines.forms r.n_entries d functions are indices at modulus points end values grid refl above found)
          (dual_to (2 ^ d.bits) (length points) r.entries cols r.are_columns r.lines.forms r.n_entries d functions are indices at modulus points end values grid refl above found)
          (subst (λ (n : ℕ). IsFirstBad n (IsDualBy d.bits modulus n end values cols.duals.items indices) k) n_is (subst (λ (b : ℕ). IsFirstBad (length indices) (IsDualBy b modulus (length indices) end values cols.duals.items indices) k) e_bits h)))

      module _ (duals : AreGood (length indices) (IsDualBy bits modulus (length indices) end values cols.duals.items indices)) where
        duals_good : AreGood (length points) (IsGoodDual d modulus points r.entries)
        duals_good = all_good (length points) _ (IsGoodDual d modulus points r.entries)
            (dual_from (2 ^ d.bits) (length points) r.entries cols r.are_columns r.lines.forms r.n_entries d functions are indices at modulus points end values grid refl above found)
            (subst (λ (n : ℕ). AreGood n (IsDualBy d.bits modulus n end values cols.duals.items indices)) n_is (subst (λ (b : ℕ). AreGood (length indices) (IsDualBy b modulus (length indices) end values cols.duals.items indices)) e_bits duals))

        pub head_refused : (IsHeadBy checked bound cols.pairs.items cols.marks.items → ⊥) → IsRefused d modulus points rule text 2
        head_refused bad = bad_head checked bound r.entries said labels_good duals_good
            (λ g. bad (head_to (2 ^ d.bits) (length points) r.entries cols r.are_columns r.lines.forms r.n_entries checked bound g))

        pub text_accepted : IsHeadBy checked bound cols.pairs.items cols.marks.items → IsAccepted d modulus points rule text bound
        text_accepted head = record {
          checked = checked;
          entries = r.entries;
          is_said = said;
          labels = labels_good;
          duals = duals_good;
          head = head_from (2 ^ d.bits) (length points) r.entries cols r.are_columns r.lines.forms r.n_entries checked bound head;
        }

    -- the bound is the pairs of a function, and so not large
    pub bound_fits : IsHeadBy checked bound cols.pairs.items cols.marks.items → bound < 2 ^ 32
    bound_fits head =
        let h : IsGoodHead checked bound r.entries = head_from (2 ^ d.bits) (length points) r.entries cols r.are_columns r.lines.forms r.n_entries checked bound head in
        let g : IsGoodLabel d rule r.entries h.reached.0 = labels_good.each h.reached.0 (omega (arith, h.reached.1, r.n_entries)) in
        let few : pairs d.count (sum_or_count d) g.index ≤ d.count = pairs-le-count d are.lawful g.index g.is_index.below in
        omega (arith, h.reached.3, g.pairs_are, are.few)
