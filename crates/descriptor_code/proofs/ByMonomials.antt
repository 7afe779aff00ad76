-- The code of a descriptor whose rule goes by weight, by the monomials of its curve
use Rattle.std.proofs.Common.{◌≡◌, ◌↔◌, ℕ, ◌+◌, ◌*◌, ◌^◌, ◌<◌, ◌≤◌, true, List, length, All, sym, ◌∙◌, ap, subst, arith}
use Rattle.std.specs.Prelude.{slice_index}
use Rattle.field_theory.proofs.Sums.{sum-same}
use Rattle.gf_theory.specs.Field.{gf_mul}
use Rattle.linear_theory.specs.Linear.{dot}
use Rattle.order_theory.specs.Basis.{IsWord, times}
use Rattle.order_theory.specs.Codes.{IsCodeword as IsMarkedCodeword}
use Rattle.curve_theory.specs.Semigroup.{function_count, weight_at, place_of, is_member, x_exponent, y_exponent}
use Rattle.curve_theory.proofs.Semigroup.{is_member-weight, exponents-weight, weight-exponents, y_exponent-lt}
use Rattle.curve_theory.proofs.Places.{IsFunction, weight_at-is, weight_at-place, place_of-below}
use Rattle.order_domain.specs.declared.Point.{Point}
use Rattle.order_domain.specs.Points.{point_at as point_of}
use Rattle.order_domain.specs.Domain.{ArePoints, IsOrderDomain}
use Rattle.order_domain.specs.Values.{value_at}
use Rattle.order_domain.proofs.Values.{value_at-is}
use Rattle.cab_curve.specs.Equation.{Equation, IsCurve}
use Rattle.cab_curve.specs.Domain.{top_of, cab_domain}
use Rattle.cab_curve.specs.DomainLaws.{cab_domain-lawful}
use Rattle.eval_basis.specs.declared.checked.CheckRule.{CheckRule}
use Rattle.eval_basis.specs.declared.checked.CheckRule.TheVariants.{AtMost}
use Rattle.eval_basis.specs.Rules.{checked_by}
use Rattle.eval_basis.specs.Built.{IsBuilt}
use Rattle.eval_basis.specs.ByLabels.{IsOrthogonalToSmall}
use Rattle.eval_basis.proofs.ByLabels.{at_most_law}
use Rattle.block_theory.specs.Checks.{ParityChecks, IsInCode}
use Rattle.block_theory.proofs.Forms.{code_law}
use Rattle.block_code.specs.Compiled.{Compiled, checks_in}
use Rattle.code_descriptor.specs.Parts.{Parts, Space, Cab, IsDescriptor, IsSpace}
use Rattle.descriptor_code.specs.Plain.{checks}
use Rattle.descriptor_code.specs.Codes.{domain_on, IsCodeOf}
use Rattle.descriptor_code.specs.PlainLaws.{IsPlain}
use Rattle.descriptor_code.specs.Monomials.{IsCodeword, check_sum, MonomialLaw}
use Rattle.descriptor_code.proofs.Spaces.{points_in}
use Rattle.descriptor_code.proofs.Plainly.{is_plain}

-- the product with a function is the sum of the check of its monomial
module _ (e : Equation) (modulus : ℕ) (points : List Point) (word : List ℕ) (curve : IsCurve e) where
  abbrev sum_at : ℕ → ℕ → ℕ
  sum_at i j = check_sum (gf_mul e.bits modulus) points i j word

  product_is : (f : ℕ) → f < function_count e.a e.b (top_of e) →
      dot (gf_mul e.bits modulus) (length points) (slice_index word) (value_at (cab_domain e) modulus points f)
      ≡ sum_at (x_exponent e.a e.b (weight_at e.a e.b (top_of e) f)) (y_exponent e.a e.b (weight_at e.a e.b (top_of e) f))
  product_is f l =
      sum-same (length points)
      (λ q. gf_mul e.bits modulus (slice_index word q) (value_at (cab_domain e) modulus points f q))
      (λ q. gf_mul e.bits modulus (slice_index word q) ((cab_domain e).eval modulus f (point_of points q)))
      (λ q m. ap (λ (v : ℕ). gf_mul e.bits modulus (slice_index word q) v) (value_at-is (cab_domain e) modulus points f q l m))

  -- each normal monomial is a function ..
  at_monomial : (weight : ℕ) → IsOrthogonalToSmall (cab_domain e) modulus points weight word → (i j : ℕ) → j < e.a → e.a * i + e.b * j ≤ weight → e.a * i + e.b * j ≤ top_of e → sum_at i j ≡ 0
  at_monomial weight small i j lj low within =
      let w : ℕ = e.a * i + e.b * j in
      let member : is_member e.a e.b (e.a * i + e.b * j) ≡ true = is_member-weight e.a e.b i j lj in
      let exps : (x_exponent e.a e.b (e.a * i + e.b * j) ≡ i) × (y_exponent e.a e.b (e.a * i + e.b * j) ≡ j) = exponents-weight e.a e.b i j curve.equation.coprime lj in
      let below : place_of e.a e.b (e.a * i + e.b * j) < function_count e.a e.b (top_of e) = place_of-below e.a e.b (top_of e) (e.a * i + e.b * j) within member in
      let is : weight_at e.a e.b (top_of e) (place_of e.a e.b (e.a * i + e.b * j)) ≡ e.a * i + e.b * j = weight_at-place e.a e.b (top_of e) (e.a * i + e.b * j) within member in
      ap (λ (x : ℕ). sum_at x j) (sym exps.0)
      ∙ ap (λ (y : ℕ). sum_at (x_exponent e.a e.b (e.a * i + e.b * j)) y) (sym exps.1)
      ∙ ap (λ (u : ℕ). sum_at (x_exponent e.a e.b u) (y_exponent e.a e.b u)) (sym is)
      ∙ sym (product_is (place_of e.a e.b (e.a * i + e.b * j)) below)
      ∙ small.products (place_of e.a e.b (e.a * i + e.b * j)) below (omega arith)

  -- .. and each function is a normal monomial
  at_function : (weight : ℕ) → ((i j : ℕ) → j < e.a → e.a * i + e.b * j ≤ weight → e.a * i + e.b * j ≤ top_of e → sum_at i j ≡ 0) → IsOrthogonalToSmall (cab_domain e) modulus points weight word
  at_function weight each = record {
    products = λ f l low.
        let is : IsFunction e.a e.b (top_of e) f (weight_at e.a e.b (top_of e) f) = weight_at-is e.a e.b (top_of e) f l in
        let sum : e.a * x_exponent e.a e.b (weight_at e.a e.b (top_of e) f) + e.b * y_exponent e.a e.b (weight_at e.a e.b (top_of e) f) ≡ weight_at e.a e.b (top_of e) f =
        weight-exponents e.a e.b (weight_at e.a e.b (top_of e) f) is.member in
        product_is f l
        ∙ each (x_exponent e.a e.b (weight_at e.a e.b (top_of e) f)) (y_exponent e.a e.b (weight_at e.a e.b (top_of e) f))
        (y_exponent-lt e.a e.b (weight_at e.a e.b (top_of e) f) is.member)
        (subst (λ (u : ℕ). u ≤ weight) (sym sum) low) (subst (λ (u : ℕ). u ≤ top_of e) (sym sum) is.within);
  }

module _ (p : Parts) (c : Compiled) (e : Equation) (weight : ℕ) (word : List ℕ) (h : IsDescriptor p) (is_code : IsCodeOf p c) (space_is : p.space ≡ Cab e) (rule_is : p.rule ≡ AtMost weight) where
  is_space : IsSpace p.bits (Cab e)
  is_space = subst (IsSpace p.bits) space_is h.space

  built : IsBuilt (cab_domain e) p.modulus p.points c.basis
  built = subst (λ (s : Space). IsBuilt (domain_on s) p.modulus p.points c.basis) space_is is_code.built

  points : ArePoints (cab_domain e) p.modulus p.points
  points = subst (λ (s : Space). ArePoints (domain_on s) p.modulus p.points) space_is (points_in p h)

  checks_are : checks_in c ≡ checks p
  checks_are = (is_plain p c h is_code).checks_are

  marks_are : c.marks ≡ checked_by c.basis (AtMost weight)
  marks_are = is_code.marks ∙ ap (checked_by c.basis) rule_is

  by_marks : IsInCode (checks_in c) word ↔ IsMarkedCodeword (times c.basis) c.basis (checked_by c.basis (AtMost weight)) word
  by_marks =
      subst (λ (marks : List _). IsInCode (checks_in c) word ↔ IsMarkedCodeword (times c.basis) c.basis marks word) marks_are
      (code_law c.basis c.marks word is_code.made.sound is_code.made.n_marks)

  by_labels : IsWord c.basis.bits c.basis.n word → IsMarkedCodeword (times c.basis) c.basis (checked_by c.basis (AtMost weight)) word ↔ IsOrthogonalToSmall (cab_domain e) p.modulus p.points weight word
  by_labels fits = at_most_law (cab_domain e) p.modulus p.points c.basis weight word (cab_domain-lawful e is_space.0.equation) points built is_code.made.sound fits

  to_monomials : IsInCode (checks p) word → IsCodeword p.modulus e p.points weight word
  to_monomials x =
      let y : IsInCode (checks_in c) word = subst (λ (k : ParityChecks). IsInCode k word) (sym checks_are) x in
      record {
        n_long = x.is_word.n_long;
        symbols = subst (λ (bits : ℕ). All (λ s. s < 2 ^ bits) word) (sym is_space.1) x.is_word.symbols;
        orthogonal = at_monomial e p.modulus p.points word is_space.0 weight ((by_labels y.is_word).0 (by_marks.0 y));
      }

  from_monomials : IsCodeword p.modulus e p.points weight word → IsInCode (checks p) word
  from_monomials x =
      let fits : IsWord c.basis.bits c.basis.n word = record {
        n_long = x.n_long ∙ sym built.n_is;
        symbols = subst (λ (bits : ℕ). All (λ s. s < 2 ^ bits) word) (sym built.bits_are) x.symbols;
      } in
      subst (λ (k : ParityChecks). IsInCode k word) checks_are
      (by_marks.1 ((by_labels fits).1 (at_function e p.modulus p.points word is_space.0 weight x.orthogonal)))

pub monomial_law : MonomialLaw
monomial_law p c e weight word h is_code space_is rule_is = (to_monomials p c e weight word h is_code space_is rule_is, from_monomials p c e weight word h is_code space_is rule_is)
