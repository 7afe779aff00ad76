-- What the tests of a space say: which space it is, or for which cause it is refused
use Rattle.std.proofs.Common.{◌≡◌, ℕ, ◌≤◌, ◌^◌, ℤ, Bool, true, false, not, ◌&&◌, ◌||◌, leb, eqb, List, [], ◌∷◌, map, Option, Some, None, option_map, MatchOption, IfSome, refl, sym, ap, ap₂, ◌∙◌, subst, inl, inr, arith}
use Rattle.std.proofs.lemmas.Bool.{and_parts, and_from, or_left, or_right, not_from_false, false_from_ne_true, leb-true, le-leb, cases_eq, ne_eqb}
use Rattle.curve_theory.specs.declared.Term.{Term}
use Rattle.weight_semi.specs.Generators.{are_generators}
use Rattle.weight_semi.proofs.Coprime.{are_generators-decides}
use Rattle.cab_curve.specs.First.{when, first_of}
use Rattle.cab_curve.specs.Equation.{Equation, misses_lead}
use Rattle.affine_domain.specs.Space as affine
use Rattle.affine_domain.specs.declared.domain.AffineDomain.{AffineDomain}
use Rattle.code_descriptor.specs.declared.DescCause.{DescCause}
use Rattle.code_descriptor.specs.declared.DescCause.TheVariants.{TooLarge, NotToml, BadKey, BadField, BadSpace, BadDegrees, BadTerm, MissingLead, BadPoint, BadWeight, BadImproved, BadLayout, BadDepth, NoPoints, NothingFree}
use Rattle.code_descriptor.specs.Tree.{NamedCurve, NamedSpace, OfCurve, OfVariables}
use Rattle.code_descriptor.specs.Parts.{Space, Cab, Affine, IsSpace}
use Rattle.code_descriptor.specs.Built.{bits_of}
use Rattle.code_descriptor.specs.Tests.{nat, fits_u32, is_affine, are_variables, are_degrees, plain_term, first_bad_term, term_refusal, space_refusal, plain_curve, plain_space}
use Rattle.code_descriptor.specs.Meaning.{HasDegrees, HasTerms, HasCurve, HasVariables, IsSpaceOf, IsRefusedSpace, bad_term, lacks_lead}
use Rattle.code_descriptor.proofs.Integers.{from_to, to_from, nat_of}

-- ---- the test of a number of variables decides

three_go : (bits vars : ℕ) → affine.IsSpace bits vars → (not (eqb vars 3) || leb bits 5) ≡ true
three_go bits vars h = elim (cases_eq vars 3) [
  | inl e ↦ or_right (not (eqb vars 3)) (leb bits 5) (le-leb bits 5 (h.three e))
  | inr d ↦ or_left (not (eqb vars 3)) (leb bits 5) (not_from_false (eqb vars 3) (ne_eqb vars 3 d))
]

is_affine-from : (bits vars : ℕ) → affine.IsSpace bits vars → is_affine bits vars ≡ true
unfolding is_affine
is_affine-from bits vars h =
    and_from ((leb 2 bits && leb bits 8) && (leb 1 vars && leb vars 3)) (not (eqb vars 3) || leb bits 5)
    (and_from (leb 2 bits && leb bits 8) (leb 1 vars && leb vars 3)
    (and_from (leb 2 bits) (leb bits 8) (le-leb 2 bits h.bits_least) (le-leb bits 8 h.bits_most))
    (and_from (leb 1 vars) (leb vars 3) (le-leb 1 vars h.vars_least) (le-leb vars 3 h.vars_most)))
    (three_go bits vars h)

is_affine-yes : (bits vars : ℕ) → is_affine bits vars ≡ true → affine.IsSpace bits vars
unfolding is_affine
is_affine-yes bits vars h =
    let whole = and_parts ((leb 2 bits && leb bits 8) && (leb 1 vars && leb vars 3)) (not (eqb vars 3) || leb bits 5) h in
    let two = and_parts (leb 2 bits && leb bits 8) (leb 1 vars && leb vars 3) whole.0 in
    let of_bits = and_parts (leb 2 bits) (leb bits 8) two.0 in
    let of_vars = and_parts (leb 1 vars) (leb vars 3) two.1 in
    record {
      bits_least = leb-true 2 bits of_bits.0;
      bits_most = leb-true bits 8 of_bits.1;
      vars_least = leb-true 1 vars of_vars.0;
      vars_most = leb-true vars 3 of_vars.1;
      three = λ e. leb-true bits 5 (subst (λ (v : ℕ). (not (eqb v 3) || leb bits 5) ≡ true) e whole.1);
    }

-- what `AffineDomain::new` answers, by the test
pub domain_answer : (bits vars : ℕ) (r : Option AffineDomain) → MatchOption r (affine.IsSpace bits vars → ⊥) (λ d. affine.IsSpace bits vars) →
    IfSome r (λ d. (d.bits ≡ bits) × (d.vars ≡ vars)) →
    MatchOption r (is_affine bits vars ≡ false) (λ d. (is_affine bits vars ≡ true) × (d.bits ≡ bits) × (d.vars ≡ vars))
domain_answer bits vars None h k = false_from_ne_true (is_affine bits vars) (λ y. h (is_affine-yes bits vars y))
domain_answer bits vars (Some d) h k = (is_affine-from bits vars h, k.0, k.1)

-- what the tests of a space find
abbrev Says : ℕ → NamedSpace → Option DescCause → Type 0
Says bits s None = IsSpaceOf bits s (plain_space bits s)
Says bits s (Some k) = IsRefusedSpace bits s k

-- ---- a curve

abbrev equation_with : (bits a b : ℕ) → List Term → Equation
equation_with bits a b terms = record { bits = bits; a = a; b = b; terms = terms }

module _ (bits : ℕ) (c : NamedCurve) where
  degrees_test : (e : Equation) → HasDegrees bits c e → are_degrees c.a c.b ≡ true
  unfolding are_degrees
  degrees_test e h =
      let test : are_generators (nat c.a) (nat c.b) ≡ true =
      ap₂ (λ (x y : ℕ). are_generators x y) (nat_of e.a c.a h.a) (nat_of e.b c.b h.b) ∙ (are_generators-decides e.a e.b).1 h.generators in
      and_from (fits_u32 c.a && fits_u32 c.b) (are_generators (nat c.a) (nat c.b))
      (and_from (fits_u32 c.a) (fits_u32 c.b)
      (to_from 0 4294967295 e.a c.a h.a (omega arith) (omega (arith, h.generators.a_most)))
      (to_from 0 4294967295 e.b c.b h.b (omega arith) (omega (arith, h.generators.b_most))))
      test

  degrees_has : are_degrees c.a c.b ≡ true → HasDegrees bits c (plain_curve bits c)
  unfolding are_degrees
  degrees_has h =
      let two = and_parts (fits_u32 c.a && fits_u32 c.b) (are_generators (nat c.a) (nat c.b)) h in
      let fit = and_parts (fits_u32 c.a) (fits_u32 c.b) two.0 in
      record {
        bits_are = refl;
        a = (from_to 0 4294967295 c.a fit.0).0;
        b = (from_to 0 4294967295 c.b fit.1).0;
        generators = (are_generators-decides (nat c.a) (nat c.b)).0 two.1;
      }

  -- the first bad term, and a missing lead, do not depend on which equation is taken
  terms_as : (e : Equation) → HasDegrees bits c e → bad_term bits c (plain_curve bits c) ≡ bad_term bits c e
  terms_as e h = ap₂ (λ (a b : ℕ). first_bad_term (2 ^ bits) a b c.terms) (nat_of e.a c.a h.a) (nat_of e.b c.b h.b)

  leads_as : (e : Equation) → HasTerms bits c e → lacks_lead (plain_curve bits c) ≡ lacks_lead e
  leads_as e h =
      ap₂ (λ (a b : ℕ). misses_lead a b (map plain_term c.terms)) (nat_of e.a c.a h.before.a) (nat_of e.b c.b h.before.b)
      ∙ ap (λ (ts : List Term). misses_lead e.a e.b ts) (sym h.terms)

  curve_is : (e : Equation) → HasTerms bits c e → plain_curve bits c ≡ e
  curve_is e h =
      ap (λ (m : ℕ). equation_with m (nat c.a) (nat c.b) (map plain_term c.terms)) (sym h.before.bits_are)
      ∙ ap (λ (a : ℕ). equation_with e.bits a (nat c.b) (map plain_term c.terms)) (nat_of e.a c.a h.before.a)
      ∙ ap (λ (b : ℕ). equation_with e.bits e.a b (map plain_term c.terms)) (nat_of e.b c.b h.before.b)
      ∙ ap (λ (ts : List Term). equation_with e.bits e.a e.b ts) (sym h.terms)

  curve_found : (k : DescCause) → IsRefusedSpace bits (OfCurve c) k → space_refusal bits (OfCurve c) ≡ Some k
  unfolding space_refusal term_refusal
  curve_found BadDegrees h =
      let d : are_degrees c.a c.b ≡ false = false_from_ne_true (are_degrees c.a c.b) (λ y. h (plain_curve bits c) (degrees_has y)) in
      rw d refl
  curve_found (BadTerm k) h =
      let d = degrees_test h.0 h.1 in
      let t : bad_term bits c (plain_curve bits c) ≡ Some k = terms_as h.0 h.1 ∙ h.2 in
      rw (d, t) refl
  curve_found MissingLead h =
      let d = degrees_test h.0 h.1.before in
      let t : bad_term bits c (plain_curve bits c) ≡ None = terms_as h.0 h.1.before ∙ h.1.none_bad in
      let l : lacks_lead (plain_curve bits c) ≡ true = leads_as h.0 h.1 ∙ h.2 in
      rw (d, t, l) refl
  curve_found BadSpace h = absurd h
  curve_found TooLarge h = absurd h
  curve_found NotToml h = absurd h
  curve_found (BadKey q) h = absurd h
  curve_found BadField h = absurd h
  curve_found (BadPoint q) h = absurd h
  curve_found BadWeight h = absurd h
  curve_found BadImproved h = absurd h
  curve_found BadLayout h = absurd h
  curve_found BadDepth h = absurd h
  curve_found NoPoints h = absurd h
  curve_found NothingFree h = absurd h

  curve_none : (e : Equation) → HasCurve bits c e → space_refusal bits (OfCurve c) ≡ None
  unfolding space_refusal term_refusal
  curve_none e h =
      let d = degrees_test e h.before.before in
      let t : bad_term bits c (plain_curve bits c) ≡ None = terms_as e h.before.before ∙ h.before.none_bad in
      let l : lacks_lead (plain_curve bits c) ≡ false = leads_as e h.before ∙ h.leads in
      rw (d, t, l) refl

  terms_has : are_degrees c.a c.b ≡ true → bad_term bits c (plain_curve bits c) ≡ None → HasTerms bits c (plain_curve bits c)
  terms_has d t = record { before = degrees_has d; terms = refl; none_bad = t }

  curve_go : (d : Bool) → are_degrees c.a c.b ≡ d → (o : Option ℕ) → bad_term bits c (plain_curve bits c) ≡ o → (m : Bool) → lacks_lead (plain_curve bits c) ≡ m →
      Says bits (OfCurve c) (first_of (when (not d) BadDegrees ∷ first_of (option_map BadTerm o ∷ when m MissingLead ∷ []) ∷ []))
  curve_go false d o t m l = λ e h. (let y = degrees_test e h in let none : ⊥ = cc in none)
  curve_go true d (Some k) t m l = (plain_curve bits c, degrees_has d, t)
  curve_go true d None t true l = (plain_curve bits c, terms_has d t, l)
  curve_go true d None t false l = record { before = terms_has d t; leads = l }

  curve_says : Says bits (OfCurve c) (space_refusal bits (OfCurve c))
  unfolding space_refusal term_refusal
  curve_says = curve_go (are_degrees c.a c.b) refl (bad_term bits c (plain_curve bits c)) refl (lacks_lead (plain_curve bits c)) refl

-- ---- a number of variables

module _ (bits : ℕ) (z : ℤ) where
  variables_test : (own vars : ℕ) → HasVariables bits z own vars → are_variables bits z ≡ true
  unfolding are_variables
  variables_test own vars h =
      and_from (fits_u32 z) (is_affine bits (nat z))
      (to_from 0 4294967295 vars z h.vars_are (omega arith) (omega (arith, h.space.vars_most)))
      (ap (λ (v : ℕ). is_affine bits v) (nat_of vars z h.vars_are) ∙ is_affine-from bits vars h.space)

  variables_has : are_variables bits z ≡ true → HasVariables bits z bits (nat z)
  unfolding are_variables
  variables_has h =
      let two = and_parts (fits_u32 z) (is_affine bits (nat z)) h in
      record { bits_are = refl; vars_are = (from_to 0 4294967295 z two.0).0; space = is_affine-yes bits (nat z) two.1 }

  variables_found : (k : DescCause) → IsRefusedSpace bits (OfVariables z) k → space_refusal bits (OfVariables z) ≡ Some k
  unfolding space_refusal
  variables_found BadSpace h =
      let d : are_variables bits z ≡ false = false_from_ne_true (are_variables bits z) (λ y. h bits (nat z) (variables_has y)) in
      rw d refl
  variables_found BadDegrees h = absurd h
  variables_found (BadTerm q) h = absurd h
  variables_found MissingLead h = absurd h
  variables_found TooLarge h = absurd h
  variables_found NotToml h = absurd h
  variables_found (BadKey q) h = absurd h
  variables_found BadField h = absurd h
  variables_found (BadPoint q) h = absurd h
  variables_found BadWeight h = absurd h
  variables_found BadImproved h = absurd h
  variables_found BadLayout h = absurd h
  variables_found BadDepth h = absurd h
  variables_found NoPoints h = absurd h
  variables_found NothingFree h = absurd h

  variables_none : (own vars : ℕ) → HasVariables bits z own vars → space_refusal bits (OfVariables z) ≡ None
  unfolding space_refusal
  variables_none own vars h = let d = variables_test own vars h in rw d refl

  variables_are : (own vars : ℕ) → HasVariables bits z own vars → Affine bits (nat z) ≡ Affine own vars
  variables_are own vars h = ap₂ (λ (m v : ℕ). Affine m v) (sym h.bits_are) (nat_of vars z h.vars_are)

  variables_go : (d : Bool) → are_variables bits z ≡ d → Says bits (OfVariables z) (when (not d) BadSpace)
  variables_go true d = variables_has d
  variables_go false d = λ own vars h. (let y = variables_test own vars h in let none : ⊥ = cc in none)

  variables_say : Says bits (OfVariables z) (space_refusal bits (OfVariables z))
  unfolding space_refusal
  variables_say = variables_go (are_variables bits z) refl

-- ---- any space

pub own_bits : (bits : ℕ) (s : Space) → IsSpace bits s → bits_of s ≡ bits
own_bits bits (Cab e) h = h.1
own_bits bits (Affine own vars) h = h.1

pub space_found : (bits : ℕ) (s : NamedSpace) (k : DescCause) → IsRefusedSpace bits s k → space_refusal bits s ≡ Some k
space_found bits (OfCurve c) k h = curve_found bits c k h
space_found bits (OfVariables z) k h = variables_found bits z k h

pub space_none : (bits : ℕ) (s : NamedSpace) (p : Space) → IsSpaceOf bits s p → space_refusal bits s ≡ None
space_none bits (OfCurve c) (Cab e) h = curve_none bits c e h
space_none bits (OfVariables z) (Affine own vars) h = variables_none bits z own vars h
space_none bits (OfCurve c) (Affine own vars) h = absurd h
space_none bits (OfVariables z) (Cab e) h = absurd h

pub space_is : (bits : ℕ) (s : NamedSpace) (p : Space) → IsSpaceOf bits s p → plain_space bits s ≡ p
space_is bits (OfCurve c) (Cab e) h = ap (λ (x : Equation). Cab x) (curve_is bits c e h.before)
space_is bits (OfVariables z) (Affine own vars) h = variables_are bits z own vars h
space_is bits (OfCurve c) (Affine own vars) h = absurd h
space_is bits (OfVariables z) (Cab e) h = absurd h

says : (bits : ℕ) (s : NamedSpace) → Says bits s (space_refusal bits s)
says bits (OfCurve c) = curve_says bits c
says bits (OfVariables z) = variables_say bits z

pub space_refused : (bits : ℕ) (s : NamedSpace) (k : DescCause) → space_refusal bits s ≡ Some k → IsRefusedSpace bits s k
space_refused bits s k e = subst (Says bits s) e (says bits s)

pub space_accepted : (bits : ℕ) (s : NamedSpace) → space_refusal bits s ≡ None → IsSpaceOf bits s (plain_space bits s)
space_accepted bits s e = subst (Says bits s) e (says bits s)
