-- Parts that are all there are those of a descriptor
use Rattle.std.proofs.Common.{◌≡◌, ℕ, ◌<◌, ◌≤◌, ◌^◌, Bool, not, ◌&&◌, List, length, map, None, refl, sym, ap, ◌∙◌, subst}
use Rattle.std.proofs.lemmas.List.{length-map}
use Rattle.std.proofs.lemmas.Bool.{and_parts, or_parts, not-false}
use Rattle.curve_theory.specs.declared.Term.{Term}
use Rattle.curve_theory.specs.Curve.{has_term}
use Rattle.cab_curve.specs.First.{least, first_of}
use Rattle.order_domain.specs.declared.Point.{Point}
use Rattle.cab_curve.specs.Equation.{IsCurve, is_bad_term}
use Rattle.cab_curve.proofs.Least.{least-same, least-none}
use Rattle.cab_curve.proofs.Accepted.{accepted}
use Rattle.eval_basis.specs.declared.checked.CheckRule.{CheckRule}
use Rattle.code_descriptor.specs.declared.keys.NamedRule.TheVariants.{Weight, Improved}
use Rattle.code_descriptor.specs.Tree.{Named, NamedRule, NamedTerm, NamedCurve, NamedSpace, OfCurve, OfVariables}
use Rattle.code_descriptor.specs.Tests.{nat, fits_u32, plain_term, plain_point, plain_curve, plain_space, plain_rule, packed_or, named_term_at, is_bad_named_term, first_bad_term, point_refusal, parts, refusals}
use Rattle.code_descriptor.specs.Parts.{Space, IsDescriptor, IsSpace, number_of}
use Rattle.gf_theory.specs.Field.{IsModulus}
use Rattle.code_descriptor.specs.Meaning.{Parts, HasCurve, IsSpaceOf, HasPoints, IsRule, AreParts, Describes}
use Rattle.code_descriptor.proofs.PointLoop.{all_few, all_on_space, all_distinct}
use Rattle.code_descriptor.proofs.Tested.{are_parts, none_found, plain_parts}

module _ (size a b : ℕ) (ts : List NamedTerm) (none : first_bad_term size a b ts ≡ None) where
  good_at : (k : ℕ) → k < length ts → is_bad_named_term size a b ts k ≡ is_bad_term size a b (map plain_term ts) k
  unfolding is_bad_named_term
  good_at k l =
      let h = least-none (length ts) (is_bad_named_term size a b ts) none k l in
      let good = or_parts (not (fits_u32 (named_term_at ts k).i && fits_u32 (named_term_at ts k).j)) (is_bad_term size a b (map plain_term ts) k) h in
      h ∙ sym good.1

  none_bad : least (length (map plain_term ts)) (is_bad_term size a b (map plain_term ts)) ≡ None
  none_bad =
      let same : length (map plain_term ts) ≡ length ts = simp length-map in
      let front = least-same (length ts) (is_bad_named_term size a b ts) (is_bad_term size a b (map plain_term ts)) good_at in
      ap (λ (n : ℕ). least n (is_bad_term size a b (map plain_term ts))) same ∙ sym front ∙ none

curve_of : (bits : ℕ) (c : NamedCurve) → 2 ≤ bits → bits ≤ 8 → HasCurve bits c (plain_curve bits c) → IsCurve (plain_curve bits c)
curve_of bits c least most h =
    let a : ℕ = nat c.a in
    let b : ℕ = nat c.b in
    let ts : List Term = map plain_term c.terms in
    let both = and_parts (has_term ts 0 a) (has_term ts b 0) (not-false (has_term ts 0 a && has_term ts b 0) h.leads) in
    accepted bits a b ts least most h.before.before.generators
    (none_bad (2 ^ bits) a b c.terms h.before.none_bad) both.0 both.1

space_of : (bits modulus : ℕ) (s : NamedSpace) → IsModulus bits modulus → IsSpaceOf bits s (plain_space bits s) → IsSpace bits (plain_space bits s)
space_of bits modulus (OfCurve c) m h = (curve_of bits c m.at_least_two m.at_most_eight h, refl)
space_of bits modulus (OfVariables z) m h = (h.space, refl)

module _ (n : Named) where
  no_point : HasPoints n (parts n) → point_refusal (nat n.bits) (nat n.modulus) (plain_space (nat n.bits) n.space) n.points ≡ None
  unfolding point_refusal
  no_point h = rw h.none_bad refl

  number_most : (r : NamedRule) → IsRule r (plain_rule r) → number_of (plain_rule r) ≤ 65535
  number_most (Weight z) h = h.1
  number_most (Improved z) h = h.1

  pub sound_parts : AreParts n (parts n) → IsDescriptor (parts n)
  sound_parts h =
      let rule = h.before.before in
      let points = rule.before in
      let space = points.before in
      let on : Space = plain_space (nat n.bits) n.space in
      let none = no_point points in
      record {
        field = space.before.field;
        space = space_of (nat n.bits) (nat n.modulus) n.space space.before.field space.space;
        points = record {
          distinct = all_distinct (nat n.bits) (nat n.modulus) on n.points none;
          few = all_few (nat n.bits) (nat n.modulus) on n.points none;
        };
        points_on = all_on_space (nat n.bits) (nat n.modulus) on n.points none;
        rule_most = number_most n.rule rule.rule;
        depth_least = h.depth_least;
        depth_most = h.depth_most;
      }

-- what a text describes belongs together
pub described_sound : (text : List ℕ) (p : Parts) → Describes text p → IsDescriptor p
described_sound text p h =
    let all = are_parts h.named (none_found h.named p h.parts) in
    subst IsDescriptor (plain_parts h.named p h.parts) (sound_parts h.named all)

-- what no test refuses belongs together
pub sound : (n : Named) → first_of (refusals n) ≡ None → IsDescriptor (parts n)
sound n h = sound_parts n (are_parts n h)

-- the same, of parts that are known to be those by natural numbers
pub built : (n : Named) (bits modulus : ℕ) (space : Space) (points : List Point) (rule : CheckRule) (depth : ℕ) (packed : Bool) → first_of (refusals n) ≡ None
    → bits ≡ nat n.bits → modulus ≡ nat n.modulus → space ≡ plain_space bits n.space → points ≡ map plain_point n.points
    → rule ≡ plain_rule n.rule → depth ≡ nat n.depth → packed ≡ packed_or n.packed
    → IsDescriptor (record { bits = bits; modulus = modulus; space = space; points = points; rule = rule; depth = depth; packed = packed })
built n bits modulus space points rule depth packed none e1 e2 e3 e4 e5 e6 e7 = rw (e3, e1, e2, e4, e5, e6, e7) (sound n none)
