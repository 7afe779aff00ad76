-- What the tests of what stands at the keys say: which parts it has, or for which cause it is refused
use Rattle.std.proofs.Common.{◌≡◌, ℕ, ◌+◌, ◌<◌, ◌≤◌, ◌^◌, ℤ, pos, negsuc, Bool, true, false, not, ◌&&◌, leb, List, map, Option, Some, None, is_none, option_map, refl, sym, ap, ap₂, ◌∙◌, subst, arith}
use Rattle.std.proofs.Math.Nat.{pow-le-pow_right}
use Rattle.std.proofs.lemmas.Bool.{and_parts, and_from, both_ways, false_from_ne_true, leb-true, le-leb}
use Rattle.std.specs.Option.{option_or}
use Rattle.gf_theory.specs.Field.{IsModulus}
use Rattle.cab_curve.specs.First.{when, first_of}
use Rattle.eval_basis.specs.declared.checked.CheckRule.{CheckRule}
use Rattle.eval_basis.specs.declared.checked.CheckRule.TheVariants.{AtMost, Small}
use Rattle.code_descriptor.specs.declared.keys.NamedRule.TheVariants.{Weight, Improved}
use Rattle.code_descriptor.specs.declared.DescCause.{DescCause}
use Rattle.code_descriptor.specs.declared.DescCause.TheVariants.{TooLarge, NotToml, BadKey, BadField, BadSpace, BadDegrees, BadTerm, MissingLead, BadPoint, BadWeight, BadImproved, BadLayout, BadDepth, NoPoints, NothingFree}
use Rattle.code_descriptor.specs.FieldTest.{is_modulus}
use Rattle.code_descriptor.specs.Tree.{Named, NamedSpace, OfCurve, OfVariables, NamedRule}
use Rattle.order_domain.specs.declared.Point.{Point}
use Rattle.code_descriptor.specs.Tests.{packed_or, nat, is_from_to, fits_u32, is_field, plain_point, first_bad_point, space_refusal, point_refusal, plain_space, plain_rule, integer_of, rule_refusal, parts, refusals}
use Rattle.code_descriptor.specs.Meaning.{Parts, Space, Lacks, HasField, IsRefusedSpace, HasSpace, HasPoints, IsRule, HasRule, HasLayout, AreParts, IsRefusedPart, bad_point}
use Rattle.code_descriptor.proofs.Moduli.{is_modulus-decides}
use Rattle.code_descriptor.proofs.Integers.{from_to, to_from, nat_of}
use Rattle.code_descriptor.proofs.Spaces.{space_found, space_none, space_is, space_refused, space_accepted}

-- ---- each test and what it says

modulus_below : (m p : ℕ) → IsModulus m p → p < 512
modulus_below m p h =
    let few : m + 1 ≤ 9 = omega (arith, h.at_most_eight) in
    let most : 2 ^ (m + 1) ≤ 2 ^ 9 = pow-le-pow_right (omega arith) few in
    omega (arith, h.irreducible.below)

rule_within : (r : NamedRule) (s : CheckRule) → IsRule r s → is_from_to 0 65535 (integer_of r) ≡ true
rule_within (Weight z) (AtMost w) k = to_from 0 65535 w z k.0 (omega arith) k.1
rule_within (Improved z) (Small q) k = to_from 0 65535 q z k.0 (omega arith) k.1
rule_within (Weight z) (Small q) k = absurd k
rule_within (Improved z) (AtMost w) k = absurd k

-- parts by what they are made of
put_parts : (bits modulus : ℕ) → Space → List Point → CheckRule → ℕ → Bool → Parts
put_parts bits modulus space points rule depth packed = record {
  bits = bits;
  modulus = modulus;
  space = space;
  points = points;
  rule = rule;
  depth = depth;
  packed = packed;
}

same_parts : (bits modulus : ℕ) (space : Space) (points : List Point) (rule : CheckRule) (depth : ℕ) (packed : Bool) (p : Parts)
    → bits ≡ p.bits → modulus ≡ p.modulus → space ≡ p.space → points ≡ p.points
    → rule ≡ p.rule → depth ≡ p.depth → packed ≡ p.packed → put_parts bits modulus space points rule depth packed ≡ p
unfolding put_parts
same_parts bits modulus space points rule depth packed p e1 e2 e3 e4 e5 e6 e7 =
    let whole : put_parts bits modulus space points rule depth packed ≡ put_parts p.bits p.modulus p.space p.points p.rule p.depth p.packed =
    rw (e1, e2, e3, e4, e5, e6, e7) refl in
    whole

module _ (n : Named) where
  pub has_field : (p : Parts) → HasField n p → is_field n.bits n.modulus ≡ true
  unfolding is_field
  has_field p h =
      let below = modulus_below p.bits p.modulus h.field in
      let test : is_modulus (nat n.bits) (nat n.modulus) ≡ true =
      ap₂ (λ (x y : ℕ). is_modulus x y) (nat_of p.bits n.bits h.bits) (nat_of p.modulus n.modulus h.modulus) ∙ (is_modulus-decides p.bits p.modulus).1 h.field in
      and_from (fits_u32 n.bits && fits_u32 n.modulus) (is_modulus (nat n.bits) (nat n.modulus))
      (and_from (fits_u32 n.bits) (fits_u32 n.modulus)
      (to_from 0 4294967295 p.bits n.bits h.bits (omega arith) (omega (arith, h.field.at_most_eight)))
      (to_from 0 4294967295 p.modulus n.modulus h.modulus (omega arith) (omega arith)))
      test

  pub field_has : is_field n.bits n.modulus ≡ true → HasField n (parts n)
  unfolding is_field
  field_has h =
      let two = and_parts (fits_u32 n.bits && fits_u32 n.modulus) (is_modulus (nat n.bits) (nat n.modulus)) h in
      let fit = and_parts (fits_u32 n.bits) (fits_u32 n.modulus) two.0 in
      record {
        bits = (from_to 0 4294967295 n.bits fit.0).0;
        modulus = (from_to 0 4294967295 n.modulus fit.1).0;
        field = (is_modulus-decides (nat n.bits) (nat n.modulus)).0 two.1;
      }

  pub space_has : HasField n (parts n) → space_refusal (nat n.bits) n.space ≡ None → HasSpace n (parts n)
  space_has before h = record { before = before; space = space_accepted (nat n.bits) n.space h }

  -- what the tests of the space say does not depend on which parts are taken
  has_space : (p : Parts) → HasSpace n p → space_refusal (nat n.bits) n.space ≡ None
  has_space p h = ap (λ (m : ℕ). space_refusal m n.space) (nat_of p.bits n.bits h.before.bits) ∙ space_none p.bits n.space p.space h.space

  spaces_as : (p : Parts) → HasSpace n p → plain_space (nat n.bits) n.space ≡ p.space
  spaces_as p h = ap (λ (m : ℕ). plain_space m n.space) (nat_of p.bits n.bits h.before.bits) ∙ space_is p.bits n.space p.space h.space

  points_as : (p : Parts) → HasSpace n p → bad_point n (parts n) ≡ bad_point n p
  points_as p h =
      ap₂ (λ (m q : ℕ). first_bad_point m q (plain_space (nat n.bits) n.space) n.points) (nat_of p.bits n.bits h.before.bits) (nat_of p.modulus n.modulus h.before.modulus)
      ∙ ap (λ (s : Space). first_bad_point p.bits p.modulus s n.points) (spaces_as p h)

  rule_in : (p : Parts) → HasRule n p → is_from_to 0 65535 (integer_of n.rule) ≡ true
  rule_in p h = rule_within n.rule p.rule h.rule

  pub has_rule : (p : Parts) → HasRule n p → rule_refusal n.rule ≡ None
  has_rule p h = let t = rule_in p h in rw t refl

  is_plain_rule : (r : NamedRule) → is_from_to 0 65535 (integer_of r) ≡ true → IsRule r (plain_rule r)
  is_plain_rule (Weight z) h = let w = from_to 0 65535 z h in (w.0, w.2)
  is_plain_rule (Improved z) h = let w = from_to 0 65535 z h in (w.0, w.2)

  pub rule_has : HasPoints n (parts n) → is_from_to 0 65535 (integer_of n.rule) ≡ true → HasRule n (parts n)
  rule_has before h = record { before = before; rule = is_plain_rule n.rule h }

  pub layout_has : (b : Bool) → HasRule n (parts n) → n.packed ≡ Some b → HasLayout n (parts n)
  layout_has b before h = record { before = before; layout = rw h refl }

  pub parts_has : HasLayout n (parts n) → is_from_to 1 64 n.depth ≡ true → AreParts n (parts n)
  parts_has before h =
      let w = from_to 1 64 n.depth h in
      record { before = before; depth = w.0; depth_least = w.1; depth_most = w.2 }

  pub has_parts : (p : Parts) → AreParts n p → is_from_to 1 64 n.depth ≡ true
  has_parts p h = to_from 1 64 p.depth n.depth h.depth h.depth_least h.depth_most

  -- ---- what some parts have, those by natural numbers have

  as_field : (p : Parts) → HasField n p → HasField n (parts n)
  as_field p h = field_has (has_field p h)

  as_space : (p : Parts) → HasSpace n p → HasSpace n (parts n)
  as_space p h = space_has (as_field p h.before) (has_space p h)

  as_points : (p : Parts) → HasPoints n p → HasPoints n (parts n)
  as_points p h = record { before = as_space p h.before; points = refl; none_bad = points_as p h.before ∙ h.none_bad }

  rule_go : (r : NamedRule) (s : CheckRule) → IsRule r s → (IsRule r (plain_rule r)) × (plain_rule r ≡ s)
  rule_go (Weight z) (AtMost w) k = rw k.0 ((refl, k.1), refl)
  rule_go (Improved z) (Small q) k = rw k.0 ((refl, k.1), refl)
  rule_go (Weight z) (Small q) k = absurd k
  rule_go (Improved z) (AtMost w) k = absurd k

  as_rule : (p : Parts) → HasRule n p → HasRule n (parts n)
  as_rule p h = record { before = as_points p h.before; rule = (rule_go n.rule p.rule h.rule).0 }

  as_layout : (p : Parts) → HasLayout n p → HasLayout n (parts n)
  as_layout p h = layout_has p.packed (as_rule p h.before) h.layout

  -- ---- a cause that comes is the one that the tests find

  space_cause : (p : Parts) (k : DescCause) → HasField n p → IsRefusedSpace p.bits n.space k → space_refusal (nat n.bits) n.space ≡ Some k
  space_cause p k h e = ap (λ (m : ℕ). space_refusal m n.space) (nat_of p.bits n.bits h.bits) ∙ space_found p.bits n.space k e

  no_point : (p : Parts) → HasPoints n p → point_refusal (nat n.bits) (nat n.modulus) (plain_space (nat n.bits) n.space) n.points ≡ None
  unfolding point_refusal
  no_point p h = let c = as_points p h in rw c.none_bad refl

  point_refused : (p : Parts) (k : ℕ) → HasSpace n p → bad_point n p ≡ Some k → point_refusal (nat n.bits) (nat n.modulus) (plain_space (nat n.bits) n.space) n.points ≡ Some (BadPoint k)
  unfolding point_refusal
  point_refused p k h e = let f : bad_point n (parts n) ≡ Some k = points_as p h ∙ e in rw f refl

  rule_refused : (p : Parts) → HasPoints n p → Lacks (HasRule n) → is_from_to 0 65535 (integer_of n.rule) ≡ false
  rule_refused p h lacks = false_from_ne_true (is_from_to 0 65535 (integer_of n.rule)) (λ e. lacks (parts n) (rule_has (as_points p h) e))

  is_weight : (r : NamedRule) (z : ℤ) → r ≡ Weight z → is_from_to 0 65535 (integer_of r) ≡ false → rule_refusal r ≡ Some BadWeight
  is_weight (Weight y) z e h = rw h refl
  is_weight (Improved y) z e h = cc

  is_improved : (r : NamedRule) (z : ℤ) → r ≡ Improved z → is_from_to 0 65535 (integer_of r) ≡ false → rule_refusal r ≡ Some BadImproved
  is_improved (Improved y) z e h = rw h refl
  is_improved (Weight y) z e h = cc

  no_layout : (o : Option Bool) → n.packed ≡ o → (p : Parts) → HasRule n p → Lacks (HasLayout n) → is_none n.packed ≡ true
  no_layout None e p h lacks = rw e refl
  no_layout (Some b) e p h lacks = absurd (lacks (parts n) (layout_has b (as_rule p h) e))

  some_layout : (p : Parts) → HasLayout n p → is_none n.packed ≡ false
  some_layout p h = rw h.layout refl

  space_part : (p : Parts) (k : DescCause) → HasField n p → IsRefusedSpace p.bits n.space k → first_of (refusals n) ≡ Some k
  unfolding refusals
  space_part p k h e =
      let f = has_field p h in
      let s = space_cause p k h e in
      rw (f, s) refl

  pub found : (c : DescCause) → IsRefusedPart n c → first_of (refusals n) ≡ Some c
  unfolding refusals
  found BadField h = let f : is_field n.bits n.modulus ≡ false = false_from_ne_true (is_field n.bits n.modulus) (λ e. h (parts n) (field_has e)) in rw f refl
  found BadSpace h = space_part h.0 BadSpace h.1 h.2
  found BadDegrees h = space_part h.0 BadDegrees h.1 h.2
  found (BadTerm k) h = space_part h.0 (BadTerm k) h.1 h.2
  found MissingLead h = space_part h.0 MissingLead h.1 h.2
  found (BadPoint k) h =
      let f = has_field h.0 h.1.before in
      let s = has_space h.0 h.1 in
      let q = point_refused h.0 k h.1 h.2 in
      rw (f, s, q) refl
  found BadWeight h =
      let f = has_field h.0 h.1.before.before in
      let s = has_space h.0 h.1.before in
      let q = no_point h.0 h.1 in
      let r = is_weight n.rule h.2.0 h.2.1 (rule_refused h.0 h.1 h.3) in
      rw (f, s, q, r) refl
  found BadImproved h =
      let f = has_field h.0 h.1.before.before in
      let s = has_space h.0 h.1.before in
      let q = no_point h.0 h.1 in
      let r = is_improved n.rule h.2.0 h.2.1 (rule_refused h.0 h.1 h.3) in
      rw (f, s, q, r) refl
  found BadLayout h =
      let f = has_field h.0 h.1.before.before.before in
      let s = has_space h.0 h.1.before.before in
      let q = no_point h.0 h.1.before in
      let r = has_rule h.0 h.1 in
      let l = no_layout n.packed refl h.0 h.1 h.2 in
      rw (f, s, q, r, l) refl
  found BadDepth h =
      let rule = h.1.before in
      let f = has_field h.0 rule.before.before.before in
      let s = has_space h.0 rule.before.before in
      let q = no_point h.0 rule.before in
      let r = has_rule h.0 rule in
      let l = some_layout h.0 h.1 in
      let deep : is_from_to 1 64 n.depth ≡ false = false_from_ne_true (is_from_to 1 64 n.depth) (λ e. h.2 (parts n) (parts_has (as_layout h.0 h.1) e)) in
      rw (f, s, q, r, l, deep) refl
  found TooLarge h = absurd h
  found NotToml h = absurd h
  found (BadKey key) h = absurd h
  found NoPoints h = absurd h
  found NothingFree h = absurd h

  -- parts that are all there are not refused, and they are those by natural numbers
  pub none_found : (p : Parts) → AreParts n p → first_of (refusals n) ≡ None
  unfolding refusals
  none_found p h =
      let rule = h.before.before in
      let f = has_field p rule.before.before.before in
      let s = has_space p rule.before.before in
      let q = no_point p rule.before in
      let r = has_rule p rule in
      let l = some_layout p h.before in
      let deep = has_parts p h in
      rw (f, s, q, r, l, deep) refl

  -- ---- what the tests find is a cause that comes

  abbrev Says : Option DescCause → Type 0
  Says None = AreParts n (parts n)
  Says (Some c) = IsRefusedPart n c

  depth_says : HasLayout n (parts n) → (b : Bool) → is_from_to 1 64 n.depth ≡ b → Says (option_or (when (not b) BadDepth) None)
  depth_says h true e = parts_has h e
  depth_says h false e = (parts n, h, λ q k. both_ways (is_from_to 1 64 n.depth) e (has_parts q k))

  layout_says : (rest : Option DescCause) → HasRule n (parts n) → (HasLayout n (parts n) → Says rest) → (o : Option Bool) → n.packed ≡ o → Says (option_or (when (is_none o) BadLayout) rest)
  layout_says rest h then None e = (parts n, h, λ q k. let l = k.layout in cc)
  layout_says rest h then (Some b) e = then (layout_has b h e)

  rule_says : (rest : Option DescCause) → HasPoints n (parts n) → (HasRule n (parts n) → Says rest) → (r : NamedRule) → n.rule ≡ r → (b : Bool) → is_from_to 0 65535 (integer_of r) ≡ b
      → Says (option_or (rule_refusal r) rest)
  rule_says rest h then (Weight z) e true t = rw t (then (rule_has h (ap (λ (r : NamedRule). is_from_to 0 65535 (integer_of r)) e ∙ t)))
  rule_says rest h then (Weight z) e false t =
      rw t (parts n, h, (z, e), λ q k. both_ways (is_from_to 0 65535 (integer_of n.rule)) (ap (λ (r : NamedRule). is_from_to 0 65535 (integer_of r)) e ∙ t) (rule_in q k))
  rule_says rest h then (Improved z) e true t = rw t (then (rule_has h (ap (λ (r : NamedRule). is_from_to 0 65535 (integer_of r)) e ∙ t)))
  rule_says rest h then (Improved z) e false t =
      rw t (parts n, h, (z, e), λ q k. both_ways (is_from_to 0 65535 (integer_of n.rule)) (ap (λ (r : NamedRule). is_from_to 0 65535 (integer_of r)) e ∙ t) (rule_in q k))

  point_says : (rest : Option DescCause) → HasSpace n (parts n) → (HasPoints n (parts n) → Says rest) → (o : Option ℕ) → bad_point n (parts n) ≡ o → Says (option_or (option_map BadPoint o) rest)
  point_says rest h then None e = then (record { before = h; points = refl; none_bad = e })
  point_says rest h then (Some k) e = (parts n, h, e)

  refused_space : (s : NamedSpace) → n.space ≡ s → HasField n (parts n) → (k : DescCause) → IsRefusedSpace (nat n.bits) s k → IsRefusedPart n k
  refused_space (OfCurve c) e h BadSpace r = absurd r
  refused_space (OfCurve c) e h BadDegrees r = (parts n, h, subst (λ (s : NamedSpace). IsRefusedSpace (nat n.bits) s BadDegrees) (sym e) r)
  refused_space (OfCurve c) e h (BadTerm q) r = (parts n, h, subst (λ (s : NamedSpace). IsRefusedSpace (nat n.bits) s (BadTerm q)) (sym e) r)
  refused_space (OfCurve c) e h MissingLead r = (parts n, h, subst (λ (s : NamedSpace). IsRefusedSpace (nat n.bits) s MissingLead) (sym e) r)
  refused_space (OfCurve c) e h TooLarge r = absurd r
  refused_space (OfCurve c) e h NotToml r = absurd r
  refused_space (OfCurve c) e h (BadKey q) r = absurd r
  refused_space (OfCurve c) e h BadField r = absurd r
  refused_space (OfCurve c) e h (BadPoint q) r = absurd r
  refused_space (OfCurve c) e h BadWeight r = absurd r
  refused_space (OfCurve c) e h BadImproved r = absurd r
  refused_space (OfCurve c) e h BadLayout r = absurd r
  refused_space (OfCurve c) e h BadDepth r = absurd r
  refused_space (OfCurve c) e h NoPoints r = absurd r
  refused_space (OfCurve c) e h NothingFree r = absurd r
  refused_space (OfVariables z) e h BadSpace r = (parts n, h, subst (λ (s : NamedSpace). IsRefusedSpace (nat n.bits) s BadSpace) (sym e) r)
  refused_space (OfVariables z) e h BadDegrees r = absurd r
  refused_space (OfVariables z) e h (BadTerm q) r = absurd r
  refused_space (OfVariables z) e h MissingLead r = absurd r
  refused_space (OfVariables z) e h TooLarge r = absurd r
  refused_space (OfVariables z) e h NotToml r = absurd r
  refused_space (OfVariables z) e h (BadKey q) r = absurd r
  refused_space (OfVariables z) e h BadField r = absurd r
  refused_space (OfVariables z) e h (BadPoint q) r = absurd r
  refused_space (OfVariables z) e h BadWeight r = absurd r
  refused_space (OfVariables z) e h BadImproved r = absurd r
  refused_space (OfVariables z) e h BadLayout r = absurd r
  refused_space (OfVariables z) e h BadDepth r = absurd r
  refused_space (OfVariables z) e h NoPoints r = absurd r
  refused_space (OfVariables z) e h NothingFree r = absurd r

  space_says : (rest : Option DescCause) → HasField n (parts n) → (HasSpace n (parts n) → Says rest) → (o : Option DescCause) → space_refusal (nat n.bits) n.space ≡ o → Says (option_or o rest)
  space_says rest h then None e = then (space_has h e)
  space_says rest h then (Some k) e = refused_space n.space refl h k (space_refused (nat n.bits) n.space k e)

  field_says : (rest : Option DescCause) → (HasField n (parts n) → Says rest) → (b : Bool) → is_field n.bits n.modulus ≡ b → Says (option_or (when (not b) BadField) rest)
  field_says rest then true e = then (field_has e)
  field_says rest then false e = λ q k. both_ways (is_field n.bits n.modulus) e (has_field q k)

  says : Says (first_of (refusals n))
  unfolding refusals point_refusal
  says =
      field_says _ (λ f.
      space_says _ f (λ d.
      point_says _ d (λ q.
      rule_says _ q (λ r.
      layout_says _ r (λ l. depth_says l (is_from_to 1 64 n.depth) refl)
      n.packed refl)
      n.rule refl (is_from_to 0 65535 (integer_of n.rule)) refl)
      (bad_point n (parts n)) refl)
      (space_refusal (nat n.bits) n.space) refl)
      (is_field n.bits n.modulus) refl

  pub refused_part : (c : DescCause) → first_of (refusals n) ≡ Some c → IsRefusedPart n c
  refused_part c h = subst Says h says

  pub are_parts : first_of (refusals n) ≡ None → AreParts n (parts n)
  are_parts h = subst Says h says

  -- ---- the parts are those by natural numbers

  pub plain_parts : (p : Parts) → AreParts n p → parts n ≡ p
  unfolding put_parts
  plain_parts p h =
      let rule = h.before.before in
      let points = rule.before in
      let field = points.before.before in
      same_parts (nat n.bits) (nat n.modulus) (plain_space (nat n.bits) n.space) (map plain_point n.points) (plain_rule n.rule) (nat n.depth) (packed_or n.packed) p
      (nat_of p.bits n.bits field.bits) (nat_of p.modulus n.modulus field.modulus) (spaces_as p points.before) (sym points.points)
      (rule_go n.rule p.rule rule.rule).1 (nat_of p.depth n.depth h.depth) (ap packed_or h.before.layout)
