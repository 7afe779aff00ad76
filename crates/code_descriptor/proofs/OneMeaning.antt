-- Every text has one meaning
use Rattle.std.proofs.Common.{◌≡◌, ◌⊎◌, inl, inr, ℕ, ◌<◌, ◌≤◌, ℤ, pos, Bool, true, false, not, ◌&&◌, ◌||◌, ltb, lt-ltb, cond, List, [], ◌∷◌, length, Option, Some, None, is_none, is_some, option_map, refl, sym, ap, ◌∙◌, subst, arith}
use Rattle.std.specs.Prelude.{codes, if◌then◌else◌, option_and_then}
use Rattle.std.specs.Option.{option_or}
use Rattle.std.specs.List.{find}
use Rattle.std.specs.Str.{is_utf8}
use Rattle.std.proofs.lemmas.Bool.{cases_lt, or_parts}
use Rattle.std.proofs.lemmas.Bool.Decides.{nat_tests}
use Rattle.std.proofs.lemmas.Str.{IsUtf8-from_is_utf8, is_utf8-from_IsUtf8}
use Rattle.toml.specs.Data.{Data, Members, no_members, get_member, as_integer}
use Rattle.toml.specs.Parse.{parse_document}
use Rattle.cab_curve.specs.First.{first_of}
use Rattle.code_descriptor.specs.declared.KeyName.{KeyName}
use Rattle.code_descriptor.specs.declared.KeyName.TheVariants as key
use Rattle.code_descriptor.specs.declared.keys.NamedRule.TheVariants.{Weight, Improved}
use Rattle.code_descriptor.specs.declared.DescCause.{DescCause}
use Rattle.code_descriptor.specs.declared.DescCause.TheVariants.{TooLarge, NotToml, BadKey, BadField, BadSpace, BadDegrees, BadTerm, MissingLead, BadPoint, BadWeight, BadImproved, BadLayout, BadDepth, NoPoints, NothingFree}
use Rattle.code_descriptor.specs.Tree.{is_there, integer_at, terms_at, points_at, has_space, is_bad, bad_key, space_keys, code_keys, Named, NamedCurve, NamedSpace, OfCurve, OfVariables, IsNamedCurve, IsNamedSpace, NamedRule, IsNamedRule, packed_at, IsNamed}
use Rattle.code_descriptor.specs.Tests.{parts, refusals}
use Rattle.code_descriptor.specs.Meaning.{Parts, IsTable, Names, IsRefusedPart, IsRefusedFor, Describes, HasOneMeaning, MeansTheSame}
use Rattle.code_descriptor.proofs.Tested.{found, none_found, refused_part, are_parts, plain_parts}

-- ---- what stands at the keys, and for a bad key 0 or nothing

or_zero : Option ℤ → ℤ
or_zero None = pos 0
or_zero (Some z) = z

or_empty : {A : Type 0} → Option (List A) → List A
or_empty None = []
or_empty (Some xs) = xs

named_rule : Members → NamedRule
named_rule t = if is_there (codes "improved") t then Improved (or_zero (integer_at (codes "improved") t)) else Weight (or_zero (integer_at (codes "weight") t))

named_curve : Members → NamedCurve
named_curve t = record {
  a = or_zero (integer_at (codes "a") t);
  b = or_zero (integer_at (codes "b") t);
  terms = or_empty (terms_at (codes "terms") t);
}

named_space : Members → NamedSpace
named_space t = if has_space t then OfVariables (or_zero (integer_at (codes "space") t)) else OfCurve (named_curve t)

named : Members → Named
named t = record {
  bits = or_zero (integer_at (codes "bits") t);
  modulus = or_zero (integer_at (codes "modulus") t);
  space = named_space t;
  points = or_empty (points_at (has_space t) (codes "points") t);
  rule = named_rule t;
  packed = packed_at t;
  depth = or_zero (integer_at (codes "depth") t);
}

some_zero : (o : Option ℤ) → is_none o ≡ false → o ≡ Some (or_zero o)
unfolding or_zero
some_zero None h = cc
some_zero (Some z) h = refl

some_empty : {A : Type 0} → (o : Option (List A)) → is_none o ≡ false → o ≡ Some (or_empty o)
unfolding or_empty
some_empty None h = cc
some_empty (Some xs) h = refl

-- an integer stands only at a key that is there
there_go : (o : Option Data) (z : ℤ) (name : List ℕ) (t : Members) → get_member name t ≡ o → integer_at name t ≡ Some z → is_there name t ≡ true
there_go None z name t e h = let none : integer_at name t ≡ None = rw e refl in cc
there_go (Some d) z name t e h = rw e refl

there : (z : ℤ) (name : List ℕ) (t : Members) → integer_at name t ≡ Some z → is_there name t ≡ true
there z name t h = there_go (get_member name t) z name t refl h

rule_is : (t : Members) (r : NamedRule) → IsNamedRule t r → named_rule t ≡ r
unfolding named_rule or_zero
rule_is t (Weight z) h = rw (h.1, h.0) refl
rule_is t (Improved z) h = let yes_there = there z (codes "improved") t h.1 in rw (yes_there, h.1) refl

space_is : (t : Members) (s : NamedSpace) → IsNamedSpace t s → named_space t ≡ s
unfolding named_space named_curve or_zero or_empty
space_is t (OfCurve c) h = rw (h.0, h.1.a, h.1.b, h.1.terms) refl
space_is t (OfVariables z) h = let yes_there = there z (codes "space") t h in rw (yes_there, h) refl

is_named : (t : Members) (n : Named) → IsNamed t n → named t ≡ n
unfolding named or_zero or_empty
is_named t n h =
    let r = rule_is t n.rule h.rule in
    let s = space_is t n.space h.space in
    rw (h.bits, h.modulus, s, h.points, r, h.packed, h.depth) refl

-- ---- a table without a bad key

next_key : (b : Bool) (k : KeyName) (rest : Option KeyName) → cond b (Some k) rest ≡ None → (b ≡ false) × (rest ≡ None)
next_key true k rest h = cc
next_key false k rest h = (refl, h)

none_bad : (p : KeyName → Bool) (k : KeyName) (ks : List KeyName) → find p (k ∷ ks) ≡ None → (p k ≡ false) × (find p ks ≡ None)
none_bad p k ks h = next_key (p k) k (find p ks) h

-- whether weight, and improved, is bad, by what stands at the two keys
abbrev weight_bad : (w i : Option Data) → Bool
weight_bad w i = (is_some w && is_none (option_and_then as_integer w)) || (not (is_some w) && not (is_some i))

abbrev improved_bad : (w i : Option Data) → Bool
improved_bad w i = (is_some i && is_none (option_and_then as_integer i)) || (is_some w && is_some i)

rule_go : (t : Members) (w i : Option Data) → get_member (codes "weight") t ≡ w → get_member (codes "improved") t ≡ i → weight_bad w i ≡ false → improved_bad w i ≡ false
    → IsNamedRule t (named_rule t)
unfolding named_rule
rule_go t None None e f hw hi = cc
rule_go t (Some d) None e f hw hi =
    let some = some_zero (as_integer d) (or_parts (is_none (as_integer d)) false hw).0 in
    let no : is_there (codes "improved") t ≡ false = ap is_some f in
    let one : integer_at (codes "weight") t ≡ Some (or_zero (as_integer d)) = ap (λ (o : Option Data). option_and_then as_integer o) e ∙ some in
    let r : named_rule t ≡ Weight (or_zero (as_integer d)) = rw (e, f) refl in
    subst (λ (x : NamedRule). IsNamedRule t x) (sym r) (one, no)
rule_go t None (Some d) e f hw hi =
    let some = some_zero (as_integer d) (or_parts (is_none (as_integer d)) false hi).0 in
    let no : is_there (codes "weight") t ≡ false = ap is_some e in
    let one : integer_at (codes "improved") t ≡ Some (or_zero (as_integer d)) = ap (λ (o : Option Data). option_and_then as_integer o) f ∙ some in
    let r : named_rule t ≡ Improved (or_zero (as_integer d)) = rw f refl in
    subst (λ (x : NamedRule). IsNamedRule t x) (sym r) (no, one)
rule_go t (Some d) (Some q) e f hw hi = let no = (or_parts (is_none (as_integer q)) true hi).1 in cc

-- whether space, and a key of a curve, is bad, by what stands at space
space_go : (t : Members) (s : Option Data) → get_member (codes "space") t ≡ s → is_bad t key.Space ≡ false → is_bad t key.A ≡ false → is_bad t key.B ≡ false → is_bad t key.Terms ≡ false
    → IsNamedSpace t (named_space t)
unfolding named_space named_curve
space_go t None e hs ha hb ht =
    let no : has_space t ≡ false = ap is_some e in
    let a : is_none (integer_at (codes "a") t) ≡ false = rw no at ha in
    let b : is_none (integer_at (codes "b") t) ≡ false = rw no at hb in
    let ts : is_none (terms_at (codes "terms") t) ≡ false = rw no at ht in
    let r : named_space t ≡ OfCurve (named_curve t) = rw no refl in
    let c : IsNamedCurve t (named_curve t) = record {
      a = some_zero (integer_at (codes "a") t) a;
      b = some_zero (integer_at (codes "b") t) b;
      terms = some_empty (terms_at (codes "terms") t) ts;
    } in
    subst (λ (x : NamedSpace). IsNamedSpace t x) (sym r) (no, c)
space_go t (Some d) e hs ha hb ht =
    let yes_there : has_space t ≡ true = ap is_some e in
    let some : is_none (integer_at (codes "space") t) ≡ false = rw yes_there at hs in
    let r : named_space t ≡ OfVariables (or_zero (integer_at (codes "space") t)) = rw yes_there refl in
    subst (λ (x : NamedSpace). IsNamedSpace t x) (sym r) (some_zero (integer_at (codes "space") t) some)

named_is : (t : Members) → bad_key t ≡ None → IsNamed t (named t)
unfolding bad_key named
named_is t h =
    let p : KeyName → Bool = is_bad t in
    let k1 = none_bad p key.Bits (key.Modulus ∷ key.Space ∷ key.A ∷ key.B ∷ key.Terms ∷ code_keys) h in
    let k2 = none_bad p key.Modulus (key.Space ∷ key.A ∷ key.B ∷ key.Terms ∷ code_keys) k1.1 in
    let ks = none_bad p key.Space (key.A ∷ key.B ∷ key.Terms ∷ code_keys) k2.1 in
    let k3 = none_bad p key.A (key.B ∷ key.Terms ∷ code_keys) ks.1 in
    let k4 = none_bad p key.B (key.Terms ∷ code_keys) k3.1 in
    let k5 = none_bad p key.Terms code_keys k4.1 in
    let k6 = none_bad p key.Points (key.Weight ∷ key.Improved ∷ key.Layout ∷ key.Depth ∷ key.Unknown ∷ []) k5.1 in
    let k7 = none_bad p key.Weight (key.Improved ∷ key.Layout ∷ key.Depth ∷ key.Unknown ∷ []) k6.1 in
    let k8 = none_bad p key.Improved (key.Layout ∷ key.Depth ∷ key.Unknown ∷ []) k7.1 in
    let k9 = none_bad p key.Layout (key.Depth ∷ key.Unknown ∷ []) k8.1 in
    let k10 = none_bad p key.Depth (key.Unknown ∷ []) k9.1 in
    record {
      bits = some_zero (integer_at (codes "bits") t) k1.0;
      modulus = some_zero (integer_at (codes "modulus") t) k2.0;
      space = space_go t (get_member (codes "space") t) refl ks.0 k3.0 k4.0 k5.0;
      points = some_empty (points_at (has_space t) (codes "points") t) k6.0;
      rule = rule_go t (get_member (codes "weight") t) (get_member (codes "improved") t) refl refl k7.0 k8.0;
      packed = refl;
      depth = some_zero (integer_at (codes "depth") t) k10.0;
    }

-- ---- the cause by the tests

table_of : List ℕ → Option Members
table_of text = if is_utf8 text then parse_document text else None

table_cause : Option Members → Option DescCause
table_cause None = Some NotToml
table_cause (Some t) = option_or (option_map BadKey (bad_key t)) (first_of (refusals (named t)))

cause_of : List ℕ → Option DescCause
cause_of text = if ltb 1048576 (length text) then Some TooLarge else table_cause (table_of text)

parts_of_table : Option Members → Parts
parts_of_table None = parts (named no_members)
parts_of_table (Some t) = parts (named t)

parts_in : List ℕ → Parts
parts_in text = parts_of_table (table_of text)

not_large : (n : ℕ) → n ≤ 1048576 → ltb 1048576 n ≡ false
not_large n h = grind (arith, nat_tests)

its_table : (text : List ℕ) (t : Members) → IsTable text t → table_of text ≡ Some t
unfolding table_of
its_table text t h = rw (is_utf8-from_IsUtf8 text h.utf8) h.document

no_table_go : (text : List ℕ) → length text ≤ 1048576 → ((t : Members) → IsTable text t → ⊥) → (b : Bool) → is_utf8 text ≡ b → (o : Option Members) → parse_document text ≡ o → table_of text ≡ None
unfolding table_of
no_table_go text small none true e None h = rw (e, h) refl
no_table_go text small none true e (Some t) h = absurd (none t (record { small = small; utf8 = IsUtf8-from_is_utf8 text e; document = h }))
no_table_go text small none false e o h = rw e refl

no_table : (text : List ℕ) → length text ≤ 1048576 → ((t : Members) → IsTable text t → ⊥) → table_of text ≡ None
no_table text small none = no_table_go text small none (is_utf8 text) refl (parse_document text) refl

large_cause : (text : List ℕ) → 1048576 < length text → cause_of text ≡ Some TooLarge
unfolding cause_of
large_cause text h = rw (lt-ltb 1048576 (length text) h) refl

untabled_cause : (text : List ℕ) → length text ≤ 1048576 → ((t : Members) → IsTable text t → ⊥) → cause_of text ≡ Some NotToml
unfolding cause_of table_cause
untabled_cause text small none = rw (not_large (length text) small, no_table text small none) refl

key_cause : (text : List ℕ) (t : Members) (k : KeyName) → IsTable text t → bad_key t ≡ Some k → cause_of text ≡ Some (BadKey k)
unfolding cause_of table_cause
key_cause text t k is h = rw (not_large (length text) is.small, its_table text t is, h) refl

named_cause : (text : List ℕ) (n : Named) (o : Option DescCause) → Names text n → first_of (refusals n) ≡ o → cause_of text ≡ o
unfolding cause_of table_cause
named_cause text n o names h = rw (not_large (length text) names.is_table.small, its_table text names.table names.is_table, names.no_bad_key, is_named names.table n names.named) h

part_cause : (text : List ℕ) (c : DescCause) (h : (n : Named) × Names text n × IsRefusedPart n c) → cause_of text ≡ Some c
part_cause text c h = named_cause text h.0 (Some c) h.1 (found h.0 c h.2)

refused_cause : (text : List ℕ) (c : DescCause) → IsRefusedFor text c → cause_of text ≡ Some c
refused_cause text TooLarge h = large_cause text h
refused_cause text NotToml h = untabled_cause text h.0 h.1
refused_cause text (BadKey k) h = key_cause text h.0 k h.1 h.2
refused_cause text BadField h = part_cause text BadField h
refused_cause text BadSpace h = part_cause text BadSpace h
refused_cause text BadDegrees h = part_cause text BadDegrees h
refused_cause text (BadTerm k) h = part_cause text (BadTerm k) h
refused_cause text MissingLead h = part_cause text MissingLead h
refused_cause text (BadPoint k) h = part_cause text (BadPoint k) h
refused_cause text BadWeight h = part_cause text BadWeight h
refused_cause text BadImproved h = part_cause text BadImproved h
refused_cause text BadLayout h = part_cause text BadLayout h
refused_cause text BadDepth h = part_cause text BadDepth h
refused_cause text NoPoints h = part_cause text NoPoints h
refused_cause text NothingFree h = part_cause text NothingFree h

described_cause : (text : List ℕ) (p : Parts) → Describes text p → cause_of text ≡ None
described_cause text p h = named_cause text h.named None h.names (none_found h.named p h.parts)

described_parts : (text : List ℕ) (p : Parts) → Describes text p → parts_in text ≡ p
unfolding parts_in parts_of_table
described_parts text p h =
    rw (its_table text h.names.table h.names.is_table, is_named h.names.table h.named h.names.named) (plain_parts h.named p h.parts)

-- ---- what is named is refused for the cause by the tests, or it has parts

pub part_is_refused : (text : List ℕ) (n : Named) → Names text n → (c : DescCause) → first_of (refusals n) ≡ Some c → IsRefusedFor text c
part_is_refused text n names c h = go c (refused_part n c h) where
  go : (c : DescCause) → IsRefusedPart n c → IsRefusedFor text c
  go BadField k = (n, names, k)
  go BadSpace k = (n, names, k)
  go BadDegrees k = (n, names, k)
  go (BadTerm i) k = (n, names, k)
  go MissingLead k = (n, names, k)
  go (BadPoint i) k = (n, names, k)
  go BadWeight k = (n, names, k)
  go BadImproved k = (n, names, k)
  go BadLayout k = (n, names, k)
  go BadDepth k = (n, names, k)
  go TooLarge k = absurd k
  go NotToml k = absurd k
  go (BadKey i) k = absurd k
  go NoPoints k = absurd k
  go NothingFree k = absurd k

pub part_is_described : (text : List ℕ) (n : Named) → Names text n → first_of (refusals n) ≡ None → Describes text (parts n)
part_is_described text n names h = record { named = n; names = names; parts = are_parts n h }

-- a text means something
Means : List ℕ → Type 0
Means text = ((cause : DescCause) × IsRefusedFor text cause) ⊎ ((p : Parts) × Describes text p)

named_means : (text : List ℕ) (n : Named) → Names text n → (o : Option DescCause) → first_of (refusals n) ≡ o → Means text
unfolding Means
named_means text n names (Some c) e = inl (c, part_is_refused text n names c e)
named_means text n names None e = inr (parts n, part_is_described text n names e)

table_means : (text : List ℕ) (t : Members) → IsTable text t → (o : Option KeyName) → bad_key t ≡ o → Means text
unfolding Means
table_means text t is (Some k) e = inl (BadKey k, (t, is, e))
table_means text t is None e =
    let names : Names text (named t) = record { table = t; is_table = is; no_bad_key = e; named = named_is t e } in
    named_means text (named t) names (first_of (refusals (named t))) refl

small_means : (text : List ℕ) → length text ≤ 1048576 → (b : Bool) → is_utf8 text ≡ b → (o : Option Members) → parse_document text ≡ o → Means text
unfolding Means
small_means text small true e (Some t) h = table_means text t (record { small = small; utf8 = IsUtf8-from_is_utf8 text e; document = h }) (bad_key t) refl
small_means text small true e None h = inl (NotToml, (small, λ t is. let d = is.document in cc))
small_means text small false e o h = inl (NotToml, (small, λ t is. let u = is_utf8-from_IsUtf8 text is.utf8 in cc))

means : (text : List ℕ) → Means text
unfolding Means
means text = elim (cases_lt 1048576 (length text)) [
  | inl large ↦ inl (TooLarge, large)
  | inr small ↦ small_means text small (is_utf8 text) refl (parse_document text) refl
]

pub one_meaning : (text : List ℕ) → HasOneMeaning text
unfolding Means
one_meaning text = record {
  some = means text;
  one_cause = λ c d h k. (let a = refused_cause text c h in let b = refused_cause text d k in let e : c ≡ d = cc in e);
  one_code = λ p q h k. sym (described_parts text p h) ∙ described_parts text q k;
  not_both = λ c p h k. (let a = refused_cause text c h in let b = described_cause text p k in let e : ⊥ = cc in e);
}

-- texts that are too large mean the same
large_refused : (text other : List ℕ) → 1048576 < length text → 1048576 < length other → (c : DescCause) → IsRefusedFor text c → IsRefusedFor other c
large_refused text other large also c h =
    let a = refused_cause text c h in
    let b = large_cause text large in
    let e : TooLarge ≡ c = cc in
    subst (λ (x : DescCause). IsRefusedFor other x) e also

pub large_same : (text other : List ℕ) → 1048576 < length text → 1048576 < length other → MeansTheSame text other
large_same text other large also = record {
  refused = large_refused text other large also;
  described = λ p h. (let a = described_cause text p h in let b = large_cause text large in let none : ⊥ = cc in absurd none);
}
