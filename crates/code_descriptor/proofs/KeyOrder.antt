-- The first bad key, from that of the keys that were looked at
use Rattle.std.proofs.Common.{◌≡◌, ℤ, Bool, true, false, cond, List, [], ◌∷◌, ◌++◌, Option, Some, None, option_map, refl, sym, ◌∙◌, subst}
use Rattle.std.specs.Prelude.{codes}
use Rattle.std.specs.List.{find}
use Rattle.toml.specs.Data.{Members}
use Rattle.code_descriptor.specs.declared.KeyName.{KeyName}
use Rattle.code_descriptor.specs.declared.KeyName.TheVariants as key
use Rattle.code_descriptor.specs.declared.DescCause.{DescCause}
use Rattle.code_descriptor.specs.declared.DescCause.TheVariants.{BadKey}
use Rattle.code_descriptor.specs.declared.DescError.{DescError}
use Rattle.code_descriptor.specs.declared.DescError.TheVariants.{NoMemory, Refused}
use Rattle.code_descriptor.specs.Tree.{integer_at, points_at, has_space, is_bad, bad_key, space_keys, code_keys, NamedPoint}
use Rattle.code_descriptor.specs.Views.{IsRefusal}

first_of_two : (w i : Bool) (k l m : KeyName) (rest : Option KeyName) → cond w (Some k) (cond i (Some l) None) ≡ Some m → cond w (Some k) (cond i (Some l) rest) ≡ Some m
first_of_two true i k l m rest h = h
first_of_two false true k l m rest h = h
first_of_two false false k l m rest h = cc

-- a bad key of a rule, where points is not bad
pub rule_first : (t : Members) (ps : List NamedPoint) (k : KeyName) → points_at (has_space t) (codes "points") t ≡ Some ps
    → find (is_bad t) (key.Weight ∷ key.Improved ∷ []) ≡ Some k → find (is_bad t) code_keys ≡ Some k
rule_first t ps k points h =
    rw points (first_of_two (is_bad t key.Weight) (is_bad t key.Improved) key.Weight key.Improved k (find (is_bad t) (key.Layout ∷ key.Depth ∷ key.Unknown ∷ [])) h)

find-some : (p : KeyName → Bool) (xs ys : List KeyName) (k : KeyName) → find p xs ≡ Some k → find p (xs ++ ys) ≡ Some k
find-some p [] ys k h = cc
find-some p (x ∷ xs) ys k h = go (p x) (find p xs) h (find-some p xs ys k)
  where
    go : (b : Bool) (o : Option KeyName) → cond b (Some x) o ≡ Some k → (o ≡ Some k → find p (xs ++ ys) ≡ Some k) → cond b (Some x) (find p (xs ++ ys)) ≡ Some k
    go true o e f = e
    go false o e f = f e

find-none : (p : KeyName → Bool) (xs ys : List KeyName) → find p xs ≡ None → find p (xs ++ ys) ≡ find p ys
find-none p [] ys h = refl
find-none p (x ∷ xs) ys h = go (p x) (find p xs) h (find-none p xs ys)
  where
    go : (b : Bool) (o : Option KeyName) → cond b (Some x) o ≡ None → (o ≡ None → find p (xs ++ ys) ≡ find p ys) → cond b (Some x) (find p (xs ++ ys)) ≡ find p ys
    go true o e f = cc
    go false o e f = f e

module _ (t : Members) (bits modulus : ℤ) (h : integer_at (codes "bits") t ≡ Some bits) (k : integer_at (codes "modulus") t ≡ Some modulus) where
  after_field : bad_key t ≡ find (is_bad t) (space_keys ++ code_keys)
  unfolding bad_key
  after_field = rw (h, k) refl

  space_go : (o : Option KeyName) → find (is_bad t) space_keys ≡ o → (e : DescError) → IsRefusal e (option_map BadKey o) → IsRefusal e (option_map BadKey (bad_key t))
  space_go o f NoMemory r = tt
  space_go None f (Refused c) r = cc
  space_go (Some q) f (Refused c) r = rw (after_field, find-some (is_bad t) space_keys code_keys q f) r

  -- a bad key of the space, and one of the code
  pub space_first : (e : DescError) → IsRefusal e (option_map BadKey (find (is_bad t) space_keys)) → IsRefusal e (option_map BadKey (bad_key t))
  space_first e r = space_go (find (is_bad t) space_keys) refl e r

  after_space : find (is_bad t) space_keys ≡ None → bad_key t ≡ find (is_bad t) code_keys
  after_space f = after_field ∙ find-none (is_bad t) space_keys code_keys f

  pub code_first : (e : DescError) → find (is_bad t) space_keys ≡ None → IsRefusal e (option_map BadKey (find (is_bad t) code_keys)) → IsRefusal e (option_map BadKey (bad_key t))
  code_first e f r = subst (λ (o : Option KeyName). IsRefusal e (option_map BadKey o)) (sym (after_space f)) r

  pub none_first : find (is_bad t) space_keys ≡ None → find (is_bad t) code_keys ≡ None → bad_key t ≡ None
  none_first f g = after_space f ∙ g

-- a key of the field is bad
pub bits_first : (t : Members) → integer_at (codes "bits") t ≡ None → bad_key t ≡ Some key.Bits
unfolding bad_key
bits_first t h = rw h refl

pub modulus_first : (t : Members) (bits : ℤ) → integer_at (codes "bits") t ≡ Some bits → integer_at (codes "modulus") t ≡ None → bad_key t ≡ Some key.Modulus
unfolding bad_key
modulus_first t bits h k = rw (h, k) refl

pub ruleset steps = (space_first, code_first, none_first, bits_first, modulus_first)
