-- What a table of TOML has at the keys of a descriptor.
--
-- NamedTerm, NamedPoint    the integers of a term and of a point, as they are written; those that a point has not are 0
-- NamedRule                the integer at weight, or that at improved, as it is written
-- NamedCurve               the integers at a and b, and the terms
-- NamedSpace               a curve, or the integer at space
-- is_there                 whether a key is there
-- integer_at, text_at      the integer, and the string, at a key
-- integer_in               the integer at a place of an array
-- term_in, point_in        the term that an array of exactly three integers is, and the point that one of one to three is
-- point_on                 the same of a point where space is there; where it is not, of exactly two integers
-- each                     what is read of each item of an array, where all can be read
-- terms_at, points_at      the array of terms, and that of points, at a key
-- has_space                whether space is there
-- is_no_integer            whether a key is there and has no integer; is_no_text: no string
-- is_known, has_unknown    whether a key is one of a descriptor's, and whether there is any other
-- is_bad                   whether a key is bad: missing or of another kind. space and layout may be missing. Where space is
--                          there, a, b and terms may not be. Of weight and improved exactly one is there: where none is,
--                          weight is bad, and where both are, improved. Unknown is bad where there is any other key
-- space_keys, code_keys    the keys that name a space, and those that name a code on it
-- keys                     the keys in the order in which they are looked at
-- bad_key                  the first bad key
-- Named                    what stands at the keys
-- IsNamedCurve             these integers and terms stand at a, b and terms
-- IsNamedSpace             it is the integer at space, or a curve where space is missing
-- IsNamedRule              it is the integer at weight, or that at improved, and the other key is missing
-- packed_by                whether a string names the packed layout, and none where it names no layout
-- packed_at                the same of what stands at layout, and `bytes` where the key is missing
-- IsNamed                  what stands at the keys of a table
use Rattle.std.specs.Prelude.{◌≡◌, ℕ, ℤ, pos, List, [], ◌∷◌, Bool, false, true, not, ◌&&◌, ◌||◌, ◌==◌, ◌++◌, codes, Option, Some, None, is_none, is_some, option_and_then, option_map, if◌then◌else◌}
use Rattle.std.specs.List.{find}
use Rattle.std.specs.Option.{option_map_or}
use Rattle.std.specs.Str.{bytes_eq}
use Rattle.toml.specs.Data.{Data, Items, no_items, item, Members, no_members, member, get_member, at, as_integer, as_array, as_str}
pub use Rattle.code_descriptor.specs.declared.tree.NamedTerm.{NamedTerm}
pub use Rattle.code_descriptor.specs.declared.tree.NamedPoint.{NamedPoint}
pub use Rattle.code_descriptor.specs.declared.keys.NamedRule.{NamedRule}
use Rattle.code_descriptor.specs.declared.keys.NamedRule.TheVariants.{Weight, Improved}
use Rattle.code_descriptor.specs.declared.KeyName.{KeyName}
use Rattle.code_descriptor.specs.declared.KeyName.TheVariants as key

infixl 10 ◌>>=◌
abbrev ◌>>=◌ : {A B : Type 0} → Option A → (A → Option B) → Option B
o >>= f = option_and_then f o

abbrev pub is_there : List ℕ → Members → Bool
is_there name table = is_some (get_member name table)

abbrev pub integer_at : List ℕ → Members → Option ℤ
integer_at name table = get_member name table >>= as_integer

abbrev pub text_at : List ℕ → Members → Option (List ℕ)
text_at name table = get_member name table >>= as_str

abbrev pub integer_in : Data → ℕ → Option ℤ
integer_in d k = at k d >>= as_integer

unfoldable pub term_in : Data → Option NamedTerm
term_in d =
    if is_some (at 3 d) then None
    else integer_in d 0 >>= (λ i. integer_in d 1 >>= (λ j. integer_in d 2 >>= (λ c.
    Some (record { i = i; j = j; c = c }))))

unfoldable pub point_in : Data → Option NamedPoint
point_in d =
    if is_some (at 3 d) then None
    else integer_in d 0 >>= (λ x.
    if is_none (at 1 d) then Some (record { count = 1; x = x; y = pos 0; z = pos 0 })
    else integer_in d 1 >>= (λ y.
    if is_none (at 2 d) then Some (record { count = 2; x = x; y = y; z = pos 0 })
    else integer_in d 2 >>= (λ z. Some (record { count = 3; x = x; y = y; z = z }))))

unfoldable pub point_on : Bool → Data → Option NamedPoint
point_on in_space d = point_in d >>= (λ p. if in_space || p.count == 2 then Some p else None)

abbrev pub each : {A : Type 0} → (Data → Option A) → Items → Option (List A)
each f no_items = Some []
each f (item d ds) = f d >>= (λ x. option_map (λ xs. x ∷ xs) (each f ds))

abbrev pub terms_at : List ℕ → Members → Option (List NamedTerm)
terms_at name table = get_member name table >>= as_array >>= each term_in

abbrev pub points_at : Bool → List ℕ → Members → Option (List NamedPoint)
points_at in_space name table = get_member name table >>= as_array >>= each (point_on in_space)

abbrev pub has_space : Members → Bool
has_space table = is_there (codes "space") table

abbrev pub is_no_integer : List ℕ → Members → Bool
is_no_integer name table = is_there name table && is_none (integer_at name table)

abbrev pub is_no_text : List ℕ → Members → Bool
is_no_text name table = is_there name table && is_none (text_at name table)

unfoldable pub is_known : List ℕ → Bool
is_known k =
    (((((((((bytes_eq k (codes "bits") || bytes_eq k (codes "modulus")) || bytes_eq k (codes "space"))
    || bytes_eq k (codes "a")) || bytes_eq k (codes "b")) || bytes_eq k (codes "terms"))
    || bytes_eq k (codes "points")) || bytes_eq k (codes "weight")) || bytes_eq k (codes "improved"))
    || bytes_eq k (codes "layout")) || bytes_eq k (codes "depth")

abbrev pub has_unknown : Members → Bool
has_unknown no_members = false
has_unknown (member k d rest) = not (is_known k) || has_unknown rest

abbrev pub is_bad : Members → KeyName → Bool
is_bad table key.Bits = is_none (integer_at (codes "bits") table)
is_bad table key.Modulus = is_none (integer_at (codes "modulus") table)
is_bad table key.Space = is_no_integer (codes "space") table
is_bad table key.A = if has_space table then is_there (codes "a") table else is_none (integer_at (codes "a") table)
is_bad table key.B = if has_space table then is_there (codes "b") table else is_none (integer_at (codes "b") table)
is_bad table key.Terms =
    if has_space table then is_there (codes "terms") table else is_none (terms_at (codes "terms") table)
is_bad table key.Points = is_none (points_at (has_space table) (codes "points") table)
is_bad table key.Weight = is_no_integer (codes "weight") table
    || (not (is_there (codes "weight") table) && not (is_there (codes "improved") table))
is_bad table key.Improved = is_no_integer (codes "improved") table
    || (is_there (codes "weight") table && is_there (codes "improved") table)
is_bad table key.Layout = is_no_text (codes "layout") table
is_bad table key.Depth = is_none (integer_at (codes "depth") table)
is_bad table key.Unknown = has_unknown table

abbrev pub space_keys : List KeyName
space_keys = key.Space ∷ key.A ∷ key.B ∷ key.Terms ∷ []

abbrev pub code_keys : List KeyName
code_keys = key.Points ∷ key.Weight ∷ key.Improved ∷ key.Layout ∷ key.Depth ∷ key.Unknown ∷ []

abbrev pub keys : List KeyName
keys = key.Bits ∷ key.Modulus ∷ space_keys ++ code_keys

unfoldable pub bad_key : Members → Option KeyName
bad_key table = find (is_bad table) keys

pub record NamedCurve : Type 0 where
  pub a : ℤ
  pub b : ℤ
  pub terms : List NamedTerm

pub data NamedSpace : Type 0 where
  OfCurve : NamedCurve → NamedSpace
  OfVariables : ℤ → NamedSpace

-- the layout is packed, or in bytes; none: the string names neither
pub record Named : Type 0 where
  pub bits : ℤ
  pub modulus : ℤ
  pub space : NamedSpace
  pub points : List NamedPoint
  pub rule : NamedRule
  pub packed : Option Bool
  pub depth : ℤ

pub record IsNamedCurve (table : Members) (c : NamedCurve) : Type 0 where
  pub a : integer_at (codes "a") table ≡ Some c.a
  pub b : integer_at (codes "b") table ≡ Some c.b
  pub terms : terms_at (codes "terms") table ≡ Some c.terms

abbrev pub IsNamedSpace : Members → NamedSpace → Type 0
IsNamedSpace table (OfCurve c) = (has_space table ≡ false) × IsNamedCurve table c
IsNamedSpace table (OfVariables z) = integer_at (codes "space") table ≡ Some z

abbrev pub IsNamedRule : Members → NamedRule → Type 0
IsNamedRule table (Weight z) =
    (integer_at (codes "weight") table ≡ Some z) × (is_there (codes "improved") table ≡ false)
IsNamedRule table (Improved z) =
    (is_there (codes "weight") table ≡ false) × (integer_at (codes "improved") table ≡ Some z)

abbrev pub packed_by : List ℕ → Option Bool
packed_by text =
    if bytes_eq text (codes "bytes") then Some false else if bytes_eq text (codes "packed") then Some true else None

abbrev pub packed_at : Members → Option Bool
packed_at table = option_map_or packed_by (text_at (codes "layout") table) (Some false)

pub record IsNamed (table : Members) (n : Named) : Type 0 where
  pub bits : integer_at (codes "bits") table ≡ Some n.bits
  pub modulus : integer_at (codes "modulus") table ≡ Some n.modulus
  pub space : IsNamedSpace table n.space
  pub points : points_at (has_space table) (codes "points") table ≡ Some n.points
  pub rule : IsNamedRule table n.rule
  pub packed : packed_at table ≡ n.packed
  pub depth : integer_at (codes "depth") table ≡ Some n.depth
