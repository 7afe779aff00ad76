-- From what is read of a table to the meaning of its text
use Rattle.std.proofs.Common.{◌≡◌, inl, inr, ℕ, ◌≤◌, List, length, Option, Some, None, option_map, Result, Ok, Err, MatchResult, IfOk, refl, sym, subst}
use Rattle.std.specs.Str.{IsUtf8}
use Rattle.toml.specs.Data.{Members}
use Rattle.toml.specs.Parse.{parse_document}
use Rattle.cab_curve.specs.First.{first_of}
use Rattle.code_descriptor.specs.declared.KeyName.{KeyName}
use Rattle.code_descriptor.specs.declared.DescCause.{DescCause}
use Rattle.code_descriptor.specs.declared.DescCause.TheVariants.{NotToml, BadKey}
use Rattle.code_descriptor.specs.declared.DescError.{DescError}
use Rattle.code_descriptor.specs.declared.DescError.TheVariants.{NoMemory, Refused}
use Rattle.code_descriptor.specs.Tree.{bad_key, Named, IsNamed}
use Rattle.code_descriptor.specs.Tests.{parts, refusals}
use Rattle.code_descriptor.specs.Meaning.{Parts, IsTable, Names, IsRefusedFor, Describes}
use Rattle.code_descriptor.specs.Views.{IsRefusal, IsAccepted, IsTableRefusal}
use Rattle.code_descriptor.proofs.OneMeaning.{part_is_described, part_is_refused}

-- ---- a table

key_go : (t : Members) (o : Option KeyName) → bad_key t ≡ o → (c : DescCause) → option_map BadKey o ≡ Some c → IsTableRefusal t (Refused c)
key_go t None e c h = cc
key_go t (Some k) e c h = let same : c ≡ BadKey k = cc in inl (k, same, e)

pub key_refused : (t : Members) (e : DescError) → IsRefusal e (option_map BadKey (bad_key t)) → IsTableRefusal t e
key_refused t NoMemory h = tt
key_refused t (Refused c) h = key_go t (bad_key t) refl c h

pub table_read : (t : Members) (n : Named) → bad_key t ≡ None → IsNamed t n → (r : Result Parts DescError)
    → MatchResult r (λ d. (first_of (refusals n) ≡ None) × (d ≡ parts n)) (λ e. IsRefusal e (first_of (refusals n)))
    → MatchResult r (IsAccepted t) (IsTableRefusal t)
table_read t n none is (Ok d) h = record { named = n; no_bad_key = none; is_named = is; refusal = h.0; parts = h.1 }
table_read t n none is (Err NoMemory) h = tt
table_read t n none is (Err (Refused c)) h = inr (record { named = n; no_bad_key = none; is_named = is; refusal = h })

-- ---- a text

module _ (text : List ℕ) (t : Members) (is : IsTable text t) where
  names_of : (n : Named) → bad_key t ≡ None → IsNamed t n → Names text n
  names_of n none named = record { table = t; is_table = is; no_bad_key = none; named = named }

  pub accepted : (r : Result Parts DescError) → MatchResult r (IsAccepted t) (IsTableRefusal t) → IfOk r (Describes text)
  accepted (Ok d) h =
      subst (Describes text) (sym h.parts) (part_is_described text h.named (names_of h.named h.no_bad_key h.is_named) h.refusal)
  accepted (Err e) h = tt

  table_refused : (c : DescCause) → IsTableRefusal t (Refused c) → IsRefusedFor text c
  table_refused c h = elim h [
    | inl k ↦ subst (IsRefusedFor text) (sym k.1) (t, is, k.2)
    | inr w ↦ part_is_refused text w.named (names_of w.named w.no_bad_key w.is_named) c w.refusal
  ]

  pub refused : (r : Result Parts DescError) → MatchResult r (IsAccepted t) (IsTableRefusal t) → (c : DescCause) → r ≡ Err (Refused c) → IsRefusedFor text c
  refused r h c e =
      table_refused c (subst (λ (x : Result Parts DescError). MatchResult x (IsAccepted t) (IsTableRefusal t)) e h)

pub no_table : (text : List ℕ) → length text ≤ 1048576 → (IsUtf8 text → parse_document text ≡ None) → (c : DescCause) → c ≡ NotToml → IsRefusedFor text c
no_table text small none c e =
    subst (IsRefusedFor text) (sym e) (small, λ t is. (let a = none is.utf8 in let b = is.document in let f : ⊥ = cc in f))
