-- AreChecks      the checks are over a field, and each vector is a list of n symbols
-- OneCodeword    exactly one codeword has the message at the message places
-- MessageLaw     so it is for each message, and its codeword is `word_of`
-- PlacesLaw      the message places are as many as the rank of the checks leaves
-- MembersLaw     for the checks of a basis, as many as the members that are not marked
-- CodeLaw        the code of the checks of a basis is that of its marked members
-- NearLaw        `near_of` is the codeword near a list, where at most one is near
-- NearIs         `near_of` is exactly the near codeword, and none exactly where there is none
-- BasisNearLaw   so it is for the checks of a basis, within the radius of a bound
-- FormLaw        a code of a sound basis is one that coded files can use
use Rattle.std.specs.Prelude.{◌≡◌, ℕ, ◌+◌, ◌*◌, ◌^◌, ◌≤◌, ◌↔◌, Bool, List, length, count_by, All, Some, None}
use Rattle.linear_theory.specs.Linear.{rank}
use Rattle.gf_theory.specs.Field.{IsModulus}
use Rattle.order_theory.specs.Basis.{Basis, IsWord, IsSoundBasis, times}
use Rattle.order_theory.specs.Codes.{IsCodeword, AreAllMarked, IsBound, IsNear}
use Rattle.stored_form.specs.Form.{distance}
use Rattle.coded_block.specs.Codes.{IsCode}
use Rattle.block_theory.specs.Checks.{ParityChecks, times_of, check_at, message_places, IsInCode, IsWordOf}
use Rattle.block_theory.specs.Marked.{checks_of}
use Rattle.block_theory.specs.Blocks.{word_of, near_of, form_of}

pub record AreChecks (c : ParityChecks) : Type 0 where
  pub modulus : IsModulus c.bits c.modulus
  pub words : All (IsWord c.bits c.n) c.vectors

pub record OneCodeword (c : ParityChecks) (msg : List ℕ) : Type 0 where
  pub is_word : IsWordOf c msg (word_of c msg)
  pub no_other : (x : List ℕ) → IsWordOf c msg x → x ≡ word_of c msg

abbrev pub MessageLaw : Type 0
MessageLaw = (c : ParityChecks) (msg : List ℕ) → AreChecks c → IsWord c.bits (length (message_places c)) msg → OneCodeword c msg

abbrev pub PlacesLaw : Type 0
PlacesLaw = (c : ParityChecks) → AreChecks c → length (message_places c) + rank (2 ^ c.bits) (times_of c) c.n (check_at c) (length c.vectors) ≡ c.n

abbrev pub MembersLaw : Type 0
MembersLaw = (b : Basis) (marks : List Bool) → IsSoundBasis b → length marks ≡ b.n → length (message_places (checks_of b marks)) + count_by (λ m. m) marks ≡ b.n

abbrev pub CodeLaw : Type 0
CodeLaw = (b : Basis) (marks : List Bool) (x : List ℕ) → IsSoundBasis b → length marks ≡ b.n → IsInCode (checks_of b marks) x ↔ IsCodeword (times b) b marks x

abbrev pub NearLaw : Type 0
NearLaw =
    (c : ParityChecks) (t : ℕ) (y x : List ℕ) → ((v w : List ℕ) → IsInCode c v → IsInCode c w → distance y v ≤ t → distance y w ≤ t → v ≡ w) →
    (near_of c t y ≡ Some x) ↔ (IsInCode c x × (distance y x ≤ t))

pub record NearIs (b : Basis) (marks : List Bool) (t : ℕ) (y : List ℕ) : Type 0 where
  pub some : (x : List ℕ) → (near_of (checks_of b marks) t y ≡ Some x) ↔ IsNear (times b) b marks t y x
  pub none : (near_of (checks_of b marks) t y ≡ None) ↔ ((x : List ℕ) → IsNear (times b) b marks t y x → ⊥)

abbrev pub BasisNearLaw : Type 0
BasisNearLaw = (b : Basis) (marks : List Bool) (t : ℕ) (y : List ℕ) → IsSoundBasis b → length marks ≡ b.n → IsBound b marks (2 * t + 1) → length y ≡ b.n → NearIs b marks t y

abbrev pub FormLaw : Type 0
FormLaw = (b : Basis) (marks : List Bool) (t : ℕ) → IsSoundBasis b → length marks ≡ b.n → (AreAllMarked b marks → ⊥) → IsBound b marks (2 * t + 1) → IsCode (form_of (checks_of b marks) t)
