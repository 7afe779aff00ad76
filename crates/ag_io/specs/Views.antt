-- SourceView    what contracts see of a source at one time: the bytes left in it, and its count of faults
-- SinkView      what contracts see of a sink at one time: the bytes given to it, its count of faults, and how many bytes it is
--               sure to take
-- Takes         a source that tells its bytes lost just these, from its front
-- IsSpent       .. has none left
-- IsUnread      .. has the same left as before
-- GaveFront     the bytes given grew by a front of these
-- Gives         a sink that tells its bytes was given just these
-- GivesFront    .. or a front of them
-- GivesLess     .. or fewer bytes than these
-- IsUnwritten   .. has the same as before
-- HasSure       .. has as many bytes as it was sure to take
use Rattle.std.specs.Prelude.{ℕ, ◌≡◌, ◌+◌, ◌<◌, ◌≤◌, ◌++◌, Bool, IsTrue, List, [], length}

pub record SourceView : Type 0 where
  pub left : List ℕ
  pub faults : ℕ

pub record SinkView : Type 0 where
  pub given : List ℕ
  pub faults : ℕ
  pub sure : ℕ

abbrev pub Takes : Bool → SourceView → SourceView → List ℕ → Type 0
Takes tells before after bytes = IsTrue tells → before.left ≡ bytes ++ after.left

abbrev pub IsSpent : Bool → SourceView → Type 0
IsSpent tells after = IsTrue tells → after.left ≡ []

abbrev pub IsUnread : Bool → SourceView → SourceView → Type 0
IsUnread tells before after = IsTrue tells → after.left ≡ before.left

pub record GaveFront (before after bytes : List ℕ) : Type 0 where
  pub front : List ℕ
  pub rest : List ℕ
  pub after_is : after ≡ before ++ front
  pub bytes_are : bytes ≡ front ++ rest

abbrev pub Gives : Bool → SinkView → SinkView → List ℕ → Type 0
Gives tells before after bytes = IsTrue tells → after.given ≡ before.given ++ bytes

abbrev pub GivesFront : Bool → SinkView → SinkView → List ℕ → Type 0
GivesFront tells before after bytes = IsTrue tells → GaveFront before.given after.given bytes

abbrev pub GivesLess : Bool → SinkView → SinkView → List ℕ → Type 0
GivesLess tells before after bytes = IsTrue tells → length after.given < length before.given + length bytes

abbrev pub IsUnwritten : Bool → SinkView → SinkView → Type 0
IsUnwritten tells before after = IsTrue tells → after.given ≡ before.given

abbrev pub HasSure : Bool → SinkView → SinkView → Type 0
HasSure tells before after = IsTrue tells → before.sure ≤ length after.given
