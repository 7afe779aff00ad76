-- symbols        numbers in a row, with a space before each
-- entry_body     a label line without its line feed
-- head_body      the second line without its line feed
-- IsFieldEnd     what may follow a field of a line: a space, or nothing
-- IsFeedless     a list without a line feed
-- IsWordAt       a word stands at a place of a list, up to an end
-- IsNumberAt     a space and a number that can be read stand there
-- HasNoNumber    no such number stands at the front of a list
-- IsMarkAt       a space and a mark stand there
-- IsLineAt       a line stands there, up to its line feed
-- IsFront        what stands at the front of a label line: label, pairs and mark
-- AreSymbols     a list of symbols was added, and stands at a place of a line, up to the line's end
-- IsNamedAt      a name, a space and a number that can be read stand there
-- HasNoNamed     they do not stand at the front of a list
-- IsTop          a text begins with a title and a head
-- AreColumns     what label lines say, as four lists: labels, pairs, marks, and dual lists in a row
-- IsEntryAdded   to such lists was added what a line of the form says
-- AreRead        what a text of the form says
-- OnLine         a fact of the line that was named, if one was
use Rattle.std.specs.Prelude.{◌≡◌, ◌≢◌, ℕ, ◌+◌, ◌^◌, ◌<◌, ◌≤◌, Bool, true, not, nat_eq, codes, List, [], ◌∷◌, ◌++◌, length, drop, map, All}
use Rattle.std.specs.Fmt.{decimal}
use Rattle.std.specs.List.{flat_map, list_all, slice_range}
use Rattle.order_bound.specs.TableText.{Entry, mark_text, title, head_line}
use Rattle.order_bound.specs.TableForm.{IsForm, IsHead, AreLines}
use Rattle.order_bound.specs.declared.reader.Entries.{Entries}
use Rattle.order_bound.specs.declared.reader.Stop.{Stop}
use Rattle.order_bound.specs.declared.reader.Stop.TheVariants.{NoMemory, Line}

abbrev pub symbols : List ℕ → List ℕ
symbols xs = flat_map (λ x. 32 ∷ decimal x) xs

unfoldable pub entry_body : ℕ → ℕ → Bool → List ℕ → List ℕ
entry_body label pairs mark dual = codes "label" ++ ((32 ∷ decimal label) ++ ((32 ∷ decimal pairs) ++ ((32 ∷ mark_text mark) ++ symbols dual)))

unfoldable pub head_body : ℕ → ℕ → ℕ → List ℕ
head_body n checked bound = codes "n" ++ ((32 ∷ decimal n) ++ (codes " checked" ++ ((32 ∷ decimal checked) ++ (codes " bound" ++ (32 ∷ decimal bound)))))

abbrev pub IsFieldEnd : List ℕ → Type 0
IsFieldEnd [] = Unit {0}
IsFieldEnd (x ∷ xs) = x ≡ 32

abbrev pub IsFeedless : List ℕ → Type 0
IsFeedless xs = list_all (λ x. not (nat_eq x 10)) xs ≡ true

pub record IsWordAt (text : List ℕ) (at : ℕ) (word : List ℕ) (end : ℕ) : Type 0 where
  pub within : end ≤ length text
  pub is : drop at text ≡ word ++ drop end text

pub record IsNumberAt (line : List ℕ) (at v end : ℕ) : Type 0 where
  pub stands : IsWordAt line at (32 ∷ decimal v) end
  pub readable : v < 10 ^ 19
  pub ends : IsFieldEnd (drop end line)

abbrev pub HasNoNumber : List ℕ → Type 0
HasNoNumber xs = (v : ℕ) (rest : List ℕ) → v < 10 ^ 19 → IsFieldEnd rest → xs ≢ (32 ∷ decimal v) ++ rest

abbrev pub IsMarkAt : List ℕ → ℕ → Bool → ℕ → Type 0
IsMarkAt line at mark end = IsWordAt line at (32 ∷ mark_text mark) end

pub record IsLineAt (text : List ℕ) (at end : ℕ) : Type 0 where
  pub after : at ≤ end
  pub before : end < length text
  pub is : drop at text ≡ slice_range text at end ++ 10 ∷ drop (end + 1) text
  pub feedless : IsFeedless (slice_range text at end)

-- with this front, the line is a label line with any dual list that it ends with, and no other
pub record IsFront (line : List ℕ) (label pairs : ℕ) (mark : Bool) (end : ℕ) : Type 0 where
  pub within : end ≤ length line
  pub label_read : label < 10 ^ 19
  pub pairs_read : pairs < 10 ^ 19
  pub is : (dual : List ℕ) → drop end line ≡ symbols dual → line ≡ entry_body label pairs mark dual
  pub only : (label' pairs' : ℕ) (mark' : Bool) (dual : List ℕ) → label' < 10 ^ 19 → pairs' < 10 ^ 19 → line ≡ entry_body label' pairs' mark' dual → drop end line ≡ symbols dual

pub record AreSymbols (size n : ℕ) (line : List ℕ) (at : ℕ) (old new : List ℕ) : Type 0 where
  pub added : List ℕ
  pub n_added : length added ≡ n
  pub below : All (λ x. x < size) added
  pub are_added : new ≡ old ++ added
  pub stand : drop at line ≡ symbols added

pub record IsNamedAt (line : List ℕ) (at : ℕ) (name : List ℕ) (v end : ℕ) : Type 0 where
  pub stands : IsWordAt line at (name ++ (32 ∷ decimal v)) end
  pub readable : v < 10 ^ 19
  pub ends : IsFieldEnd (drop end line)

abbrev pub HasNoNamed : List ℕ → List ℕ → Type 0
HasNoNamed name xs = (v : ℕ) (rest : List ℕ) → v < 10 ^ 19 → IsFieldEnd rest → xs ≢ (name ++ (32 ∷ decimal v)) ++ rest

-- the first two lines, up to an end
pub record IsTop (text : List ℕ) (n checked bound end : ℕ) : Type 0 where
  pub head : IsHead checked bound
  pub within : end ≤ length text
  pub is : text ≡ (title ++ head_line n checked bound) ++ drop end text

pub record AreColumns (entries : List Entry) (columns : Entries) : Type 0 where
  pub labels_are : columns.labels.items ≡ map (λ (e : Entry). e.label) entries
  pub pairs_are : columns.pairs.items ≡ map (λ (e : Entry). e.pairs) entries
  pub marks_are : columns.marks.items ≡ map (λ (e : Entry). e.mark) entries
  pub duals_are : columns.duals.items ≡ flat_map (λ (e : Entry). e.dual) entries

pub record IsEntryAdded (size n : ℕ) (line : List ℕ) (old new : Entries) : Type 0 where
  pub entry : Entry
  pub form : IsForm size n entry
  pub is : line ≡ entry_body entry.label entry.pairs entry.mark entry.dual
  pub columns : (entries : List Entry) → AreColumns entries old → AreColumns (entries ++ entry ∷ []) new

-- the text says this, and nothing else
pub record AreRead (size n : ℕ) (text : List ℕ) (checked bound : ℕ) (columns : Entries) : Type 0 where
  pub entries : List Entry
  pub lines : AreLines size n text checked bound entries []
  pub n_entries : length entries ≡ n
  pub are_columns : AreColumns entries columns

abbrev pub OnLine : Stop → (ℕ → Type 0) → Type 0
OnLine NoMemory P = Unit {0}
OnLine (Line line) P = P line
