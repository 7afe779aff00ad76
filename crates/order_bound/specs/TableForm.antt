-- IsForm       a label line of the form: numbers that can be read, and n symbols, which are below size
-- IsHead       a second line of the form
-- AreLines     a text begins with the title, a head and these label lines, all of the form; `rest` follows
-- IsBadForm    the first line of a text that is missing or not of the form, or the line n + 3 where something follows
--
-- A number can be read where it has at most nineteen digits. Lines count from 1.
use Rattle.std.specs.Prelude.{◌≡◌, ◌≢◌, ℕ, ◌+◌, ◌^◌, ◌<◌, List, [], ◌++◌, length, All}
use Rattle.std.specs.List.{flat_map}
use Rattle.order_bound.specs.TableText.{Entry, title, head_line, entry_line}

pub record IsForm (size n : ℕ) (e : Entry) : Type 0 where
  pub label_read : e.label < 10 ^ 19
  pub pairs_read : e.pairs < 10 ^ 19
  pub n_symbols : length e.dual ≡ n
  pub symbols : All (λ x. x < size) e.dual

pub record IsHead (checked bound : ℕ) : Type 0 where
  pub checked_read : checked < 10 ^ 19
  pub bound_read : bound < 10 ^ 19

pub record AreLines (size n : ℕ) (text : List ℕ) (checked bound : ℕ) (entries : List Entry) (rest : List ℕ) : Type 0 where
  pub head : IsHead checked bound
  pub forms : All (IsForm size n) entries
  pub is : text ≡ title ++ head_line n checked bound ++ flat_map entry_line entries ++ rest

pub data IsBadForm (size n : ℕ) (text : List ℕ) : ℕ → Type 0 where
  no_title : ((rest : List ℕ) → text ≢ title ++ rest) → IsBadForm size n text 1
  no_head : (rest : List ℕ) → text ≡ title ++ rest →
      ((checked bound : ℕ) (after : List ℕ) → IsHead checked bound → rest ≢ head_line n checked bound ++ after) → IsBadForm size n text 2
  no_entry : (checked bound : ℕ) (entries : List Entry) (rest : List ℕ) → AreLines size n text checked bound entries rest → length entries < n →
      ((e : Entry) (after : List ℕ) → IsForm size n e → rest ≢ entry_line e ++ after) → IsBadForm size n text (length entries + 3)
  more_lines : (checked bound : ℕ) (entries : List Entry) (rest : List ℕ) → AreLines size n text checked bound entries rest → length entries ≡ n → rest ≢ [] → IsBadForm size n text (n + 3)
