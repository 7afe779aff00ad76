-- What the candidates of an error say on the free members, and the table of the bound of a descriptor's code.
--
-- member_at        member k, counted from 0 in the order of the members
-- error_ranks      the ranks of the parts of the matrix of an error, whose entry (j, k) is the sum over the positions of the
--                  products of the error and the values of members j and k
-- member_sums      the index of the sum of members j and k
-- right, wrong     how many right and how many wrong candidates of the error have the sum i
-- line_of          the line of member i: its label, its pairs, and the right and the wrong candidates of the error
-- ledger           the lines of the free members
-- dual_at          symbol q of the list of member k
-- AreDuals         a list for each member: its product with the values of its own member is 1, and with those of each other 0
-- entry_of         what the table says of a member: its label, its pairs, whether it is checked, and its dual list
-- IsTable          the text of the table of the bound
use Rattle.std.specs.Prelude.{◌≡◌, ℕ, ◌^◌, ◌<◌, List, [], length, map, All, slice_index, slice_index_or}
use Rattle.std.specs.List.{range_with_len}
use Rattle.field_theory.specs.Sums.{unit}
use Rattle.linear_theory.specs.Linear.{dot, rank, syndromes}
use Rattle.counting_theory.specs.Votes.{right_votes, wrong_votes}
use Rattle.order_theory.specs.Basis.{IsWord}
use Rattle.order_domain.specs.Functions.{sum_index}
use Rattle.order_bound.specs.TableText.{Entry, table_text}
use Rattle.vote_core.specs.declared.ledger.VoteLine.{VoteLine}
use Rattle.code_descriptor.specs.Parts.{Parts}
use Rattle.descriptor_code.specs.Plain.{functions_in, times_in, value, members, pairs_of, is_checked, checked, free, bound}

abbrev pub member_at : Parts → ℕ → ℕ
member_at p k = slice_index (members p) k

unfoldable pub error_ranks : Parts → List ℕ → ℕ → ℕ → ℕ
error_ranks p e j k = rank (2 ^ p.bits) (times_in p) k (syndromes (times_in p) (length p.points) (slice_index e) (λ m. value p (member_at p m))) j

abbrev pub member_sums : Parts → ℕ → ℕ → ℕ
member_sums p j k = sum_index (functions_in p) (member_at p j) (member_at p k)

abbrev pub right : Parts → List ℕ → ℕ → ℕ
right p e i = right_votes (length p.points) (error_ranks p e) (member_sums p) i

abbrev pub wrong : Parts → List ℕ → ℕ → ℕ
wrong p e i = wrong_votes (length p.points) (error_ranks p e) (member_sums p) i

abbrev pub line_of : Parts → List ℕ → ℕ → VoteLine
line_of p e i = record { label = (functions_in p).label i; pairs = pairs_of p i; right = right p e i; wrong = wrong p e i }

unfoldable pub ledger : Parts → List ℕ → List VoteLine
ledger p e = map (line_of p e) (free p)

abbrev pub dual_at : List (List ℕ) → ℕ → ℕ → ℕ
dual_at duals k q = slice_index (slice_index_or duals k []) q

-- the list of each member, in the order of the members
pub record AreDuals (p : Parts) (duals : List (List ℕ)) : Type 0 where
  pub n_lists : length duals ≡ length p.points
  pub words : All (IsWord p.bits (length p.points)) duals
  pub products : (j k : ℕ) → j < length p.points → k < length p.points →
      dot (times_in p) (length p.points) (value p (member_at p j)) (dual_at duals k) ≡ unit j k

abbrev pub entry_of : Parts → List (List ℕ) → ℕ → Entry
entry_of p duals k = record {
  label = (functions_in p).label (member_at p k);
  pairs = pairs_of p (member_at p k);
  mark = is_checked p (member_at p k);
  dual = slice_index_or duals k [];
}

pub record IsTable (p : Parts) (text : List ℕ) : Type 0 where
  pub duals : List (List ℕ)
  pub are_duals : AreDuals p duals
  pub is : text ≡ table_text (length p.points) (length (checked p)) (bound p) (map (entry_of p duals) (range_with_len 0 (length p.points)))
