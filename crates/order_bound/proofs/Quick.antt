-- A text whose lines are those of the members, with their pairs and marks, is the table
use Rattle.std.proofs.Common.{◌≡◌, ℕ, ◌^◌, ◌<◌, ◌≤◌, List, length, refl, sym, ◌∙◌, arith}
use Rattle.std.specs.Prelude.{slice_index}
use Rattle.gf_theory.specs.Field.{IsModulus}
use Rattle.linear_theory.specs.Tables.{rows_of}
use Rattle.counting_theory.specs.Votes.{pairs}
use Rattle.order_theory.specs.Basis.{Basis, IsSoundBasis, label, pairs_at}
use Rattle.order_theory.specs.Codes.{marked}
use Rattle.order_domain.specs.declared.Point.{Point}
use Rattle.order_domain.specs.Domain.{Domain, ArePoints}
use Rattle.order_domain.specs.Values.{sum_or_count}
use Rattle.eval_basis.specs.declared.checked.CheckRule.{CheckRule}
use Rattle.eval_basis.specs.Built.{IsBuilt}
use Rattle.eval_basis.specs.Found.{AreMembers}
use Rattle.eval_basis.specs.Rules.{checked_by}
use Rattle.eval_basis.specs.Stored.{basis_with}
use Rattle.eval_basis.proofs.Assembly.{ArePut, assembled_built, assembled_sound}
use Rattle.eval_basis.proofs.FlatReads.{row_read}
use Rattle.eval_basis.proofs.Marks.{marked-checked_by}
use Rattle.order_bound.specs.declared.functions.Functions.{Functions}
use Rattle.order_bound.specs.declared.reader.Said.{Said}
use Rattle.order_bound.specs.TableText.{entry_of}
use Rattle.order_bound.specs.Reading.{AreRead}
use Rattle.order_bound.specs.Checking.{AreFunctions, AreIndices}
use Rattle.order_bound.specs.Looking.{IsTableBy}
use Rattle.order_bound.specs.TableChecks.{entry_at, IsGoodLabel, IsGoodHead, IsAccepted}
use Rattle.order_bound.proofs.Counting.{pairs-le-count}
use Rattle.order_bound.proofs.Conversions.{label_is, pairs_is, mark_is, dual_is, index_at, head_from}
use Rattle.order_bound.proofs.Tables.{entry_same, good_label, good_dual}
use Rattle.order_bound.proofs.Verdicts.{r, said}

module _ (d : Domain) (modulus : ℕ) (points : List Point) (rule : CheckRule) (text : List ℕ) (size : ℕ) (s : Said) (read : AreRead size (length points) text s.checked s.bound s.entries) (e_size : size ≡ 2 ^ d.bits)
    (functions : Functions) (are : AreFunctions d functions) (indices : List ℕ) (at : AreIndices functions.labels.items s.entries.labels.items indices)
    (some : 1 ≤ length points) (few : length points ≤ 1024) (is_modulus : IsModulus d.bits modulus) (distinct : ArePoints d modulus points)
    (t : IsTableBy d modulus points rule s indices) where
  members : AreMembers d modulus points indices t.members.vectors s.entries.duals.items
  members = t.members.are

  put : ArePut d modulus points indices t.labels t.members.vectors s.entries.duals.items t.counts t.sums t.leads
  put = record { some_points = some; few_points = few; members = t.members.are; tables = t.tables }

  -- the basis with these tables
  abbrev b : Basis
  b = basis_with d.bits modulus (length points) d.count indices t.labels t.members.vectors s.entries.duals.items t.counts t.sums t.leads

  built : IsBuilt d modulus points b
  built = assembled_built d modulus points are.lawful is_modulus distinct indices t.labels t.members.vectors s.entries.duals.items t.counts t.sums t.leads put

  sound : IsSoundBasis b
  sound = assembled_sound d modulus points are.lawful is_modulus distinct indices t.labels t.members.vectors s.entries.duals.items t.counts t.sums t.leads put

  abbrev here : AreRead (2 ^ d.bits) (length points) text s.checked s.bound s.entries
  here = r d modulus points rule text size s.checked s.bound s.entries read e_size functions are indices at

  n_labels : length t.labels ≡ length points
  n_labels = t.tables.labels_are.long ∙ t.members.are.n_ranks

  -- each line is that of the member
  line_is : (k : ℕ) → k < length points → entry_at here.entries k ≡ entry_of b (checked_by b rule) k
  line_is k l =
      let below : slice_index indices k < d.count = t.members.are.below k l in
      let w : (entry_at here.entries k).label ≡ label b k =
      sym (label_is (2 ^ d.bits) (length points) here.entries s.entries here.are_columns here.lines.forms here.n_entries k l)
      ∙ sym ((index_at (2 ^ d.bits) (length points) here.entries s.entries here.are_columns here.lines.forms here.n_entries d functions are indices at k l).found (omega (arith, are.labels_are.long)))
      ∙ are.labels_are.entries (slice_index indices k) below ∙ sym (built.labels k l) in
      let p : (entry_at here.entries k).pairs ≡ pairs_at b k =
      sym (pairs_is (2 ^ d.bits) (length points) here.entries s.entries here.are_columns here.lines.forms here.n_entries k l) ∙ t.are_said.pairs_are k (omega (arith, n_labels)) in
      let m : (entry_at here.entries k).mark ≡ marked (checked_by b rule) k =
      sym (mark_is (2 ^ d.bits) (length points) here.entries s.entries here.are_columns here.lines.forms here.n_entries k l) ∙ t.are_said.marks_are k (omega (arith, n_labels)) ∙ sym (marked-checked_by b rule k l) in
      entry_same (entry_at here.entries k) (label b k) (pairs_at b k) (marked (checked_by b rule) k) _ w p m
      (sym (dual_is (2 ^ d.bits) (length points) here.entries s.entries here.are_columns here.lines.forms here.n_entries k l)
      ∙ row_read (length points) k s.entries.duals.items s.entries.duals.items (rows_of (length points) (length points) s.entries.duals.items) refl refl l)

  head_is : IsGoodHead s.checked s.bound here.entries
  head_is = head_from (2 ^ d.bits) (length points) here.entries s.entries here.are_columns here.lines.forms here.n_entries s.checked s.bound t.head

  label_good : (k : ℕ) → k < length points → IsGoodLabel d rule here.entries k
  label_good = good_label d modulus points b rule are.lawful distinct built sound here.entries here.n_entries line_is

  pub table_accepted : IsAccepted d modulus points rule text s.bound
  table_accepted = record {
    checked = s.checked;
    entries = here.entries;
    is_said = said d modulus points rule text size s.checked s.bound s.entries read e_size functions are indices at;
    labels = record { each = label_good };
    duals = record { each = good_dual d modulus points b rule are.lawful distinct built sound here.entries here.n_entries line_is };
    head = head_is;
  }

  -- the bound is the pairs of a function, and so not large
  pub table_bound_fits : s.bound < 2 ^ 32
  table_bound_fits =
      let h : IsGoodHead s.checked s.bound here.entries = head_is in
      let g : IsGoodLabel d rule here.entries h.reached.0 = label_good h.reached.0 (omega (arith, h.reached.1, here.n_entries)) in
      let low : pairs d.count (sum_or_count d) g.index ≤ d.count = pairs-le-count d are.lawful g.index g.is_index.below in
      omega (arith, h.reached.3, g.pairs_are, are.few)
