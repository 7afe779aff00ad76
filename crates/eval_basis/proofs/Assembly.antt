-- A basis that is put together of its tables is the one of the domain at the points, and is sound
use Rattle.std.proofs.Common.{◌≡◌, ℕ, ◌*◌, ◌<◌, ◌≤◌, ◌^◌, List, length, slice_index, sym, ◌∙◌, ap, subst, refl, arith}
use Rattle.field_theory.specs.Field.{IsField}
use Rattle.gf_theory.specs.Field.{gf_mul, IsModulus}
use Rattle.linear_theory.proofs.Entries.{dot_entries}
use Rattle.linear_theory.proofs.Tables.{length-rows_of}
use Rattle.counting_theory.specs.Votes.{pairs}
use Rattle.gf_linear.specs.Cells.{cell}
use Rattle.gf_linear.proofs.Steps.{All-cells}
use Rattle.order_theory.specs.Basis.{Basis, IsSoundBasis, HasShape, rank_at, vector, dual, sum_at, pairs_at}
use Rattle.order_theory.specs.Domains.{HasMembers}
use Rattle.order_theory.specs.Laws.{OriginOf}
use Rattle.order_theory.proofs.Origins.{origin_law, sound_law}
use Rattle.order_domain.specs.declared.Point.{Point}
use Rattle.order_domain.specs.Domain.{Domain, ArePoints, IsOrderDomain}
use Rattle.order_domain.specs.Values.{value_at, sum_or_count, lead_at, HasOrderedValues}
use Rattle.order_domain.proofs.Values.{value_at-symbol, values_law}
use Rattle.eval_basis.specs.Flat.{IsTable}
use Rattle.eval_basis.specs.Stored.{basis_with, IsStored}
use Rattle.eval_basis.specs.Found.{AreMembers, AreTables}
use Rattle.eval_basis.specs.Built.{IsBuilt, IsMemberIndex}
use Rattle.eval_basis.proofs.Stepping.{field_of}
use Rattle.eval_basis.proofs.TableCounts.{table_symbols, table_row, rows_words, rows_long, table_pairs}

pub record ArePut (d : Domain) (modulus : ℕ) (points : List Point) (ranks labels vectors duals counts sums leads : List ℕ) : Type 0 where
  pub some_points : 1 ≤ length points
  pub few_points : length points ≤ 1024
  pub members : AreMembers d modulus points ranks vectors duals
  pub tables : AreTables d modulus ranks labels counts sums leads

module _ (d : Domain) (modulus : ℕ) (points : List Point) (lawful : IsOrderDomain d) (is_modulus : IsModulus d.bits modulus) (are : ArePoints d modulus points)
    (ranks labels vectors duals counts sums leads : List ℕ) (t : ArePut d modulus points ranks labels vectors duals counts sums leads) where
  abbrev b : Basis
  b = basis_with d.bits modulus (length points) d.count ranks labels vectors duals counts sums leads

  law : HasOrderedValues d modulus points
  law = values_law d modulus points lawful is_modulus are

  field : IsField (2 ^ d.bits) (gf_mul d.bits modulus)
  field = field_of d.bits modulus is_modulus

  n_ranks : length ranks ≡ length points
  n_ranks = t.members.n_ranks

  vectors_table : IsTable (length points) (λ k p. value_at d modulus points (slice_index ranks k) p) vectors
  vectors_table = record {
    long = t.members.stored.n_vectors ∙ ap (λ (x : ℕ). x * length points) n_ranks;
    entries = λ k p lk lp. t.members.stored.values k p (omega (arith, n_ranks)) lp;
  }

  sums_table : IsTable (length points) (λ i j. sum_or_count d (slice_index ranks i) (slice_index ranks j)) sums
  sums_table = subst (λ (m : ℕ). IsTable m (λ i j. sum_or_count d (slice_index ranks i) (slice_index ranks j)) sums) n_ranks t.tables.sums_are

  leads_table : IsTable (length points) (λ i j. lead_at d modulus (slice_index ranks i) (slice_index ranks j)) leads
  leads_table = subst (λ (m : ℕ). IsTable m (λ i j. lead_at d modulus (slice_index ranks i) (slice_index ranks j)) leads) n_ranks t.tables.leads_are

  duals_table : IsTable (length points) (cell duals (length points)) duals
  duals_table = record { long = t.members.n_duals; entries = λ i j li lj. refl }

  vector_is : (k p : ℕ) → k < length points → p < length points → vector b k p ≡ value_at d modulus points (slice_index ranks k) p
  vector_is k p lk lp = table_row (length points) (λ k p. value_at d modulus points (slice_index ranks k) p) vectors k p vectors_table lk lp

  dual_is : (k p : ℕ) → k < length points → p < length points → dual b k p ≡ cell duals (length points) k p
  dual_is k p lk lp = table_row (length points) (cell duals (length points)) duals k p duals_table lk lp

  has_members : HasMembers (gf_mul d.bits modulus) b (value_at d modulus points) (sum_or_count d) (lead_at d modulus)
  has_members = record {
    ranks_below = t.members.below;
    ranks_rise = t.members.rising;
    vectors = vector_is;
    new = t.members.fresh;
    others = t.members.others;
    sums = λ i j li lj. table_row (length points) (λ i j. sum_or_count d (slice_index ranks i) (slice_index ranks j)) sums i j sums_table li lj;
    leads = λ i j li lj low. table_row (length points) (λ i j. lead_at d modulus (slice_index ranks i) (slice_index ranks j)) leads i j leads_table li lj;
  }

  origin : OriginOf (gf_mul d.bits modulus) b (sum_or_count d)
  origin = origin_law (gf_mul d.bits modulus) b (value_at d modulus points) (sum_or_count d) (lead_at d modulus) field law.ordered has_members

  pairs_counted : (k : ℕ) → k < length points → pairs_at b k ≡ pairs d.count (sum_or_count d) (slice_index ranks k)
  pairs_counted k l =
      t.tables.counts_are.entries k (omega (arith, n_ranks))
      ∙ table_pairs (length points) (slice_index ranks k) (sum_at b) sums
      (record { long = sums_table.long; entries = λ i j li lj. sums_table.entries i j li lj ∙ sym (has_members.sums i j li lj) })
      ∙ origin.pairs_are k l

  has_shape : HasShape (gf_mul d.bits modulus) b
  has_shape = record {
    some_members = t.some_points;
    few_members = t.few_points;
    n_ranks = n_ranks;
    n_labels = t.tables.labels_are.long ∙ n_ranks;
    n_vectors = length-rows_of (length points) (length points) vectors;
    n_duals = length-rows_of (length points) (length points) duals;
    n_pair_counts = t.tables.counts_are.long ∙ n_ranks;
    n_sums = length-rows_of (length points) (length points) sums;
    n_leads = length-rows_of (length points) (length points) leads;
    vector_words = rows_words d.bits (length points) vectors vectors_table.long
        (table_symbols (length points) (2 ^ d.bits) (λ k p. value_at d modulus points (slice_index ranks k) p) vectors t.some_points vectors_table (λ i j. value_at-symbol d modulus points lawful is_modulus are (slice_index ranks i) j));
    dual_words = rows_words d.bits (length points) duals duals_table.long (All-cells (λ x. x < 2 ^ d.bits) (length points) (length points) duals t.members.n_duals t.members.symbols);
    lead_words = rows_words d.bits (length points) leads leads_table.long t.tables.lead_symbols;
    sum_rows = rows_long (length points) sums sums_table.long;
    ranks_rise = t.members.rising;
    labels_rise = λ i j l m.
        let one : slice_index labels i ≡ d.label (slice_index ranks i) = t.tables.labels_are.entries i (omega (arith, n_ranks)) in
        let two : slice_index labels j ≡ d.label (slice_index ranks j) = t.tables.labels_are.entries j (omega (arith, n_ranks)) in
        let up : d.label (slice_index ranks i) < d.label (slice_index ranks j) = lawful.labels_rise (slice_index ranks i) (slice_index ranks j) (t.members.rising i j l m) (t.members.below j m) in
        omega arith;
    ranks_below = t.members.below;
    duals_fit = record {
      products = λ i j li lj.
          dot_entries (gf_mul d.bits modulus) (length points) (vector b i) (dual b j) (value_at d modulus points (slice_index ranks i)) (cell duals (length points) j) (λ p lp. vector_is i p li lp) (λ p lp. dual_is j p lj lp)
          ∙ t.members.dual i j li lj;
    };
  }

  pub assembled_sound : IsSoundBasis b
  assembled_sound = record {
    modulus = is_modulus;
    sound = sound_law (gf_mul d.bits modulus) b (value_at d modulus points) (sum_or_count d) (lead_at d modulus) field has_shape law.ordered has_members law.sum_zero pairs_counted;
  }

  member_index : (i : ℕ) → ((q : ℕ) × (q < b.n) × (i ≡ rank_at b q)) → IsMemberIndex b i
  member_index i w = record { number = w.0; below = w.1; is = w.2 }

  pub assembled_built : IsBuilt d modulus points b
  assembled_built = record {
    bits_are = refl;
    modulus_is = refl;
    n_is = refl;
    count_is = refl;
    members = has_members;
    leads = λ i j li lj. table_row (length points) (λ i j. lead_at d modulus (slice_index ranks i) (slice_index ranks j)) leads i j leads_table li lj;
    labels = λ k l. t.tables.labels_are.entries k (omega (arith, n_ranks));
    pairs_are = pairs_counted;
    members_below = λ i j k li lj lk e.
        let w = origin.members_below i j k li lj lk e in
        (member_index i w.0, member_index j w.1);
  }

-- the tables have n rows of n
table_long : (n m : ℕ) (f : ℕ → ℕ → ℕ) (xs : List ℕ) → n ≡ m → IsTable n f xs → length xs ≡ m * m
table_long n m f xs e h = h.long ∙ ap (λ (x : ℕ). x * x) e

-- the same, with the numbers as the calls gave them
pub stored_with : (d : Domain) (modulus : ℕ) (points : List Point) → IsOrderDomain d → IsModulus d.bits modulus → ArePoints d modulus points → (ranks labels vectors duals counts sums leads : List ℕ)
    → ArePut d modulus points ranks labels vectors duals counts sums leads → (bits n count : ℕ) → bits ≡ d.bits → n ≡ length points → count ≡ d.count
    → IsStored bits modulus n count ranks labels vectors duals counts sums leads
stored_with d modulus points lawful is_modulus are ranks labels vectors duals counts sums leads t bits n count e1 e2 e3 =
    subst (λ (x : ℕ). IsStored x modulus n count ranks labels vectors duals counts sums leads) (sym e1)
    (subst (λ (x : ℕ). IsStored d.bits modulus x count ranks labels vectors duals counts sums leads) (sym e2)
    (subst (λ (x : ℕ). IsStored d.bits modulus (length points) x ranks labels vectors duals counts sums leads) (sym e3)
    (record {
      n_vectors = t.members.stored.n_vectors ∙ ap (λ (x : ℕ). x * length points) t.members.n_ranks;
      n_duals = t.members.n_duals;
      n_sums = table_long (length ranks) (length points) (λ i j. sum_or_count d (slice_index ranks i) (slice_index ranks j)) sums t.members.n_ranks t.tables.sums_are;
      n_leads = table_long (length ranks) (length points) (λ i j. lead_at d modulus (slice_index ranks i) (slice_index ranks j)) leads t.members.n_ranks t.tables.leads_are;
      sound = assembled_sound d modulus points lawful is_modulus are ranks labels vectors duals counts sums leads t;
    })))

pub built_with : (d : Domain) (modulus : ℕ) (points : List Point) → IsOrderDomain d → IsModulus d.bits modulus → ArePoints d modulus points → (ranks labels vectors duals counts sums leads : List ℕ)
    → ArePut d modulus points ranks labels vectors duals counts sums leads → (bits n count : ℕ) → bits ≡ d.bits → n ≡ length points → count ≡ d.count
    → IsBuilt d modulus points (basis_with bits modulus n count ranks labels vectors duals counts sums leads)
built_with d modulus points lawful is_modulus are ranks labels vectors duals counts sums leads t bits n count e1 e2 e3 =
    subst (λ (x : ℕ). IsBuilt d modulus points (basis_with x modulus n count ranks labels vectors duals counts sums leads)) (sym e1)
    (subst (λ (x : ℕ). IsBuilt d modulus points (basis_with d.bits modulus x count ranks labels vectors duals counts sums leads)) (sym e2)
    (subst (λ (x : ℕ). IsBuilt d modulus points (basis_with d.bits modulus (length points) x ranks labels vectors duals counts sums leads)) (sym e3)
    (assembled_built d modulus points lawful is_modulus are ranks labels vectors duals counts sums leads t)))
