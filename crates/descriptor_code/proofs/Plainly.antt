-- What is built of a descriptor is what is said plainly
use Rattle.std.proofs.Common.{◌≡◌, ◌↔◌, ℕ, ◌+◌, ◌-◌, ◌*◌, ◌/◌, ◌<◌, ◌≤◌, ◌^◌, Bool, true, false, not, List, [], length, map, filter, get_or, take, sym, ◌∙◌, ap, subst, refl, inl, inr, arith, count_by}
use Rattle.std.specs.Prelude.{slice_index, slice_index_or, All}
use Rattle.std.specs.List.{range_with_len}
use Rattle.std.proofs.lemmas.Grind.{same_number_lists}
use Rattle.std.proofs.lemmas.List.{get_or-map, length-map, ext_get_or, take_all, get_or_default}
use Rattle.std.proofs.lemmas.List.FromFn.{fill_by_all, length-map-range_with_len, get_or-map-range_with_len}
use Rattle.field_theory.specs.Field.{IsField}
use Rattle.field_theory.specs.Sums.{unit}
use Rattle.field_theory.proofs.Sums.{sum-same}
use Rattle.gf_theory.specs.Field.{IsModulus, gf_mul}
use Rattle.gf_theory.proofs.Fields.{field_of_modulus}
use Rattle.linear_theory.specs.Linear.{dot, rank, syndromes, IsDual}
use Rattle.linear_theory.proofs.Duals.{dual_unique}
use Rattle.linear_theory.proofs.Entries.{dot_entries}
use Rattle.counting_theory.specs.Votes.{right_votes, wrong_votes}
use Rattle.order_theory.specs.Basis.{Basis, IsWord, IsSoundBasis, rank_at, label, pairs_at, vector, dual, sum_at, times}
use Rattle.order_theory.specs.Codes.{marked, IsOrderBound}
use Rattle.order_theory.specs.Errors.{part_rank, right_at, wrong_at}
use Rattle.order_theory.proofs.Shape.{row_below}
use Rattle.order_theory.proofs.Theorems.{radius_law}
use Rattle.stored_form.specs.Form.{Form, at_layout}
use Rattle.block_theory.specs.Checks.{ParityChecks}
use Rattle.block_theory.specs.Marked.{chosen}
use Rattle.block_theory.specs.Blocks.{form_of}
use Rattle.order_domain.specs.Domain.{Domain}
use Rattle.order_domain.specs.Functions.{Functions, functions_of, sum_index}
use Rattle.order_domain.proofs.Functions.{sum_index-is}
use Rattle.eval_basis.specs.Rules.{checked_by}
use Rattle.eval_basis.specs.Built.{IsBuilt}
use Rattle.order_bound.specs.TableText.{Entry, table_text, IsTableOf, entry_of as basis_entry}
use Rattle.vote_core.specs.declared.ledger.VoteLine.{VoteLine}
use Rattle.vote_core.specs.Ledgers.{ledger_of, line_of as basis_line}
use Rattle.block_code.specs.Compiled.{Compiled, checks_in, form_in}
use Rattle.code_descriptor.specs.Parts.{Parts, Space, Cab, IsDescriptor, IsSpace}
use Rattle.descriptor_code.specs.Plain.{functions_on, functions_in, times_in, values, value, members, pairs_of, is_checked, checked, free, IsFull, checks, bound, radius, plain_form, labels, checked_labels}
use Rattle.descriptor_code.specs.Tables.{member_at, error_ranks, member_sums, right, wrong, line_of, ledger, dual_at, AreDuals, entry_of, IsTable}
use Rattle.descriptor_code.specs.Codes.{domain_on, domain_of, IsCodeOf, form_of_parts}
use Rattle.descriptor_code.specs.PlainLaws.{IsPlain, PlainLaw}
use Rattle.descriptor_code.proofs.Spaces.{field_in, named_in, bits_in}
use Rattle.descriptor_code.proofs.Lists.{mapped, chosen-map, count-map, least_is, filter_at, filter_has}
use Rattle.descriptor_code.proofs.Built.{ranks_are, labels_are, pairs_are, vectors_are, marks_are, n_members, member_is}
use Rattle.descriptor_code.proofs.Votes.{rank-entries, right_votes_same, wrong_votes_same, lines_are}

-- ---- records by their fields

checks_with : (bits modulus n : ℕ) → List (List ℕ) → ParityChecks
checks_with bits modulus n vectors = record { bits = bits; modulus = modulus; n = n; vectors = vectors }

same_checks : (c d : ParityChecks) → c.bits ≡ d.bits → c.modulus ≡ d.modulus → c.n ≡ d.n → c.vectors ≡ d.vectors → c ≡ d
unfolding checks_with
same_checks c d bits modulus n vectors =
    let whole : checks_with c.bits c.modulus c.n c.vectors ≡ checks_with d.bits d.modulus d.n d.vectors = rw (bits, modulus, n, vectors) refl in
    whole

line_with : (label pairs right wrong : ℕ) → VoteLine
line_with label pairs right wrong = record { label = label; pairs = pairs; right = right; wrong = wrong }

same_line : (x y : VoteLine) → x.label ≡ y.label → x.pairs ≡ y.pairs → x.right ≡ y.right → x.wrong ≡ y.wrong → x ≡ y
unfolding line_with
same_line x y label pairs right wrong =
    let whole : line_with x.label x.pairs x.right x.wrong ≡ line_with y.label y.pairs y.right y.wrong = rw (label, pairs, right, wrong) refl in
    whole

entry_with : (label pairs : ℕ) → Bool → List ℕ → Entry
entry_with label pairs mark dual = record { label = label; pairs = pairs; mark = mark; dual = dual }

same_entry : (x y : Entry) → x.label ≡ y.label → x.pairs ≡ y.pairs → x.mark ≡ y.mark → x.dual ≡ y.dual → x ≡ y
unfolding entry_with
same_entry x y label pairs mark dual =
    let whole : entry_with x.label x.pairs x.mark x.dual ≡ entry_with y.label y.pairs y.mark y.dual = rw (label, pairs, mark, dual) refl in
    whole

map_below : {X : Type 0} (n : ℕ) (f g : ℕ → X) (d : X) → ((k : ℕ) → k < n → f k ≡ g k) → map f (range_with_len 0 n) ≡ map g (range_with_len 0 n)
map_below n f g d h =
    fill_by_all g (map f (range_with_len 0 n)) n d (length-map-range_with_len f 0 n)
    (λ k l. get_or-map-range_with_len f 0 n k k d l (omega arith) ∙ h k l)

module _ (p : Parts) (c : Compiled) (h : IsDescriptor p) (is_code : IsCodeOf p c) where
  abbrev b : Basis
  b = c.basis

  abbrev d : Domain
  d = domain_of p

  built : IsBuilt d p.modulus p.points b
  built = is_code.built

  sound : IsSoundBasis b
  sound = is_code.made.sound

  bits_are : b.bits ≡ p.bits
  bits_are = built.bits_are ∙ bits_in p h

  times_are : times b ≡ times_in p
  times_are = ap (λ (m : ℕ). gf_mul m b.modulus) bits_are ∙ ap (gf_mul p.bits) built.modulus_is

  ranks : b.ranks ≡ members p
  ranks = ranks_are p d (field_in p h) (named_in p) (bits_in p h) b built sound

  b_labels : b.labels ≡ labels p
  b_labels = labels_are p d (field_in p h) (named_in p) (bits_in p h) b built sound

  b_pairs : b.pair_counts ≡ map (pairs_of p) (members p)
  b_pairs = pairs_are p d (field_in p h) (named_in p) (bits_in p h) b built sound

  b_vectors : b.vectors ≡ map (values p) (members p)
  b_vectors = vectors_are p d (field_in p h) (named_in p) (bits_in p h) b built sound

  marks : c.marks ≡ map (is_checked p) (members p)
  marks = is_code.marks ∙ marks_are p d (field_in p h) (named_in p) (bits_in p h) b built sound

  n_are : length (members p) ≡ b.n
  n_are = n_members p d (field_in p h) (named_in p) (bits_in p h) b built sound

  rank_is : (k : ℕ) → rank_at b k ≡ member_at p k
  rank_is k = ap (λ (xs : List ℕ). slice_index xs k) ranks

  -- ---- what is told of member k

  label_at : (k : ℕ) → k < b.n → label b k ≡ (functions_in p).label (member_at p k)
  label_at k l =
      ap (λ (xs : List ℕ). slice_index xs k) b_labels ∙ get_or-map (functions_in p).label (members p) k 0 0 (omega (arith, n_are))

  pairs_of_at : (k : ℕ) → k < b.n → pairs_at b k ≡ pairs_of p (member_at p k)
  pairs_of_at k l = ap (λ (xs : List ℕ). slice_index xs k) b_pairs ∙ get_or-map (pairs_of p) (members p) k 0 0 (omega (arith, n_are))

  mark_at : (k : ℕ) → k < b.n → marked c.marks k ≡ is_checked p (member_at p k)
  mark_at k l = ap (λ (ms : List Bool). marked ms k) marks ∙ get_or-map (is_checked p) (members p) k 0 false (omega (arith, n_are))

  vector_at : (k q : ℕ) → k < b.n → vector b k q ≡ value p (member_at p k) q
  vector_at k q l =
      ap (λ (vs : List (List ℕ)). slice_index (slice_index_or vs k []) q) b_vectors
      ∙ ap (λ (v : List ℕ). slice_index v q) (get_or-map (values p) (members p) k 0 [] (omega (arith, n_are)))

  sum_is : (i j : ℕ) → i < b.n → j < b.n → sum_at b i j ≡ member_sums p i j
  sum_is i j li lj =
      built.members.sums i j li lj
      ∙ sym (sum_index-is d (rank_at b i) (rank_at b j))
      ∙ ap (λ (f : Functions). sum_index f (rank_at b i) (rank_at b j)) (named_in p)
      ∙ ap (λ (r : ℕ). sum_index (functions_in p) r (rank_at b j)) (rank_is i)
      ∙ ap (λ (r : ℕ). sum_index (functions_in p) (member_at p i) r) (rank_is j)

  -- ---- checks, bound and radius

  checks_same : checks_in c ≡ checks p
  unfolding checked
  checks_same =
      same_checks (checks_in c) (checks p) bits_are built.modulus_is built.n_is
      (ap (λ (ms : List Bool). chosen ms b.vectors) marks
      ∙ ap (chosen (map (is_checked p) (members p))) b_vectors
      ∙ chosen-map (is_checked p) (values p) (members p))

  size_same : count_by (λ m. m) c.marks ≡ length (checked p)
  unfolding checked
  size_same = ap (λ (ms : List Bool). count_by (λ m. m) ms) marks ∙ count-map (is_checked p) (members p)

  labels_chosen : chosen c.marks b.labels ≡ checked_labels p
  unfolding checked
  labels_chosen =
      ap (λ (ms : List Bool). chosen ms b.labels) marks
      ∙ ap (chosen (map (is_checked p) (members p))) b_labels
      ∙ chosen-map (is_checked p) (functions_in p).label (members p)

  free_has : (k : ℕ) → k < b.n → marked c.marks k ≡ false → (q : ℕ) × (q < length (free p)) × (get_or (free p) q 0 ≡ member_at p k)
  unfolding free
  free_has k l mark = filter_has (λ i. not (is_checked p i)) (members p) k (omega (arith, n_are)) (ap not (sym (mark_at k l) ∙ mark))

  free_at : (q : ℕ) → q < length (free p) → (k : ℕ) × (k < b.n) × (get_or (free p) q 0 ≡ member_at p k) × (marked c.marks k ≡ false)
  unfolding free
  free_at q l =
      let w : (k : ℕ) × (k < length (members p)) × (get_or (filter (λ i. not (is_checked p i)) (members p)) q 0 ≡ get_or (members p) k 0) × (not (is_checked p (get_or (members p) k 0)) ≡ true) =
      filter_at (λ i. not (is_checked p i)) (members p) q l in
      let low : w.0 < b.n = omega (arith, w.1, n_are) in
      (w.0, low, w.2, mark_at w.0 low ∙ not_true (is_checked p (member_at p w.0)) w.3)
    where
      not_true : (t : Bool) → not t ≡ true → t ≡ false
      not_true true e = let no : false ≡ true = e in absurd (cc)
      not_true false e = refl

  bound_same : c.bound ≡ bound p
  unfolding bound
  bound_same =
      let (k, l, mark, pairs) = is_code.made.bound.reached in
      let w : (q : ℕ) × (q < length (free p)) × (get_or (free p) q 0 ≡ member_at p k) = free_has k l mark in
      sym (least_is (map (pairs_of p) (free p)) c.bound w.0 (subst (λ (m : ℕ). w.0 < m) (sym (length-map (free p) (pairs_of p))) w.1)
      (get_or-map (pairs_of p) (free p) w.0 0 0 w.1 ∙ ap (pairs_of p) w.2 ∙ sym (pairs_of_at k l) ∙ pairs)
      (λ q lq.
      let low : q < length (free p) = subst (λ (m : ℕ). q < m) (length-map (free p) (pairs_of p)) lq in
      let (i, li, at, free_i) = free_at q low in
      let least : c.bound ≤ pairs_at b i = is_code.made.bound.least.at_most i li free_i in
      let same : get_or (map (pairs_of p) (free p)) q 0 ≡ pairs_at b i = get_or-map (pairs_of p) (free p) q 0 0 low ∙ ap (pairs_of p) at ∙ sym (pairs_of_at i li) in
      omega arith))

  radius_same : c.radius ≡ radius p
  unfolding radius
  radius_same =
      let below : 2 * c.radius < c.bound = is_code.made.radius.below in
      (radius_law c.bound c.radius (omega arith)).0 is_code.made.radius ∙ ap (λ (m : ℕ). (m - 1) / 2) bound_same

  form_same : form_of_parts p c ≡ plain_form p
  form_same =
      ap (λ (x : ParityChecks). at_layout p.depth p.packed (form_of x c.radius)) checks_same
      ∙ ap (λ (t : ℕ). at_layout p.depth p.packed (form_of (checks p) t)) radius_same

  not_full : IsFull p → ⊥
  not_full full =
      let (k, l, mark, pairs) = is_code.made.bound.reached in
      let w : (q : ℕ) × (q < length (free p)) × (get_or (free p) q 0 ≡ member_at p k) = free_has k l mark in
      let none : length (free p) ≡ 0 = ap length full in
      omega (arith, w.1)

  -- ---- the ledger

  entry_is : (e : List ℕ) (i j : ℕ) → i < b.n → j < b.n → syndromes (times b) b.n (slice_index e) (vector b) i j ≡ syndromes (times b) b.n (slice_index e) (λ m. value p (member_at p m)) i j
  entry_is e i j li lj =
      sum-same b.n (λ q. times b (slice_index e q) (times b (vector b i q) (vector b j q))) (λ q. times b (slice_index e q) (times b (value p (member_at p i) q) (value p (member_at p j) q)))
      (λ q lq.
      ap (λ (v : ℕ). times b (slice_index e q) (times b v (vector b j q))) (vector_at i q li)
      ∙ ap (λ (v : ℕ). times b (slice_index e q) (times b (value p (member_at p i) q) v)) (vector_at j q lj))

  rank_same : (e : List ℕ) (i j : ℕ) → i ≤ b.n → j ≤ b.n → part_rank (times b) b e i j ≡ error_ranks p e i j
  unfolding error_ranks
  rank_same e i j li lj =
      rank-entries (2 ^ b.bits) (times b) j (syndromes (times b) b.n (slice_index e) (vector b)) (syndromes (times b) b.n (slice_index e) (λ m. value p (member_at p m))) i
      (λ u v lu lv. entry_is e u v (omega arith) (omega arith))
      ∙ ap (λ (m : ℕ). rank (2 ^ m) (times b) j (syndromes (times b) b.n (slice_index e) (λ m. value p (member_at p m))) i) bits_are
      ∙ ap (λ (mul : ℕ → ℕ → ℕ). rank (2 ^ p.bits) mul j (syndromes mul b.n (slice_index e) (λ m. value p (member_at p m))) i) times_are
      ∙ ap (λ (n : ℕ). rank (2 ^ p.bits) (times_in p) j (syndromes (times_in p) n (slice_index e) (λ m. value p (member_at p m))) i) built.n_is

  right_same : (e : List ℕ) (k : ℕ) → right_at (times b) b e k ≡ right p e (member_at p k)
  right_same e k =
      right_votes_same b.n (part_rank (times b) b e) (error_ranks p e) (sum_at b) (member_sums p) (rank_same e) sum_is (rank_at b k)
      ∙ ap (λ (r : ℕ). right_votes b.n (error_ranks p e) (member_sums p) r) (rank_is k)
      ∙ ap (λ (n : ℕ). right_votes n (error_ranks p e) (member_sums p) (member_at p k)) built.n_is

  wrong_same : (e : List ℕ) (k : ℕ) → wrong_at (times b) b e k ≡ wrong p e (member_at p k)
  wrong_same e k =
      wrong_votes_same b.n (part_rank (times b) b e) (error_ranks p e) (sum_at b) (member_sums p) (rank_same e) sum_is (rank_at b k)
      ∙ ap (λ (r : ℕ). wrong_votes b.n (error_ranks p e) (member_sums p) r) (rank_is k)
      ∙ ap (λ (n : ℕ). wrong_votes n (error_ranks p e) (member_sums p) (member_at p k)) built.n_is

  line_same : (e : List ℕ) (k : ℕ) → k < b.n → basis_line b e k ≡ line_of p e (member_at p k)
  line_same e k l = same_line (basis_line b e k) (line_of p e (member_at p k)) (label_at k l) (pairs_of_at k l) (right_same e k) (wrong_same e k)

  ledger_same : (e : List ℕ) → ledger_of b c.marks e ≡ ledger p e
  unfolding ledger free
  ledger_same e =
      lines_are b c.marks e (is_checked p) (line_of p e) (members p) (λ k l. mark_at k (omega (arith, n_are))) (λ k l. line_same e k (omega (arith, n_are))) b.n (omega (arith, n_are))
      ∙ ap (λ (xs : List ℕ). map (line_of p e) (filter (λ i. not (is_checked p i)) xs)) (take_all b.n (members p) (omega (arith, n_are)))

  -- ---- the table

  product_same : (j k : ℕ) → j < b.n → (duals : List (List ℕ)) → dot (times b) b.n (vector b j) (dual_at duals k) ≡ dot (times_in p) (length p.points) (value p (member_at p j)) (dual_at duals k)
  product_same j k lj duals =
      dot_entries (times b) b.n (vector b j) (dual_at duals k) (value p (member_at p j)) (dual_at duals k) (λ q lq. vector_at j q lj) (λ q lq. refl)
      ∙ ap (λ (mul : ℕ → ℕ → ℕ). dot mul b.n (value p (member_at p j)) (dual_at duals k)) times_are
      ∙ ap (λ (n : ℕ). dot (times_in p) n (value p (member_at p j)) (dual_at duals k)) built.n_is

  are_duals : AreDuals p b.duals
  are_duals = record {
    n_lists = sound.sound.shape.n_duals ∙ built.n_is;
    words = subst (λ (n : ℕ). All (IsWord p.bits n) b.duals) built.n_is (subst (λ (m : ℕ). All (IsWord m b.n) b.duals) bits_are sound.sound.shape.dual_words);
    products = λ j k lj lk.
        let n_is : b.n ≡ length p.points = built.n_is in
        sym (product_same j k (omega arith) b.duals) ∙ sound.sound.shape.duals_fit.products j k (omega arith) (omega arith);
  }

  -- there are no other lists
  duals_same : (duals : List (List ℕ)) → AreDuals p duals → duals ≡ b.duals
  duals_same duals are =
      let n_is : b.n ≡ length p.points = built.n_is in
      let n_duals : length b.duals ≡ b.n = sound.sound.shape.n_duals in
      let n_lists : length duals ≡ length p.points = are.n_lists in
      ext_get_or [] duals b.duals (n_lists ∙ sym n_is ∙ sym n_duals)
      (λ k l.
      same_number_lists (get_or duals k []) (get_or b.duals k []) ((are.words k [] l).n_long ∙ sym ((sound.sound.shape.dual_words k [] (omega arith)).n_long ∙ n_is))
      (λ q lq. unique duals are k q (omega arith) (let long : length (get_or duals k []) ≡ length p.points = (are.words k [] l).n_long in omega arith)))
    where
      unique : (duals : List (List ℕ)) → AreDuals p duals → (k q : ℕ) → k < b.n → q < b.n → dual_at duals k q ≡ dual b k q
      unique duals are k q lk lq =
          let n_is : b.n ≡ length p.points = built.n_is in
          dual_unique (2 ^ b.bits) (times b) sound.sound.field b.n (vector b) (dual b) (dual_at duals) (λ i u. row_below b.duals sound.sound.shape.dual_words i u)
          (λ i u. subst (λ (m : ℕ). dual_at duals i u < 2 ^ m) (sym bits_are) (row_below duals are.words i u))
          sound.sound.shape.duals_fit (record { products = λ i j li lj. product_same i j li duals ∙ are.products i j (omega arith) (omega arith) }) k q lk lq

  table_text_same : (m : ℕ) → m ≡ bound p → table_text b.n (count_by (λ m. m) c.marks) m (map (basis_entry b c.marks) (range_with_len 0 b.n))
      ≡ table_text (length p.points) (length (checked p)) (bound p) (map (entry_of p b.duals) (range_with_len 0 (length p.points)))
  table_text_same m e =
      ap (λ (es : List Entry). table_text b.n (count_by (λ m. m) c.marks) m es)
      (map_below b.n (basis_entry b c.marks) (entry_of p b.duals) (entry_with 0 0 false [])
      (λ k l. same_entry (basis_entry b c.marks k) (entry_of p b.duals k) (label_at k l) (pairs_of_at k l) (mark_at k l) refl))
      ∙ ap (λ (s : ℕ). table_text b.n s m (map (entry_of p b.duals) (range_with_len 0 b.n))) size_same
      ∙ ap (λ (s : ℕ). table_text b.n (length (checked p)) s (map (entry_of p b.duals) (range_with_len 0 b.n))) e
      ∙ ap (λ (n : ℕ). table_text n (length (checked p)) (bound p) (map (entry_of p b.duals) (range_with_len 0 n))) built.n_is

  one_bound : (m : ℕ) → IsOrderBound b c.marks m → m ≡ c.bound
  one_bound m is =
      let (k, l, mark, pairs) = is.reached in
      let (i, li, mark_i, pairs_i) = is_code.made.bound.reached in
      omega (arith, is.least.at_most i li mark_i, is_code.made.bound.least.at_most k l mark)

  table_same : (text : List ℕ) → IsTableOf b c.marks text ↔ IsTable p text
  table_same text = (
    λ t. record { duals = b.duals; are_duals = are_duals; is = t.is ∙ table_text_same t.bound (one_bound t.bound t.is_bound ∙ bound_same) },
    λ t. record {
      bound = c.bound;
      is_bound = is_code.made.bound;
      is = t.is ∙ ap (λ (duals : List (List ℕ)). table_text (length p.points) (length (checked p)) (bound p) (map (entry_of p duals) (range_with_len 0 (length p.points)))) (duals_same t.duals t.are_duals)
          ∙ sym (table_text_same c.bound bound_same);
    },
  )

  pub is_plain : IsPlain p c
  is_plain = record {
    bits_are = bits_are;
    modulus_is = built.modulus_is;
    n_is = built.n_is;
    checks_are = checks_same;
    size_is = size_same;
    bound_is = bound_same;
    radius_is = radius_same;
    form_is = form_same;
    labels_are = b_labels;
    checked_labels_are = labels_chosen;
    ledger_is = ledger_same;
    table_is = table_same;
    not_full = not_full;
  }

pub plain_law : PlainLaw
plain_law = is_plain
