-- A function of a band is judged by its products with the lists after the takes so far
use Rattle.std.proofs.Common.{◌≡◌, ℕ, ◌*◌, ◌+◌, ◌<◌, ◌≤◌, ◌^◌, Bool, true, false, List, length, slice_index, sym, ◌∙◌, subst, All}
use Rattle.std.proofs.Math.ListN.{set}
use Rattle.gf_theory.specs.Field.{gf_mul, IsModulus}
use Rattle.linear_theory.proofs.Tables.{place_below}
use Rattle.gf_linear.specs.Cells.{cell}
use Rattle.gf_linear.proofs.Steps.{All-cells}
use Rattle.eval_basis.specs.Flat.{IsTable}
use Rattle.eval_basis.specs.Lists.{taken, after_takes, lists_after, AreLists, AreTakes, IsTakeOf, IsSettled}
use Rattle.eval_basis.proofs.Orders.{swapped}
use Rattle.eval_basis.proofs.Stepping.{field_of, IsFound, step_none, step_found, lists_taken}
use Rattle.eval_basis.proofs.ListSteps.{taken_row}
use Rattle.eval_basis.proofs.FlatTables.{tabled_is}
use Rattle.eval_basis.proofs.AfterTakes.{after_added, taken_below}

module _ (b m : ℕ) (is_modulus : IsModulus b m) (n k : ℕ) (products order ns fs t : List ℕ) (used : List Bool) where
  pub settled_old : ((i : ℕ) → k ≤ i → i < length order → slice_index products (slice_index order i) ≡ 0) → IsSettled b m n k products order ns fs t used order ns fs t used false
  settled_old none = record {
    step = λ values symbols lists are.
        (step_none b m is_modulus n k values (lists_after (gf_mul b m) n ns fs t symbols) order products used lists (record { are = are }) none, lists);
  }

  module _ (i : ℕ) (ns' fs' t' order' : List ℕ) (takes : AreTakes b n ns fs t) (added : IsTakeOf (gf_mul b m) (slice_index order i) products ns fs t ns' fs' t') (lq : slice_index order i < n) where
    rows : (symbols : List ℕ) (p j : ℕ) → p < n → j < n → cell (lists_after (gf_mul b m) n ns' fs' t' symbols) n p j
        ≡ taken (gf_mul b m) added.factor (slice_index order i) (cell (lists_after (gf_mul b m) n ns fs t symbols) n p) (slice_index products) j
    rows symbols p j lp lj =
        let table : IsTable n (λ p. after_takes (gf_mul b m) n ns fs t (length ns) (cell symbols n p)) (lists_after (gf_mul b m) n ns fs t symbols) =
        tabled_is n (λ p. after_takes (gf_mul b m) n ns fs t (length ns) (cell symbols n p)) in
        let table' : IsTable n (λ p. after_takes (gf_mul b m) n ns' fs' t' (length ns') (cell symbols n p)) (lists_after (gf_mul b m) n ns' fs' t' symbols) =
        tabled_is n (λ p. after_takes (gf_mul b m) n ns' fs' t' (length ns') (cell symbols n p)) in
        table'.entries p j lp lj
        ∙ after_added (gf_mul b m) b n (slice_index order i) products ns fs t ns' fs' t' takes added lq (cell symbols n p) j lj
        ∙ taken_row (gf_mul b m) added.factor (slice_index order i) j (after_takes (gf_mul b m) n ns fs t (length ns) (cell symbols n p)) (cell (lists_after (gf_mul b m) n ns fs t symbols) n p) (slice_index products)
        (sym (table.entries p j lp lj)) (sym (table.entries p (slice_index order i) lp lq))

    long : (symbols : List ℕ) → length (lists_after (gf_mul b m) n ns' fs' t' symbols) ≡ n * n
    long symbols = let t : IsTable n (λ p. after_takes (gf_mul b m) n ns' fs' t' (length ns') (cell symbols n p)) (lists_after (gf_mul b m) n ns' fs' t' symbols) = tabled_is n (λ p. after_takes (gf_mul b m) n ns' fs' t' (length ns') (cell symbols n p)) in t.long

    over : (symbols : List ℕ) → AreLists b n (lists_after (gf_mul b m) n ns fs t symbols) order used → All (λ x. x < 2 ^ b) (lists_after (gf_mul b m) n ns' fs' t' symbols)
    over symbols lists = All-cells (λ x. x < 2 ^ b) n n (lists_after (gf_mul b m) n ns' fs' t' symbols) (long symbols)
        (λ p j lp lj. subst (λ (x : ℕ). x < 2 ^ b) (sym (rows symbols p j lp lj))
        (taken_below (2 ^ b) (gf_mul b m) (field_of b m is_modulus) added.factor (slice_index order i) j (cell (lists_after (gf_mul b m) n ns fs t symbols) n p) (slice_index products)
        (lists.over (p * n + j) 0 (place_below n n p j (length (lists_after (gf_mul b m) n ns fs t symbols)) lp lj lists.n_symbols))))

    found : (symbols : List ℕ) → k ≤ i → i < n → ((s : ℕ) → slice_index order' s ≡ slice_index order (swapped k i s))
        → IsFound (gf_mul b m) n k i products (lists_after (gf_mul b m) n ns fs t symbols) order (lists_after (gf_mul b m) n ns' fs' t' symbols) order'
    found symbols up low order_is = record {
      up = up;
      below = low;
      order_is = order_is;
      is_taken = record { factor = added.factor; inverse = added.inverse; rows = rows symbols };
    }

    pub settled_new : (used' : List Bool) → k ≤ i → i < n → ((s : ℕ) → slice_index order' s ≡ slice_index order (swapped k i s)) → length order' ≡ length order → used' ≡ set used (slice_index order i) true
        → IsSettled b m n k products order ns fs t used order' ns' fs' t' used' true
    settled_new used' up low order_is long_order is_used = record {
      step = λ values symbols lists are. (
        step_found b m is_modulus n k values (lists_after (gf_mul b m) n ns fs t symbols) order products used lists (record { are = are }) i (lists_after (gf_mul b m) n ns' fs' t' symbols) order' (found symbols up low order_is),
        lists_taken b m is_modulus n k values (lists_after (gf_mul b m) n ns fs t symbols) order products used lists (record { are = are }) i (lists_after (gf_mul b m) n ns' fs' t' symbols) order' (found symbols up low order_is)
            used' (long symbols ∙ sym lists.n_symbols) long_order is_used (over symbols lists),
      );
    }
