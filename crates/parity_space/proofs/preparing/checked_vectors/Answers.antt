use Rattle.std.proofs.Common.{◌≡◌, ℕ, ◌+◌, ◌<◌, ◌≤◌, ◌^◌, List, [], length, length-set, get_or, sym, ◌∙◌, ap, subst, arith}
use Rattle.std.proofs.Math.ListN.{set}
use Rattle.std.proofs.Math.Facts.{Fits-of_lt}
use Rattle.std.proofs.lemmas.List.{length-replicate}
use Rattle.block_theory.specs.Marked.{chosen}
use Rattle.block_theory.proofs.Choosing.{set_marks-count_by}
use Rattle.block_theory.proofs.FromBasis.{chosen_word}
use Rattle.order_theory.specs.Basis.{IsWord}
use Rattle.parity_space.proofs.Collecting.{IsCollected, collected_start, collected_room, collected_more, collected_same, collected_end}
use Rattle.parity_space.proofs.preparing.checked_vectors.Goals as goal
use Rattle.parity_space.proofs.preparing.checked_vectors.Goals.{then-holds, else-holds}

pub loop-k-init : goal.loop-k-init
loop-k-init g c = record {
  cols = ap (λ m. m.cols) c.in_ok-vectors.ensures ∙ c.n.ensures.value;
  size =
      ap (λ m. length m.rows) c.in_ok-vectors.ensures
      ∙ length-replicate c.size.result _ ∙ c.size.ensures ∙ sym (set_marks-count_by c.args.checked.now);
  collected = collected_start c.args.checked.now c.args.basis.now.vectors c.in_ok-vectors.vectors.rows;
}

pub set_row-requires-clause-row : goal.set_row-requires-clause-row
set_row-requires-clause-row g c =
    let inv = c.loop-k.invariant in
    let long : length c.args.basis.now.vectors ≡ c.args.basis.now.n = c.n-k-end.ensures.sound.sound.shape.n_vectors in
    let marks : length c.args.checked.now ≡ c.args.basis.now.n = c.requires in
    let end : c.n-k-end.result ≡ c.args.basis.now.n = c.n-k-end.ensures.value in
    let test : c.loop-k.k < c.n-k-end.result = c.loop-k-test.true in
    collected_room c.args.checked.now c.args.basis.now.vectors c.loop-k.vectors.rows c.loop-k.k c.loop-k.next (omega arith) inv.size inv.collected []
    (omega arith) (sym c.holds.ensures ∙ c.if-holds.true)

pub overflow_add-next : goal.overflow_add-next
overflow_add-next g c =
    let inv = c.loop-k.invariant in
    let long : length c.args.basis.now.vectors ≡ c.args.basis.now.n = c.n-k-end.ensures.sound.sound.shape.n_vectors in
    let marks : length c.args.checked.now ≡ c.args.basis.now.n = c.requires in
    let end : c.n-k-end.result ≡ c.args.basis.now.n = c.n-k-end.ensures.value in
    let test : c.loop-k.k < c.n-k-end.result = c.loop-k-test.true in
    let room : c.loop-k.next < length c.loop-k.vectors.rows =
    collected_room c.args.checked.now c.args.basis.now.vectors c.loop-k.vectors.rows c.loop-k.k c.loop-k.next (omega arith) inv.size inv.collected []
    (omega arith) (sym c.holds.ensures ∙ c.if-holds.true) in
    let few : length c.loop-k.vectors.rows ≡ c.size.result = c.loop-k.invariant.size ∙ set_marks-count_by c.args.checked.now ∙ sym c.size.ensures in
    let fits : c.size.result < 2 ^ 32 = c.size.type_inv in
    let small : c.loop-k.next + 1 < 2 ^ 32 = omega arith in
    Fits-of_lt small

pub loop-k-preserved : goal.loop-k-preserved
loop-k-preserved g c =
    let inv = c.loop-k.invariant in
    let long : length c.args.basis.now.vectors ≡ c.args.basis.now.n = c.n-k-end.ensures.sound.sound.shape.n_vectors in
    let marks : length c.args.checked.now ≡ c.args.basis.now.n = c.requires in
    let same : length c.args.checked.now ≡ length c.args.basis.now.vectors = omega arith in
    let end : c.n-k-end.result ≡ c.args.basis.now.n = c.n-k-end.ensures.value in
    let test : c.loop-k.k < c.n-k-end.result = c.loop-k-test.true in
    let within : c.loop-k.k < length c.args.checked.now = omega arith in
    elim c.if-holds.branch [
      | then-holds w ↦ (let written = w.vectors-is ∙ w.set_row.ensures in
          let rows : c.if-holds.vectors.rows ≡ set c.loop-k.vectors.rows c.loop-k.next (get_or c.args.basis.now.vectors c.loop-k.k []) = ap (λ m. m.rows) written ∙ ap (set c.loop-k.vectors.rows c.loop-k.next) w.vector.ensures.value in record {
            cols = ap (λ m. m.cols) written ∙ inv.cols;
            size = ap length rows ∙ length-set c.loop-k.vectors.rows c.loop-k.next _ ∙ inv.size;
            collected =
                subst (λ (n : ℕ). IsCollected c.args.checked.now c.args.basis.now.vectors c.if-holds.vectors.rows (c.loop-k.k + 1) n) (sym w.next-is)
                (subst (λ (r : List (List ℕ)). IsCollected c.args.checked.now c.args.basis.now.vectors r (c.loop-k.k + 1) (c.loop-k.next + 1)) (sym rows)
                (collected_more c.args.checked.now c.args.basis.now.vectors c.loop-k.vectors.rows c.loop-k.k c.loop-k.next same inv.size inv.collected []
                within (sym c.holds.ensures ∙ w.if-holds.true)));
          })
      | else-holds w ↦ record {
        cols = ap (λ m. m.cols) w.vectors-is ∙ inv.cols;
        size = ap (λ m. length m.rows) w.vectors-is ∙ inv.size;
        collected =
            subst (λ (n : ℕ). IsCollected c.args.checked.now c.args.basis.now.vectors c.if-holds.vectors.rows (c.loop-k.k + 1) n) (sym w.next-is)
            (subst (λ (r : List (List ℕ)). IsCollected c.args.checked.now c.args.basis.now.vectors r (c.loop-k.k + 1) c.loop-k.next) (sym (ap (λ m. m.rows) w.vectors-is))
            (collected_same c.args.checked.now c.args.basis.now.vectors c.loop-k.vectors.rows c.loop-k.k c.loop-k.next same inv.size inv.collected
            within (sym c.holds.ensures ∙ w.if-holds.false)));
      }
    ]

pub returns-clause-rows : goal.returns-clause-rows
returns-clause-rows g c =
    let inv = c.loop-k.invariant in
    let long : length c.args.basis.now.vectors ≡ c.args.basis.now.n = c.n-k-end.ensures.sound.sound.shape.n_vectors in
    let marks : length c.args.checked.now ≡ c.args.basis.now.n = c.requires in
    let end : c.n-k-end.result ≡ c.args.basis.now.n = c.n-k-end.ensures.value in
    let test : c.n-k-end.result ≤ c.loop-k.k = c.loop-k-test.false in
    collected_end c.args.checked.now c.args.basis.now.vectors c.loop-k.vectors.rows c.loop-k.k c.loop-k.next (omega arith) inv.size inv.collected (omega arith)

pub returns-clause-words : goal.returns-clause-words
returns-clause-words g c i l =
    let b = c.args.basis.now in
    let marks = c.args.checked.now in
    let rows : c.loop-k.vectors.rows ≡ chosen marks b.vectors = returns-clause-rows g c in
    subst (λ (r : List (List ℕ)). IsWord b.bits b.n (get_or r i [])) (sym rows)
    (chosen_word b marks c.n-k-end.ensures.sound c.requires i (subst (λ (r : List (List ℕ)). i < length r) rows l))
