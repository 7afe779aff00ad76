-- How the working list takes on the syndromes of the error
use Rattle.std.proofs.Common.{ℕ, ◌≡◌, ◌≢◌, suc, ◌+◌, ◌*◌, ◌^◌, ◌<◌, ◌≤◌, Bool, true, false, List, get_or, sym, ◌∙◌, ap, subst, inl, inr, arith, bit_xor}
use Rattle.field_theory.proofs.Sums.{xor_below, eq_or_below}
use Rattle.order_theory.specs.Basis.{Basis, IsSoundBasis, IsWord, times, label, pairs_at}
use Rattle.order_theory.specs.Errors.{syndrome, weight, right_at, wrong_at}
use Rattle.order_theory.specs.Codes.{IsBound, marked}
use Rattle.order_theory.specs.Course.{IsErrorOf, IsMoved}
use Rattle.order_theory.specs.Laws.{VotesCounted}
use Rattle.order_theory.specs.Voting.{SameBelow, votes_at}
use Rattle.order_theory.proofs.Distances.{syn_below}
use Rattle.order_theory.proofs.Errors.{error_agrees}
use Rattle.order_theory.proofs.Theorems.{election_law, moved_on, step_law, syndrome_law, count_law}
use Rattle.vote_core.specs.declared.ledger.VoteLine.{VoteLine}
use Rattle.vote_core.specs.Ledgers.{line_of}
use Rattle.vote_core.specs.Turns.{IsTurn}
use Rattle.vote_core.proofs.Lines.{line_is}

module _ (b : Basis) (marks : List Bool) (t : ℕ) (y : List ℕ) (h : IsSoundBasis b) (yw : IsWord b.bits b.n y) where
  -- a marked member: the working list has its syndrome already
  pub same_marked : (e w : List ℕ) (k : ℕ) → IsErrorOf (times b) b marks t y e → k < b.n → marked marks k ≡ true → syndrome (times b) b w k ≡ syndrome (times b) b y k → SameBelow (times b) b e w k → SameBelow (times b) b e w (k + 1)
  same_marked e w k x lk m kept same = record {
    each = λ q l. elim (eq_or_below q k (let u : q < suc k = omega arith in u)) [
      | inr u ↦ same.each q u
      | inl f ↦ subst (λ (r : ℕ). syndrome (times b) b e r ≡ syndrome (times b) b w r) (sym f) (sym (error_agrees b marks t y h yw e x k lk m) ∙ sym kept)
    ];
  }

  -- the end: the working list is the error
  pub same_lists : (e w : List ℕ) (k : ℕ) → IsErrorOf (times b) b marks t y e → IsWord b.bits b.n w → k ≡ b.n → SameBelow (times b) b e w k → w ≡ e
  same_lists e w k x ww f same = sym (syndrome_law (times b) b e w h.sound x.is_word ww (subst (λ (q : ℕ). SameBelow (times b) b e w q) f same))

-- a move at k changes one syndrome alone
module _ (b : Basis) (w w' : List ℕ) (k v : ℕ) (h : IsSoundBasis b) (lk : k < b.n) (symbol : v < 2 ^ b.bits) (moved : IsMoved (times b) b w k v w') where
  pub moved_keeps : (m : ℕ) → m < b.n → m ≢ k → syndrome (times b) b w' m ≡ syndrome (times b) b w m
  moved_keeps =
      (step_law (times b) b w w' k (bit_xor v (syndrome (times b) b w k)) h.sound lk
      (xor_below (2 ^ b.bits) (times b) h.sound.field v (syndrome (times b) b w k) symbol (syn_below (times b) b h.sound (λ p. get_or w p 0) k)) moved.each).1

  pub moved_same : SameBelow (times b) b w w' k
  moved_same = record { each = λ m l. sym (moved_keeps m (omega arith) (λ f. omega arith)) }

-- a turn gives the working list the syndrome of the error, and its line is the error's
module _ (b : Basis) (marks : List Bool) (t : ℕ) (y e w w' : List ℕ) (k : ℕ) (line : VoteLine) (h : IsSoundBasis b) (ww : IsWord b.bits b.n w) (lk : k < b.n) (turn : IsTurn b w k w' line)
    (bound : IsBound b marks (2 * t + 1)) (free : marked marks k ≡ false) (x : IsErrorOf (times b) b marks t y e) (same : SameBelow (times b) b e w k) where
  winner_is : turn.winner ≡ syndrome (times b) b e k
  winner_is = let light : weight e ≤ t = x.light in election_law (times b) b e w k turn.winner h.sound x.is_word ww lk same (omega (arith, bound.at_most k lk free)) turn.elected

  pub turn_right : SameBelow (times b) b e w' (k + 1)
  turn_right = moved_on (times b) b h.sound e w w' k turn.winner lk turn.elected.symbol turn.moved same winner_is

  pub turn_line : line ≡ line_of b e k
  turn_line =
      let counted : VotesCounted (times b) b e w k = count_law (times b) b e w k h.sound x.is_word ww lk same in
      let right : line.right ≡ right_at (times b) b e k = turn.line_right ∙ ap (λ (v : ℕ). votes_at (times b) b w k v) winner_is ∙ counted.right_ones in
      let wrong : line.wrong ≡ wrong_at (times b) b e k = omega (arith, turn.line_all, counted.all) in
      line_is line (label b k) (pairs_at b k) (right_at (times b) b e k) (wrong_at (times b) b e k) turn.line_label turn.line_pairs right wrong
