-- What one turn does to the working list
use Rattle.std.proofs.Common.{ℕ, ◌≡◌, ◌≢◌, ◌+◌, ◌*◌, ◌^◌, ◌<◌, ◌≤◌, Bool, true, false, List, get_or, sym, ◌∙◌, ap, arith, bit_xor}
use Rattle.std.specs.Int.Bits.{xor_self, xor_zero_r}
use Rattle.std.specs.Prelude.{slice_index}
use Rattle.field_theory.proofs.Sums.{xor_below, zero-mul}
use Rattle.order_theory.specs.Basis.{Basis, IsSoundBasis, IsWord, times, dual, label, pairs_at}
use Rattle.order_theory.specs.Codes.{IsBound, marked}
use Rattle.order_theory.specs.Course.{IsErrorOf, IsMoved, IsOnCourse}
use Rattle.order_theory.specs.Errors.{syndrome, weight, right_at, wrong_at}
use Rattle.order_theory.specs.Laws.{VotesCounted}
use Rattle.order_theory.specs.Voting.{SameBelow, votes_at}
use Rattle.order_theory.proofs.Distances.{syn_below}
use Rattle.order_theory.proofs.Theorems.{election_law, step_law, count_law, marked_law, voted_law}
use Rattle.plain_voter.specs.declared.line.PlainLine.{PlainLine}
use Rattle.plain_voter.specs.Lines.{IsTurn, line_of}

-- a line by its parts
line_is : (line : PlainLine) (a c d f : ℕ) → line.label ≡ a → line.pairs ≡ c → line.right ≡ d → line.wrong ≡ f → line ≡ record { label = a; pairs = c; right = d; wrong = f }
line_is line a c d f e1 e2 e3 e4 =
    ap (λ (x : ℕ). record { label = x; pairs = line.pairs; right = line.right; wrong = line.wrong }) e1
    ∙ ap (λ (x : ℕ). record { label = a; pairs = x; right = line.right; wrong = line.wrong }) e2
    ∙ ap (λ (x : ℕ). record { label = a; pairs = c; right = x; wrong = line.wrong }) e3
    ∙ ap (λ (x : ℕ). record { label = a; pairs = c; right = d; wrong = x }) e4

-- a list that has the syndrome v at member k already is moved to it as it stands
moved_nowhere : (b : Basis) (w : List ℕ) (k v : ℕ) → IsSoundBasis b → syndrome (times b) b w k ≡ v → IsMoved (times b) b w k v w
moved_nowhere b w k v h e = record {
  each = λ p l.
      sym (ap (λ (x : ℕ). bit_xor (slice_index w p) (times b x (dual b k p))) (ap (λ (x : ℕ). bit_xor v x) e ∙ xor_self v)
      ∙ ap (λ (x : ℕ). bit_xor (slice_index w p) x) (zero-mul (2 ^ b.bits) (times b) h.sound.field (dual b k p))
      ∙ xor_zero_r (slice_index w p));
}

-- a move at k changes one syndrome alone
pub moved_keeps : (b : Basis) (w w' : List ℕ) (k v : ℕ) → IsSoundBasis b → k < b.n → v < 2 ^ b.bits → IsMoved (times b) b w k v w' → (m : ℕ) → m < b.n → m ≢ k → syndrome (times b) b w' m ≡ syndrome (times b) b w m
moved_keeps b w w' k v h lk symbol moved =
    (step_law (times b) b w w' k (bit_xor v (syndrome (times b) b w k)) h.sound lk
    (xor_below (2 ^ b.bits) (times b) h.sound.field v (syndrome (times b) b w k) symbol (syn_below (times b) b h.sound (λ p. get_or w p 0) k)) moved.each).1

-- at a marked member the list stays on course as it stands
pub course_marked : (b : Basis) (marks : List Bool) (t : ℕ) (y w : List ℕ) (k : ℕ) → IsSoundBasis b → IsWord b.bits b.n y → k < b.n → marked marks k ≡ true → syndrome (times b) b w k ≡ syndrome (times b) b y k
    → IsOnCourse (times b) b marks t y w k → IsOnCourse (times b) b marks t y w (k + 1)
course_marked b marks t y w k h yw lk m kept course = marked_law (times b) b marks t y w w k h.sound yw lk m course (moved_nowhere b w k (syndrome (times b) b y k) h kept)

module _ (b : Basis) (marks : List Bool) (t : ℕ) (y w w' : List ℕ) (k : ℕ) (line : PlainLine) (h : IsSoundBasis b) (ww : IsWord b.bits b.n w) (lk : k < b.n) (turn : IsTurn b w k w' line)
    (bound : IsBound b marks (2 * t + 1)) (free : marked marks k ≡ false) (course : IsOnCourse (times b) b marks t y w k) where
  -- a turn keeps the list on course
  pub course_turned : IsOnCourse (times b) b marks t y w' (k + 1)
  course_turned = voted_law (times b) b marks t (2 * t + 1) y w w' k turn.winner h.sound bound (omega arith) ww lk free course turn.elected turn.moved

  -- its line is that of each error
  pub line_turned : (e : List ℕ) → IsErrorOf (times b) b marks t y e → line ≡ line_of b e k
  line_turned e x =
      let same : SameBelow (times b) b e w k = course.each e x in
      let light : weight e ≤ t = x.light in
      let winner : turn.winner ≡ syndrome (times b) b e k = election_law (times b) b e w k turn.winner h.sound x.is_word ww lk same (omega (arith, bound.at_most k lk free)) turn.elected in
      let counted : VotesCounted (times b) b e w k = count_law (times b) b e w k h.sound x.is_word ww lk same in
      let right : line.right ≡ right_at (times b) b e k = turn.line_right ∙ ap (λ (v : ℕ). votes_at (times b) b w k v) winner ∙ counted.right_ones in
      let wrong : line.wrong ≡ wrong_at (times b) b e k = omega (arith, turn.line_all, counted.all) in
      line_is line (label b k) (pairs_at b k) (right_at (times b) b e k) (wrong_at (times b) b e k) turn.line_label turn.line_pairs right wrong
