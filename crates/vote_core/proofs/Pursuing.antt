-- A poll on its way: what each step keeps, and what the end says
use Rattle.std.proofs.Common.{ℕ, zero, suc, ◌≡◌, ◌+◌, ◌-◌, ◌*◌, ◌<◌, ◌≤◌, Bool, true, false, List, [], ◌∷◌, ◌++◌, length, All, sym, ◌∙◌, ap, subst, refl, inl, inr, arith}
use Rattle.std.proofs.lemmas.Bool.{both_ways, cases_lt}
use Rattle.std.proofs.lemmas.Nat.{mul-add-lt}
use Rattle.std.proofs.lemmas.List.{length-append}
use Rattle.order_theory.specs.Basis.{Basis, IsSoundBasis, IsWord, times, rank_at, pairs_at}
use Rattle.order_theory.specs.Errors.{syndrome, weight, right_at, wrong_at}
use Rattle.order_theory.specs.Codes.{IsBound, marked}
use Rattle.order_theory.specs.Course.{IsErrorOf}
use Rattle.order_theory.specs.Voting.{SameBelow}
use Rattle.order_theory.proofs.Errors.{error_agrees, error_from}
use Rattle.product_classes.specs.Table.{ClassTable}
use Rattle.product_classes.specs.Values.{AreValues}
use Rattle.vote_matrix.specs.Elimination.{Elimination, IsEliminationOf, rank_of}
use Rattle.vote_core.specs.declared.ledger.VoteLine.{VoteLine}
use Rattle.vote_core.specs.declared.voter.Found.{Found}
use Rattle.vote_core.specs.declared.voter.Found.TheVariants.{Error, Far}
use Rattle.vote_core.specs.declared.poll.Step.{Step}
use Rattle.vote_core.specs.declared.poll.Step.TheVariants.{Row, Elected, Ended}
use Rattle.vote_core.specs.Ledgers.{line_of, lines_below, ledger_of}
use Rattle.vote_core.specs.Polls.{PollState, CanPursue, Pursues, Says, Comes, GoesOn, HasRow, steps_left, without_ledger}
use Rattle.vote_core.specs.Reading.{IsRead}
use Rattle.vote_core.specs.Turns.{IsTurn}
use Rattle.vote_core.specs.Voters.{VoterState, Fits}
use Rattle.vote_core.proofs.Courses.{same_lists, moved_keeps, turn_right, turn_line}
use Rattle.vote_core.proofs.Lines.{lines_same, lines_more, lines_won}
use Rattle.vote_core.proofs.Excluding.{pivot_law, line_law}
use Rattle.vote_core.proofs.Settled.{settled_later}

-- checked members have no lines
lines_checked : (b : Basis) (marks : List Bool) (e : List ℕ) (k d : ℕ) → ((q : ℕ) → k ≤ q → q < k + d → marked marks q ≡ true) → lines_below b marks e (k + d) ≡ lines_below b marks e k
lines_checked b marks e k zero all = let z : k + 0 ≡ k = omega arith in ap (λ (j : ℕ). lines_below b marks e j) z
lines_checked b marks e k (suc d) all =
    let s : k + suc d ≡ k + d + 1 = omega arith in
    ap (λ (j : ℕ). lines_below b marks e j) s
    ∙ lines_same b marks e (k + d) (all (k + d) (omega arith) (omega arith))
    ∙ lines_checked b marks e k d (λ q l u. all q l (omega arith))

pub lines_to : (b : Basis) (marks : List Bool) (e : List ℕ) (k next : ℕ) → k ≤ next → ((q : ℕ) → k ≤ q → q < next → marked marks q ≡ true) → lines_below b marks e next ≡ lines_below b marks e k
lines_to b marks e k next l all =
    let s : next ≡ k + (next - k) = omega arith in
    ap (λ (j : ℕ). lines_below b marks e j) s ∙ lines_checked b marks e k (next - k) (λ q u w. all q u (omega arith))

steps-row : (n member row row' : ℕ) → row < n → row < row' → (n - member) * (n + 2) + (n - row') < (n - member) * (n + 2) + (n - row)
steps-row n member row row' l u = omega arith

steps-member : (n member next row : ℕ) → member < n → member < next → (n - next) * (n + 2) + (n - 0) < (n - member) * (n + 2) + (n - row)
steps-member n member next row l u = go (n - next) (n - member) (omega arith)
  where
    go : (x y : ℕ) → x < y → x * (n + 2) + (n - 0) < y * (n + 2) + (n - row)
    go x y k = let m : x * (n + 2) + (n + 1) < (n + 2) * y = mul-add-lt x (n + 2) (n + 1) y k (omega arith) in omega arith

module _ (b : Basis) (table : ClassTable) (v : VoterState) (y : List ℕ) (p : PollState) (h : IsSoundBasis b) (u : Pursues b table v y p) where
  marks_are : p.voter.marks ≡ v.marks
  marks_are = ap (λ (x : VoterState). x.marks) u.numbers

  t_is : p.voter.t ≡ v.t
  t_is = ap (λ (x : VoterState). x.t) u.numbers

  n_is : p.voter.n ≡ b.n
  n_is = u.ready.can.fits.n

  pub bound : IsBound b v.marks (2 * v.t + 1)
  bound = subst (λ (x : VoterState). IsBound b x.marks (2 * x.t + 1)) u.numbers u.ready.can.fits.radius

  free_here : p.member < b.n → marked v.marks p.member ≡ false
  free_here l = subst (λ (ms : List Bool). marked ms p.member ≡ false) marks_are (u.ready.free l)

  -- a row is settled
  pub row_settled : (m : Elimination) (i row : ℕ) → i ≡ p.row → p.member < b.n → i < b.n → i < row → row ≤ b.n → IsRead b p.list m (rank_at b p.member) row → m.count ≤ p.voter.t
      → HasRow b table v y p (record p { matrix = m; row = row }) i
  unfolding steps_left
  row_settled m i row e lk li less low read few = record {
    goes_on = record {
      pursues = record {
        ready = record {
          can = record { fits = u.ready.can.fits; classes = u.ready.can.classes; room = u.ready.can.room };
          word = u.ready.word;
          inside = u.ready.inside;
          row_inside = low;
          free = u.ready.free;
          values = u.ready.values;
          read = λ l. read;
          few_pivots = few;
          few_lines = u.ready.few_lines;
        };
        received = u.received;
        numbers = u.numbers;
        kept = u.kept;
        course = u.course;
        ledger = u.ledger;
      };
      fewer = steps-row p.voter.n p.member p.row row (let n : p.voter.n ≡ b.n = n_is in omega arith) (omega arith);
    };
    inside = li;
  }

  -- more pivots than t
  pub none_by_pivots : (m : Elimination) (i : ℕ) → p.member < b.n → IsRead b p.list m (rank_at b p.member) i → ((S : ℕ → ℕ → ℕ) → IsEliminationOf S m → m.count ≤ rank_of m S m.n m.n) → p.voter.t < m.count
      → (e : List ℕ) → IsErrorOf (times b) b v.marks v.t y e → ⊥
  none_by_pivots m i lk read few more e x =
      let light : weight e ≤ v.t = x.light in
      let most : m.count ≤ weight e = pivot_law b e p.list p.member i m h x.is_word u.ready.word lk (u.course e x) read few in
      let t : p.voter.t ≡ v.t = t_is in
      omega arith

  -- a line of no error
  pub none_by_line : (w : List ℕ) (line : VoteLine) → p.member < b.n → IsTurn b p.list p.member w line → line.right + 2 * p.voter.t < line.pairs + line.wrong
      → (e : List ℕ) → IsErrorOf (times b) b v.marks v.t y e → ⊥
  none_by_line w line lk turn more e x =
      let is : line ≡ line_of b e p.member = turn_line b v.marks v.t y e p.list w p.member line h u.ready.word lk turn bound (free_here lk) x (u.course e x) in
      let light : weight e ≤ v.t = x.light in
      let t : p.voter.t ≡ v.t = t_is in
      let pairs : line.pairs ≡ pairs_at b p.member = ap (λ (l : VoteLine). l.pairs) is in
      let right : line.right ≡ right_at (times b) b e p.member = ap (λ (l : VoteLine). l.right) is in
      let wrong : line.wrong ≡ wrong_at (times b) b e p.member = ap (λ (l : VoteLine). l.wrong) is in
      let law : pairs_at b p.member + wrong_at (times b) b e p.member ≤ right_at (times b) b e p.member + 2 * weight e = line_law b e p.member h x.is_word lk in
      omega arith

  -- a list that is no error, where all members are done
  pub none_by_weight : p.member ≡ b.n → p.voter.t < weight p.list → (e : List ℕ) → IsErrorOf (times b) b v.marks v.t y e → ⊥
  none_by_weight end more e x =
      let same : p.list ≡ e = same_lists b v.marks v.t y h u.received e p.list p.member x u.ready.word end (u.course e x) in
      let w : weight p.list ≡ weight e = ap weight same in
      let light : weight e ≤ v.t = x.light in
      let t : p.voter.t ≡ v.t = t_is in
      omega arith

  pub says_far : (p' : PollState) → All (λ x. x ≡ 0) p'.list → p'.voter ≡ without_ledger p.voter → ((e : List ℕ) → IsErrorOf (times b) b v.marks v.t y e → ⊥) → Says b v y Far p'
  says_far p' zeros told none = record {
    answer = record { none = none; zeros = zeros };
    told = record { kept = told ∙ u.numbers };
  }

  pub refused : (p' : PollState) (s : Step) → s ≡ Ended Far → All (λ x. x ≡ 0) p'.list → p'.voter ≡ without_ledger p.voter → ((e : List ℕ) → IsErrorOf (times b) b v.marks v.t y e → ⊥) → Comes b table v y p p' s
  refused p' s e zeros told none = subst (λ (s : Step). Comes b table v y p p' s) (sym e) (says_far p' zeros told none)

  pub says_error : p.member ≡ b.n → weight p.list ≤ p.voter.t → Says b v y Error p
  says_error end light =
      let t : p.voter.t ≡ v.t = t_is in
      let x : IsErrorOf (times b) b v.marks v.t y p.list = error_from b v.marks v.t y h u.received p.list u.ready.word (omega arith) u.kept in
      let lines : p.voter.ledger ≡ ledger_of b v.marks p.list = u.ledger p.list x ∙ ap (λ (j : ℕ). lines_below b v.marks p.list j) end in
      record {
        answer = record {
          is_error = x;
          only = λ e z. sym (same_lists b v.marks v.t y h u.received e p.list p.member z u.ready.word end (u.course e z));
        };
        told = record {
          kept = ap (λ (ls : List VoteLine). record p.voter { ledger = ls }) lines ∙ ap (λ (q : VoterState). record q { ledger = ledger_of b v.marks p.list }) u.numbers;
          majority = subst (λ (ls : List VoteLine). All (λ line. line.wrong < line.right) ls) (sym lines) (lines_won b v.marks v.t p.list b.n h u.ready.word bound x.light (omega arith));
        };
      }

  -- the next member was voted on
  pub elected : (w values : List ℕ) (m : Elimination) (line : VoteLine) (next : ℕ) (ledger : List VoteLine) → p.member < b.n → IsTurn b p.list p.member w line → IsWord b.bits b.n w
      → next ≤ b.n → p.member + 1 ≤ next → (next < b.n → marked p.voter.marks next ≡ false) → ((q : ℕ) → p.member + 1 ≤ q → q < next → marked p.voter.marks q ≡ true)
      → (next < b.n → AreValues b table w values (rank_at b next)) → IsRead b w m (rank_at b p.member + 1) 0 → m.count ≡ p.matrix.count → length values ≡ length p.values → ledger ≡ p.voter.ledger ++ line ∷ []
      → GoesOn b table v y p (record { voter = record p.voter { ledger = ledger }; list = w; values = values; matrix = m; member = next; row = 0 })
  unfolding steps_left
  elected w values m line next ledger lk turn ww inside later free between are read same_count same_room told =
      let checked : (q : ℕ) → p.member + 1 ≤ q → q < next → marked v.marks q ≡ true = λ q l z. subst (λ (ms : List Bool). marked ms q ≡ true) marks_are (between q l z) in
      let kept : (q : ℕ) → q < b.n → marked v.marks q ≡ true → syndrome (times b) b w q ≡ syndrome (times b) b y q = λ q l t.
      moved_keeps b p.list w p.member turn.winner h lk turn.elected.symbol turn.moved q l (λ e. both_ways (marked v.marks p.member) (free_here lk) (ap (λ (r : ℕ). marked v.marks r) (sym e) ∙ t)) ∙ u.kept q l t in
      let right : (e : List ℕ) → IsErrorOf (times b) b v.marks v.t y e → SameBelow (times b) b e w (p.member + 1) = λ e x.
      turn_right b v.marks v.t y e p.list w p.member line h u.ready.word lk turn bound (free_here lk) x (u.course e x) in
      record {
        pursues = record {
          ready = record {
            can = record {
              fits = record { bits = u.ready.can.fits.bits; modulus = u.ready.can.fits.modulus; n = u.ready.can.fits.n; some_free = u.ready.can.fits.some_free; radius = u.ready.can.fits.radius };
              classes = u.ready.can.classes;
              room = let r : table.size ≤ length p.values = u.ready.can.room in omega arith;
            };
            word = ww;
            inside = inside;
            row_inside = omega arith;
            free = free;
            values = are;
            read = λ l. record {
              settled = let up : rank_at b p.member < rank_at b next = h.sound.shape.ranks_rise p.member next (omega arith) l in settled_later b m (rank_at b p.member + 1) (rank_at b next) 0 (omega arith) read.settled;
              matrix = read.matrix;
            };
            few_pivots = let f : p.matrix.count ≤ p.voter.t = u.ready.few_pivots in omega arith;
            few_lines = let f : length p.voter.ledger ≤ p.member = u.ready.few_lines in let g : length ledger ≡ length p.voter.ledger + 1 = ap length told ∙ length-append p.voter.ledger (line ∷ []) in omega arith;
          };
          received = u.received;
          numbers = u.numbers;
          kept = kept;
          course = λ e x. record {
            each = λ q l. elim (cases_lt q (p.member + 1)) [
              | inl z ↦ (right e x).each q z
              | inr z ↦ sym (error_agrees b v.marks v.t y h u.received e x q (omega arith) (checked q z l)) ∙ sym (kept q (omega arith) (checked q z l))
            ];
          };
          ledger = λ e x.
              told
              ∙ ap (λ (ls : List VoteLine). ls ++ line ∷ []) (u.ledger e x)
              ∙ ap (λ (l : VoteLine). lines_below b v.marks e p.member ++ l ∷ []) (turn_line b v.marks v.t y e p.list w p.member line h u.ready.word lk turn bound (free_here lk) x (u.course e x))
              ∙ sym (lines_more b v.marks e p.member (free_here lk))
              ∙ sym (lines_to b v.marks e (p.member + 1) next later checked);
        };
        fewer = let n : p.voter.n ≡ b.n = n_is in steps-member p.voter.n p.member next p.row (omega arith) (omega arith);
      }

-- a poll that begins
pub pursues_start : (b : Basis) (table : ClassTable) (v : VoterState) (y : List ℕ) (p : PollState) → IsSoundBasis b → CanPursue b table p → p.voter ≡ without_ledger v → p.list ≡ y → IsWord b.bits b.n y → p.member ≤ b.n → p.row ≡ 0
    → (p.member < b.n → marked p.voter.marks p.member ≡ false) → ((q : ℕ) → q < p.member → marked p.voter.marks q ≡ true) → AreValues b table y p.values (rank_at b p.member) → IsRead b y p.matrix (rank_at b p.member) 0 → p.matrix.count ≡ 0
    → Pursues b table v y p
pursues_start b table v y p h can is list yw inside row free checked values read none =
    let marks : p.voter.marks ≡ v.marks = ap (λ (x : VoterState). x.marks) is in
    let lines : p.voter.ledger ≡ [] = ap (λ (x : VoterState). x.ledger) is in
    let all : (q : ℕ) → q < p.member → marked v.marks q ≡ true = λ q l. subst (λ (ms : List Bool). marked ms q ≡ true) marks (checked q l) in
    record {
      ready = record {
        can = can;
        word = subst (λ (w : List ℕ). IsWord b.bits b.n w) (sym list) yw;
        inside = inside;
        row_inside = omega arith;
        free = free;
        values = λ l. subst (λ (w : List ℕ). AreValues b table w p.values (rank_at b p.member)) (sym list) values;
        read = λ l. subst (λ (w : List ℕ). IsRead b w p.matrix (rank_at b p.member) p.row) (sym list) (subst (λ (r : ℕ). IsRead b y p.matrix (rank_at b p.member) r) (sym row) read);
        few_pivots = omega arith;
        few_lines = let z : length p.voter.ledger ≡ 0 = ap length lines in omega arith;
      };
      received = yw;
      numbers = ap without_ledger is;
      kept = λ q l t. ap (λ (w : List ℕ). syndrome (times b) b w q) list;
      course = λ e x. record {
        each = λ q l. sym (error_agrees b v.marks v.t y h yw e x q (omega arith) (all q l)) ∙ ap (λ (w : List ℕ). syndrome (times b) b w q) (sym list);
      };
      ledger = λ e x. lines ∙ sym (lines_to b v.marks e 0 p.member (omega arith) (λ q l u. all q u));
    }

-- a step that does not end goes on
pub goes_on : (b : Basis) (table : ClassTable) (v : VoterState) (y : List ℕ) (p p' : PollState) (s : Step) → ((found : Found) → s ≡ Ended found → ⊥) → Comes b table v y p p' s → GoesOn b table v y p p'
goes_on b table v y p p' (Row i) d x = x.goes_on
goes_on b table v y p p' Elected d x = x
goes_on b table v y p p' (Ended found) d x = absurd (d found refl)

-- a voter fits whatever its ledger is
pub fits_anew : (v : VoterState) (b : Basis) → Fits v b → Fits (without_ledger v) b
fits_anew v b f = record { bits = f.bits; modulus = f.modulus; n = f.n; some_free = f.some_free; radius = f.radius }
