-- What a vote may refuse by
use Rattle.std.proofs.Common.{◌+◌, ◌*◌, ◌^◌, ◌≤◌, sym, arith}
use Rattle.gf_theory.specs.Field.{gf_mul}
use Rattle.linear_theory.specs.Linear.{rank}
use Rattle.order_theory.specs.Basis.{times, pairs_at}
use Rattle.order_theory.specs.Errors.{entry, part_rank, weight, right_at, wrong_at, pivots_at}
use Rattle.order_theory.specs.Laws.{VotesOn}
use Rattle.order_theory.proofs.Theorems.{rank_law, majority_law}
use Rattle.vote_matrix.specs.Elimination.{IsEliminationOf}
use Rattle.vote_core.specs.RefusalLaws.{PivotLaw, LineLaw}
use Rattle.vote_core.proofs.Settled.{elimination_moved}
use Rattle.vote_core.proofs.RowVoting.{in_field}

pub pivot_law : PivotLaw
pivot_law b e w k i m h ew ww lk same read few =
    let of_error : IsEliminationOf (entry (times b) b e) m =
    elimination_moved b w e m k i h ww ew lk (record { each = λ q l. sym (same.each q l) }) read.settled read.matrix in
    let most : m.count ≤ rank (2 ^ m.bits) (gf_mul m.bits m.modulus) m.n (entry (times b) b e) m.n = few (entry (times b) b e) of_error in
    let here : m.count ≤ part_rank (times b) b e m.n m.n =
    in_field b m read.settled.bits read.settled.modulus (λ size mul. m.count ≤ rank size mul m.n (entry (times b) b e) m.n) most in
    let light : part_rank (times b) b e m.n m.n ≤ weight e = (rank_law (times b) b e h.sound ew).at_most_weight m.n m.n in
    omega arith

pub line_law : LineLaw
line_law b e k h ew lk =
    let votes : VotesOn (times b) b e k = majority_law (times b) b e k h.sound ew lk in
    let known : pairs_at b k ≤ right_at (times b) b e k + wrong_at (times b) b e k + 2 * pivots_at (times b) b e k = votes.pairs_bound in
    let few : pivots_at (times b) b e k + wrong_at (times b) b e k ≤ weight e = votes.weight_bound in
    omega arith
