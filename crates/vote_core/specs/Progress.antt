-- poll_of       what contracts see of how far a poll has come
-- IsProgress    what holds of it at any time
use Rattle.std.specs.Prelude.{◌≡◌, ◌≤◌, ◌+◌, ◌<◌, ◌^◌, length, take, All}
use Rattle.vote_core.specs.Polls.{PollState}
use Rattle.vote_core.specs.declared.progress.Progress.{Progress}

abbrev pub poll_of : Progress → PollState
poll_of p = record {
  voter = record {
    bits = p.bits;
    modulus = p.modulus;
    n = p.n;
    marks = p.marks.items;
    t = p.t;
    ledger = take p.told p.lines.items;
  };
  list = p.list.items;
  values = p.values.items;
  matrix = p.matrix;
  member = p.member;
  row = p.row;
}

pub record IsProgress (p : Progress) : Type 0 where
  pub matrix_bits : p.matrix.bits ≡ p.bits
  pub matrix_modulus : p.matrix.modulus ≡ p.modulus
  pub matrix_n : p.matrix.n ≡ p.n
  pub most : p.matrix.most ≡ p.t + 1
  pub n_marks : length p.marks.items ≡ p.n
  pub n_list : length p.list.items ≡ p.n
  pub symbols : All (λ x. x < 2 ^ p.bits) p.values.items
  pub n_row : length p.scratch.row.items ≡ p.n
  pub n_votes : length p.scratch.votes.items ≡ p.n
  pub n_tally : length p.scratch.tally.items ≡ 2 ^ p.bits
  pub n_lines : length p.lines.items ≡ p.n
  pub few_lines : p.told ≤ p.n
