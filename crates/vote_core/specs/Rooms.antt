-- IsScratch    the lists to write on have the length of a basis
use Rattle.std.specs.Prelude.{◌≡◌, ◌^◌, length}
use Rattle.order_theory.specs.Basis.{Basis}
use Rattle.vote_core.specs.declared.room.Scratch.{Scratch}

pub record IsScratch (b : Basis) (scratch : Scratch) : Type 0 where
  pub row_long : length scratch.row.items ≡ b.n
  pub votes_long : length scratch.votes.items ≡ b.n
  pub tally_long : length scratch.tally.items ≡ 2 ^ b.bits
