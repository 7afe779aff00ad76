-- state_of    what contracts see of the fields of a voter
-- IsKept      what the fields of a voter keep: its classes have room for those of any basis that it fits
use Rattle.std.specs.Prelude.{◌≤◌, length}
use Rattle.product_classes.specs.Table.{IsRoomFor}
use Rattle.vote_core.specs.Voters.{VoterState}
use Rattle.vote_core.specs.declared.voter.Voter.TheInside.{Inside}

abbrev pub state_of : Inside → VoterState
state_of v = v.poll.voter

pub record IsKept (v : Inside) : Type 0 where
  pub room : IsRoomFor v.poll.voter.n v.classes
  pub long : v.classes.size ≤ length v.poll.values
