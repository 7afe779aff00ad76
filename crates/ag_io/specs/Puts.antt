-- What a sink was given by one or more calls of `put`. The count of faults rises only where a write fails, and no call changes
-- what a sink is sure to take.
-- Wrote         all of these bytes were written, and no write failed
-- WroteSome     a write failed: a front of these bytes was written, not all of them, but as many as the sink is sure to take
-- WroteFront    a front of these bytes was written, and no more is said
-- WroteAllBut   all of these bytes were written but the last ones, which wait
use Rattle.std.specs.Prelude.{ℕ, ◌≡◌, ◌≤◌, ◌++◌, Bool, List}
use Rattle.ag_io.specs.Counts.{Rose}
use Rattle.ag_io.specs.Views.{SinkView, Gives, GivesFront, GivesLess, HasSure}

pub record Wrote (tells : Bool) (before after : SinkView) (bytes : List ℕ) : Type 0 where
  pub gives : Gives tells before after bytes
  pub faults : after.faults ≡ before.faults
  pub sure : after.sure ≡ before.sure

pub record WroteSome (tells : Bool) (before after : SinkView) (bytes : List ℕ) : Type 0 where
  pub gives : GivesFront tells before after bytes
  pub fewer : GivesLess tells before after bytes
  pub enough : HasSure tells before after
  pub rose : Rose before.faults after.faults
  pub counted : before.faults ≤ after.faults
  pub sure : after.sure ≡ before.sure

pub record WroteFront (tells : Bool) (before after : SinkView) (bytes : List ℕ) : Type 0 where
  pub gives : GivesFront tells before after bytes
  pub counted : before.faults ≤ after.faults
  pub sure : after.sure ≡ before.sure

pub record WroteAllBut (tells : Bool) (before after : SinkView) (bytes waits : List ℕ) : Type 0 where
  pub done : List ℕ
  pub wrote : Wrote tells before after done
  pub bytes_are : bytes ≡ done ++ waits
