-- The last bytes of a text, and a line after others.
use Rattle.std.proofs.Common.{ℕ, Bool, List, [], ◌++◌, Result, Ok, Err, refl, sym}
use Rattle.std.proofs.lemmas.List.{append-nil}
use Rattle.std.specs.Prelude.{MatchResult}
use Rattle.ag_frame.specs.Queues.{OutState}
use Rattle.ag_io.specs.Views.{SinkView}
use Rattle.ag_io.specs.Puts.{Wrote, WroteSome}
use Rattle.ag_io.proofs.Writes.{wrote_more, wrote_some, some_of_longer}
use Rattle.stream_codec.specs.Writing.{bytes_in, last_bytes, EndsFile}
use Rattle.stream_codec.proofs.EndLemmas.{last_front}

-- a front of the last bytes of a file is one of those of the held group
pub some_last : (tells : Bool) (a b : SinkView) (s : OutState) (front : List Bool) → EndsFile s front → WroteSome tells a b (last_bytes s front) → WroteSome tells a b (bytes_in s)
some_last tells a b s front ends w =
    let (rest, e) = last_front s front ends in
    some_of_longer rest (bytes_in s) w e

-- a line after others
pub told_after : {A B : Type 0} {tells : Bool} {a b : SinkView} {xs : List ℕ} (c : SinkView) (ys : List ℕ) (r : Result A B) → Wrote tells a b xs → MatchResult r (λ _. Wrote tells b c ys) (λ _. WroteSome tells b c ys) → MatchResult r (λ _. Wrote tells a c (xs ++ ys)) (λ _. WroteSome tells a c (xs ++ ys))
told_after {A} {B} {tells} {a} {b} {xs} c ys (Ok v) first h = wrote_more (xs ++ ys) first h refl
told_after {A} {B} {tells} {a} {b} {xs} c ys (Err v) first h = wrote_some [] (xs ++ ys) first h (sym (append-nil (xs ++ ys)))
