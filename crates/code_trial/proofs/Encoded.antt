-- A stream encoded in memory
use Rattle.std.proofs.Common.{ℕ, ◌+◌, ◌<◌, ◌≤◌, ◌≡◌, IsTrue, List, [], length, ap, subst, ◌∙◌, arith, inl, inr, length-append, Err}
use Rattle.ag_io.specs.Counts.{Rose}
use Rattle.stored_form.specs.Form.{IsSound}
use Rattle.stored_form.specs.Frame.{image}
use Rattle.ag_io.specs.Views.{GaveFront}
use Rattle.stream_codec.specs.Encoded.{Encode, stored, EncodedAs}
use Rattle.stream_codec.specs.declared.encode.EncodeFault.{EncodeFault}
use Rattle.stream_codec.specs.declared.encode.EncodeFault.TheVariants.{InputFault, OutFault, TooLong}
use Rattle.code_trial.proofs.Bounds.{image_front}

-- a count that stays 0
pub never_rose : Rose 0 0 → ⊥
never_rose (inl l) = omega arith
never_rose (inr e) = omega arith

-- what was given of some bytes, from nothing, is no longer than they
pub part_short : (given whole : List ℕ) → GaveFront [] given whole → length given ≤ length whole
part_short given whole gave =
    let a : length given ≡ length gave.front = ap length gave.after_is in
    let b : length whole ≡ length gave.front + length gave.rest = ap length gave.bytes_are ∙ length-append gave.front gave.rest in
    omega arith

-- a call over memory: nothing was given before, the source does not fail, and there is room for the image
pub record IsStored (e : Encode) : Type 0 where
  pub source_tells : IsTrue e.source_tells
  pub out_tells : IsTrue e.out_tells
  pub sound : IsSound e.form
  pub given : e.out.given ≡ []
  pub source_before : e.source.faults ≡ 0
  pub source_after : e.source_after.faults ≡ 0
  pub short : length e.source.left ≤ e.limit
  pub room : length (image e.form e.source.left) < e.out.sure

pub encode_sure : (e : Encode) (fault : EncodeFault) → EncodedAs e (Err fault) → IsStored e → ⊥
encode_sure e InputFault enc m = never_rose (rw (m.source_before, m.source_after) at enc.fault.1)
encode_sure e (TooLong count) enc m =
    let x = stored e in
    let p = enc.told m.source_tells in
    let parts : length e.source.left ≡ length x + length e.source_after.left = ap length p.left ∙ length-append x e.source_after.left in
    omega (arith, p.count_is, p.passes, m.short)
encode_sure e OutFault enc m =
    let x = stored e in
    let w = enc.told m.source_tells in
    let parts : length e.source.left ≡ length x + length e.source_after.left = ap length w.left ∙ length-append x e.source_after.left in
    let part : length e.out_after.given ≤ length (image e.form x) =
    part_short e.out_after.given (image e.form x) (subst (λ (b : List ℕ). GaveFront b e.out_after.given (image e.form x)) m.given (w.out m.out_tells)) in
    let front : length (image e.form x) ≤ length (image e.form e.source.left) = image_front e.form x e.source.left m.sound (omega arith) in
    let enough : e.out.sure ≤ length e.out_after.given = enc.fault.1 m.out_tells in
    omega (arith, m.room)
