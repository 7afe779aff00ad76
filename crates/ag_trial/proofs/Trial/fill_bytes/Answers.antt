use Rattle.std.proofs.Common.{◌≡◌, ℕ, ◌<◌, length, ◌∙◌, arith}
use Rattle.ag_trial.proofs.Files.{bytes-more, after-more}
use Rattle.ag_trial.proofs.Trial.fill_bytes.Goals as goal

pub loop-byte-preserved : goal.loop-byte-preserved
loop-byte-preserved c =
    let n : ℕ = length c.args.bytes.now in
    let i : ℕ = c.loop-byte.byte-index in
    let room : length c.loop-byte.bytes ≡ length c.args.bytes.now = c.loop-byte.auto.bytes in
    let inside : i < length c.args.bytes.now = c.loop-byte-test.true in
    record {
      bytes = bytes-more c.loop-byte.bytes n i c.byte.result c.loop-byte.self c.byte.new.self (omega arith) inside c.byte.ensures.value c.byte.ensures.rest ∙ c.loop-byte.invariant.bytes;
      rest = after-more n i c.loop-byte.self c.byte.new.self inside c.byte.ensures.rest ∙ c.loop-byte.invariant.rest;
    }
