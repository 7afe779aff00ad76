use Rattle.std.proofs.Common.{◌≡◌, ◌-◌, ◌++◌, take, length}
use Rattle.ag_trial.specs.Words.{file_bytes, after_bytes}
use Rattle.ag_trial.proofs.Trial.fill_bytes.Given as goal

abbrev pub invariant-loop-byte : goal.invariant-loop-byte
invariant-loop-byte l = record {
  bytes : take l.byte-index l.bytes ++ file_bytes (length l.fn.bytes - l.byte-index) l.self ≡ file_bytes (length l.fn.bytes) l.fn.self;
  rest : after_bytes (length l.fn.bytes - l.byte-index) l.self ≡ after_bytes (length l.fn.bytes) l.fn.self;
}
