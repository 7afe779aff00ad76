use Rattle.std.proofs.Common.{◌*◌, ◌/◌, ap₂, arith, ◌≡◌, ℕ}
use Rattle.ag_frame.specs.Layouts.{bits_in_group, bytes_in_group}
use Rattle.code_trial.proofs.Bounds.{file_fits}
use Rattle.code_trial.proofs.back.file_room.Goals as goal

pub overflow_mul-result : goal.overflow_mul-result
overflow_mul-result c =
    let e : c.args.bytes / c.group_bytes.result * c.group_bits.result ≡ c.args.bytes / bytes_in_group c.args.layout.now * bits_in_group c.args.layout.now =
    ap₂ (λ (g b : ℕ). c.args.bytes / g * b) c.group_bytes.ensures c.group_bits.ensures in
    omega (arith, file_fits c.args.layout.now c.args.bytes c.requires.layout c.requires.short)
