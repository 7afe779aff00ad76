use Rattle.std.proofs.Common.{ℕ, ◌≡◌, ◌+◌, ◌-◌, ◌*◌, ◌/◌, ◌%◌, ◌^◌, ◌<◌, ◌≤◌, arith}
use Rattle.std.proofs.Math.Nat.{pow-le-pow_right}
use Rattle.std.proofs.lemmas.Nat.{one_shl}
use Rattle.ag_frame.proofs.Windows.{paste_below, paste_bits}
use Rattle.ag_frame.proofs.packed.paste.Goals as goal

-- what is written fits the window, and so 16 bits
small : (w size from width symbol source : ℕ) → width ≤ 8 → size ≤ 16 → from + width ≤ size → w < 2 ^ size → source ≡ symbol →
    (w / 2 ^ (size - from - width + width) * (1 * 2 ^ width % 4294967296) + source % (1 * 2 ^ width % 4294967296)) * (1 * 2 ^ (size - from - width) % 4294967296) + w % (1 * 2 ^ (size - from - width) % 4294967296) < 2 ^ size
small w size from width symbol source few short inside below is =
    paste_below w size from width (size - from - width) source (1 * 2 ^ (size - from - width) % 4294967296) (1 * 2 ^ width % 4294967296) (omega arith) (one_shl (size - from - width) 32 (omega arith)) (one_shl width 32 (omega arith)) below

pub overflow_mul-result-2 : goal.overflow_mul-result-2
overflow_mul-result-2 c =
    let most : 2 ^ c.args.size ≤ 2 ^ 16 = pow-le-pow_right (omega arith) c.requires.size in
    omega (arith, small c.args.window c.args.size c.args.from c.args.width c.args.symbol c.from.result c.requires.width c.requires.size c.requires.inside c.requires.window c.from.ensures)

pub overflow_add-result-2 : goal.overflow_add-result-2
overflow_add-result-2 c =
    let most : 2 ^ c.args.size ≤ 2 ^ 16 = pow-le-pow_right (omega arith) c.requires.size in
    omega (arith, small c.args.window c.args.size c.args.from c.args.width c.args.symbol c.from.result c.requires.width c.requires.size c.requires.inside c.requires.window c.from.ensures)

pub returns-clause-fits : goal.returns-clause-fits
returns-clause-fits c = small c.args.window c.args.size c.args.from c.args.width c.args.symbol c.from.result c.requires.width c.requires.size c.requires.inside c.requires.window c.from.ensures

pub returns-clause-bits : goal.returns-clause-bits
returns-clause-bits c =
    let low : ℕ = c.args.size - c.args.from - c.args.width in
    let parts : c.args.size ≡ c.args.from + (c.args.width + low) = omega arith in
    rw c.from.ensures (paste_bits c.args.window c.args.size c.args.from c.args.width low c.args.symbol (1 * 2 ^ low % 4294967296) (1 * 2 ^ c.args.width % 4294967296) parts (one_shl low 32 (omega arith)) (one_shl c.args.width 32 (omega arith)))
