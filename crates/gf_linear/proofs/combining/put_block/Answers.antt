use Rattle.std.proofs.Common.{ℕ, ◌≡◌, ◌+◌, ◌<◌, ◌≤◌, arith, slice_index}
use Rattle.gf_linear.proofs.Combinations.{lanes_columns, columns_grow}
use Rattle.gf_linear.proofs.combining.put_block.Goals as goal

pub returns-clause-value : goal.returns-clause-value
returns-clause-value c f h1 h2 h3 h4 q lo hi =
    let at = c.args.at in
    let first : (p : ℕ) → at ≤ p → p < at + 32 → slice_index c.put_lanes.new.sum p ≡ f p = lanes_columns at f c.args.block.first c.put_lanes.new.sum h1 c.put_lanes.ensures.here in
    let second : (p : ℕ) → at ≤ p → p < at + 32 + 32 → slice_index c.put_lanes-2.new.sum p ≡ f p =
    columns_grow at (at + 32) f c.put_lanes.new.sum c.put_lanes-2.new.sum c.args.block.second first h2 c.put_lanes-2.ensures.here c.put_lanes-2.ensures.before in
    let third : (p : ℕ) → at ≤ p → p < at + 64 + 32 → slice_index c.put_lanes-3.new.sum p ≡ f p =
    columns_grow at (at + 64) f c.put_lanes-2.new.sum c.put_lanes-3.new.sum c.args.block.third (λ p a l. second p a (omega arith)) h3 c.put_lanes-3.ensures.here c.put_lanes-3.ensures.before in
    columns_grow at (at + 96) f c.put_lanes-3.new.sum c.put_lanes-4.new.sum c.args.block.fourth (λ p a l. third p a (omega arith)) h4 c.put_lanes-4.ensures.here c.put_lanes-4.ensures.before q lo (omega arith)
