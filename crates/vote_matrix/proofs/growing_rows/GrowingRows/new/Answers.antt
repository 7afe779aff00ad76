use Rattle.std.proofs.Common.{◌≡◌, ◌+◌, ◌*◌, ◌/◌, rules, refl, arith}
use Rattle.std.specs.Prelude.{replicate, None}
use Rattle.vote_matrix.specs.Slots.{slots}
use Rattle.vote_matrix.proofs.Slots.{slots_none, lows_none}
use Rattle.vote_matrix.proofs.Empty.{state_empty, is_empty, zeros_fit, zeros_below}
use Rattle.vote_matrix.proofs.growing_rows.GrowingRows.new.Goals as goal

pub invariant_of-result : goal.invariant_of-result
invariant_of-result c =
    let n = c.args.n in
    let pivot : c.in_ok-vec-2.field-0.items ≡ replicate n None = c.in_ok-vec-2.ensures.items_if_clones_equal (search rules) in
    let number : c.in_ok-vec-3.field-0.items ≡ replicate n None = c.in_ok-vec-3.ensures.items_if_clones_equal (search rules) in
    record {
      state =
          state_empty
          (record {
            bits = c.args.bits;
            modulus = c.args.modulus;
            n = n;
            most = c.args.most;
            count = 0;
            stride = (n + 15) / 16 * 16;
            known = c.in_ok-vec.field-0.items;
            pivots = slots n c.in_ok-vec-2.field-0.items;
            rows = c.in_ok-vec-4.field-0.items;
            spans = c.in_ok-vec-7.field-0.items;
            reduced = c.in_ok-vec-6.field-0.items;
            factors = c.in_ok-vec-8.field-0.items;
          }) (slots n c.in_ok-vec-3.field-0.items) c.in_ok-vec-5.field-0.items
          c.requires.field c.requires.some c.requires.small c.requires.most refl (omega arith) (omega (arith, c.requires.small))
          (c.in_ok-vec.ensures.items_if_clones_equal (search rules))
          (slots_none n n c.in_ok-vec-2.field-0.items pivot) (slots_none n n c.in_ok-vec-3.field-0.items number)
          (c.in_ok-vec-7.ensures.items_if_clones_equal (search rules))
          (zeros_fit c.args.most c.in_ok-vec-4.field-0.items (c.in_ok-vec-4.ensures.items_if_clones_equal (search rules)))
          (zeros_fit c.args.most c.in_ok-vec-5.field-0.items (c.in_ok-vec-5.ensures.items_if_clones_equal (search rules)))
          (zeros_fit (c.args.most * ((n + 15) / 16 * 16)) c.in_ok-vec-6.field-0.items (c.in_ok-vec-6.ensures.items_if_clones_equal (search rules)))
          (zeros_fit (n * c.args.most) c.in_ok-vec-8.field-0.items (c.in_ok-vec-8.ensures.items_if_clones_equal (search rules)))
          (zeros_below c.args.bits c.args.most c.in_ok-vec-5.field-0.items (c.in_ok-vec-5.ensures.items_if_clones_equal (search rules)))
          (zeros_below c.args.bits (c.args.most * ((n + 15) / 16 * 16)) c.in_ok-vec-6.field-0.items (c.in_ok-vec-6.ensures.items_if_clones_equal (search rules)))
          (zeros_below c.args.bits (n * c.args.most) c.in_ok-vec-8.field-0.items (c.in_ok-vec-8.ensures.items_if_clones_equal (search rules)));
      pivots_low = lows_none n n c.in_ok-vec-2.field-0.items pivot;
      numbers_low = lows_none n n c.in_ok-vec-3.field-0.items number;
    }

pub returns : goal.returns
returns c =
    is_empty c.args.bits c.args.modulus c.args.n c.args.most
    (record {
      bits = c.args.bits;
      modulus = c.args.modulus;
      n = c.args.n;
      most = c.args.most;
      count = 0;
      stride = (c.args.n + 15) / 16 * 16;
      known = c.in_ok-vec.field-0.items;
      pivots = slots c.args.n c.in_ok-vec-2.field-0.items;
      rows = c.in_ok-vec-4.field-0.items;
      spans = c.in_ok-vec-7.field-0.items;
      reduced = c.in_ok-vec-6.field-0.items;
      factors = c.in_ok-vec-8.field-0.items;
    }) refl refl refl refl (c.in_ok-vec.ensures.items_if_clones_equal (search rules)) refl
