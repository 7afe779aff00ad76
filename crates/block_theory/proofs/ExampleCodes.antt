-- The examples, by computation.
use Rattle.std.proofs.Common.{refl}
use Rattle.gf_theory.specs.Polynomial.{clmul, clmul_steps}
use Rattle.gf_theory.specs.Field.{gf_mul, gf_rem, rem_steps, reduce}
use Rattle.linear_theory.specs.Linear.{in_span}
use Rattle.block_theory.specs.Checks.{is_message_place}
use Rattle.block_theory.specs.Blocks.{is_in_code, codewords, has_message, word_of, near_of}
use Rattle.block_theory.specs.Examples.{RepeatedCode, SumZeroCode, WeightedCode}

pub repeated_code : RepeatedCode
unfolding clmul clmul_steps gf_mul gf_rem rem_steps reduce in_span is_message_place is_in_code codewords has_message word_of near_of
repeated_code = record { places = refl; word = refl; near_of_one_change = refl; near_of_high_bits = refl; near_of_two_high_bits = refl; near_of_three = refl }

pub sum_zero_code : SumZeroCode
unfolding clmul clmul_steps gf_mul gf_rem rem_steps reduce in_span is_message_place is_in_code codewords has_message word_of near_of
sum_zero_code = record { places = refl; word = refl; near_of_itself = refl; near_of_other = refl }

pub weighted_code : WeightedCode
unfolding clmul clmul_steps gf_mul gf_rem rem_steps reduce in_span is_message_place is_in_code codewords has_message word_of near_of
weighted_code = record { places = refl; word_of_one = refl; word_of_two = refl }
