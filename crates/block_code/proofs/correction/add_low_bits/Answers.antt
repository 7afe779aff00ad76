use Rattle.std.proofs.Common.{rules, ◌≡◌, ◌≢◌, ℕ, ◌*◌, ◌<◌, ◌^◌, ◌%◌, List, length, get_or, slice_index, bit_xor, below_more, get_or-set_same, get_or-set_other, sym, ◌∙◌, ap, arith}
use Rattle.std.proofs.Math.ListN.{set}
use Rattle.std.proofs.lemmas.List.{get_or-map, length-map}
use Rattle.std.proofs.lemmas.Grind.{same_number_lists}
use Rattle.order_theory.specs.Codes.{low_bits, list_sum}
use Rattle.order_theory.proofs.Weights.{length-list_sum, get_or-list_sum}
use Rattle.block_code.proofs.correction.add_low_bits.Goals as goal

pub loop-p-preserved : goal.loop-p-preserved
loop-p-preserved c =
    let p = c.loop-p.p in
    let inv = c.loop-p.invariant in
    let old : List ℕ = c.args.word.now in
    let size : 1 * 2 ^ c.args.bits % 4294967296 ≡ 2 ^ c.args.bits = search rules in
    let low : c.from.result % (1 * 2 ^ c.args.bits % 4294967296) ≡ get_or c.args.bytes.now p 0 % 2 ^ c.args.bits = search rules in
    let v : ℕ = bit_xor (c.from.result % (1 * 2 ^ c.args.bits % 4294967296)) (get_or c.loop-p.word p 0) in
    let within : p < length c.loop-p.word = (let test : p < length old = c.loop-p-test.true in omega (arith, c.loop-p.auto.word)) in record {
      added =
          below_more (λ q. slice_index (set c.loop-p.word p v) q ≡ bit_xor (slice_index c.args.bytes.now q % 2 ^ c.args.bits) (slice_index old q)) p
          (λ q l. let apart : q ≢ p = omega arith in get_or-set_other c.loop-p.word p q v 0 apart ∙ inv.added q l)
          (get_or-set_same c.loop-p.word p v 0 within
          ∙ ap (λ (x : ℕ). bit_xor x (get_or c.loop-p.word p 0)) low
          ∙ ap (λ (x : ℕ). bit_xor (get_or c.args.bytes.now p 0 % 2 ^ c.args.bits) x) (inv.to_come p (omega arith)));
      to_come = λ q l. (let apart : q ≢ p = omega arith in get_or-set_other c.loop-p.word p q v 0 apart ∙ inv.to_come q (omega arith));
    }

pub returns : goal.returns
returns c =
    let bytes : List ℕ = c.args.bytes.now in
    let old : List ℕ = c.args.word.now in
    let low : List ℕ = low_bits c.args.bits bytes in
    let low_long : length low ≡ length bytes = length-map bytes (λ a. a % 2 ^ c.args.bits) in
    let same : length low ≡ length old = low_long ∙ c.requires.same in
    let long : length c.loop-p.word ≡ length old = c.loop-p.auto.word in
    same_number_lists c.loop-p.word (list_sum low old) (long ∙ sym (length-list_sum low old same ∙ same))
    (λ q l. c.loop-p.invariant.added q (omega arith)
    ∙ ap (λ (x : ℕ). bit_xor x (get_or old q 0)) (sym (get_or-map (λ a. a % 2 ^ c.args.bits) bytes q 0 0 (omega arith)))
    ∙ sym (get_or-list_sum low old q same))
