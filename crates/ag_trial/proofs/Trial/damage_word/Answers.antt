use Rattle.std.proofs.Common.{Bool, true, false, ◌≡◌, ℕ, ◌+◌, ◌-◌, ◌*◌, ◌%◌, ◌<◌, ◌≤◌, ◌^◌, List, length, get_or, ◌∙◌, ap, ap₂, arith, bit_xor}
use Rattle.std.proofs.Math.ListN.{set}
use Rattle.std.proofs.Math.Nat.{pow-le-pow_right}
use Rattle.rand_pcg.specs.Lcg.{Lcg}
use Rattle.std.proofs.lemmas.Nat.{xor_lt}
use Rattle.stored_form.specs.Symbols.{symbol_values}
use Rattle.stored_form.proofs.GroupLemmas.{length-block_at}
use Rattle.ag_frame.specs.Layouts.{symbols_of_group, fill_of_group}
use Rattle.ag_frame.proofs.PackedSymbols.{length-stored_symbols}
use Rattle.ag_trial.specs.Words.{drawn, after_draw}
use Rattle.ag_trial.specs.Damage.{damaged}
use Rattle.ag_trial.specs.Groups.{word_of_group}
use Rattle.ag_trial.proofs.Blocks.{block_at-set_other, place_below}
use Rattle.ag_trial.proofs.Steps.{damaged-end}
use Rattle.ag_trial.proofs.Writes.{write-changed, write-same}
use Rattle.ag_trial.proofs.Trial.damage_word.Goals as goal
use Rattle.ag_trial.proofs.Trial.damage_word.Goals.{then-draw-left, else-draw-left}

sizes : (bits : ℕ) → 2 ≤ bits → bits ≤ 8 → (2 ^ 2 ≤ 2 ^ bits) × (2 ^ bits ≤ 2 ^ 8)
sizes bits low high = (pow-le-pow_right (omega arith) low, pow-le-pow_right (omega arith) high)

-- a stored symbol that is changed is one
changed_fits : (packed : Bool) (bits symbol change : ℕ) → bits ≤ 8 → symbol < symbol_values packed bits → change < 2 ^ bits → bit_xor symbol change < symbol_values packed bits
changed_fits true bits symbol change few fits below = xor_lt bits symbol change fits below
changed_fits false bits symbol change few fits below =
    let most : 2 ^ bits ≤ 2 ^ 8 = pow-le-pow_right (omega arith) few in
    xor_lt 8 symbol change fits (omega arith)

pub draw-change-requires : goal.draw-change-requires
draw-change-requires c =
    let small = sizes c.args.layout.now.bits c.requires.layout.bits_least c.requires.layout.bits_most in
    omega arith

pub symbol_at-requires : goal.symbol_at-requires
symbol_at-requires c =
    let l = c.args.layout.now in
    record { layout = c.requires.layout; place = place_below l.n l.depth c.loop-p.p c.args.c c.loop-p-test.true c.requires.c; long = c.loop-p.auto.group ∙ c.requires.long }

pub put_symbol-requires : goal.put_symbol-requires
put_symbol-requires c =
    let l = c.args.layout.now in
    let small = sizes l.bits c.requires.layout.bits_least c.requires.layout.bits_most in
    let change : 1 + c.draw-change.result < 2 ^ l.bits = (let s = c.draw-change.ensures.small in omega arith) in
    record {
      layout = c.requires.layout;
      place = place_below l.n l.depth c.loop-p.p c.args.c c.loop-p-test.true c.requires.c;
      long = c.loop-p.auto.group ∙ c.requires.long;
      fits = changed_fits l.packed l.bits c.symbol_at.result (1 + c.draw-change.result) c.requires.layout.bits_most c.symbol_at.ensures.fits change;
    }

pub loop-p-preserved : goal.loop-p-preserved
loop-p-preserved c =
    let l = c.args.layout.now in
    let size : ℕ = 2 ^ l.bits in
    let p : ℕ = c.loop-p.p in
    let word : ℕ = c.args.c in
    let F : List ℕ × Lcg = damaged size c.args.t (word_of_group l c.args.group.now word) c.args.self.now in
    let old : List ℕ = symbols_of_group l c.loop-p.group in
    let long : length old ≡ l.n * l.depth = length-stored_symbols l.packed l.bits (l.n * l.depth) c.loop-p.group (c.loop-p.auto.group ∙ c.requires.long) in
    let small = sizes l.bits c.requires.layout.bits_least c.requires.layout.bits_most in
    elim c.if-draw-left.branch [
      | then-draw-left w ↦
          let bound : 1 * 2 ^ l.bits % 4294967296 - 1 ≡ size - 1 = omega arith in
          let change : w.draw-change.result ≡ drawn (size - 1) (after_draw c.loop-p.self) = w.draw-change.ensures.value ∙ ap₂ drawn bound c.draw.ensures.rest in
          let self : c.if-draw-left.self ≡ after_draw (after_draw c.loop-p.self) = w.self-is ∙ w.draw-change.ensures.rest ∙ ap after_draw c.draw.ensures.rest in
          let place : ℕ = p * l.depth + word in
          let group : symbols_of_group l c.if-draw-left.group ≡ set old place (bit_xor (get_or old place 0) (1 + drawn (size - 1) (after_draw c.loop-p.self))) =
          ap (symbols_of_group l) w.group-is ∙ w.put_symbol.ensures.symbols
          ∙ ap₂ (λ (v m : ℕ). set old place (bit_xor v (1 + m))) w.symbol_at.ensures.value change in
          let low : drawn (l.n - p) c.loop-p.self < c.loop-p.left = (let e = c.draw.ensures.value in let h = w.if-draw-left.true in omega arith) in
          record {
            word = rw (group, self, w.left-is) (write-changed size F l.n l.depth word p c.loop-p.left old c.loop-p.self long c.loop-p-test.true c.requires.c c.loop-p.invariant.word low);
            others = λ k lk other.
                rw group (block_at-set_other l.n l.depth old p word _ k c.requires.c lk other) ∙ c.loop-p.invariant.others k lk other;
            fill = ap (fill_of_group l) w.group-is ∙ w.put_symbol.ensures.fill ∙ c.loop-p.invariant.fill;
            enough = (let e = w.left-is in let h = w.if-draw-left.true in let s = c.loop-p.invariant.enough in omega arith);
          }
      | else-draw-left w ↦
          let high : c.loop-p.left ≤ drawn (l.n - p) c.loop-p.self = (let e = c.draw.ensures.value in let h = w.if-draw-left.false in omega arith) in
          let self : c.if-draw-left.self ≡ after_draw c.loop-p.self = w.self-is ∙ c.draw.ensures.rest in
          record {
            word = rw (w.group-is, self, w.left-is) (write-same size F l.n l.depth word p c.loop-p.left old c.loop-p.self long c.loop-p-test.true c.requires.c c.loop-p.invariant.word high);
            others = λ k lk other. rw w.group-is (c.loop-p.invariant.others k lk other);
            fill = ap (fill_of_group l) w.group-is ∙ c.loop-p.invariant.fill;
            enough = (let e = w.left-is in let h = w.if-draw-left.false in let small = c.draw.ensures.small in omega arith);
          }
    ]

pub returns-clause-word : goal.returns-clause-word
returns-clause-word c =
    let l = c.args.layout.now in
    let size : ℕ = 2 ^ l.bits in
    let F : List ℕ × Lcg = damaged size c.args.t (word_of_group l c.args.group.now c.args.c) c.args.self.now in
    (damaged-end size F (word_of_group l c.loop-p.group c.args.c) c.loop-p.p c.loop-p.left c.loop-p.self (omega (arith, length-block_at l.n l.depth (symbols_of_group l c.loop-p.group) c.args.c)) c.loop-p.invariant.word).0

pub returns-clause-rest : goal.returns-clause-rest
returns-clause-rest c =
    let l = c.args.layout.now in
    let size : ℕ = 2 ^ l.bits in
    let F : List ℕ × Lcg = damaged size c.args.t (word_of_group l c.args.group.now c.args.c) c.args.self.now in
    (damaged-end size F (word_of_group l c.loop-p.group c.args.c) c.loop-p.p c.loop-p.left c.loop-p.self (omega (arith, length-block_at l.n l.depth (symbols_of_group l c.loop-p.group) c.args.c)) c.loop-p.invariant.word).1
