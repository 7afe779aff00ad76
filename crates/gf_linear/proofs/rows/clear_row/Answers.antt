use Rattle.std.proofs.Common.{ℕ, ◌≡◌, ◌<◌, ◌-◌, ◌^◌, ◌∙◌, ap, length, get_or, take, drop, arith, List}
use Rattle.std.proofs.lemmas.List.{take_rest, length-drop}
use Rattle.linear_theory.proofs.Tables.{All-put_mid}
use Rattle.gf_linear.proofs.Steps.{cleared_part}
use Rattle.gf_linear.proofs.rows.clear_row.Goals as goal

pub returns-clause-value : goal.returns-clause-value
returns-clause-value g c =
    let f = c.args.f.now in
    let k = length c.args.row.now - c.args.from in
    let long : length c.add_scaled.new.dst ≡ k = c.add_scaled.auto.dst ∙ ap (λ (w : List ℕ). length w) (take_rest c.args.row.now c.args.from) ∙ length-drop c.args.from c.args.row.now in
    cleared_part (g.F.Field.bits_of f) (g.F.Field.modulus_of f) c.args.from k (get_or c.args.row.now c.args.col 0) c.args.row.now c.add_scaled.new.dst c.args.pivot.now
    (take k (drop c.args.from c.args.row.now)) (take (length c.args.pivot.now - c.args.from) (drop c.args.from c.args.pivot.now))
    (take_rest c.args.row.now c.args.from) (take_rest c.args.pivot.now c.args.from)
    c.requires.from_in (omega arith) long c.requires.zeros c.add_scaled.ensures.value

pub returns-clause-symbols : goal.returns-clause-symbols
returns-clause-symbols g c =
    let f = c.args.f.now in
    let k = length c.args.row.now - c.args.from in
    let long : length c.add_scaled.new.dst ≡ k = c.add_scaled.auto.dst ∙ ap (λ (w : List ℕ). length w) (take_rest c.args.row.now c.args.from) ∙ length-drop c.args.from c.args.row.now in
    All-put_mid (λ a. a < 2 ^ g.F.Field.bits_of f) c.args.from k c.args.row.now c.add_scaled.new.dst c.requires.row_symbols c.add_scaled.ensures.symbols (omega arith) long
