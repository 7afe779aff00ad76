use Rattle.std.proofs.Common.{◌∙◌, ap, rules, ◌++◌, ℕ, List, map, length, ◌≤◌}
use Rattle.std.proofs.lemmas.List.{take_all}
use Rattle.std.specs.Fmt.{decimal}
use Rattle.code_texts.proofs.Lines.{spaced, line-spaced}
use Rattle.code_texts.proofs.params.push_numbers.Goals as goal

pub returns : goal.returns
returns c =
    let done : length c.args.numbers.now ≤ c.loop-number.number-index = c.loop-number-test.false in
    c.in_ok-push.ensures.items
    ∙ line-spaced c.args.text.now.items c.args.word.now (map decimal c.args.numbers.now) c.loop-number.text.items
    (c.loop-number.invariant
    ∙ ap (λ (ts : List _). c.extend_from_slice.new.self.items ++ spaced (map decimal ts)) (take_all c.loop-number.number-index c.args.numbers.now done)
    ∙ ap (λ (t : List ℕ). t ++ spaced (map decimal c.args.numbers.now)) c.in_ok-extend_from_slice.ensures.items
    ∙ ap (λ (t : List ℕ). (c.args.text.now.items ++ t) ++ spaced (map decimal c.args.numbers.now)) (search rules))
