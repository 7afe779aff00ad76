use Rattle.std.proofs.Common.{◌∙◌, ap, ◌++◌, ℕ, List, map, codes, length, ◌≤◌}
use Rattle.std.proofs.lemmas.List.{take_all}
use Rattle.code_texts.specs.Texts.{term_text_of}
use Rattle.code_texts.proofs.Lines.{spaced, line-spaced}
use Rattle.code_texts.proofs.params.push_relation.Goals as goal

pub returns : goal.returns
returns c =
    let done : length c.args.relation.now ≤ c.loop-term.term-index = c.loop-term-test.false in
    c.in_ok-push.ensures.items
    ∙ line-spaced c.args.text.now.items (codes "relation") (map term_text_of c.args.relation.now) c.loop-term.text.items
    (c.loop-term.invariant
    ∙ ap (λ (ts : List _). c.extend_from_slice.new.self.items ++ spaced (map term_text_of ts)) (take_all c.loop-term.term-index c.args.relation.now done)
    ∙ ap (λ (t : List ℕ). t ++ spaced (map term_text_of c.args.relation.now)) c.in_ok-extend_from_slice.ensures.items)
