use Rattle.std.proofs.Common.{◌∙◌, ap, ◌++◌, ℕ, List, map, codes, length, ◌≤◌}
use Rattle.std.proofs.lemmas.List.{take_all}
use Rattle.code_texts.specs.Designs.{member_text_of}
use Rattle.code_texts.proofs.Lines.{spaced, line-spaced}
use Rattle.code_texts.proofs.design.push_must.Goals as goal

pub returns : goal.returns
returns c =
    let done : length c.args.must.now ≤ c.loop-member.member-index = c.loop-member-test.false in
    c.in_ok-push.ensures.items
    ∙ line-spaced c.args.text.now.items (codes "must") (map member_text_of c.args.must.now) c.loop-member.text.items
    (c.loop-member.invariant
    ∙ ap (λ (ts : List _). c.extend_from_slice.new.self.items ++ spaced (map member_text_of ts)) (take_all c.loop-member.member-index c.args.must.now done)
    ∙ ap (λ (t : List ℕ). t ++ spaced (map member_text_of c.args.must.now)) c.in_ok-extend_from_slice.ensures.items)
