use Rattle.std.proofs.Common.{ℕ, ◌+◌, ◌*◌, ◌/◌, ◌∙◌, List, length, get_or, ap, arith, bit_xor}
use Rattle.std.proofs.lemmas.List.{get_or-take, get_or-drop}
use Rattle.gf_linear.specs.Nibbles.{looked_up}
use Rattle.gf_linear.proofs.Sixteens.{both_parts}
use Rattle.gf_linear.proofs.lists.add_rest.Goals as goal

pub returns-clause-value : goal.returns-clause-value
returns-clause-value c =
    let xs = c.args.dst.now in
    let src = c.args.src.now in
    let whole = length xs / 16 * 16 in
    let added : ℕ → ℕ → ℕ = λ x s. bit_xor x (looked_up c.args.low.now c.args.high.now s) in
    let long = c.split_at_mut-front.ensures.front_len in
    let rest_long = c.split_at_mut-front.ensures.back_len in
    both_parts whole (length xs) c.add_sixteens.new.dst c.add_singly.new.dst (λ p. added (get_or xs p 0) (get_or src p 0)) (c.add_sixteens.ensures.length ∙ long)
    (λ p l.
    c.add_sixteens.ensures.value p (omega (arith, long))
    ∙ ap (λ (x : ℕ). added x (get_or c.split_at.result.0.now p 0)) (ap (λ (w : List ℕ). get_or w p 0) c.split_at_mut-front.ensures.front ∙ get_or-take whole xs p 0 l)
    ∙ ap (added (get_or xs p 0)) (ap (λ (w : List ℕ). get_or w p 0) c.split_at.ensures.front ∙ get_or-take whole src p 0 l))
    (λ p l.
    c.add_singly.ensures.value p (omega (arith, rest_long))
    ∙ ap (λ (x : ℕ). added x (get_or c.split_at.result.1.now p 0)) (ap (λ (w : List ℕ). get_or w p 0) c.split_at_mut-front.ensures.back ∙ get_or-drop whole xs p 0)
    ∙ ap (added (get_or xs (whole + p) 0)) (ap (λ (w : List ℕ). get_or w p 0) c.split_at.ensures.back ∙ get_or-drop whole src p 0))
