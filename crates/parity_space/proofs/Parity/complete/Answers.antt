use Rattle.std.proofs.Common.{◌≡◌, ℕ, ◌+◌, ◌++◌, length, take, sym, ◌∙◌, ap, arith}
use Rattle.parity_space.proofs.Views.{shown_word, shown_word_only}
use Rattle.parity_space.proofs.Parity.complete.Goals as goal

pub returns-clause-word : goal.returns-clause-word
returns-clause-word g c =
    let s = c.self.inside in
    let kept : length c.combine.new.sum ≡ length c.split_at_mut-front.result.1.now = c.combine.auto.sum in
    let back : length c.split_at_mut-front.result.1.now + s.first ≡ length c.args.word.now = c.split_at_mut-front.ensures.back_len in
    let whole : length c.args.word.now ≡ s.n = c.requires.positions ∙ ap (λ v. v.n) (sym c.self.view_is) in
    shown_word c.self.inside c.self.invariant c.args.self.now c.self.view_is (g.F.Field.bits_of c.args.f.now) (g.F.Field.modulus_of c.args.f.now)
    c.requires.bits c.requires.modulus c.args.msg.now c.requires.message c.requires.symbols
    c.copy_from_slice.new.self c.combine.new.sum
    (c.copy_from_slice.ensures.after ∙ ap (λ (k : ℕ). take k c.args.msg.now) (omega arith))
    (omega arith)
    (λ q l. c.combine.ensures.value q (omega arith))
    c.combine.ensures.symbols

pub returns-clause-only : goal.returns-clause-only
returns-clause-only g c x h =
    shown_word_only c.self.inside c.self.invariant c.args.self.now c.self.view_is (g.F.Field.bits_of c.args.f.now) (g.F.Field.modulus_of c.args.f.now)
    c.requires.bits c.requires.modulus c.args.msg.now c.requires.message c.requires.symbols x
    (c.copy_from_slice.new.self ++ c.combine.new.sum) h (returns-clause-word g c)
