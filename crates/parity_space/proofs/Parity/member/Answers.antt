use Rattle.std.proofs.Common.{ℕ, ◌<◌, ◌^◌, All, ap, subst}
use Rattle.parity_space.proofs.Views.{orthogonal_is_member}
use Rattle.parity_space.proofs.Parity.member.Goals as goal

pub returns-then-are_symbols : goal.returns-then-are_symbols
returns-then-are_symbols g c =
    let v = c.args.self.now in
    let symbols : All (λ a. a < 2 ^ v.bits) c.args.word.now =
    subst (λ (b : ℕ). All (λ a. a < 2 ^ b) c.args.word.now) (ap (λ w. w.bits) c.self.view_is) (c.are_symbols.ensures.0 c.if-are_symbols.true) in
    let both = orthogonal_is_member c.self.inside v c.self.view_is (g.F.Field.bits_of c.args.f.now) (g.F.Field.modulus_of c.args.f.now) c.requires.bits c.requires.modulus c.args.word.now c.requires.positions symbols in
    (λ t. both.0 (c.are_orthogonal.ensures.0 t), λ h. c.are_orthogonal.ensures.1 (both.1 h))
