use Rattle.std.proofs.Common.{◌≡◌, sym, ◌∙◌, arith}
use Rattle.curve_theory.specs.Semigroup.{is_member}
use Rattle.curve_theory.proofs.Semigroup.{is_member-yes, is_member-from}
use Rattle.weight_semi.proofs.Semi.holds.Goals as goal

pub returns-clause-member : goal.returns-clause-member
returns-clause-member c =
    let a = c.args.self.now.a in
    let b = c.args.self.now.b in
    let same : c.is_some.result ≡ is_member a b c.args.w = cc in (
      λ h. is_member-yes a b c.args.w (sym same ∙ h),
      λ m. same ∙ is_member-from a b c.args.w (omega arith) m,
    )
