use Rattle.std.proofs.Common.{◌≡◌, ◌∙◌, ◌<◌, ◌≤◌, ◌^◌, ◌+◌, ℕ, subst, arith}
use Rattle.std.proofs.lemmas.Nat.{pow_below}
use Rattle.gf_theory.specs.Field.{IsModulus, gf_mul}
use Rattle.curve_theory.specs.Curve.{coefficient}
use Rattle.curve_theory.specs.Semigroup.{y_exponent, weight_at}
use Rattle.cab_curve.specs.Domain.{top_of}
use Rattle.cab_curve.proofs.Calls.{lead-symbol, low_lead, high_lead}
use Rattle.cab_curve.proofs.domain.CabDomainOrderDomain.lead.Goals as goal

pub inv-requires-clause-element : goal.inv-requires-clause-element
inv-requires-clause-element g c =
    let d = c.args.self.now in
    rw (c.requires.bits, d.y_lead_is) (lead-symbol d.curve d.is_curve _ (subst (λ (n : ℕ). IsModulus n (g.F.Field.modulus_of c.args.f.now)) c.requires.bits (g.met.F.Field.is_modulus c.args.f.now)) 0 d.curve.a)

pub mul-requires-clause-left : goal.mul-requires-clause-left
mul-requires-clause-left g c =
    let d = c.args.self.now in
    rw (c.requires.bits, d.x_lead_is) (lead-symbol d.curve d.is_curve _ (subst (λ (n : ℕ). IsModulus n (g.F.Field.modulus_of c.args.f.now)) c.requires.bits (g.met.F.Field.is_modulus c.args.f.now)) d.curve.b 0)

pub returns-then-degree-a-clause-value : goal.returns-then-degree-a-clause-value
returns-then-degree-a-clause-value g c =
    low_lead _ _ _ _ _ _ _ (rw (← c.row.ensures.row.j_is, ← c.row-2.ensures.row.j_is, ← c.a.ensures.a) c.if-degree-a.true)

pub returns-then-degree-a-clause-symbol : goal.returns-then-degree-a-clause-symbol
returns-then-degree-a-clause-symbol g c =
    let two : 2 ≤ c.args.self.now.curve.bits = c.args.self.now.is_curve.bits_least in
    rw c.requires.bits (let l : 2 ^ 0 < 2 ^ c.args.self.now.curve.bits = pow_below 0 c.args.self.now.curve.bits (omega arith) in l)

pub returns-else-degree-a-clause-value : goal.returns-else-degree-a-clause-value
returns-else-degree-a-clause-value g c =
    let d = c.args.self.now in
    let modulus : ℕ = g.F.Field.modulus_of c.args.f.now in
    let is : IsModulus d.curve.bits (g.F.Field.modulus_of c.args.f.now) = subst (λ (n : ℕ). IsModulus n (g.F.Field.modulus_of c.args.f.now)) c.requires.bits (g.met.F.Field.is_modulus c.args.f.now) in
    let high : d.curve.a ≤ y_exponent d.curve.a d.curve.b (weight_at d.curve.a d.curve.b (top_of d.curve) c.args.i) + y_exponent d.curve.a d.curve.b (weight_at d.curve.a d.curve.b (top_of d.curve) c.args.j) =
    rw (← c.row.ensures.row.j_is, ← c.row-2.ensures.row.j_is, ← c.a.ensures.a) c.if-degree-a.false in
    let one : gf_mul d.curve.bits modulus (coefficient d.curve.terms 0 d.curve.a) c.inv.result ≡ 1 = rw (← c.requires.bits, ← d.y_lead_is) c.inv.ensures.inverse in
    let small : c.inv.result < 2 ^ d.curve.bits = rw (← c.requires.bits) c.inv.ensures.result_element in
    c.mul.ensures.product ∙ rw (c.requires.bits, d.x_lead_is) (high_lead d.curve _ _ _ c.inv.result d.is_curve is high small one)
