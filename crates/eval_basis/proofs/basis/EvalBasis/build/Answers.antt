use Rattle.std.proofs.Common.{ℕ, ◌≤◌, List, subst}
use Rattle.gf_theory.specs.Field.{IsModulus}
use Rattle.eval_basis.specs.Found.{AreTables}
use Rattle.eval_basis.proofs.Assembly.{stored_with, built_with}
use Rattle.eval_basis.proofs.basis.EvalBasis.build.Goals as goal

pub invariant_of-result : goal.invariant_of-result
invariant_of-result g c =
    let tables : AreTables (g.D.OrderDomain.domain c.args.dom.now) (g.F.Field.modulus_of c.args.field) c.in_ok-ranks.field-0.ranks.items c.in_ok-tables.tables.labels.items c.in_ok-tables.tables.pair_counts.items c.in_ok-tables.tables.sums.items c.in_ok-tables.tables.leads.items =
    subst (λ (xs : List ℕ). AreTables (g.D.OrderDomain.domain c.args.dom.now) (g.F.Field.modulus_of c.args.field) xs c.in_ok-tables.tables.labels.items c.in_ok-tables.tables.pair_counts.items c.in_ok-tables.tables.sums.items c.in_ok-tables.tables.leads.items) c.deref.ensures.value c.in_ok-tables.ensures in
    stored_with (g.D.OrderDomain.domain c.args.dom.now) (g.F.Field.modulus_of c.args.field) c.args.points.now c.bits-2.ensures.lawful
    (subst (λ (b : ℕ). IsModulus b (g.F.Field.modulus_of c.args.field)) c.requires.bits c.bits.ensures.field) c.in_ok-ranks.ensures.points
    _ _ _ _ _ _ _
    (record { some_points = c.requires.some_points; few_points = subst (λ (x : ℕ). x ≤ 1024) c.len-n.ensures.length c.len-n.ensures.few; members = c.in_ok-ranks.ensures.members; tables = tables })
    (g.F.Field.bits_of c.args.field) c.len-n.result c.count-count.result c.requires.bits c.len-n.ensures.length c.count-count.ensures

pub returns : goal.returns
returns g c =
    let tables : AreTables (g.D.OrderDomain.domain c.args.dom.now) (g.F.Field.modulus_of c.args.field) c.in_ok-ranks.field-0.ranks.items c.in_ok-tables.tables.labels.items c.in_ok-tables.tables.pair_counts.items c.in_ok-tables.tables.sums.items c.in_ok-tables.tables.leads.items =
    subst (λ (xs : List ℕ). AreTables (g.D.OrderDomain.domain c.args.dom.now) (g.F.Field.modulus_of c.args.field) xs c.in_ok-tables.tables.labels.items c.in_ok-tables.tables.pair_counts.items c.in_ok-tables.tables.sums.items c.in_ok-tables.tables.leads.items) c.deref.ensures.value c.in_ok-tables.ensures in
    built_with (g.D.OrderDomain.domain c.args.dom.now) (g.F.Field.modulus_of c.args.field) c.args.points.now c.bits-2.ensures.lawful
    (subst (λ (b : ℕ). IsModulus b (g.F.Field.modulus_of c.args.field)) c.requires.bits c.bits.ensures.field) c.in_ok-ranks.ensures.points
    _ _ _ _ _ _ _
    (record { some_points = c.requires.some_points; few_points = subst (λ (x : ℕ). x ≤ 1024) c.len-n.ensures.length c.len-n.ensures.few; members = c.in_ok-ranks.ensures.members; tables = tables })
    (g.F.Field.bits_of c.args.field) c.len-n.result c.count-count.result c.requires.bits c.len-n.ensures.length c.count-count.ensures
