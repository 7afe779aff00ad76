use Rattle.std.proofs.Common.{◌≤◌, List, length, sym, subst}
use Rattle.order_domain.specs.declared.Point.{Point}
use Rattle.order_domain.specs.Domain.{ArePoints}
use Rattle.order_bound.specs.TableChecks.{IsAccepted, IsRefused}
use Rattle.order_bound.proofs.Tables.{accepted_is_table}
use Rattle.order_bound.proofs.Once.{refused_is_no_table}
use Rattle.order_bound.proofs.table.check_table.Goals as goal

pub bound_of-requires-clause-few_points : goal.bound_of-requires-clause-few_points
bound_of-requires-clause-few_points g c = subst (λ (w : List Point). length w ≤ 1024) (sym c.as_slice-places.ensures.value) c.as_slice-places.ensures.few

pub bound_of-requires-clause-points : goal.bound_of-requires-clause-points
bound_of-requires-clause-points g c =
    let are : ArePoints (g.D.OrderDomain.domain c.args.dom.now) (g.F.Field.modulus_of c.args.f.now) c.args.points.now = record { distinct = c.as_slice-places.ensures.distinct; all_on = c.requires.on } in
    subst (λ (w : List Point). ArePoints (g.D.OrderDomain.domain c.args.dom.now) (g.F.Field.modulus_of c.args.f.now) w) (sym c.as_slice-places.ensures.value) are

pub returns-in-Ok-clause-verdict : goal.returns-in-Ok-clause-verdict
returns-in-Ok-clause-verdict g c =
    subst (λ (w : List Point). IsAccepted (g.D.OrderDomain.domain c.args.dom.now) (g.F.Field.modulus_of c.args.f.now) w c.args.rule c.args.text.now c.in-Ok.bound) c.as_slice-places.ensures.value c.in-Ok.ensures

pub returns-in-Ok-clause-table : goal.returns-in-Ok-clause-table
returns-in-Ok-clause-table g c b built sound =
    accepted_is_table (g.D.OrderDomain.domain c.args.dom.now) (g.F.Field.modulus_of c.args.f.now) c.args.points.now b c.args.rule c.in_ok-functions.ensures.lawful (record { distinct = c.as_slice-places.ensures.distinct; all_on = c.requires.on }) built sound c.args.text.now c.in-Ok.bound
    (subst (λ (w : List Point). IsAccepted (g.D.OrderDomain.domain c.args.dom.now) (g.F.Field.modulus_of c.args.f.now) w c.args.rule c.args.text.now c.in-Ok.bound) c.as_slice-places.ensures.value c.in-Ok.ensures)

pub returns-in-Err-Line-clause-verdict : goal.returns-in-Err-Line-clause-verdict
returns-in-Err-Line-clause-verdict g c =
    subst (λ (w : List Point). IsRefused (g.D.OrderDomain.domain c.args.dom.now) (g.F.Field.modulus_of c.args.f.now) w c.args.rule c.args.text.now c.in-Err-Line.line) c.as_slice-places.ensures.value (rw c.in-Err-Line.field-0-is at c.in-Err-Line.ensures)

pub returns-in-Err-Line-clause-table : goal.returns-in-Err-Line-clause-table
returns-in-Err-Line-clause-table g c b built sound =
    refused_is_no_table (g.D.OrderDomain.domain c.args.dom.now) (g.F.Field.modulus_of c.args.f.now) c.args.points.now b c.args.rule c.args.text.now c.in-Err-Line.line c.in_ok-functions.ensures.lawful (record { distinct = c.as_slice-places.ensures.distinct; all_on = c.requires.on }) built sound
    c.as_slice-places.ensures.few c.in_ok-functions.ensures.few c.in_ok-functions.ensures.labels_fit
    (subst (λ (w : List Point). IsRefused (g.D.OrderDomain.domain c.args.dom.now) (g.F.Field.modulus_of c.args.f.now) w c.args.rule c.args.text.now c.in-Err-Line.line) c.as_slice-places.ensures.value (rw c.in-Err-Line.field-0-is at c.in-Err-Line.ensures))
