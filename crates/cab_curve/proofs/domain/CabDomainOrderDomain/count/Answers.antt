use Rattle.std.proofs.Common.{◌≡◌, ◌<◌, length, arith}
use Rattle.std.proofs.Math.Facts.{Fits-of_lt}
use Rattle.curve_theory.specs.Semigroup.{function_count}
use Rattle.cab_curve.specs.Domain.{top_of}
use Rattle.cab_curve.proofs.Calls.{functions-few}
use Rattle.cab_curve.proofs.domain.CabDomainOrderDomain.count.Goals as goal

pub overflow_cast-result : goal.overflow_cast-result
overflow_cast-result c =
    let few : function_count c.args.self.now.curve.a c.args.self.now.curve.b (top_of c.args.self.now.curve) < 10001 = functions-few c.args.self.now.curve c.args.self.now.is_curve in
    let len : c.args.self.now.functions.rows.len ≡ length c.args.self.now.functions.rows.items = c.args.self.now.functions.rows.ok.0 in
    let count : length c.args.self.now.functions.rows.items ≡ function_count c.args.self.now.curve.a c.args.self.now.curve.b (top_of c.args.self.now.curve) = c.args.self.now.tables.count_is in
    Fits-of_lt (omega arith)
