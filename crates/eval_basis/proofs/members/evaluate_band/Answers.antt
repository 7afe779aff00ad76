use Rattle.std.proofs.Common.{◌≡◌, ◌+◌, ◌*◌, ◌<◌, ◌≤◌, ◌-◌, ◌^◌, ◌∙◌, length, take, drop, slice_index, arith}
use Rattle.std.proofs.lemmas.List.{length-take-le, length-drop}
use borrow.Rule.Slice.PartMut.{put_mid}
use Rattle.linear_theory.proofs.Tables.{All-put_mid, row_end}
use Rattle.gf_linear.proofs.Steps.{IsWritten, row_written, row_more}
use Rattle.order_domain.specs.Values.{value_at}
use Rattle.eval_basis.proofs.members.evaluate_band.Goals as goal

pub loop-b-preserved : goal.loop-b-preserved
loop-b-preserved g c =
    let f = c.args.f.now in
    let n = length c.args.points.now in
    let r = length c.args.band.now in
    let q = c.loop-b.b in
    let k = q * n + n - q * n in
    let xs = c.loop-b.values in
    let ys = c.evaluate.new.values in
    let wide : k ≡ n = omega arith in
    let fits : length xs ≡ r * n = c.loop-b.auto.values ∙ c.requires.room in
    let room : q * n + n ≤ length xs = row_end r n q (length xs) c.loop-b-test.true fits in
    let long : length (take k (drop (q * n) xs)) ≡ k = length-take-le k (drop (q * n) xs) (rw length-drop (omega arith)) in
    let w : IsWritten n q xs (put_mid (q * n) k xs ys) ys = row_written r n q k xs ys c.loop-b-test.true fits wide (c.evaluate.auto.values ∙ long) in
    record {
      symbols = All-put_mid (λ a. a < 2 ^ g.F.Field.bits_of f) (q * n) k xs ys c.loop-b.invariant.symbols c.evaluate.ensures.symbols (omega arith) (c.evaluate.auto.values ∙ long);
      done = row_more n q xs (put_mid (q * n) k xs ys) ys (λ i p. value_at (g.D.OrderDomain.domain c.args.dom.now) (g.F.Field.modulus_of f) c.args.points.now (slice_index c.args.band.now i) p) w c.loop-b.invariant.done
          c.evaluate.ensures.values;
    }
