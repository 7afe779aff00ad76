use Rattle.std.proofs.Common.{arith, ap, ◌∙◌, ◌≡◌, ◌+◌, ◌*◌, ◌≤◌, take, drop, length, List}
use Rattle.gf_linear.proofs.Views.{view-row, view-row_end}
use Rattle.gf_linear.proofs.matrix.Matrix.row.Goals as goal

pub slice_bounds-result-end : goal.slice_bounds-result-end
slice_bounds-result-end c =
    let a = c.self.inside in
    let l : c.args.i * a.cols + a.cols ≤ length a.entries.items = view-row_end a.rows a.cols a.entries.items c.args.self.now c.self.view_is c.args.i c.requires c.self.invariant.2 in
    let e : length c.deref.result.now ≡ length a.entries.items = ap (λ (w : List _). length w) c.deref.ensures.value in
    omega arith

pub returns-clause-row : goal.returns-clause-row
returns-clause-row c =
    let a = c.self.inside in
    ap (λ n. take n (drop (c.args.i * a.cols) c.deref.result.now)) (omega arith)
    ∙ ap (λ w. take a.cols (drop (c.args.i * a.cols) w)) c.deref.ensures.value
    ∙ view-row a.rows a.cols a.entries.items c.args.self.now c.self.view_is c.args.i c.requires
