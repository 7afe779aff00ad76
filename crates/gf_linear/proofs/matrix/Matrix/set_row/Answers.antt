use Rattle.std.proofs.Common.{arith, ap, ◌∙◌, ◌≡◌, ◌+◌, ◌*◌, ◌-◌, ◌≤◌, length, List, sym}
use Rattle.std.proofs.lemmas.List.{with_items_is}
use borrow.Rule.Slice.PartMut.{put_mid}
use Rattle.gf_linear.specs.Matrix.{matrix_of}
use Rattle.linear_theory.proofs.Tables.{length-put_mid}
use Rattle.gf_linear.proofs.Views.{view-cols, view-row_end, view-set_row}
use Rattle.gf_linear.proofs.matrix.Matrix.set_row.Goals as goal

pub slice_bounds-copy_from_slice-end : goal.slice_bounds-copy_from_slice-end
slice_bounds-copy_from_slice-end c =
    let a = c.self.inside in
    let l : c.args.i * a.cols + a.cols ≤ length a.entries.items = view-row_end a.rows a.cols a.entries.items c.args.self.now c.self.view_is c.args.i c.requires.row c.self.invariant.2 in
    let e : length c.deref_mut.result.now ≡ length a.entries.items = ap (λ (w : List _). length w) c.deref_mut.ensures.value in
    omega arith

pub returns : goal.returns
returns c =
    let a = c.self.inside in
    let at = c.args.i * a.cols in
    let k = at + a.cols - at in
    let old = c.deref_mut.result.now in
    let new = c.copy_from_slice.new.self in
    let e : k ≡ a.cols = omega arith in
    let l : at + a.cols ≤ length a.entries.items = view-row_end a.rows a.cols a.entries.items c.args.self.now c.self.view_is c.args.i c.requires.row c.self.invariant.2 in
    let fit : length new ≡ a.cols = ap length c.copy_from_slice.ensures.after ∙ c.requires.width ∙ sym (view-cols a.rows a.cols a.entries.items c.args.self.now c.self.view_is) in
    let all : length (put_mid at k old new) ≡ length old = length-put_mid at k old new (rw c.deref_mut.ensures.value (omega arith)) (fit ∙ sym e) in
    ap (λ w. matrix_of a.rows a.cols w) (with_items_is a.entries (put_mid at k old new) (all ∙ ap length c.deref_mut.ensures.value ∙ sym a.entries.ok.0))
    ∙ ap (λ w. matrix_of a.rows a.cols (put_mid at k w new)) c.deref_mut.ensures.value
    ∙ ap (λ w. matrix_of a.rows a.cols (put_mid at k a.entries.items w)) c.copy_from_slice.ensures.after
    ∙ view-set_row a.rows a.cols a.entries.items c.args.self.now c.self.view_is c.args.i k c.args.entries.now c.requires.row c.self.invariant.2 c.requires.width e
