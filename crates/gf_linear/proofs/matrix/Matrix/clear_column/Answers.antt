use Rattle.std.proofs.Common.{◌≡◌, ◌≢◌, ℕ, ◌^◌, ◌<◌, ◌∙◌, List, length, ap, sym, subst, All, bit_xor}
use Rattle.std.proofs.lemmas.List.{with_items_is}
use Rattle.gf_theory.specs.Field.{gf_mul}
use Rattle.gf_linear.specs.Cells.{cell, AreKept}
use Rattle.gf_linear.specs.Matrix.{entry, row as row_of, matrix_of, IsOver}
use Rattle.gf_linear.proofs.Views.{view-rows, view-symbols}
use Rattle.gf_linear.proofs.Cleared.{cleared-others, cleared-zero, cleared-kept, cleared-over, cleared-rows}
use Rattle.gf_linear.proofs.matrix.Matrix.clear_column.Goals as goal

pub clear_in_threads-requires-clause-k_in : goal.clear_in_threads-requires-clause-k_in
clear_in_threads-requires-clause-k_in g c κs within =
    let a = c.self.inside in
    subst (λ (n : ℕ). c.args.pivot < n) (sym (view-rows a.rows a.cols a.entries.items c.args.self.now c.self.view_is)) c.requires.pivot_in

pub clear_in_threads-requires-clause-symbols : goal.clear_in_threads-requires-clause-symbols
clear_in_threads-requires-clause-symbols g c κs within =
    let a = c.self.inside in
    subst (λ (w : List ℕ). All (λ x. x < 2 ^ g.F.Field.bits_of c.args.f.now) w) (sym c.deref_mut.ensures.value) (view-symbols a.rows a.cols a.entries.items c.args.self.now c.self.view_is (g.F.Field.bits_of c.args.f.now) c.requires.symbols c.self.invariant.2)

pub returns-clause-others : goal.returns-clause-others
returns-clause-others g c =
    let f = c.args.f.now in
    let b = g.F.Field.bits_of f in
    let md = g.F.Field.modulus_of f in
    let a = c.self.inside in
    let xs = a.entries.items in
    let ys = c.clear_in_threads.new.m in
    let same : c.deref_mut.result.now ≡ xs = c.deref_mut.ensures.value in
    let long : length ys ≡ length xs = c.clear_in_threads.auto.m ∙ ap (λ (w : List ℕ). length w) same in
    let value : (q p : ℕ) → q < a.rows → q ≢ c.args.pivot → p < a.cols → cell ys a.cols q p ≡ bit_xor (cell xs a.cols q p) (gf_mul b md (cell xs a.cols q c.args.col) (cell xs a.cols c.args.pivot p)) =
    subst (λ (w : List ℕ). (q p : ℕ) → q < a.rows → q ≢ c.args.pivot → p < a.cols → cell ys a.cols q p ≡ bit_xor (cell w a.cols q p) (gf_mul b md (cell w a.cols q c.args.col) (cell w a.cols c.args.pivot p))) same c.clear_in_threads.ensures.value in
    let kept : AreKept a.rows a.cols (λ q. q ≡ c.args.pivot) xs ys = subst (λ (w : List ℕ). AreKept a.rows a.cols (λ q. q ≡ c.args.pivot) w ys) same c.clear_in_threads.ensures.kept in
    subst (λ (w : List ℕ). (q p : ℕ) → q < length c.args.self.now.rows → q ≢ c.args.pivot → p < c.args.self.now.cols → entry (matrix_of a.rows a.cols w) q p ≡ bit_xor (entry c.args.self.now q p) (gf_mul b md (entry c.args.self.now q c.args.col) (entry c.args.self.now c.args.pivot p))) (sym (with_items_is a.entries ys (long ∙ sym a.entries.ok.0))) (cleared-others b md a.rows a.cols c.args.pivot c.args.col xs ys c.args.self.now c.self.view_is c.bits.ensures.field c.requires.symbols c.self.invariant.2 long c.requires.pivot_in c.requires.col_in value kept)

pub returns-clause-cleared : goal.returns-clause-cleared
returns-clause-cleared g c =
    let f = c.args.f.now in
    let b = g.F.Field.bits_of f in
    let md = g.F.Field.modulus_of f in
    let a = c.self.inside in
    let xs = a.entries.items in
    let ys = c.clear_in_threads.new.m in
    let same : c.deref_mut.result.now ≡ xs = c.deref_mut.ensures.value in
    let long : length ys ≡ length xs = c.clear_in_threads.auto.m ∙ ap (λ (w : List ℕ). length w) same in
    let value : (q p : ℕ) → q < a.rows → q ≢ c.args.pivot → p < a.cols → cell ys a.cols q p ≡ bit_xor (cell xs a.cols q p) (gf_mul b md (cell xs a.cols q c.args.col) (cell xs a.cols c.args.pivot p)) =
    subst (λ (w : List ℕ). (q p : ℕ) → q < a.rows → q ≢ c.args.pivot → p < a.cols → cell ys a.cols q p ≡ bit_xor (cell w a.cols q p) (gf_mul b md (cell w a.cols q c.args.col) (cell w a.cols c.args.pivot p))) same c.clear_in_threads.ensures.value in
    let kept : AreKept a.rows a.cols (λ q. q ≡ c.args.pivot) xs ys = subst (λ (w : List ℕ). AreKept a.rows a.cols (λ q. q ≡ c.args.pivot) w ys) same c.clear_in_threads.ensures.kept in
    subst (λ (w : List ℕ). (q : ℕ) → q < length c.args.self.now.rows → q ≢ c.args.pivot → entry (matrix_of a.rows a.cols w) q c.args.col ≡ 0) (sym (with_items_is a.entries ys (long ∙ sym a.entries.ok.0))) (cleared-zero b md a.rows a.cols c.args.pivot c.args.col xs ys c.args.self.now c.self.view_is c.bits.ensures.field c.requires.symbols c.self.invariant.2 long c.requires.pivot_in c.requires.col_in value kept c.requires.one)

pub returns-clause-kept : goal.returns-clause-kept
returns-clause-kept g c =
    let f = c.args.f.now in
    let b = g.F.Field.bits_of f in
    let md = g.F.Field.modulus_of f in
    let a = c.self.inside in
    let xs = a.entries.items in
    let ys = c.clear_in_threads.new.m in
    let same : c.deref_mut.result.now ≡ xs = c.deref_mut.ensures.value in
    let long : length ys ≡ length xs = c.clear_in_threads.auto.m ∙ ap (λ (w : List ℕ). length w) same in
    let value : (q p : ℕ) → q < a.rows → q ≢ c.args.pivot → p < a.cols → cell ys a.cols q p ≡ bit_xor (cell xs a.cols q p) (gf_mul b md (cell xs a.cols q c.args.col) (cell xs a.cols c.args.pivot p)) =
    subst (λ (w : List ℕ). (q p : ℕ) → q < a.rows → q ≢ c.args.pivot → p < a.cols → cell ys a.cols q p ≡ bit_xor (cell w a.cols q p) (gf_mul b md (cell w a.cols q c.args.col) (cell w a.cols c.args.pivot p))) same c.clear_in_threads.ensures.value in
    let kept : AreKept a.rows a.cols (λ q. q ≡ c.args.pivot) xs ys = subst (λ (w : List ℕ). AreKept a.rows a.cols (λ q. q ≡ c.args.pivot) w ys) same c.clear_in_threads.ensures.kept in
    subst (λ (w : List ℕ). row_of (matrix_of a.rows a.cols w) c.args.pivot ≡ row_of c.args.self.now c.args.pivot) (sym (with_items_is a.entries ys (long ∙ sym a.entries.ok.0))) (cleared-kept b md a.rows a.cols c.args.pivot c.args.col xs ys c.args.self.now c.self.view_is c.bits.ensures.field c.requires.symbols c.self.invariant.2 long c.requires.pivot_in c.requires.col_in value kept)

pub returns-clause-symbols : goal.returns-clause-symbols
returns-clause-symbols g c =
    let f = c.args.f.now in
    let b = g.F.Field.bits_of f in
    let md = g.F.Field.modulus_of f in
    let a = c.self.inside in
    let xs = a.entries.items in
    let ys = c.clear_in_threads.new.m in
    let same : c.deref_mut.result.now ≡ xs = c.deref_mut.ensures.value in
    let long : length ys ≡ length xs = c.clear_in_threads.auto.m ∙ ap (λ (w : List ℕ). length w) same in
    let value : (q p : ℕ) → q < a.rows → q ≢ c.args.pivot → p < a.cols → cell ys a.cols q p ≡ bit_xor (cell xs a.cols q p) (gf_mul b md (cell xs a.cols q c.args.col) (cell xs a.cols c.args.pivot p)) =
    subst (λ (w : List ℕ). (q p : ℕ) → q < a.rows → q ≢ c.args.pivot → p < a.cols → cell ys a.cols q p ≡ bit_xor (cell w a.cols q p) (gf_mul b md (cell w a.cols q c.args.col) (cell w a.cols c.args.pivot p))) same c.clear_in_threads.ensures.value in
    let kept : AreKept a.rows a.cols (λ q. q ≡ c.args.pivot) xs ys = subst (λ (w : List ℕ). AreKept a.rows a.cols (λ q. q ≡ c.args.pivot) w ys) same c.clear_in_threads.ensures.kept in
    subst (λ (w : List ℕ). IsOver b (matrix_of a.rows a.cols w)) (sym (with_items_is a.entries ys (long ∙ sym a.entries.ok.0))) (cleared-over b md a.rows a.cols c.args.pivot c.args.col xs ys c.args.self.now c.self.view_is c.bits.ensures.field c.requires.symbols c.self.invariant.2 long c.requires.pivot_in c.requires.col_in value kept)

pub returns-clause-same_rows : goal.returns-clause-same_rows
returns-clause-same_rows g c =
    let f = c.args.f.now in
    let b = g.F.Field.bits_of f in
    let md = g.F.Field.modulus_of f in
    let a = c.self.inside in
    let xs = a.entries.items in
    let ys = c.clear_in_threads.new.m in
    let same : c.deref_mut.result.now ≡ xs = c.deref_mut.ensures.value in
    let long : length ys ≡ length xs = c.clear_in_threads.auto.m ∙ ap (λ (w : List ℕ). length w) same in
    let value : (q p : ℕ) → q < a.rows → q ≢ c.args.pivot → p < a.cols → cell ys a.cols q p ≡ bit_xor (cell xs a.cols q p) (gf_mul b md (cell xs a.cols q c.args.col) (cell xs a.cols c.args.pivot p)) =
    subst (λ (w : List ℕ). (q p : ℕ) → q < a.rows → q ≢ c.args.pivot → p < a.cols → cell ys a.cols q p ≡ bit_xor (cell w a.cols q p) (gf_mul b md (cell w a.cols q c.args.col) (cell w a.cols c.args.pivot p))) same c.clear_in_threads.ensures.value in
    let kept : AreKept a.rows a.cols (λ q. q ≡ c.args.pivot) xs ys = subst (λ (w : List ℕ). AreKept a.rows a.cols (λ q. q ≡ c.args.pivot) w ys) same c.clear_in_threads.ensures.kept in
    subst (λ (w : List ℕ). length (matrix_of a.rows a.cols w).rows ≡ length c.args.self.now.rows) (sym (with_items_is a.entries ys (long ∙ sym a.entries.ok.0))) (cleared-rows b md a.rows a.cols c.args.pivot c.args.col xs ys c.args.self.now c.self.view_is c.bits.ensures.field c.requires.symbols c.self.invariant.2 long c.requires.pivot_in c.requires.col_in value kept)
