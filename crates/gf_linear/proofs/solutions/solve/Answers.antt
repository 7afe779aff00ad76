use Rattle.std.proofs.Common.{ℕ, ◌≡◌, ◌+◌, ◌*◌, ◌^◌, ◌<◌, ◌≤◌, ◌∙◌, ap, subst, sym, length, List, All, arith}
use Rattle.std.proofs.lemmas.Nat.{mul-le}
use Rattle.std.proofs.lemmas.List.{with_items_is}
use Rattle.std.specs.Prelude.{slice_index}
use Rattle.gf_theory.specs.Field.{gf_mul}
use Rattle.linear_theory.specs.Linear.{dot, IsFree}
use Rattle.gf_linear.specs.Cells.{cell}
use Rattle.gf_linear.specs.Elimination.{IsSolution, HasFreeZeros}
use Rattle.gf_linear.proofs.Views.{view-symbols, view-rows}
use Rattle.gf_linear.proofs.Found.{solution_found, no_solution_found, free_found}
use Rattle.gf_linear.proofs.solutions.solve.Goals as goal

pub overflow_mul-rhs : goal.overflow_mul-rhs
overflow_mul-rhs g c =
    let a = c.m.inside in
    let e : a.rows ≡ length c.args.m.now.rows = view-rows a.rows a.cols a.entries.items c.args.m.now c.m.view_is in
    let few : a.rows ≤ 1024 = c.m.invariant.0 in
    let narrow : a.cols ≤ 2048 = c.m.invariant.1 in
    let l : length c.args.rhs.now * (a.cols + 1) ≤ 1024 * 2049 = mul-le (length c.args.rhs.now) (a.cols + 1) 1024 2049 (omega (arith, c.requires.sides)) (omega arith) in
    omega arith

pub find_solution-requires-clause-fits : goal.find_solution-requires-clause-fits
find_solution-requires-clause-fits g c =
    let a = c.m.inside in
    let e : a.rows ≡ length c.args.m.now.rows = view-rows a.rows a.cols a.entries.items c.args.m.now c.m.view_is in
    let wide : length c.deref_mut-2.result.now ≡ a.cols = ap (λ (w : List ℕ). length w) c.deref_mut-2.ensures.value ∙ sym c.in_ok-x.x.ok.0 ∙ c.in_ok-x.ensures.len in
    ap (λ (w : List ℕ). length w) c.deref.ensures.value ∙ c.m.invariant.2 ∙ ap (λ (n : ℕ). n * a.cols) (e ∙ sym c.requires.sides) ∙ ap (λ (n : ℕ). length c.args.rhs.now * n) (sym wide)

pub find_solution-requires-clause-entry_symbols : goal.find_solution-requires-clause-entry_symbols
find_solution-requires-clause-entry_symbols g c =
    let a = c.m.inside in
    subst (λ (w : List ℕ). All (λ x. x < 2 ^ g.F.Field.bits_of c.args.f.now) w) (sym c.deref.ensures.value) (view-symbols a.rows a.cols a.entries.items c.args.m.now c.m.view_is (g.F.Field.bits_of c.args.f.now) c.requires.entry_symbols c.m.invariant.2)

pub returns-then-find_solution-clause-solved : goal.returns-then-find_solution-clause-solved
returns-then-find_solution-clause-solved g c =
    let f = c.args.f.now in
    let b = g.F.Field.bits_of f in
    let md = g.F.Field.modulus_of f in
    let a = c.m.inside in
    let x = c.find_solution.new.x in
    let wide : length c.deref_mut-2.result.now ≡ a.cols = ap (λ (w : List ℕ). length w) c.deref_mut-2.ensures.value ∙ sym c.in_ok-x.x.ok.0 ∙ c.in_ok-x.ensures.len in
    let long : length x ≡ c.in_ok-x.x.len = c.find_solution.auto.x ∙ ap (λ (w : List ℕ). length w) c.deref_mut-2.ensures.value ∙ sym c.in_ok-x.x.ok.0 in
    subst (λ (w : List ℕ). IsSolution b md c.args.m.now c.args.rhs.now w) (sym (with_items_is c.in_ok-x.x x long))
    (solution_found b md a.rows a.cols a.entries.items c.args.m.now c.m.view_is (g.met.F.Field.is_modulus f) c.args.rhs.now x c.requires.sides (c.find_solution.auto.x ∙ wide) c.if-find_solution.ensures.symbols
    (subst (λ (n : ℕ). (i : ℕ) → i < length c.args.rhs.now → dot (gf_mul b md) n (cell a.entries.items n i) (slice_index x) ≡ slice_index c.args.rhs.now i) wide
    (subst (λ (w : List ℕ). (i : ℕ) → i < length c.args.rhs.now → dot (gf_mul b md) (length c.deref_mut-2.result.now) (cell w (length c.deref_mut-2.result.now) i) (slice_index x) ≡ slice_index c.args.rhs.now i)
    c.deref.ensures.value c.if-find_solution.ensures.solves)))

pub returns-then-find_solution-clause-free : goal.returns-then-find_solution-clause-free
returns-then-find_solution-clause-free g c =
    let f = c.args.f.now in
    let b = g.F.Field.bits_of f in
    let md = g.F.Field.modulus_of f in
    let a = c.m.inside in
    let x = c.find_solution.new.x in
    let wide : length c.deref_mut-2.result.now ≡ a.cols = ap (λ (w : List ℕ). length w) c.deref_mut-2.ensures.value ∙ sym c.in_ok-x.x.ok.0 ∙ c.in_ok-x.ensures.len in
    let long : length x ≡ c.in_ok-x.x.len = c.find_solution.auto.x ∙ ap (λ (w : List ℕ). length w) c.deref_mut-2.ensures.value ∙ sym c.in_ok-x.x.ok.0 in
    subst (λ (w : List ℕ). HasFreeZeros b md c.args.m.now w) (sym (with_items_is c.in_ok-x.x x long))
    (free_found b md a.rows a.cols a.entries.items c.args.m.now c.m.view_is (g.met.F.Field.is_modulus f) c.args.rhs.now x c.requires.sides
    (subst (λ (n : ℕ). (j : ℕ) → j < n → IsFree (2 ^ b) (gf_mul b md) (cell a.entries.items n) (length c.args.rhs.now) j → slice_index x j ≡ 0) wide
    (subst (λ (w : List ℕ). (j : ℕ) → j < length c.deref_mut-2.result.now → IsFree (2 ^ b) (gf_mul b md) (cell w (length c.deref_mut-2.result.now)) (length c.args.rhs.now) j → slice_index x j ≡ 0)
    c.deref.ensures.value c.if-find_solution.ensures.free)))

pub returns-clause-solved : goal.returns-clause-solved
returns-clause-solved g c x s =
    let f = c.args.f.now in
    let b = g.F.Field.bits_of f in
    let md = g.F.Field.modulus_of f in
    let a = c.m.inside in
    let wide : length c.deref_mut-2.result.now ≡ a.cols = ap (λ (w : List ℕ). length w) c.deref_mut-2.ensures.value ∙ sym c.in_ok-x.x.ok.0 ∙ c.in_ok-x.ensures.len in
    no_solution_found b md a.rows a.cols a.entries.items c.args.m.now c.m.view_is (g.met.F.Field.is_modulus f) c.args.rhs.now x c.requires.sides
    (subst (λ (n : ℕ). (y : ℕ → ℕ) → ((i : ℕ) → i < length c.args.rhs.now → dot (gf_mul b md) n (cell a.entries.items n i) y ≡ slice_index c.args.rhs.now i) → ⊥) wide
    (subst (λ (w : List ℕ). (y : ℕ → ℕ) → ((i : ℕ) → i < length c.args.rhs.now → dot (gf_mul b md) (length c.deref_mut-2.result.now) (cell w (length c.deref_mut-2.result.now) i) y ≡ slice_index c.args.rhs.now i) → ⊥)
    c.deref.ensures.value c.if-find_solution.ensures.none)) s
