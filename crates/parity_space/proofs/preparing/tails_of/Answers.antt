use Rattle.std.proofs.Common.{◌≡◌, ◌≢◌, ℕ, ◌+◌, ◌-◌, ◌<◌, not, List, [], length, length-set, take, drop, get_or, get_or-set_same, get_or-set_other, below_more, sym, ◌∙◌, ap, subst, arith}
use Rattle.std.proofs.Math.ListN.{set}
use Rattle.std.proofs.lemmas.List.{length-drop, take_all}
use Rattle.gf_linear.specs.Matrix.{row}
use Rattle.parity_space.specs.Forms.{IsUnitWord}
use Rattle.block_theory.proofs.Kept.{AreKept, are_kept}
use Rattle.parity_space.specs.Forms.{is_pivot}
use Rattle.parity_space.proofs.Scans.{not_pivot}
use Rattle.parity_space.proofs.preparing.tails_of.Goals as goal

pub write_unit-requires-clause-place : goal.write_unit-requires-clause-place
write_unit-requires-clause-place c =
    let n = c.args.e.now.cols in
    let ps = c.args.pivots.now in
    let kept : AreKept (λ p. not (is_pivot ps (n - 1 - p))) n c.args.places.now =
    subst (AreKept (λ p. not (is_pivot ps (n - 1 - p))) n) (sym c.requires.places) (are_kept (λ p. not (is_pivot ps (n - 1 - p))) n) in
    kept.below c.loop-i.i c.loop-i-test.true

pub write_unit-requires-clause-free : goal.write_unit-requires-clause-free
write_unit-requires-clause-free c t l =
    let n = c.args.e.now.cols in
    let ps = c.args.pivots.now in
    let kept : AreKept (λ p. not (is_pivot ps (n - 1 - p))) n c.args.places.now =
    subst (AreKept (λ p. not (is_pivot ps (n - 1 - p))) n) (sym c.requires.places) (are_kept (λ p. not (is_pivot ps (n - 1 - p))) n) in
    not_pivot ps (n - 1 - get_or c.args.places.now c.loop-i.i 0) (kept.pass c.loop-i.i c.loop-i-test.true) t l

pub loop-i-preserved : goal.loop-i-preserved
loop-i-preserved c =
    let e = c.args.e.now in
    let ps = c.args.pivots.now in
    let first = c.args.first in
    let word = c.write_unit.new.line in
    let old = c.loop-i.tails.rows in
    let inv = c.loop-i.invariant in
    let whole : take (length word - first) (drop first word) ≡ drop first word = take_all (length word - first) (drop first word) (rw length-drop (omega arith)) in
    let rows : c.set_row.new.self.rows ≡ set old c.loop-i.i (drop first word) = ap (λ m. m.rows) c.set_row.ensures ∙ ap (set old c.loop-i.i) whole in
    let within : c.loop-i.i < length old = (let test : c.loop-i.i < length c.args.places.now = c.loop-i-test.true in omega arith) in record {
      rows = ap length rows ∙ length-set old c.loop-i.i (drop first word) ∙ inv.rows;
      cols = ap (λ m. first + m.cols) c.set_row.ensures ∙ inv.cols;
      line = c.write_unit.auto.line ∙ inv.line;
      made =
          below_more (λ q. (x : List ℕ) × IsUnitWord e ps e.cols (get_or c.args.places.now q 0) x × (row c.set_row.new.self q ≡ drop first x)) c.loop-i.i
          (λ q l. (let (x, u, r) = inv.made q l in
          let apart : q ≢ c.loop-i.i = omega arith in
          (x, u, ap (λ (v : List (List ℕ)). get_or v q []) rows ∙ get_or-set_other old c.loop-i.i q (drop first word) [] apart ∙ r)))
          (word, c.write_unit.ensures.word, ap (λ (v : List (List ℕ)). get_or v c.loop-i.i []) rows ∙ get_or-set_same old c.loop-i.i (drop first word) [] within);
    }
