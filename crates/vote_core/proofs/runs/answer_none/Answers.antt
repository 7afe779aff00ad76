use Rattle.std.proofs.Common.{ℕ, ◌≡◌, ◌<◌, true, Bool, List, All, take, sym, subst, ap, ◌∙◌, arith}
use Rattle.std.specs.Vec.{with_items}
use Rattle.std.proofs.lemmas.List.{with_items_is}
use Rattle.order_theory.specs.Basis.{times}
use Rattle.order_theory.specs.Codes.{marked}
use Rattle.order_theory.specs.Errors.{syndrome}
use Rattle.order_theory.specs.Course.{IsErrorOf}
use Rattle.order_theory.proofs.Errors.{error_once, error_of_none, zeros_of}
use Rattle.vote_core.specs.Ledgers.{ledger_of}
use Rattle.vote_core.specs.declared.ledger.VoteLine.{VoteLine}
use Rattle.vote_core.proofs.Lines.{lines_won}
use Rattle.vote_core.proofs.runs.answer_none.Goals as goal

pub returns-clause-says : goal.returns-clause-says
returns-clause-says g c = λ t.
    let b = c.args.basis.now in
    let p = c.args.progress.now in
    let zeros = c.fill.ensures.items (λ y e. e) in
    let long : p.list.len ≡ b.n = p.list.ok.0 ∙ c.requires.kept.n_list ∙ c.requires.fits.n in
    let error : IsErrorOf (times b) b p.marks.items p.t c.args.list.now c.fill.new.self.items =
    error_of_none b p.marks.items p.t c.args.list.now c.is_undamaged.ensures.sound c.requires.word c.fill.new.self.items p.list.len zeros long
    (subst (λ (ms : List Bool). (k : ℕ) → k < b.n → marked ms k ≡ true → syndrome (times b) b c.args.list.now k ≡ 0) c.deref.ensures.value (c.is_undamaged.ensures.undamaged.0 c.if-not-is_undamaged.false)) in
    let written : (with_items p.lines c.write_unanimous-progress.new.lines).items ≡ c.write_unanimous-progress.new.lines =
    with_items_is p.lines c.write_unanimous-progress.new.lines (c.write_unanimous-progress.auto.lines ∙ c.deref_mut.ensures.len) in
    let told : take c.write_unanimous-progress.result (with_items p.lines c.write_unanimous-progress.new.lines).items ≡ ledger_of b p.marks.items c.fill.new.self.items =
    ap (λ (ls : List VoteLine). take c.write_unanimous-progress.result ls) written
    ∙ c.write_unanimous-progress.ensures.lines c.fill.new.self.items error.is_word (zeros_of c.fill.new.self.items p.list.len zeros)
    ∙ ap (λ (ms : List Bool). ledger_of b ms c.fill.new.self.items) c.deref-2.ensures.value in
    record {
      answer = record {
        is_error = error;
        only = λ e x. error_once b p.marks.items p.t c.args.list.now c.is_undamaged.ensures.sound c.requires.word e c.fill.new.self.items c.requires.fits.radius x error;
      };
      told = record {
        kept = ap (λ (ls : List VoteLine). record { bits = p.bits; modulus = p.modulus; n = p.n; marks = p.marks.items; t = p.t; ledger = ls }) told;
        majority = subst (λ (ls : List VoteLine). All (λ line. line.wrong < line.right) ls) (sym told) (lines_won b p.marks.items p.t c.fill.new.self.items b.n c.is_undamaged.ensures.sound error.is_word c.requires.fits.radius error.light (omega arith));
      };
    }
