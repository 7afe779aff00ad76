use Rattle.std.proofs.Common.{◌≡◌, ℕ, ◌+◌, ◌*◌, ◌<◌, List, true, get_or, set, flat_map, sym, ap, ◌∙◌, arith, ext_get_or}
use Rattle.std.proofs.lemmas.List.Edits.{fill_by_more}
use Rattle.std.proofs.lemmas.Nat.{mul-add-lt}
use Rattle.stored_form.specs.Symbols.{packed_symbols}
use Rattle.stored_form.specs.Group.{stored_blocks}
use Rattle.stored_form.proofs.GroupLemmas.{gather_at, length-gathered_words}
use Rattle.ag_frame.proofs.PackedSymbols.{packed_symbols-at}
use Rattle.ag_frame.proofs.packed.unpack_symbols.Goals as goal

pub loop-p-preserved : goal.loop-p-preserved
loop-p-preserved c =
    let at : ℕ = c.loop-c.c * c.args.n + c.loop-p.p in
    let place : ℕ = c.loop-p.p * c.args.depth + c.loop-c.c in
    let count : ℕ = c.args.n * c.args.depth in
    let symbols : List ℕ = packed_symbols c.args.width count c.args.group.now in
    let target : List ℕ = flat_map (λ word. word) (stored_blocks true c.args.width c.args.n c.args.depth c.args.group.now) in
    let below : place < c.args.depth * c.args.n = mul-add-lt c.loop-p.p c.args.depth c.loop-c.c c.args.n (omega arith) (omega arith) in
    let value : get_or target at 0 ≡ c.packed_at.result =
    gather_at c.args.n c.args.depth symbols c.loop-c.c c.loop-p.p (omega arith) (omega arith)
    ∙ sym (packed_symbols-at c.args.width count place c.args.group.now (omega arith)) ∙ sym c.packed_at.ensures in
    let inside : at < c.args.n * c.args.depth = mul-add-lt c.loop-c.c c.args.n c.loop-p.p c.args.depth (omega arith) (omega arith) in
    λ k h. ap (λ v. get_or (set c.loop-p.words at v) k 0) (sym value) ∙ fill_by_more (λ i. get_or target i 0) c.loop-p.words at 0 (omega arith) c.loop-p.invariant k (omega arith)

pub returns : goal.returns
returns c =
    let long = length-gathered_words c.args.n c.args.depth (packed_symbols c.args.width (c.args.n * c.args.depth) c.args.group.now) in
    ext_get_or 0 c.loop-c.words (flat_map (λ word. word) (stored_blocks true c.args.width c.args.n c.args.depth c.args.group.now)) (omega arith) (λ k h. c.loop-c.invariant k (let e : c.loop-c.c ≡ c.args.depth = omega arith in rw e (omega arith)))
