use Rattle.std.proofs.Common.{ℕ, ◌≡◌, ◌+◌, ◌*◌, ◌/◌, ◌<◌, List, length, flat_map, true, All, sym, ap, ◌∙◌, arith}
use Rattle.std.proofs.lemmas.List.Elements.{All-from_get_or}
use Rattle.stored_form.specs.Symbols.{stored_size}
use Rattle.stored_form.specs.Group.{gather, stored_blocks}
use Rattle.ag_frame.proofs.PackedSymbols.{packed_symbols-of_bytes}
use Rattle.ag_frame.proofs.packed.unpack_words.Goals as goal

-- a symbol of eight bits takes a byte
same_size : (width count : ℕ) → width ≡ 8 → stored_size true width count ≡ count
same_size width count eight = ap (λ w. (count * w + 7) / 8) eight ∙ omega arith

-- so the blocks of a group of them are those of its bytes
as_bytes : (width n depth : ℕ) (group : List ℕ) → width ≡ 8 → length group ≡ n * depth → All (λ b. b < 256) group → stored_blocks true width n depth group ≡ gather n depth group
as_bytes width n depth group eight long fit =
    ap (λ w. stored_blocks true w n depth group) eight ∙ ap (gather n depth) (packed_symbols-of_bytes (n * depth) group long fit)

pub returns-then-width-eq8 : goal.returns-then-width-eq8
returns-then-width-eq8 c =
    c.gather_words.ensures
    ∙ ap (flat_map (λ word. word)) (sym (as_bytes c.args.width c.args.n c.args.depth c.args.group.now c.if-width-eq8.true (c.requires.group_long ∙ same_size c.args.width (c.args.n * c.args.depth) c.if-width-eq8.true)
    (All-from_get_or (λ b. b < 256) c.args.group.now 0 (λ i l. omega (arith, c.type_inv.group i)))))
