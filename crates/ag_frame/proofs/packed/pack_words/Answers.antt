use Rattle.std.proofs.Common.{ℕ, ◌≡◌, ◌<◌, List, All, sym, ap, ◌∙◌, arith}
use Rattle.std.proofs.lemmas.List.Elements.{All-from_get_or}
use Rattle.stored_form.specs.Bits.{whole_pieces}
use Rattle.stored_form.specs.Symbols.{packed_bytes}
use Rattle.stored_form.specs.Group.{spread}
use Rattle.ag_frame.proofs.PackedSymbols.{packed_bytes-of_bytes, packed_bytes-from_bits}
use Rattle.ag_frame.proofs.packed.pack_words.Goals as goal

-- a group of symbols of eight bits is these bytes
as_bytes : (width : ℕ) (target group : List ℕ) → width ≡ 8 → group ≡ target → All (λ b. b < 256) group → group ≡ packed_bytes width target
as_bytes width target group eight same fit = sym (packed_bytes-of_bytes group fit) ∙ ap (packed_bytes 8) same ∙ ap (λ w. packed_bytes w target) (sym eight)

pub returns-then-width-eq8 : goal.returns-then-width-eq8
returns-then-width-eq8 c =
    as_bytes c.args.width (spread c.args.n (whole_pieces c.args.n c.args.words.now)) c.spread_words.new.group c.if-width-eq8.true c.spread_words.ensures
    (All-from_get_or (λ b. b < 256) c.spread_words.new.group 0 (λ i l. omega (arith, c.type_inv.group i)))

pub returns-else-width-eq8 : goal.returns-else-width-eq8
returns-else-width-eq8 c =
    packed_bytes-from_bits c.args.width (spread c.args.n (whole_pieces c.args.n c.args.words.now)) c.pack_symbols.new.group
    (All-from_get_or (λ b. b < 256) c.pack_symbols.new.group 0 (λ i l. omega (arith, c.type_inv.group i))) c.pack_symbols.ensures
