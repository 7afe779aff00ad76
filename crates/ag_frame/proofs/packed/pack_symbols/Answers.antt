use Rattle.std.proofs.Common.{ℕ, ◌≡◌, ◌+◌, ◌*◌, ◌/◌, ◌<◌, ◌≤◌, List, length, true, get_or, sym, ap, ◌∙◌, arith, mul-le-mul_right}
use Rattle.std.proofs.lemmas.Nat.{mul-add-lt}
use Rattle.stored_form.specs.Bits.{whole_pieces}
use Rattle.stored_form.specs.Symbols.{stored_size}
use Rattle.stored_form.specs.Group.{spread}
use Rattle.stored_form.proofs.GroupLemmas.{spread_at, length-spread_words}
use Rattle.ag_frame.proofs.PendingBits.{packed_more, packed_end, packed_end_fill}
use Rattle.ag_frame.proofs.packed.pack_symbols.Goals as goal

-- a place of the group has its bits inside
inside : (width n depth p q size : ℕ) → p < n → q < depth → size ≡ (n * depth * width + 7) / 8 → (p * depth + q) * width + width ≤ 8 * size
inside width n depth p q size lp lq is =
    let below : p * depth + q < depth * n = mul-add-lt p depth q n lp lq in
    let room : (p * depth + q + 1) * width ≤ n * depth * width = mul-le-mul_right width (let h : p * depth + q + 1 ≤ n * depth = omega arith in h) in
    omega arith

pub put-requires-clause-inside : goal.put-requires-clause-inside
put-requires-clause-inside c =
    let size : length c.loop-c.group ≡ (c.args.n * c.args.depth * c.args.width + 7) / 8 = omega (arith, c.requires.group_long) in
    omega (arith, c.loop-c.invariant.place_is, inside c.args.width c.args.n c.args.depth c.loop-p.p c.loop-c.c (length c.loop-c.group) (omega arith) (omega arith) size)

pub loop-c-preserved : goal.loop-c-preserved
loop-c-preserved c =
    let l = c.loop-c in
    let at : ℕ = c.loop-p.p * c.args.depth + l.c in
    let target : List ℕ = spread c.args.n (whole_pieces c.args.n c.args.words.now) in
    let value : get_or target at 0 ≡ get_or c.args.words.now (l.c * c.args.n + c.loop-p.p) 0 = spread_at c.args.n c.args.depth c.args.words.now c.loop-p.p l.c c.requires.words_long (omega arith) (omega arith) in
    let below : at < c.args.depth * c.args.n = mul-add-lt c.loop-p.p c.args.depth l.c c.args.n (omega arith) (omega arith) in
    let long = length-spread_words c.args.n c.args.depth c.args.words.now c.requires.sizes.n_least c.requires.words_long in
    packed_more c.args.width at (c.loop-p.p * c.args.depth + (l.c + 1)) (get_or c.args.words.now (l.c * c.args.n + c.loop-p.p) 0) target l.group c.put.new.bytes
    l.pending.place l.pending.have l.pending.bits c.put.new.self.place c.put.new.self.have c.put.new.self.bits
    (omega arith) (omega (arith, long)) (sym value) l.invariant c.put.ensures.few c.put.ensures.small c.put.ensures.place c.put.ensures.bits

pub returns-then-waiting-gt0 : goal.returns-then-waiting-gt0
returns-then-waiting-gt0 c =
    let l = c.loop-p in
    let put = c.put-then-waiting-gt0 in
    let target : List ℕ = spread c.args.n (whole_pieces c.args.n c.args.words.now) in
    let long : length target ≡ c.args.n * c.args.depth = length-spread_words c.args.n c.args.depth c.args.words.now c.requires.sizes.n_least c.requires.words_long in
    let size : length put.new.bytes ≡ stored_size true c.args.width (length target) = put.ensures.length ∙ (let e : length l.group ≡ length c.args.group.now = omega arith in e) ∙ c.requires.group_long ∙ ap (λ m. stored_size true c.args.width m) (sym long) in
    let all : l.p * c.args.depth ≡ length target = ap (λ p. p * c.args.depth) (let e : l.p ≡ c.args.n = omega arith in e) ∙ sym long in
    packed_end_fill c.args.width (l.p * c.args.depth) l.pending.place l.pending.have l.pending.bits put.new.self.place put.new.self.have put.new.self.bits target l.group put.new.bytes
    all size (omega (arith, c.if-waiting-gt0.true)) l.invariant put.ensures.few put.ensures.place put.ensures.bits

pub returns-else-waiting-gt0 : goal.returns-else-waiting-gt0
returns-else-waiting-gt0 c =
    let l = c.loop-p in
    let target : List ℕ = spread c.args.n (whole_pieces c.args.n c.args.words.now) in
    let long : length target ≡ c.args.n * c.args.depth = length-spread_words c.args.n c.args.depth c.args.words.now c.requires.sizes.n_least c.requires.words_long in
    let size : length l.group ≡ stored_size true c.args.width (length target) = (let e : length l.group ≡ length c.args.group.now = omega arith in e) ∙ c.requires.group_long ∙ ap (λ m. stored_size true c.args.width m) (sym long) in
    let all : l.p * c.args.depth ≡ length target = ap (λ p. p * c.args.depth) (let e : l.p ≡ c.args.n = omega arith in e) ∙ sym long in
    packed_end c.args.width (l.p * c.args.depth) l.pending.place l.pending.have l.pending.bits target l.group all size (omega (arith, c.if-waiting-gt0.false)) l.invariant
