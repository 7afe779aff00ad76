use Rattle.std.proofs.Common.{◌≡◌, ℕ, ◌+◌, ◌-◌, ◌*◌, ◌%◌, ◌<◌, ◌≤◌, ◌^◌, List, length, take, drop, sym, ap, ◌∙◌, arith, mul-pos, length-take-le, length-drop, mul-le-mul_right, mul_comm, Bool, true, false, refl, ◌/◌}
use Rattle.std.proofs.Math.Nat.{mul-le-mul_left}
use Rattle.stored_form.specs.Symbols.{stored_size}
use Rattle.stored_form.proofs.SymbolLemmas.{stored_size_above_0}
use Rattle.stored_form.proofs.Lists.{times_mod}
use Rattle.ag_frame.specs.Layouts.{IsLayout, bytes_in_group, words_of_group, fill_of_group}
use Rattle.ag_frame.specs.declared.frame.Layout.{Layout}
use Rattle.ag_trial.specs.Damage.{damaged_words, changes_in}
use Rattle.ag_trial.proofs.Groups.{group_fits, groups_all, groups-more, groups-counted, groups-end, groups-counted_end, group-untouched, fill-more, fill-end}
use Rattle.ag_trial.proofs.Trial.damage_text.Goals as goal

bytes_some : (l : Layout) → IsLayout l → 0 < bytes_in_group l
bytes_some l is = stored_size_above_0 l.packed l.bits (l.n * l.depth) (let a = is.bits_least in omega arith) (mul-pos (let a = is.k_least in let b = is.k_most in omega arith) (let a = is.depth_least in omega arith))

few_in_group : (depth t n : ℕ) → t ≤ n → depth * t ≤ n * depth
few_in_group depth t n h = let m : t * depth ≤ n * depth = mul-le-mul_right depth h in omega (arith, mul_comm depth t)

-- a stored symbol has at least two bits, so that a byte has at most four of them
symbols_few : (bits count : ℕ) → 2 ≤ bits → count ≤ 4 * ((count * bits + 7) / 8)
symbols_few bits count least = let two : count * 2 ≤ count * bits = mul-le-mul_left count least in omega arith

-- so the number of stored symbols of the groups of a text fits 64 bits
text_fits : (packed : Bool) (bits count groups long : ℕ) → 2 ≤ bits → (packed ≡ true → long < 2 ^ 62) → long < 2 ^ 64 → groups * stored_size packed bits count ≤ long → groups * count < 2 ^ 64
text_fits true bits count groups long least few below fits =
    let size : ℕ = (count * bits + 7) / 8 in
    let more : groups * count ≤ groups * (4 * size) = mul-le-mul_left groups (symbols_few bits count least) in
    let four : groups * (4 * size) ≡ 4 * (groups * size) = omega arith in
    let short : long < 2 ^ 62 = few refl in
    omega arith
text_fits false bits count groups long least few below fits = omega arith

pub overflow_add-changes : goal.overflow_add-changes
overflow_add-changes c =
    let l = c.args.layout.now in
    let count : ℕ = l.n * l.depth in
    let es : c.group_bytes-size.result ≡ bytes_in_group l = c.group_bytes-size.ensures in
    let inside : c.loop-g.g * c.group_bytes-size.result + bytes_in_group l ≤ length c.args.text.now = group_fits (length c.args.text.now) c.group_bytes-size.result (bytes_in_group l) c.loop-g.g (sym es) c.loop-g-test.true in
    let place : c.loop-g.g * c.group_bytes-size.result ≡ c.loop-g.g * bytes_in_group l = ap (λ (m : ℕ). c.loop-g.g * m) es in
    let room : (c.loop-g.g + 1) * bytes_in_group l ≤ length c.args.text.now = omega arith in
    let fits : (c.loop-g.g + 1) * count < 2 ^ 64 = text_fits l.packed l.bits count (c.loop-g.g + 1) (length c.args.text.now) c.requires.layout.bits_least c.requires.few (omega arith) room in
    let few = c.loop-g.invariant.few in
    let small = c.damage_group.ensures.small in
    let e = c.from-changes.ensures in
    let group = few_in_group l.depth c.args.t l.n c.requires.t in
    omega arith

pub loop-g-preserved : goal.loop-g-preserved
loop-g-preserved c =
    let l = c.args.layout.now in
    let many : ℕ = bytes_in_group l in
    let symbols : ℕ = 2 ^ c.args.layout.now.bits in
    let t : ℕ = c.args.t in
    let size : ℕ = c.group_bytes-size.result in
    let at : ℕ = c.loop-g.g * c.group_bytes-size.result in
    let old : List ℕ = c.args.text.now in
    let part : List ℕ = take ((c.loop-g.g + 1) * size - at) (drop at c.loop-g.text) in
    let es : size ≡ many = c.group_bytes-size.ensures in
    let some : 0 < many = bytes_some c.args.layout.now c.requires.layout in
    let next : (c.loop-g.g + 1) * size ≡ at + many = omega arith in
    let ek : (c.loop-g.g + 1) * size - at ≡ many = omega arith in
    let whole : at % many ≡ 0 = ap (λ (m : ℕ). c.loop-g.g * m % many) es ∙ times_mod c.loop-g.g many some in
    let same : part ≡ take many (drop at old) =
    ap (λ (m : ℕ). take m (drop at c.loop-g.text)) ek ∙ group-untouched symbols t (words_of_group l) many some _ old c.loop-g.text at c.loop-g.self c.loop-g.invariant.groups in
    let room : length c.loop-g.text ≡ length old = c.loop-g.auto.text in
    let fits : at + many ≤ length old = group_fits (length old) size many c.loop-g.g (sym es) c.loop-g-test.true in
    let long : length c.damage_group.new.group ≡ many = c.damage_group.auto.group ∙ ap length same ∙ length-take-le many (drop at old) (omega (arith, length-drop at old)) in
    let words : words_of_group l c.damage_group.new.group ≡ (damaged_words symbols t (words_of_group l (take many (drop at old))) c.loop-g.self).0 =
    c.damage_group.ensures.words ∙ ap (λ (xs : List ℕ). (damaged_words symbols t (words_of_group l xs) c.loop-g.self).0) same in
    let rest : c.damage_group.new.self ≡ (damaged_words symbols t (words_of_group l (take many (drop at old))) c.loop-g.self).1 =
    c.damage_group.ensures.rest ∙ ap (λ (xs : List ℕ). (damaged_words symbols t (words_of_group l xs) c.loop-g.self).1) same in
    let drawn : c.from-changes.result ≡ changes_in symbols t (words_of_group l (take many (drop at old))) c.loop-g.self =
    c.from-changes.ensures ∙ c.damage_group.ensures.drawn ∙ ap (λ (xs : List ℕ). changes_in symbols t (words_of_group l xs) c.loop-g.self) same in
    record {
      groups = groups-more symbols t (words_of_group l) many some _ old c.loop-g.text c.damage_group.new.group at ((c.loop-g.g + 1) * size) ((c.loop-g.g + 1) * size - at) c.loop-g.self c.damage_group.new.self
          next whole (omega arith) room long ek words rest c.loop-g.invariant.groups;
      counted = rw next (groups-counted symbols t (words_of_group l) many some old at c.loop-g.changes c.from-changes.result c.loop-g.self c.damage_group.new.self fits drawn rest ∙ c.loop-g.invariant.counted);
      fill = fill-more (fill_of_group l) many old c.loop-g.text c.damage_group.new.group at ((c.loop-g.g + 1) * size) ((c.loop-g.g + 1) * size - at)
          some next whole (omega arith) room long ek (c.damage_group.ensures.fill ∙ ap (fill_of_group l) same) c.loop-g.invariant.fill;
      few =
          (let few = c.loop-g.invariant.few in
          let small = c.damage_group.ensures.small in
          let e = c.from-changes.ensures in
          let group = few_in_group l.depth t l.n c.requires.t in
          omega arith);
    }

pub returns-clause-words : goal.returns-clause-words
returns-clause-words c =
    let l = c.args.layout.now in
    let at : ℕ = c.loop-g.g * c.group_bytes-size.result in
    let room : length c.loop-g.text ≡ length c.args.text.now = c.loop-g.auto.text in
    let whole : length c.args.text.now % c.group_bytes-size.result ≡ 0 = ap (λ (m : ℕ). length c.args.text.now % m) c.group_bytes-size.ensures ∙ c.requires.whole in
    let all : length c.args.text.now ≤ at = groups_all (length c.args.text.now) c.group_bytes-size.result c.loop-g.g whole c.loop-g-test.false in
    (groups-end (2 ^ l.bits) c.args.t (words_of_group l) (bytes_in_group l) (bytes_some l c.requires.layout) _ c.args.text.now c.loop-g.text at c.loop-g.self (omega arith) all c.loop-g.invariant.groups).0

pub returns-clause-fill : goal.returns-clause-fill
returns-clause-fill c =
    let l = c.args.layout.now in
    let at : ℕ = c.loop-g.g * c.group_bytes-size.result in
    let room : length c.loop-g.text ≡ length c.args.text.now = c.loop-g.auto.text in
    let whole : length c.args.text.now % c.group_bytes-size.result ≡ 0 = ap (λ (m : ℕ). length c.args.text.now % m) c.group_bytes-size.ensures ∙ c.requires.whole in
    let all : length c.args.text.now ≤ at = groups_all (length c.args.text.now) c.group_bytes-size.result c.loop-g.g whole c.loop-g-test.false in
    fill-end (fill_of_group l) (bytes_in_group l) c.args.text.now c.loop-g.text at (omega arith) all c.loop-g.invariant.fill

pub returns-clause-rest : goal.returns-clause-rest
returns-clause-rest c =
    let l = c.args.layout.now in
    let at : ℕ = c.loop-g.g * c.group_bytes-size.result in
    let room : length c.loop-g.text ≡ length c.args.text.now = c.loop-g.auto.text in
    let whole : length c.args.text.now % c.group_bytes-size.result ≡ 0 = ap (λ (m : ℕ). length c.args.text.now % m) c.group_bytes-size.ensures ∙ c.requires.whole in
    let all : length c.args.text.now ≤ at = groups_all (length c.args.text.now) c.group_bytes-size.result c.loop-g.g whole c.loop-g-test.false in
    (groups-end (2 ^ l.bits) c.args.t (words_of_group l) (bytes_in_group l) (bytes_some l c.requires.layout) _ c.args.text.now c.loop-g.text at c.loop-g.self (omega arith) all c.loop-g.invariant.groups).1

pub returns-clause-drawn : goal.returns-clause-drawn
returns-clause-drawn c =
    let l = c.args.layout.now in
    let at : ℕ = c.loop-g.g * c.group_bytes-size.result in
    let whole : length c.args.text.now % c.group_bytes-size.result ≡ 0 = ap (λ (m : ℕ). length c.args.text.now % m) c.group_bytes-size.ensures ∙ c.requires.whole in
    let all : length c.args.text.now ≤ at = groups_all (length c.args.text.now) c.group_bytes-size.result c.loop-g.g whole c.loop-g-test.false in
    let none = groups-counted_end (2 ^ l.bits) c.args.t (words_of_group l) (bytes_in_group l) (bytes_some l c.requires.layout) c.args.text.now at c.loop-g.self all in
    let counted = c.loop-g.invariant.counted in
    omega arith
