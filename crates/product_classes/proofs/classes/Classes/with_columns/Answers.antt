use Rattle.std.proofs.Common.{ℕ, ◌≡◌, ◌*◌, ◌<◌, ◌≤◌, ◌∙◌, List, length, take, refl, sym, ap, subst, arith}
use Rattle.std.specs.Prelude.{vec_capacity}
use Rattle.std.proofs.Math.Nat.{mul-le-mul_right}
use Rattle.std.proofs.lemmas.List.{length-take-le, get_or_default}
use Rattle.product_classes.specs.Columns.{ArePairs, AreRising, AreColumns, sum_of_class}
use Rattle.product_classes.specs.Shifts.{AreShiftRooms}
use Rattle.product_classes.specs.Kept.{listed}
use Rattle.product_classes.proofs.Moves.{classes_move, columns_hold, pairs_of, rising_of, pairs_take}
use Rattle.product_classes.proofs.classes.Classes.with_columns.Goals as goal

pub classes_below-below-requires-clause-pairs : goal.classes_below-below-requires-clause-pairs
classes_below-below-requires-clause-pairs g c =
    let n = c.args.basis.now.n in
    let a = c.args.listing in
    let r = c.requires in
    subst (λ (ls : List ℕ). ArePairs n ls c.deref-2.result.now) (sym c.deref.ensures.value) (subst (λ (rs : List ℕ). ArePairs n a.lefts.items rs) (sym c.deref-2.ensures.value)
    (pairs_of c.args.basis.now (listed a c.args.limit) r.classes refl r.listing.same))

pub classes_below-below-requires-clause-rise : goal.classes_below-below-requires-clause-rise
classes_below-below-requires-clause-rise g c =
    let b = c.args.basis.now in
    let a = c.args.listing in
    let r = c.requires in
    subst (λ (ls : List ℕ). AreRising b ls c.deref-2.result.now) (sym c.deref.ensures.value) (subst (λ (rs : List ℕ). AreRising b a.lefts.items rs) (sym c.deref-2.ensures.value)
    (rising_of b (listed a c.args.limit) r.classes refl))

pub columns_of-requires-clause-pairs : goal.columns_of-requires-clause-pairs
columns_of-requires-clause-pairs g c =
    let n = c.args.basis.now.n in
    let a = c.args.listing in
    let r = c.requires in
    let k = c.classes_below-below.result in
    let same : length c.deref-3.result.now ≡ length c.deref.result.now = ap length (c.deref-3.ensures.value ∙ sym c.deref.ensures.value) in
    pairs_take n k c.deref-3.result.now c.deref-4.result.now (omega (arith, c.classes_below-below.ensures.within))
    (subst (λ (ls : List ℕ). ArePairs n ls c.deref-4.result.now) (sym c.deref-3.ensures.value) (subst (λ (rs : List ℕ). ArePairs n a.lefts.items rs) (sym c.deref-4.ensures.value)
    (pairs_of c.args.basis.now (listed a c.args.limit) r.classes refl r.listing.same)))

pub invariant_of-result : goal.invariant_of-result
invariant_of-result g c =
    let a = c.args.listing in
    let b = c.args.basis.now in
    let r = c.requires in
    let h = c.requires.classes in
    let e : a.n ≡ b.n = r.listing.n_is in
    let square : a.n * a.n ≡ b.n * b.n = ap (λ (x : ℕ). x * x) e in
    let few : length a.lefts.items ≤ a.n * a.n = h.few in
    let some : 1 ≤ b.n = c.n.ensures.sound.sound.shape.some_members in
    let one : 1 * b.n ≤ b.n * b.n = mul-le-mul_right b.n some in
    let first : 0 < length a.lefts.items = let w = c.requires.numbers 0 0 (omega (arith, r.listing.n_numbers)) in omega arith in
    record {
      some = omega arith;
      small = omega (arith, c.n.ensures.sound.sound.shape.few_members);
      n_numbers = r.listing.n_numbers ∙ sym square;
      low = λ k d l. let w = c.requires.numbers k d l in omega (arith, c.padded.ensures.enough, a.lefts.ok.0);
      n_reaches = r.listing.n_reaches ∙ sym e;
      short = λ k d l. let w = h.reaches_are.within k (omega (arith, r.listing.n_reaches)) in subst (λ (x : ℕ). x ≤ a.n) (get_or_default a.reaches.items k 0 d l) (omega arith);
      same = r.listing.same;
      same_room = r.listing.room_rights ∙ sym r.listing.room_lefts;
      within = omega (arith, c.padded.ensures.enough, a.lefts.ok.0);
      some_value = omega (arith, c.padded.ensures.enough, a.lefts.ok.0);
      few = omega (arith, c.padded.ensures.few, a.lefts.ok.0);
      shifts = subst (λ (x : ℕ). AreShiftRooms x c.args.shifts) (sym e) r.shifts;
    }

pub returns-clause-classes : goal.returns-clause-classes
returns-clause-classes g c =
    let a = c.args.listing in
    classes_move c.args.basis.now (listed a c.args.limit) c.padded.result (vec_capacity a.lefts) c.args.first c.padded-width.result a.lefts.items a.rights.items c.in_ok-columns.columns.items
    (λ k l. refl) (λ k l. refl) c.requires.classes

pub returns-clause-columns : goal.returns-clause-columns
returns-clause-columns g c =
    let a = c.args.listing in
    let b = c.args.basis.now in
    let k = c.classes_below-below.result in
    let r = c.classes_below-below.ensures in
    let columns = c.in_ok-columns.columns.items in
    let w = c.padded-width.result in
    let count : length c.deref.result.now ≡ length a.lefts.items = ap length c.deref.ensures.value in
    let long : length (take k c.deref-3.result.now) ≡ k = length-take-le k c.deref-3.result.now (omega (arith, r.within, count, ap length c.deref-3.ensures.value)) in
    columns_hold b (record (listed a c.args.limit) { size = c.padded.result; most = vec_capacity a.lefts; first = c.args.first; width = w; columns = columns })
    k c.requires.first (omega (arith, r.within, count, a.lefts.ok.0, c.padded.ensures.value, c.padded-width.ensures.value)) c.padded-width.ensures.enough c.in_ok-columns.ensures.fit c.in_ok-columns.ensures.symbols
    (λ q l u.
    subst (λ (xs : List ℕ). c.args.limit ≤ sum_of_class b xs a.rights.items q) c.deref.ensures.value (subst (λ (ys : List ℕ). c.args.limit ≤ sum_of_class b c.deref.result.now ys q) c.deref-2.ensures.value
    (r.above q l (omega (arith, count)))))
    (subst (λ (xs : List ℕ). AreColumns b (take k xs) (take k a.rights.items) c.args.first w k columns) c.deref-3.ensures.value
    (subst (λ (ys : List ℕ). AreColumns b (take k c.deref-3.result.now) (take k ys) c.args.first w k columns) c.deref-4.ensures.value
    (subst (λ (q : ℕ). AreColumns b (take k c.deref-3.result.now) (take k c.deref-4.result.now) c.args.first w q columns) long c.in_ok-columns.ensures.value)))
