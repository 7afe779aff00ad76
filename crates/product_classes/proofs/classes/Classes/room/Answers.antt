use Rattle.std.proofs.Common.{ℕ, ◌≡◌, ◌*◌, ◌≤◌, ◌∙◌, length, sym, ap, subst, arith}
use Rattle.std.proofs.Math.Nat.{mul-le-mul_right}
use Rattle.product_classes.specs.Shifts.{AreShiftRooms}
use Rattle.product_classes.proofs.classes.Classes.room.Goals as goal

pub invariant_of-result : goal.invariant_of-result
invariant_of-result c =
    let n = c.args.n in
    let a = c.in_ok-new_listing.field-0 in
    let h = c.in_ok-new_listing.ensures in
    let e : c.args.n ≡ c.in_ok-new_listing.field-0.n = sym h.room.n_is in
    let square : 1 * n ≤ n * n = mul-le-mul_right n c.requires.some in
    let same_square : a.n * a.n ≡ n * n = ap (λ (x : ℕ). x * x) h.room.n_is in
    let none : length a.lefts.items ≡ 0 = ap length h.count in
    record {
      some = omega arith;
      small = omega arith;
      n_numbers = h.room.n_numbers ∙ sym same_square;
      low = λ k d l. omega (arith, h.numbers k d l);
      n_reaches = h.room.n_reaches ∙ e;
      short = λ k d l. omega (arith, h.reaches k d l);
      same = h.room.same;
      same_room = h.room.room_rights ∙ sym h.room.room_lefts;
      within = omega arith;
      some_value = omega arith;
      few = omega arith;
      shifts = subst (λ (x : ℕ). AreShiftRooms x c.in_ok-new_shifts.field-0) e c.in_ok-new_shifts.ensures;
    }
