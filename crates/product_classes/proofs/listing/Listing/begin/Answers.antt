use Rattle.std.proofs.Common.{ℕ, ◌+◌, ◌*◌, ◌<◌, ◌≤◌, ◌∙◌, List, [], ◌∷◌, ◌++◌, length, set, sym, subst, refl, arith}
use Rattle.std.proofs.Math.Facts.{Fits-of_lt}
use Rattle.order_theory.specs.Basis.{sum_at}
use Rattle.product_classes.specs.Listings.{IsListed, seen}
use Rattle.product_classes.proofs.Places.{square_small}
use Rattle.product_classes.proofs.Growth.{begun, room_left}
use Rattle.product_classes.proofs.listing.Listing.begin.Goals as goal

pub push_reserved-requires : goal.push_reserved-requires
push_reserved-requires g c =
    let a = c.args.self.now in
    let b = c.args.basis.now in
    let r : length a.lefts.items < b.n * b.n = room_left b (seen a) _ c.args.i c.args.i c.args.j c.requires.listed c.requires.row c.requires.column c.requires.is_next c.requires.room.n_reaches in
    omega (arith, c.requires.room.room_lefts, a.lefts.ok.0)

pub push_reserved-requires-2 : goal.push_reserved-requires-2
push_reserved-requires-2 g c =
    let a = c.args.self.now in
    let b = c.args.basis.now in
    let r : length a.lefts.items < b.n * b.n = room_left b (seen a) _ c.args.i c.args.i c.args.j c.requires.listed c.requires.row c.requires.column c.requires.is_next c.requires.room.n_reaches in
    omega (arith, c.requires.room.room_rights, c.requires.room.same, a.rights.ok.0)

pub overflow_cast-class : goal.overflow_cast-class
overflow_cast-class g c =
    let a = c.args.self.now in
    let b = c.args.basis.now in
    let r : length a.lefts.items < b.n * b.n = room_left b (seen a) _ c.args.i c.args.i c.args.j c.requires.listed c.requires.row c.requires.column c.requires.is_next c.requires.room.n_reaches in
    let s : b.n * b.n ≤ 1048576 = square_small b.n c.n.ensures.sound.sound.shape.few_members in
    Fits-of_lt (omega (arith, a.lefts.ok.0))

pub returns-clause-listed : goal.returns-clause-listed
returns-clause-listed g c =
    let a = c.args.self.now in
    let b = c.args.basis.now in
    let r = c.requires in
    let s : ℕ = sum_at b c.args.i c.args.j in
    let place : ℕ = c.args.i * a.n + c.args.j in
    let reaches : List ℕ = set a.reaches.items c.args.i (c.args.j + 1) in
    let rights = c.push_reserved-2.new.self.items in
    subst (λ (ls : List ℕ). IsListed b (record (seen a) { count = length ls; numbers = set a.numbers.items place c.len-class.result; reaches = reaches; lefts = ls; rights = rights }) s (c.args.i + 1)) (sym c.push_reserved.ensures.items)
    (subst (λ (rs : List ℕ). IsListed b (record (seen a) { count = length (a.lefts.items ++ c.args.i ∷ []); numbers = set a.numbers.items place c.len-class.result; reaches = reaches; lefts = a.lefts.items ++ c.args.i ∷ []; rights = rs }) s (c.args.i + 1)) (sym c.push_reserved-2.ensures.items)
    (subst (λ (k : ℕ). IsListed b (record (seen a) { count = length (a.lefts.items ++ c.args.i ∷ []); numbers = set a.numbers.items place k; reaches = reaches; lefts = a.lefts.items ++ c.args.i ∷ []; rights = a.rights.items ++ c.args.j ∷ [] }) s (c.args.i + 1)) (sym (c.len-class.ensures ∙ a.lefts.ok.0))
    (begun b (seen a) c.args.i c.args.j c.n.ensures.sound r.listed r.row r.column r.is_next r.sum r.room.n_numbers r.room.n_reaches refl (sym r.room.same))))
