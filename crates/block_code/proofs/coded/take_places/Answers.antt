use Rattle.std.proofs.Common.{◌≡◌, ℕ, List, length, map, slice_index, sym, ◌∙◌, arith}
use Rattle.std.proofs.lemmas.List.{get_or-map, length-map}
use Rattle.std.proofs.lemmas.Grind.{same_number_lists}
use Rattle.block_code.proofs.coded.take_places.Goals as goal

pub returns : goal.returns
returns c =
    let places : List ℕ = c.args.places.now in
    let word : List ℕ = c.args.word.now in
    let long : length c.loop-i.msg ≡ length places = c.loop-i.auto.msg ∙ c.requires.same in
    same_number_lists c.loop-i.msg (map (slice_index word) places) (long ∙ sym (length-map places (slice_index word)))
    (λ q l. c.loop-i.invariant q (omega arith) ∙ sym (get_or-map (slice_index word) places q 0 0 (omega arith)))
