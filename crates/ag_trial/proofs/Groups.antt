-- The loop over the groups of a text
use Rattle.std.proofs.Common.{◌≡◌, ℕ, ◌+◌, ◌*◌, ◌/◌, ◌%◌, ◌<◌, ◌≤◌, List, [], ◌∷◌, ◌++◌, length, take, drop, flat_map, refl, sym, ap, ap₂, subst, ◌∙◌, arith, append_assoc, append-nil, drop_of_length-le, one-mul, div-add-mod', mul-le-mul_right, take-append-drop, length-take-le, drop-drop, length-drop, take_all}
use Rattle.std.proofs.lemmas.List.Concat.{flat_map-append}
use Rattle.std.proofs.Math.Seq.{take-add}
use Rattle.std.proofs.lemmas.Slice.{take-put_mid, drop-put_mid}
use borrow.Rule.Slice.PartMut.{put_mid}
use Rattle.rand_pcg.specs.Lcg.{Lcg}
use Rattle.stored_form.specs.Bits.{whole_pieces}
use Rattle.stored_form.proofs.Lists.{times_mod, whole_pieces-append, whole_pieces_one, whole_pieces_none}
use Rattle.ag_trial.specs.Damage.{damaged, damaged_words, changes_in, in_pieces}

damaged_words-append : (size t : ℕ) (us vs : List (List ℕ)) (g : Lcg) →
    damaged_words size t (us ++ vs) g
    ≡ ((damaged_words size t us g).0 ++ (damaged_words size t vs (damaged_words size t us g).1).0, (damaged_words size t vs (damaged_words size t us g).1).1)
damaged_words-append size t [] vs g = refl
damaged_words-append size t (u ∷ us) vs g =
    ap (λ (d : List (List ℕ) × Lcg). let e : List (List ℕ) × Lcg = ((damaged size t u g).0 ∷ d.0, d.1) in e)
    (damaged_words-append size t us vs (damaged size t u g).1)

changes_in-append : (size t : ℕ) (us vs : List (List ℕ)) (g : Lcg) →
    changes_in size t (us ++ vs) g ≡ changes_in size t us g + changes_in size t vs (damaged_words size t us g).1
changes_in-append size t [] vs g = omega arith
changes_in-append size t (u ∷ us) vs g = omega (arith, changes_in-append size t us vs (damaged size t u g).1)

module _ {X : Type 0} (f : List ℕ → List X) (many : ℕ) (some : 0 < many) where
  words-none : (xs : List ℕ) → length xs < many → in_pieces f many xs ≡ []
  words-none xs l = ap (λ (ps : List (List ℕ)). flat_map f ps) (whole_pieces_none many xs l)

  words-append : (xs ys : List ℕ) → length xs % many ≡ 0 → in_pieces f many (xs ++ ys) ≡ in_pieces f many xs ++ in_pieces f many ys
  words-append xs ys whole =
      ap (λ (ps : List (List ℕ)). flat_map f ps) (whole_pieces-append many xs ys some whole)
      ∙ flat_map-append f (whole_pieces many xs) (whole_pieces many ys)

  words-one : (xs : List ℕ) → length xs ≡ many → in_pieces f many xs ≡ f xs
  words-one xs e =
      ap (λ (ps : List (List ℕ)). flat_map f ps) (whole_pieces_one many xs some e) ∙ append-nil (f xs)

-- the groups before `at` have the fill bits that they had
pub fill-more : {X : Type 0} (f : List ℕ → List X) (many : ℕ) (old text new : List ℕ) (at to k : ℕ) → 0 < many → to ≡ at + many → at % many ≡ 0 → at + many ≤ length text →
    length text ≡ length old → length new ≡ many → k ≡ many → f new ≡ f (take many (drop at old)) →
    in_pieces f many (take at text) ≡ in_pieces f many (take at old) → in_pieces f many (take to (put_mid at k text new)) ≡ in_pieces f many (take to old)
fill-more f many old text new at to k some next whole fits same long ek kept so =
    let part : List ℕ = take many (drop at old) in
    let part_long : length part ≡ many = length-take-le many (drop at old) (omega (arith, length-drop at old)) in
    let whole_text : length (take at text) % many ≡ 0 = ap (λ (l : ℕ). l % many) (length-take-le at text (omega arith)) ∙ whole in
    let whole_old : length (take at old) % many ≡ 0 = ap (λ (l : ℕ). l % many) (length-take-le at old (omega arith)) ∙ whole in
    ap (in_pieces f many) (take-put_mid at k text new to (omega arith) (omega arith))
    ∙ words-append f many some (take at text) new whole_text
    ∙ ap₂ (λ a b. a ++ b) so (words-one f many some new long ∙ kept ∙ sym (words-one f many some part part_long))
    ∙ sym (words-append f many some (take at old) part whole_old)
    ∙ ap (in_pieces f many) (sym (take-add at many old) ∙ ap (λ (m : ℕ). take m old) (sym next))

pub fill-end : {X : Type 0} (f : List ℕ → List X) (many : ℕ) (old text : List ℕ) (at : ℕ) → length text ≤ at → length old ≤ at →
    in_pieces f many (take at text) ≡ in_pieces f many (take at old) → in_pieces f many text ≡ in_pieces f many old
fill-end f many old text at lt lo so = ap (in_pieces f many) (sym (take_all at text lt)) ∙ so ∙ ap (in_pieces f many) (take_all at old lo)

pub group_fits : (long size some g : ℕ) → some ≡ size → g < long / size → g * size + some ≤ long
group_fits long size some g e l =
    let whole : long / size * size + long % size ≡ long = div-add-mod' long size in
    let below : (g + 1) * size ≤ long / size * size = mul-le-mul_right size (omega arith) in
    omega arith

pub groups_all : (long size g : ℕ) → long % size ≡ 0 → long / size ≤ g → long ≤ g * size
groups_all long size g e l =
    let whole : long / size * size + long % size ≡ long = div-add-mod' long size in
    let above : long / size * size ≤ g * size = mul-le-mul_right size l in
    omega arith

-- the groups before `at` are as F says, and the others and the generator come to what F says
pub record AreGroupsDamagedTo (size t : ℕ) (f : List ℕ → List (List ℕ)) (many : ℕ) (F : List (List ℕ) × Lcg) (old text : List ℕ) (at : ℕ) (g : Lcg) : Type 0 where
  pub done : in_pieces f many (take at text) ++ (damaged_words size t (in_pieces f many (drop at old)) g).0 ≡ F.0
  pub rest : (damaged_words size t (in_pieces f many (drop at old)) g).1 ≡ F.1
  pub untouched : drop at text ≡ drop at old

module _ (size t : ℕ) (f : List ℕ → List (List ℕ)) (many : ℕ) (some : 0 < many) where
  -- the group at `at`, and those after it
  text_split : (text : List ℕ) (at : ℕ) → at + many ≤ length text →
      in_pieces f many (drop at text) ≡ f (take many (drop at text)) ++ in_pieces f many (drop (at + many) text)
  text_split text at fits =
      let here : length (take many (drop at text)) ≡ many = length-take-le many (drop at text) (omega (arith, length-drop at text)) in
      let whole : length (take many (drop at text)) % many ≡ 0 = ap (λ (l : ℕ). l % many) (here ∙ sym (one-mul many)) ∙ times_mod 1 many some in
      let split : drop at text ≡ take many (drop at text) ++ drop (at + many) text =
      sym (take-append-drop many (drop at text)) ∙ ap (λ (xs : List ℕ). take many (drop at text) ++ xs) (drop-drop many at text) in
      ap (in_pieces f many) split
      ∙ words-append f many some (take many (drop at text)) (drop (at + many) text) whole
      ∙ ap (λ (ws : List (List ℕ)). ws ++ in_pieces f many (drop (at + many) text)) (words-one f many some (take many (drop at text)) here)

  pub groups-start : (text : List ℕ) (g : Lcg) → AreGroupsDamagedTo size t f many (damaged_words size t (in_pieces f many text) g) text text 0 g
  groups-start text g = record {
    done = ap (λ (ws : List (List ℕ)). ws ++ (damaged_words size t (in_pieces f many text) g).0) (words-none f many some [] some);
    rest = refl;
    untouched = refl;
  }

  -- the group that the code damages is that of the text before
  pub group-untouched : (F : List (List ℕ) × Lcg) (old text : List ℕ) (at : ℕ) (g : Lcg) → AreGroupsDamagedTo size t f many F old text at g →
      take many (drop at text) ≡ take many (drop at old)
  group-untouched F old text at g so = ap (take many) so.untouched

  groups-one_more : (F : List (List ℕ) × Lcg) (old text new : List ℕ) (at k : ℕ) (g h : Lcg) → at % many ≡ 0 → at + many ≤ length text → length text ≡ length old →
      length new ≡ many → k ≡ many →
      f new ≡ (damaged_words size t (f (take many (drop at old))) g).0 →
      h ≡ (damaged_words size t (f (take many (drop at old))) g).1 →
      AreGroupsDamagedTo size t f many F old text at g → AreGroupsDamagedTo size t f many F old (put_mid at k text new) (at + many) h
  groups-one_more F old text new at k g h whole fits same long ek words rest so =
      let group : List (List ℕ) = f (take many (drop at old)) in
      let others : List (List ℕ) = in_pieces f many (drop (at + many) old) in
      let front : List (List ℕ) = in_pieces f many (take at text) in
      let before : length (take at text) % many ≡ 0 = ap (λ (l : ℕ). l % many) (length-take-le at text (omega arith)) ∙ whole in
      let split : in_pieces f many (drop at old) ≡ group ++ others = text_split old at (omega arith) in
      let damage : damaged_words size t (in_pieces f many (drop at old)) g ≡ ((damaged_words size t group g).0 ++ (damaged_words size t others (damaged_words size t group g).1).0, (damaged_words size t others (damaged_words size t group g).1).1) =
      ap (λ (ws : List (List ℕ)). damaged_words size t ws g) split ∙ damaged_words-append size t group others g in
      let written : in_pieces f many (take (at + many) (put_mid at k text new)) ≡ front ++ (damaged_words size t group g).0 =
      ap (in_pieces f many) (take-put_mid at k text new (at + many) (omega arith) (omega arith))
      ∙ words-append f many some (take at text) new before
      ∙ ap (λ (ws : List (List ℕ)). front ++ ws) (words-one f many some new long ∙ words) in
      record {
        done =
            ap (λ (ws : List (List ℕ)). ws ++ (damaged_words size t others h).0) written
            ∙ append_assoc front (damaged_words size t group g).0 (damaged_words size t others h).0
            ∙ ap (λ (e : Lcg). front ++ ((damaged_words size t group g).0 ++ (damaged_words size t others e).0)) rest
            ∙ ap (λ (d : List (List ℕ) × Lcg). front ++ d.0) (sym damage) ∙ so.done;
        rest = ap (λ (e : Lcg). (damaged_words size t others e).1) rest ∙ ap (λ (d : List (List ℕ) × Lcg). d.1) (sym damage) ∙ so.rest;
        untouched =
            drop-put_mid at k text new (at + many) (omega arith) (omega arith) (omega arith)
            ∙ sym (drop-drop many at text) ∙ ap (drop many) so.untouched ∙ drop-drop many at old;
      }

  pub groups-more : (F : List (List ℕ) × Lcg) (old text new : List ℕ) (at to k : ℕ) (g h : Lcg) → to ≡ at + many → at % many ≡ 0 → at + many ≤ length text →
      length text ≡ length old → length new ≡ many → k ≡ many →
      f new ≡ (damaged_words size t (f (take many (drop at old))) g).0 →
      h ≡ (damaged_words size t (f (take many (drop at old))) g).1 →
      AreGroupsDamagedTo size t f many F old text at g → AreGroupsDamagedTo size t f many F old (put_mid at k text new) to h
  groups-more F old text new at to k g h next whole fits same long ek words rest so =
      subst (λ (m : ℕ). AreGroupsDamagedTo size t f many F old (put_mid at k text new) m h) (sym next)
      (groups-one_more F old text new at k g h whole fits same long ek words rest so)

  pub groups-counted : (old : List ℕ) (at changes more : ℕ) (g h : Lcg) → at + many ≤ length old →
      more ≡ changes_in size t (f (take many (drop at old))) g →
      h ≡ (damaged_words size t (f (take many (drop at old))) g).1 →
      changes + more + changes_in size t (in_pieces f many (drop (at + many) old)) h ≡ changes + changes_in size t (in_pieces f many (drop at old)) g
  groups-counted old at changes more g h fits em rest =
      let group : List (List ℕ) = f (take many (drop at old)) in
      let others : List (List ℕ) = in_pieces f many (drop (at + many) old) in
      let sum : changes_in size t (in_pieces f many (drop at old)) g ≡ changes_in size t group g + changes_in size t others (damaged_words size t group g).1 =
      ap (λ (ws : List (List ℕ)). changes_in size t ws g) (text_split old at fits) ∙ changes_in-append size t group others g in
      let later : changes_in size t others h ≡ changes_in size t others (damaged_words size t group g).1 = ap (changes_in size t others) rest in
      omega arith

  pub groups-end : (F : List (List ℕ) × Lcg) (old text : List ℕ) (at : ℕ) (g : Lcg) → length text ≤ at → length old ≤ at →
      AreGroupsDamagedTo size t f many F old text at g → (in_pieces f many text ≡ F.0) × (g ≡ F.1)
  groups-end F old text at g lt lo so =
      let none : in_pieces f many (drop at old) ≡ [] = ap (in_pieces f many) (drop_of_length-le old lo) ∙ words-none f many some [] some in (
        sym (append-nil (in_pieces f many text))
            ∙ ap (λ (xs : List ℕ). in_pieces f many xs ++ []) (sym (take_all at text lt))
            ∙ ap (λ (ws : List (List ℕ)). in_pieces f many (take at text) ++ (damaged_words size t ws g).0) (sym none) ∙ so.done,
        ap (λ (ws : List (List ℕ)). (damaged_words size t ws g).1) (sym none) ∙ so.rest,
      )

  pub groups-counted_end : (old : List ℕ) (at : ℕ) (g : Lcg) → length old ≤ at → changes_in size t (in_pieces f many (drop at old)) g ≡ 0
  groups-counted_end old at g lo =
      ap (λ (ws : List (List ℕ)). changes_in size t ws g) (ap (in_pieces f many) (drop_of_length-le old lo) ∙ words-none f many some [] some)
