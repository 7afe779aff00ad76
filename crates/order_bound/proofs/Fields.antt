-- The fields of a line: what stands at a place, and that nothing else does
use Rattle.std.proofs.Common.{lit<, ◌≡◌, ◌≢◌, ℕ, ◌+◌, ◌^◌, ◌<◌, ◌≤◌, Bool, true, false, Option, Some, None, List, [], ◌∷◌, ◌++◌, length, take, drop, refl, ap, sym, ◌∙◌, subst, arith, length-drop, get_or}
use Rattle.std.specs.Prelude.{not, nat_eq, codes}
use Rattle.std.specs.List.{list_all, starts_with, position_or_len, slice_range}
use Rattle.std.specs.Fmt.{decimal}
use Rattle.std.proofs.lemmas.Bool.Decides.{nat_tests}
use Rattle.std.proofs.Common.{All, append_assoc, add-one, drop-cons}
use Rattle.std.proofs.lemmas.Grind.{flat_map-append}
use Rattle.std.proofs.lemmas.List.{take-append-drop, drop-drop, append-nil, length_push, drop_all}
use Rattle.std.proofs.lemmas.List.Elements.{All-append, All-nil, All-cons}
use Rattle.ag_texts.specs.Numbers.{number_in}
use Rattle.ag_texts.proofs.Numbers.{number_read_back, read_is_written}
use Rattle.order_bound.specs.TableText.{mark_text}
use Rattle.order_bound.specs.Reading.{symbols, entry_body, IsFieldEnd, IsWordAt, IsNumberAt, HasNoNumber, IsMarkAt, IsFront, AreSymbols}
use Rattle.order_bound.proofs.Splits.{Stops, AreSame, split_once, same_rest, number_without, numbers_same, starts_yes, starts_itself, before_passes, rest_stops}

-- ---- words
pub word_stands : (text word : List ℕ) (at : ℕ) → at ≤ length text → starts_with nat_eq (drop at text) word ≡ true → IsWordAt text at word (at + length word)
word_stands text word at l h =
    let s = starts_yes (drop at text) word h in
    record {
      within = omega (arith, s.0, length-drop at text);
      is = s.1 ∙ ap (λ (z : List ℕ). word ++ z) (drop-drop (length word) at text);
    }

pub word_absent : (text word : List ℕ) (at : ℕ) → starts_with nat_eq (drop at text) word ≡ false → (rest : List ℕ) → drop at text ≢ word ++ rest
word_absent text word at h rest e =
    let t : starts_with nat_eq (word ++ rest) word ≡ true = starts_itself word rest in
    let f : starts_with nat_eq (word ++ rest) word ≡ false = subst (λ (z : List ℕ). starts_with nat_eq z word ≡ false) e h in
    let w : true ≡ false = sym t ∙ f in
    cc w

-- ---- numbers
stops_at_end : (xs : List ℕ) → IsFieldEnd xs → Stops (λ x. not (nat_eq x 32)) xs
stops_at_end [] h = tt
stops_at_end (x ∷ xs) h = grind (arith, nat_tests, h)

end_from_stops : (xs : List ℕ) → Stops (λ x. not (nat_eq x 32)) xs → IsFieldEnd xs
end_from_stops [] h = tt
end_from_stops (x ∷ xs) h = grind (arith, nat_tests, h)

abbrev space : ℕ → Bool
space b = nat_eq b 32

module _ (line : List ℕ) (at start end : ℕ) (front : IsWordAt line at (32 ∷ []) start) (last : end ≡ start + position_or_len (λ b. nat_eq b 32) (drop start line)) where
  field_is : slice_range line start end ≡ take (position_or_len (λ b. nat_eq b 32) (drop start line)) (drop start line)
  field_is = ap (λ (k : ℕ). take k (drop start line)) (omega arith)

  rest_is : drop (position_or_len (λ b. nat_eq b 32) (drop start line)) (drop start line) ≡ drop end line
  rest_is = drop-drop (position_or_len (λ b. nat_eq b 32) (drop start line)) start line ∙ ap (λ (k : ℕ). drop k line) (sym last)

  whole : drop start line ≡ slice_range line start end ++ drop end line
  whole = sym (take-append-drop (position_or_len (λ b. nat_eq b 32) (drop start line)) (drop start line)) ∙ ap (λ (z : List ℕ). z ++ drop (position_or_len (λ b. nat_eq b 32) (drop start line)) (drop start line)) (sym field_is) ∙ ap (λ (z : List ℕ). slice_range line start end ++ z) rest_is

  ends_here : IsFieldEnd (drop end line)
  ends_here = subst IsFieldEnd rest_is (end_from_stops _ (rest_stops (λ b. nat_eq b 32) (drop start line)))

  pub number_stands : (v : ℕ) → end ≤ length line → number_in (slice_range line start end) ≡ Some v → IsNumberAt line at v end
  number_stands v within read =
      let w = read_is_written (slice_range line start end) v read in
      record {
        stands = record { within = within; is = front.is ∙ ap (λ (z : List ℕ). 32 ∷ z) (whole ∙ ap (λ (z : List ℕ). z ++ drop end line) w.0) };
        readable = w.1;
        ends = ends_here;
      }

  pub number_absent : number_in (slice_range line start end) ≡ None → HasNoNumber (drop at line)
  number_absent none v rest small stop e =
      let tail : slice_range line start end ++ drop end line ≡ decimal v ++ rest = sym whole ∙ same_rest (32 ∷ []) (drop start line) (decimal v ++ rest) (sym front.is ∙ e) in
      let passes : list_all (λ x. not (nat_eq x 32)) (slice_range line start end) ≡ true = subst (λ (z : List ℕ). list_all (λ x. not (nat_eq x 32)) z ≡ true) (sym field_is) (before_passes (λ b. nat_eq b 32) (drop start line)) in
      let same : AreSame (slice_range line start end) (decimal v) (drop end line) rest =
      split_once (λ x. not (nat_eq x 32)) _ _ _ _ passes (number_without 32 v (lit< tt) small) (stops_at_end _ ends_here) (stops_at_end rest stop) tail in
      let some : number_in (slice_range line start end) ≡ Some v = ap number_in same.fronts ∙ number_read_back v small in
      let w : ◌≡◌ {A = Option ℕ} None (Some v) = sym none ∙ some in
      cc w

-- a number that stands there is the only one
pub record IsFollowed (v w : ℕ) (xs ys : List ℕ) : Type 0 where
  pub value : v ≡ w
  pub rest : xs ≡ ys

pub fields_same : (v w : ℕ) (xs ys : List ℕ) → v < 10 ^ 19 → w < 10 ^ 19 → IsFieldEnd xs → IsFieldEnd ys → (32 ∷ decimal v) ++ xs ≡ (32 ∷ decimal w) ++ ys → IsFollowed v w xs ys
fields_same v w xs ys lv lw sx sy e =
    let tail : decimal v ++ xs ≡ decimal w ++ ys = same_rest (32 ∷ []) (decimal v ++ xs) (decimal w ++ ys) e in
    let same : AreSame (decimal v) (decimal w) xs ys =
    split_once (λ x. not (nat_eq x 32)) _ _ _ _ (number_without 32 v (lit< tt) lv) (number_without 32 w (lit< tt) lw) (stops_at_end xs sx) (stops_at_end ys sy) tail in
    record { value = numbers_same v w lv lw same.fronts; rest = same.rests }

pub number_follows : (line : List ℕ) (at v end w : ℕ) (rest : List ℕ) → IsNumberAt line at v end → w < 10 ^ 19 → IsFieldEnd rest → drop at line ≡ (32 ∷ decimal w) ++ rest → IsFollowed v w (drop end line) rest
number_follows line at v end w rest n small stop e = fields_same v w (drop end line) rest n.readable small n.ends stop (sym n.stands.is ∙ e)

word_follows : (text word : List ℕ) (at end : ℕ) (rest : List ℕ) → IsWordAt text at word end → drop at text ≡ word ++ rest → drop end text ≡ rest
word_follows text word at end rest h e = same_rest word (drop end text) rest (sym h.is ∙ e)

-- ---- the front of a label line
pub marks_differ : (xs ys : List ℕ) → (32 ∷ 99 ∷ []) ++ xs ≢ (32 ∷ 102 ∷ []) ++ ys
marks_differ xs ys e = let d : get_or (32 ∷ 99 ∷ xs) 1 0 ≡ get_or (32 ∷ 102 ∷ ys) 1 0 = ap (λ (z : List ℕ). get_or z 1 0) e in omega arith

pub same_marks : (m m' : Bool) (xs ys : List ℕ) → (32 ∷ mark_text m) ++ xs ≡ (32 ∷ mark_text m') ++ ys → xs ≡ ys
same_marks true true xs ys e = same_rest (32 ∷ 99 ∷ []) xs ys e
same_marks false false xs ys e = same_rest (32 ∷ 102 ∷ []) xs ys e
same_marks true false xs ys e = absurd (marks_differ xs ys e)
same_marks false true xs ys e = absurd (marks_differ ys xs (sym e))

pub record IsFrontOf (line : List ℕ) (label pairs label' pairs' : ℕ) (end : ℕ) (rest : List ℕ) : Type 0 where
  pub labels : label ≡ label'
  pub pairs_are : pairs ≡ pairs'
  pub rests : drop end line ≡ rest

pub no_word : (line : List ℕ) → ((rest : List ℕ) → drop 0 line ≢ codes "label" ++ rest) → (label pairs : ℕ) (mark : Bool) (dual : List ℕ) → line ≢ entry_body label pairs mark dual
unfolding entry_body
no_word line none label pairs mark dual e = none _ e

module _ (line : List ℕ) (at : ℕ) (word : IsWordAt line 0 (codes "label") at) where
  pub label_follows : (label pairs : ℕ) (mark : Bool) (dual : List ℕ) → line ≡ entry_body label pairs mark dual → drop at line ≡ (32 ∷ decimal label) ++ ((32 ∷ decimal pairs) ++ ((32 ∷ mark_text mark) ++ symbols dual))
  unfolding entry_body
  label_follows label pairs mark dual e = word_follows line (codes "label") 0 at _ word e

  pub no_label : HasNoNumber (drop at line) → (label pairs : ℕ) (mark : Bool) (dual : List ℕ) → label < 10 ^ 19 → line ≢ entry_body label pairs mark dual
  no_label none label pairs mark dual small e = none label _ small refl (label_follows label pairs mark dual e)

  module _ (v after : ℕ) (one : IsNumberAt line at v after) where
    pub pairs_follow : (label pairs : ℕ) (mark : Bool) (dual : List ℕ) → label < 10 ^ 19 → line ≡ entry_body label pairs mark dual → IsFollowed v label (drop after line) ((32 ∷ decimal pairs) ++ ((32 ∷ mark_text mark) ++ symbols dual))
    pairs_follow label pairs mark dual small e = number_follows line at v after label _ one small refl (label_follows label pairs mark dual e)

    pub no_pairs : HasNoNumber (drop after line) → (label pairs : ℕ) (mark : Bool) (dual : List ℕ) → label < 10 ^ 19 → pairs < 10 ^ 19 → line ≢ entry_body label pairs mark dual
    no_pairs none label pairs mark dual small few e = none pairs _ few refl (pairs_follow label pairs mark dual small e).rest

    module _ (w then : ℕ) (two : IsNumberAt line after w then) where
      pub mark_follows : (label pairs : ℕ) (mark : Bool) (dual : List ℕ) → label < 10 ^ 19 → pairs < 10 ^ 19 → line ≡ entry_body label pairs mark dual → IsFollowed w pairs (drop then line) ((32 ∷ mark_text mark) ++ symbols dual)
      mark_follows label pairs mark dual small few e = number_follows line after w then pairs _ two few refl (pairs_follow label pairs mark dual small e).rest

      pub no_mark : ((mark : Bool) (rest : List ℕ) → drop then line ≢ (32 ∷ mark_text mark) ++ rest) → (label pairs : ℕ) (mark : Bool) (dual : List ℕ) → label < 10 ^ 19 → pairs < 10 ^ 19 → line ≢ entry_body label pairs mark dual
      no_mark none label pairs mark dual small few e = none mark _ (mark_follows label pairs mark dual small few e).rest

      pub front_is : (mark : Bool) (end : ℕ) → IsMarkAt line then mark end → IsFront line v w mark end
      unfolding entry_body
      front_is mark end three = record {
        within = three.within;
        label_read = one.readable;
        pairs_read = two.readable;
        is = λ dual e. word.is ∙ ap (λ (z : List ℕ). codes "label" ++ z) (one.stands.is ∙ ap (λ (z : List ℕ). (32 ∷ decimal v) ++ z) (two.stands.is ∙ ap (λ (z : List ℕ). (32 ∷ decimal w) ++ z) (three.is ∙ ap (λ (z : List ℕ). (32 ∷ mark_text mark) ++ z) e)));
        only = λ label' pairs' mark' dual small few e. same_marks mark mark' (drop end line) (symbols dual) (sym three.is ∙ (mark_follows label' pairs' mark' dual small few e).rest);
      }

-- ---- symbols
pub symbols_end : (xs : List ℕ) → IsFieldEnd (symbols xs)
symbols_end [] = tt
symbols_end (x ∷ xs) = refl

-- the symbols of a line, as far as a loop has come: k symbols were added, and stand before `at`
pub record IsAdding (size n k : ℕ) (line : List ℕ) (start at : ℕ) (old now : List ℕ) : Type 0 where
  pub added : List ℕ
  pub n_added : length added ≡ k
  pub small : All (λ x. x < size) added
  pub are_added : now ≡ old ++ added
  pub stand : drop start line ≡ symbols added ++ drop at line
  pub within : at ≤ length line
  pub only : (xs : List ℕ) → length xs ≡ n → All (λ x. x < size) xs → drop start line ≡ symbols xs → drop at line ≡ symbols (drop k xs)

pub adding_starts : (size n : ℕ) (line : List ℕ) (start : ℕ) (old : List ℕ) → start ≤ length line → IsAdding size n 0 line start start old old
adding_starts size n line start old l = record {
  added = [];
  n_added = refl;
  small = All-nil (λ x. x < size);
  are_added = sym (append-nil old);
  stand = refl;
  within = l;
  only = λ xs long w e. e;
}

symbols_next : (xs : List ℕ) (k : ℕ) → k < length xs → symbols (drop k xs) ≡ (32 ∷ decimal (get_or xs k 0)) ++ symbols (drop (k + 1) xs)
symbols_next xs k l = ap symbols (drop-cons xs k 0 l ∙ ap (λ (i : ℕ). get_or xs k 0 ∷ drop i xs) (sym (add-one k)))

module _ (size n k : ℕ) (line : List ℕ) (start at : ℕ) (old now : List ℕ) (h : IsAdding size n k line start at old now) (wide : size ≤ 256) where
  word_small : (xs : List ℕ) → length xs ≡ n → All (λ x. x < size) xs → (i : ℕ) → i < n → get_or xs i 0 < size
  word_small xs long w i l = w i 0 (omega arith)

  readable : (x : ℕ) → x < size → x < 10 ^ 19
  readable x l = omega arith

  pub adding_more : (v end : ℕ) (next : List ℕ) → k < n → IsNumberAt line at v end → v < size → next ≡ now ++ v ∷ [] → IsAdding size n (k + 1) line start end old next
  adding_more v end next below one small e = record {
    added = h.added ++ v ∷ [];
    n_added = length_push h.added v ∙ ap (λ (x : ℕ). x + 1) h.n_added;
    small = All-append (λ x. x < size) h.added (v ∷ []) h.small (All-cons (λ x. x < size) v [] small (All-nil (λ x. x < size)));
    are_added = e ∙ ap (λ (z : List ℕ). z ++ v ∷ []) h.are_added ∙ append_assoc old h.added (v ∷ []);
    stand = h.stand ∙ ap (λ (z : List ℕ). symbols h.added ++ z) one.stands.is ∙ sym (append_assoc (symbols h.added) (32 ∷ decimal v) (drop end line)) ∙ ap (λ (z : List ℕ). z ++ drop end line) (sym (flat_map-append (λ x. 32 ∷ decimal x) h.added (v ∷ []) ∙ ap (λ (z : List ℕ). symbols h.added ++ z) (append-nil (32 ∷ decimal v))));
    within = one.stands.within;
    only = λ xs long w s. (number_follows line at v end (get_or xs k 0) _ one (readable _ (word_small xs long w k below)) (symbols_end (drop (k + 1) xs)) (h.only xs long w s ∙ symbols_next xs k (omega arith))).rest;
  }

  pub adding_refused : k < n → HasNoNumber (drop at line) → (xs : List ℕ) → length xs ≡ n → All (λ x. x < size) xs → drop start line ≢ symbols xs
  adding_refused below none xs long w s = none (get_or xs k 0) _ (readable _ (word_small xs long w k below)) (symbols_end (drop (k + 1) xs)) (h.only xs long w s ∙ symbols_next xs k (omega arith))

  pub adding_large : (v end : ℕ) → k < n → IsNumberAt line at v end → size ≤ v → (xs : List ℕ) → length xs ≡ n → All (λ x. x < size) xs → drop start line ≢ symbols xs
  adding_large v end below one large xs long w s =
      let f = number_follows line at v end (get_or xs k 0) _ one (readable _ (word_small xs long w k below)) (symbols_end (drop (k + 1) xs)) (h.only xs long w s ∙ symbols_next xs k (omega arith)) in
      let l : get_or xs k 0 < size = word_small xs long w k below in
      omega (arith, f.value)

  pub adding_ends : k ≡ n → at ≡ length line → AreSymbols size n line start old now
  adding_ends all last = record {
    added = h.added;
    n_added = h.n_added ∙ all;
    below = h.small;
    are_added = h.are_added;
    stand = h.stand ∙ ap (λ (z : List ℕ). symbols h.added ++ z) (drop_all at line (omega arith)) ∙ append-nil (symbols h.added);
  }

  pub adding_longer : k ≡ n → at ≢ length line → (xs : List ℕ) → length xs ≡ n → All (λ x. x < size) xs → drop start line ≢ symbols xs
  adding_longer all more xs long w s =
      let e : drop at line ≡ [] = h.only xs long w s ∙ ap symbols (drop_all k xs (omega arith)) in
      let z : length (drop at line) ≡ 0 = ap length e in
      more (omega (arith, h.within, length-drop at line))
