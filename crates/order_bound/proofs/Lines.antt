-- A table, line by line
use Rattle.std.proofs.Common.{lit<, ◌≡◌, ◌≢◌, ℕ, suc, ◌+◌, ◌-◌, ◌^◌, ◌<◌, ◌≤◌, Bool, true, false, Option, Some, None, List, [], ◌∷◌, ◌++◌, length, take, drop, get_or, refl, ap, sym, ◌∙◌, subst, arith, MatchOption, All, append_assoc, drop-cons, length-drop}
use Rattle.std.specs.Prelude.{not, nat_eq, nat_lt, codes, option_map, position}
use Rattle.std.specs.List.{list_all, flat_map, position_or_len, slice_range}
use Rattle.std.specs.Fmt.{decimal}
use Rattle.std.proofs.lemmas.Bool.Decides.{nat_tests}
use Rattle.std.proofs.lemmas.Bool.{and_parts, and_from}
use Rattle.std.proofs.lemmas.Grind.{flat_map-append}
use Rattle.std.proofs.lemmas.List.{take-append-drop, drop-drop, append-nil, length_push, take_all, drop_all, map-append, flat_map_more}
use Rattle.std.proofs.lemmas.List.Elements.{All-append, All-nil, All-cons}
use Rattle.std.proofs.lemmas.List.Folds.{list_all-append}
use Rattle.std.proofs.lemmas.List.Quantifiers.{position-Some}
use Rattle.ag_texts.specs.Lines.{line_end_in}
use Rattle.order_bound.specs.TableText.{Entry, mark_text, title, head_line, entry_line}
use Rattle.order_bound.specs.TableForm.{IsForm, IsHead, AreLines, IsBadForm, no_title, no_head, no_entry, more_lines}
use Rattle.order_bound.specs.declared.reader.Entries.{Entries}
use Rattle.order_bound.specs.Reading.{symbols, entry_body, head_body, IsFieldEnd, IsFeedless, IsWordAt, IsNumberAt, HasNoNumber, IsNamedAt, HasNoNamed, IsLineAt, IsFront, AreSymbols, IsTop, AreColumns, IsEntryAdded, AreRead}
use Rattle.order_bound.proofs.Pieces.{entry-pieces, head-pieces}
use Rattle.order_bound.proofs.Splits.{AreSame, split_once, same_rest, number_without, before_passes}
use Rattle.order_bound.proofs.Fields.{IsFollowed, fields_same}

pub match_weaker : {A : Type 0} (r : Option A) (P P' : Type 0) (Q Q' : A → Type 0) → (P → P') → ((x : A) → Q x → Q' x) → MatchOption r P Q → MatchOption r P' Q'
match_weaker None P P' Q Q' f g h = f h
match_weaker (Some x) P P' Q Q' f g h = g x h

-- ---- line feeds
feed_in : (xs ys : List ℕ) → IsFeedless (xs ++ 10 ∷ ys) → ⊥
feed_in [] ys h = let e : false ≡ true = h in cc e
feed_in (x ∷ xs) ys h = feed_in xs ys (and_parts (not (nat_eq x 10)) (list_all (λ x. not (nat_eq x 10)) (xs ++ 10 ∷ ys)) h).1

feedless-append : (xs ys : List ℕ) → IsFeedless xs → IsFeedless ys → IsFeedless (xs ++ ys)
feedless-append xs ys h i = list_all-append (λ x. not (nat_eq x 10)) xs ys ∙ and_from _ _ h i

feedless_number : (v : ℕ) → v < 10 ^ 19 → IsFeedless (32 ∷ decimal v)
feedless_number v l = number_without 10 v (lit< tt) l

-- a line of the text is what stands before the first line feed
pub line_is : (line body next after : List ℕ) → IsFeedless line → IsFeedless body → line ++ 10 ∷ next ≡ (body ++ 10 ∷ []) ++ after → AreSame line body (10 ∷ next) (10 ∷ after)
line_is line body next after h i e =
    split_once (λ x. not (nat_eq x 10)) line body (10 ∷ next) (10 ∷ after) h i refl refl (e ∙ append_assoc body (10 ∷ []) after)

abbrev feed : ℕ → Bool
feed b = nat_eq b 10

module _ (text : List ℕ) (at : ℕ) (within : at ≤ length text) where
  line_found : position_or_len (λ b. nat_eq b 10) (drop at text) < length (drop at text) → position (λ b. nat_eq b 10) (drop at text) ≡ Some (position_or_len (λ b. nat_eq b 10) (drop at text)) → IsLineAt text at (at + position_or_len (λ b. nat_eq b 10) (drop at text))
  line_found l found =
      let k : ℕ = position_or_len (λ b. nat_eq b 10) (drop at text) in
      let here : nat_eq (get_or (drop at text) k 0) 10 ≡ true = (position-Some (λ b. nat_eq b 10) (drop at text) k 0 found).1 in
      let ten : get_or (drop at text) k 0 ≡ 10 = grind (arith, nat_tests, here) in
      let slice : slice_range text at (at + k) ≡ take k (drop at text) = ap (λ (i : ℕ). take i (drop at text)) (let z : at + k - at ≡ k = omega arith in z) in
      record {
        after = omega arith;
        before = omega (arith, length-drop at text);
        is = sym (take-append-drop k (drop at text)) ∙ ap (λ (z : List ℕ). z ++ drop k (drop at text)) (sym slice)
            ∙ ap (λ (z : List ℕ). slice_range text at (at + k) ++ z) (drop-cons (drop at text) k 0 l ∙ ap (λ (x : ℕ). x ∷ drop (suc k) (drop at text)) ten ∙ ap (λ (z : List ℕ). 10 ∷ z) (drop-drop (suc k) at text ∙ ap (λ (i : ℕ). drop i text) (let z : at + suc k ≡ at + k + 1 = omega arith in z)));
        feedless = subst IsFeedless (sym slice) (before_passes (λ b. nat_eq b 10) (drop at text));
      }

  pub line_end_is : (r : Option ℕ) → r ≡ line_end_in text at → MatchOption r (IsFeedless (drop at text)) (IsLineAt text at)
  line_end_is r e = go (nat_lt (position_or_len (λ b. nat_eq b 10) (drop at text)) (length (drop at text))) refl
    where
      go : (b : Bool) → nat_lt (position_or_len (λ b. nat_eq b 10) (drop at text)) (length (drop at text)) ≡ b → MatchOption r (IsFeedless (drop at text)) (IsLineAt text at)
      go true h =
          let found : position (λ b. nat_eq b 10) (drop at text) ≡ Some (position_or_len (λ b. nat_eq b 10) (drop at text)) = rw h refl in
          let whole : r ≡ Some (at + position_or_len (λ b. nat_eq b 10) (drop at text)) = e ∙ ap (option_map (λ p. at + p)) found in
          rw whole (line_found (grind (arith, nat_tests, h)) found)
      go false h =
          let found : position (λ b. nat_eq b 10) (drop at text) ≡ None = rw h refl in
          let whole : r ≡ None = e ∙ ap (option_map (λ p. at + p)) found in
          let long : length (drop at text) ≤ position_or_len (λ b. nat_eq b 10) (drop at text) = grind (arith, nat_tests, h) in
          let same : take (position_or_len (λ b. nat_eq b 10) (drop at text)) (drop at text) ≡ drop at text = take_all _ (drop at text) long in
          rw whole (subst IsFeedless same (before_passes (λ b. nat_eq b 10) (drop at text)))

-- ---- the second line
module _ (line name : List ℕ) (at start : ℕ) (word : IsWordAt line at name start) where
  pub named_absent : HasNoNumber (drop start line) → HasNoNamed name (drop at line)
  named_absent none v rest small stop e = none v rest small stop (same_rest name (drop start line) ((32 ∷ decimal v) ++ rest) (sym word.is ∙ e ∙ append_assoc name (32 ∷ decimal v) rest))

  pub named_stands : (v end : ℕ) → IsNumberAt line start v end → IsNamedAt line at name v end
  named_stands v end one = record {
    stands = record { within = one.stands.within; is = word.is ∙ ap (λ (z : List ℕ). name ++ z) one.stands.is ∙ sym (append_assoc name (32 ∷ decimal v) (drop end line)) };
    readable = one.readable;
    ends = one.ends;
  }

named_follows : (line name : List ℕ) (at v end w : ℕ) (rest : List ℕ) → IsNamedAt line at name v end → w < 10 ^ 19 → IsFieldEnd rest → drop at line ≡ (name ++ (32 ∷ decimal w)) ++ rest → IsFollowed v w (drop end line) rest
named_follows line name at v end w rest n small stop e =
    fields_same v w (drop end line) rest n.readable small n.ends stop
    (same_rest name _ _ (sym (append_assoc name (32 ∷ decimal v) (drop end line)) ∙ sym n.stands.is ∙ e ∙ append_assoc name (32 ∷ decimal w) rest))

module _ (line : List ℕ) (n : ℕ) (few : n < 10 ^ 19) where
  pub no_points : HasNoNamed (codes "n") (drop 0 line) → (checked bound : ℕ) → IsHead checked bound → line ≢ head_body n checked bound
  unfolding head_body
  no_points none checked bound h e = none n (codes " checked" ++ ((32 ∷ decimal checked) ++ (codes " bound" ++ (32 ∷ decimal bound)))) few refl e

  module _ (v e1 : ℕ) (one : IsNamedAt line 0 (codes "n") v e1) where
    head_1 : (checked bound : ℕ) → line ≡ head_body n checked bound → IsFollowed v n (drop e1 line) (codes " checked" ++ ((32 ∷ decimal checked) ++ (codes " bound" ++ (32 ∷ decimal bound))))
    unfolding head_body
    head_1 checked bound e = named_follows line (codes "n") 0 v e1 n _ one few refl e

    pub no_checked : HasNoNamed (codes " checked") (drop e1 line) → (checked bound : ℕ) → IsHead checked bound → line ≢ head_body n checked bound
    no_checked none checked bound h e = none checked (codes " bound" ++ (32 ∷ decimal bound)) h.checked_read refl (head_1 checked bound e).rest

    pub other_points : v ≢ n → (checked bound : ℕ) → IsHead checked bound → line ≢ head_body n checked bound
    other_points other checked bound h e = other (head_1 checked bound e).value

    module _ (w e2 : ℕ) (two : IsNamedAt line e1 (codes " checked") w e2) where
      head_2 : (checked bound : ℕ) → IsHead checked bound → line ≡ head_body n checked bound → IsFollowed w checked (drop e2 line) (codes " bound" ++ (32 ∷ decimal bound))
      head_2 checked bound h e = named_follows line (codes " checked") e1 w e2 checked _ two h.checked_read refl (head_1 checked bound e).rest

      pub no_bound : HasNoNamed (codes " bound") (drop e2 line) → (checked bound : ℕ) → IsHead checked bound → line ≢ head_body n checked bound
      no_bound none checked bound h e = none bound [] h.bound_read tt ((head_2 checked bound h e).rest ∙ sym (append-nil (codes " bound" ++ (32 ∷ decimal bound))))

      module _ (u e3 : ℕ) (three : IsNamedAt line e2 (codes " bound") u e3) where
        pub longer_head : e3 ≢ length line → (checked bound : ℕ) → IsHead checked bound → line ≢ head_body n checked bound
        longer_head other checked bound h e =
            let f : IsFollowed u bound (drop e3 line) [] = named_follows line (codes " bound") e2 u e3 bound [] three h.bound_read tt ((head_2 checked bound h e).rest ∙ sym (append-nil (codes " bound" ++ (32 ∷ decimal bound)))) in
            let z : length (drop e3 line) ≡ 0 = ap length f.rest in
            other (omega (arith, three.stands.within, length-drop e3 line))

        pub head_reads : v ≡ n → e3 ≡ length line → IsHead w u × (line ≡ head_body n w u)
        unfolding head_body
        head_reads same last = (
          record { checked_read = two.readable; bound_read = three.readable },
          let ends : drop e3 line ≡ [] = drop_all e3 line (omega arith) in
              let third : drop e2 line ≡ codes " bound" ++ (32 ∷ decimal u) = three.stands.is ∙ ap (λ (z : List ℕ). (codes " bound" ++ (32 ∷ decimal u)) ++ z) ends ∙ append-nil (codes " bound" ++ (32 ∷ decimal u)) in
              one.stands.is ∙ ap (λ (z : List ℕ). (codes "n" ++ (32 ∷ decimal v)) ++ z) (two.stands.is ∙ ap (λ (z : List ℕ). (codes " checked" ++ (32 ∷ decimal w)) ++ z) third) ∙ ap (λ (x : ℕ). codes "n" ++ ((32 ∷ decimal x) ++ (codes " checked" ++ ((32 ∷ decimal w) ++ (codes " bound" ++ (32 ∷ decimal u)))))) same,
        )

-- ---- title and head
pub head_feedless : (n checked bound : ℕ) → n < 10 ^ 19 → IsHead checked bound → IsFeedless (head_body n checked bound)
unfolding head_body
head_feedless n checked bound few h =
    feedless-append (codes "n" ++ (32 ∷ decimal n)) (codes " checked" ++ ((32 ∷ decimal checked) ++ (codes " bound" ++ (32 ∷ decimal bound)))) (feedless_number n few)
    (feedless-append (codes " checked" ++ (32 ∷ decimal checked)) (codes " bound" ++ (32 ∷ decimal bound)) (feedless_number checked h.checked_read) (feedless_number bound h.bound_read))

module _ (text : List ℕ) (n : ℕ) (few : n < 10 ^ 19) where
  pub bad_title : ((rest : List ℕ) → drop 0 text ≢ codes "agcode-bound 1\n" ++ rest) → (size : ℕ) → IsBadForm size n text 1
  unfolding title
  bad_title none size = no_title none

  module _ (at : ℕ) (word : IsWordAt text 0 (codes "agcode-bound 1\n") at) where
    titled : text ≡ title ++ drop at text
    unfolding title
    titled = word.is

    pub no_head_line : IsFeedless (drop at text) → (size : ℕ) → IsBadForm size n text 2
    no_head_line feedless size = no_head (drop at text) titled
        (λ checked bound after h e. feed_in (head_body n checked bound) after (subst IsFeedless (e ∙ ap (λ (z : List ℕ). z ++ after) (head-pieces n checked bound) ∙ append_assoc (head_body n checked bound) (10 ∷ []) after) feedless))

    module _ (end : ℕ) (line : IsLineAt text at end) where
      pub bad_head : ((checked bound : ℕ) → IsHead checked bound → slice_range text at end ≢ head_body n checked bound) → (size : ℕ) → IsBadForm size n text 2
      bad_head none size = no_head (drop at text) titled
          (λ checked bound after h e. none checked bound h
          (line_is (slice_range text at end) (head_body n checked bound) (drop (end + 1) text) after line.feedless (head_feedless n checked bound few h)
          (sym line.is ∙ e ∙ ap (λ (z : List ℕ). z ++ after) (head-pieces n checked bound))).fronts)

      pub top_is : (checked bound : ℕ) → IsHead checked bound → slice_range text at end ≡ head_body n checked bound → IsTop text n checked bound (end + 1)
      top_is checked bound h e = record {
        head = h;
        within = omega (arith, line.before);
        is = titled ∙ ap (λ (z : List ℕ). title ++ z) (line.is ∙ ap (λ (z : List ℕ). z ++ 10 ∷ drop (end + 1) text) e ∙ sym (append_assoc (head_body n checked bound) (10 ∷ []) (drop (end + 1) text)) ∙ ap (λ (z : List ℕ). z ++ drop (end + 1) text) (sym (head-pieces n checked bound)))
            ∙ sym (append_assoc title (head_line n checked bound) (drop (end + 1) text));
      }

-- ---- label lines
pub entry_added : (size n : ℕ) (line : List ℕ) (old new : Entries) (label pairs : ℕ) (mark : Bool) (end : ℕ) → IsFront line label pairs mark end → AreSymbols size n line end old.duals.items new.duals.items →
    new.labels.items ≡ old.labels.items ++ label ∷ [] → new.pairs.items ≡ old.pairs.items ++ pairs ∷ [] → new.marks.items ≡ old.marks.items ++ mark ∷ [] → IsEntryAdded size n line old new
entry_added size n line old new label pairs mark end front s el ep em = record {
  entry = record { label = label; pairs = pairs; mark = mark; dual = s.added };
  form = record { label_read = front.label_read; pairs_read = front.pairs_read; n_symbols = s.n_added; symbols = s.below };
  is = front.is s.added s.stand;
  columns = λ entries c. record {
    labels_are = el ∙ ap (λ (z : List ℕ). z ++ label ∷ []) c.labels_are ∙ sym (map-append (λ (e : Entry). e.label) entries _);
    pairs_are = ep ∙ ap (λ (z : List ℕ). z ++ pairs ∷ []) c.pairs_are ∙ sym (map-append (λ (e : Entry). e.pairs) entries _);
    marks_are = em ∙ ap (λ (z : List Bool). z ++ mark ∷ []) c.marks_are ∙ sym (map-append (λ (e : Entry). e.mark) entries _);
    duals_are = s.are_added ∙ ap (λ (z : List ℕ). z ++ s.added) c.duals_are ∙ ap (λ (z : List ℕ). flat_map (λ (e : Entry). e.dual) entries ++ z) (sym (append-nil s.added)) ∙ sym (flat_map-append (λ (e : Entry). e.dual) entries _);
  };
}

pub entry_refused : (size n : ℕ) (line : List ℕ) (label pairs : ℕ) (mark : Bool) (end : ℕ) → IsFront line label pairs mark end → ((xs : List ℕ) → length xs ≡ n → All (λ x. x < size) xs → drop end line ≢ symbols xs) →
    (e : Entry) → IsForm size n e → line ≢ entry_body e.label e.pairs e.mark e.dual
entry_refused size n line label pairs mark end front none e form is =
    none e.dual form.n_symbols form.symbols (front.only e.label e.pairs e.mark e.dual form.label_read form.pairs_read is)

-- k label lines were read, up to a place
pub record IsReadTo (size n : ℕ) (text : List ℕ) (checked bound at k : ℕ) (columns : Entries) : Type 0 where
  pub entries : List Entry
  pub lines : AreLines size n text checked bound entries (drop at text)
  pub n_entries : length entries ≡ k
  pub are_columns : AreColumns entries columns
  pub within : at ≤ length text

mark_feedless : (m : Bool) → IsFeedless (32 ∷ mark_text m)
mark_feedless true = refl
mark_feedless false = refl

symbols_feedless : (xs : List ℕ) → All (λ x. x < 256) xs → IsFeedless (symbols xs)
symbols_feedless [] h = refl
symbols_feedless (x ∷ xs) h = feedless-append (32 ∷ decimal x) (symbols xs) (feedless_number x (omega (arith, h 0 0 (omega arith)))) (symbols_feedless xs (λ k d l. h (suc k) d (omega arith)))

module _ (size n : ℕ) (small : size ≤ 256) where
  pub body_feedless : (e : Entry) → IsForm size n e → IsFeedless (entry_body e.label e.pairs e.mark e.dual)
  unfolding entry_body
  body_feedless e f =
      feedless-append (codes "label" ++ (32 ∷ decimal e.label)) ((32 ∷ decimal e.pairs) ++ ((32 ∷ mark_text e.mark) ++ symbols e.dual)) (feedless_number e.label f.label_read)
      (feedless-append (32 ∷ decimal e.pairs) ((32 ∷ mark_text e.mark) ++ symbols e.dual) (feedless_number e.pairs f.pairs_read)
      (feedless-append (32 ∷ mark_text e.mark) (symbols e.dual) (mark_feedless e.mark) (symbols_feedless e.dual (λ k d l. omega (arith, f.symbols k d l)))))

  module _ (text : List ℕ) (checked bound at k : ℕ) (columns : Entries) (r : IsReadTo size n text checked bound at k columns) where
    pub entry_missing : k < n → IsFeedless (drop at text) → IsBadForm size n text (k + 3)
    entry_missing below feedless = subst (λ (i : ℕ). IsBadForm size n text (i + 3)) r.n_entries
        (no_entry checked bound r.entries (drop at text) r.lines (omega (arith, r.n_entries))
        (λ e after f is. feed_in (entry_body e.label e.pairs e.mark e.dual) after (subst IsFeedless (is ∙ ap (λ (z : List ℕ). z ++ after) (entry-pieces e) ∙ append_assoc (entry_body e.label e.pairs e.mark e.dual) (10 ∷ []) after) feedless)))

    pub text_longer : k ≡ n → at ≢ length text → IsBadForm size n text (n + 3)
    text_longer all more = more_lines checked bound r.entries (drop at text) r.lines (r.n_entries ∙ all)
        (λ e. let z : length (drop at text) ≡ 0 = ap length e in more (omega (arith, r.within, length-drop at text)))

    pub text_read : k ≡ n → at ≡ length text → AreRead size n text checked bound columns
    text_read all last = record {
      entries = r.entries;
      lines = record { head = r.lines.head; forms = r.lines.forms; is = r.lines.is ∙ ap (λ (z : List ℕ). title ++ head_line n checked bound ++ flat_map entry_line r.entries ++ z) (drop_all at text (omega arith)) };
      n_entries = r.n_entries ∙ all;
      are_columns = r.are_columns;
    }

    module _ (end : ℕ) (line : IsLineAt text at end) where
      pub entry_bad : k < n → ((e : Entry) → IsForm size n e → slice_range text at end ≢ entry_body e.label e.pairs e.mark e.dual) → IsBadForm size n text (k + 3)
      entry_bad below none = subst (λ (i : ℕ). IsBadForm size n text (i + 3)) r.n_entries
          (no_entry checked bound r.entries (drop at text) r.lines (omega (arith, r.n_entries))
          (λ e after f is. none e f (line_is (slice_range text at end) (entry_body e.label e.pairs e.mark e.dual) (drop (end + 1) text) after line.feedless (body_feedless e f) (sym line.is ∙ is ∙ ap (λ (z : List ℕ). z ++ after) (entry-pieces e))).fronts))

      pub entry_read : (next : Entries) → IsEntryAdded size n (slice_range text at end) columns next → IsReadTo size n text checked bound (end + 1) (k + 1) next
      entry_read next a = record {
        entries = r.entries ++ a.entry ∷ [];
        lines = record {
          head = r.lines.head;
          forms = All-append (IsForm size n) r.entries (a.entry ∷ []) r.lines.forms (All-cons (IsForm size n) a.entry [] a.form (All-nil (IsForm size n)));
          is = r.lines.is ∙ ap (λ (z : List ℕ). title ++ head_line n checked bound ++ flat_map entry_line r.entries ++ z) here ∙ sym (append_assoc (title ++ head_line n checked bound ++ flat_map entry_line r.entries) (entry_line a.entry) (drop (end + 1) text))
              ∙ ap (λ (z : List ℕ). z ++ drop (end + 1) text) (flat_map_more entry_line (title ++ head_line n checked bound) r.entries a.entry);
        };
        n_entries = length_push r.entries a.entry ∙ ap (λ (i : ℕ). i + 1) r.n_entries;
        are_columns = a.columns r.entries r.are_columns;
        within = omega (arith, line.before);
      }
        where
          here : drop at text ≡ entry_line a.entry ++ drop (end + 1) text
          here = line.is ∙ ap (λ (z : List ℕ). z ++ 10 ∷ drop (end + 1) text) a.is ∙ sym (append_assoc (entry_body a.entry.label a.entry.pairs a.entry.mark a.entry.dual) (10 ∷ []) (drop (end + 1) text)) ∙ ap (λ (z : List ℕ). z ++ drop (end + 1) text) (sym (entry-pieces a.entry))

pub nothing_read : (size n : ℕ) (text : List ℕ) (checked bound at : ℕ) (columns : Entries) → IsTop text n checked bound at → AreColumns [] columns → IsReadTo size n text checked bound at 0 columns
nothing_read size n text checked bound at columns t c = record {
  entries = [];
  lines = record { head = t.head; forms = All-nil (IsForm size n); is = t.is ∙ ap (λ (z : List ℕ). z ++ drop at text) (sym (append-nil (title ++ head_line n checked bound))) };
  n_entries = refl;
  are_columns = c;
  within = t.within;
}
