-- What sinks were given, call by call.
use Rattle.std.proofs.Common.{ℕ, ◌≡◌, ◌+◌, ◌<◌, ◌≤◌, Bool, List, [], ◌++◌, length, take, drop, refl, sym, ap, ◌∙◌, inl, inr, arith, append_assoc, length-append}
use Rattle.std.proofs.lemmas.List.{append-nil, take-append-drop, length-take-le}
use Rattle.ag_io.specs.Counts.{Rose}
use Rattle.ag_io.specs.Views.{SinkView, GaveFront, GivesFront}
use Rattle.ag_io.specs.Puts.{Wrote, WroteSome, WroteAllBut}

-- ---- fronts, over lists
pub front_of_taken : (before after bytes : List ℕ) (c : ℕ) → after ≡ before ++ take c bytes → GaveFront before after bytes
front_of_taken before after bytes c e = record { front = take c bytes; rest = drop c bytes; after_is = e; bytes_are = sym (take-append-drop c bytes) }

pub fewer_of_taken : (before after bytes : List ℕ) (c : ℕ) → after ≡ before ++ take c bytes → c < length bytes → length after < length before + length bytes
fewer_of_taken before after bytes c e below = omega (arith, ap length e, length-append before (take c bytes), length-take-le c bytes (omega arith))

pub front_of_longer : (before after bytes more longer : List ℕ) → longer ≡ bytes ++ more → GaveFront before after bytes → GaveFront before after longer
front_of_longer before after bytes more longer e p = record {
  front = p.front;
  rest = p.rest ++ more;
  after_is = p.after_is;
  bytes_are = e ∙ ap (λ l. l ++ more) p.bytes_are ∙ append_assoc p.front p.rest more;
}

-- a front after all of a first part
pub front_after : (before middle after xs ys more longer : List ℕ) → middle ≡ before ++ xs → GaveFront middle after ys → longer ≡ (xs ++ ys) ++ more → GaveFront before after longer
front_after before middle after xs ys more longer e p whole = record {
  front = xs ++ p.front;
  rest = p.rest ++ more;
  after_is = p.after_is ∙ ap (λ l. l ++ p.front) e ∙ append_assoc before xs p.front;
  bytes_are = whole ∙ ap (λ l. (xs ++ l) ++ more) p.bytes_are ∙ ap (λ l. l ++ more) (sym (append_assoc xs p.front p.rest)) ∙ append_assoc (xs ++ p.front) p.rest more;
}

pub given_more : (before middle after a b whole : List ℕ) → middle ≡ before ++ a → after ≡ middle ++ b → whole ≡ a ++ b → after ≡ before ++ whole
given_more before middle after a b whole e f w = f ∙ ap (λ l. l ++ b) e ∙ append_assoc before a b ∙ ap (λ l. before ++ l) (sym w)

fewer_after : (before middle after xs ys more longer : List ℕ) → middle ≡ before ++ xs → length after < length middle + length ys → longer ≡ (xs ++ ys) ++ more → length after < length before + length longer
fewer_after before middle after xs ys more longer e few whole = omega (arith, ap length e, ap length whole, length-append before xs, length-append (xs ++ ys) more, length-append xs ys)

-- ---- counts of faults
pub rose_after : (a b c : ℕ) → a ≤ b → Rose b c → Rose a c
rose_after a b c le (inl lt) = inl (omega arith)
rose_after a b c le (inr last) = inr last

-- ---- views
pub wrote_nothing : (tells : Bool) (s : SinkView) → Wrote tells s s []
wrote_nothing tells s = record { gives = λ t. sym (append-nil s.given); faults = refl; sure = refl }

pub wrote_more : {tells : Bool} {a b c : SinkView} {xs ys : List ℕ} (whole : List ℕ) → Wrote tells a b xs → Wrote tells b c ys → whole ≡ xs ++ ys → Wrote tells a c whole
wrote_more {tells} {a} {b} {c} {xs} {ys} whole first then e = record {
  gives = λ t. given_more a.given b.given c.given xs ys whole (first.gives t) (then.gives t) e;
  faults = then.faults ∙ first.faults;
  sure = then.sure ∙ first.sure;
}

pub wrote_some : {tells : Bool} {a b c : SinkView} {xs ys : List ℕ} (more longer : List ℕ) → Wrote tells a b xs → WroteSome tells b c ys → longer ≡ (xs ++ ys) ++ more → WroteSome tells a c longer
wrote_some {tells} {a} {b} {c} {xs} {ys} more longer first then e = record {
  gives = λ t. front_after a.given b.given c.given xs ys more longer (first.gives t) (then.gives t) e;
  fewer = λ t. fewer_after a.given b.given c.given xs ys more longer (first.gives t) (then.fewer t) e;
  enough = λ t. omega (arith, then.enough t, first.sure);
  rose = rose_after a.faults b.faults c.faults (omega (arith, first.faults)) then.rose;
  counted = omega (arith, first.faults, then.counted);
  sure = then.sure ∙ first.sure;
}

pub gave_front : {tells : Bool} {a b : SinkView} {xs : List ℕ} (more longer : List ℕ) → Wrote tells a b xs → longer ≡ xs ++ more → GivesFront tells a b longer
gave_front {tells} {a} {b} {xs} more longer w e = λ t. record { front = xs; rest = more; after_is = w.gives t; bytes_are = e }

pub some_of_longer : {tells : Bool} {a b : SinkView} {xs : List ℕ} (more longer : List ℕ) → WroteSome tells a b xs → longer ≡ xs ++ more → WroteSome tells a b longer
some_of_longer {tells} {a} {b} {xs} more longer w e = record {
  gives = λ t. front_of_longer a.given b.given xs more longer e (w.gives t);
  fewer = λ t. omega (arith, w.fewer t, ap length e, length-append xs more);
  enough = w.enough;
  rose = w.rose;
  counted = w.counted;
  sure = w.sure;
}

-- ---- bytes that wait
pub all_waits : (tells : Bool) (s : SinkView) (bytes waits : List ℕ) → bytes ≡ waits → WroteAllBut tells s s bytes waits
all_waits tells s bytes waits e = record { done = []; wrote = wrote_nothing tells s; bytes_are = e }

-- what waited, with more behind it
waiting_more : (xs done waits ys : List ℕ) → xs ≡ done ++ waits → xs ++ ys ≡ done ++ (waits ++ ys)
waiting_more xs done waits ys e = ap (λ l. l ++ ys) e ∙ append_assoc done waits ys

pub all_but_more : {tells : Bool} {a b c : SinkView} {xs waits left : List ℕ} (ys whole : List ℕ) → WroteAllBut tells a b xs waits → WroteAllBut tells b c (waits ++ ys) left → whole ≡ xs ++ ys → WroteAllBut tells a c whole left
all_but_more {tells} {a} {b} {c} {xs} {waits} {left} ys whole first then e = record {
  done = first.done ++ then.done;
  wrote = wrote_more (first.done ++ then.done) first.wrote then.wrote refl;
  bytes_are = e ∙ waiting_more xs first.done waits ys first.bytes_are ∙ ap (λ l. first.done ++ l) then.bytes_are ∙ sym (append_assoc first.done then.done left);
}

pub all_but_some : {tells : Bool} {a b c : SinkView} {xs waits : List ℕ} (ys more longer : List ℕ) → WroteAllBut tells a b xs waits → WroteSome tells b c (waits ++ ys) → longer ≡ (xs ++ ys) ++ more → WroteSome tells a c longer
all_but_some {tells} {a} {b} {c} {xs} {waits} ys more longer first then e =
    wrote_some more longer first.wrote then (e ∙ ap (λ l. l ++ more) (waiting_more xs first.done waits ys first.bytes_are))

pub all_but_none : {tells : Bool} {a b c : SinkView} {xs waits : List ℕ} → WroteAllBut tells a b xs waits → Wrote tells b c waits → Wrote tells a c xs
all_but_none {tells} {a} {b} {c} {xs} {waits} first then = wrote_more xs first.wrote then first.bytes_are

pub none_but_some : {tells : Bool} {a b c : SinkView} {xs waits : List ℕ} → WroteAllBut tells a b xs waits → WroteSome tells b c waits → WroteSome tells a c xs
none_but_some {tells} {a} {b} {c} {xs} {waits} first then = wrote_some [] xs first.wrote then (first.bytes_are ∙ sym (append-nil (first.done ++ waits)))

-- more bytes behind a front
pub behind : (front xs ys whole : List ℕ) → whole ≡ xs ++ ys → front ++ whole ≡ (front ++ xs) ++ ys
behind front xs ys whole e = ap (λ l. front ++ l) e ∙ sym (append_assoc front xs ys)
