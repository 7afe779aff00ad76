-- Texts that are read, and texts that are made
use Rattle.std.proofs.Common.{◌≡◌, ℕ, ◌+◌, ◌<◌, ◌≤◌, List, [], ◌∷◌, ◌++◌, length, take, get_or, sym, ap, subst, ◌∙◌, inl, inr, arith, append-nil, ◌≢◌, min, Result, Ok, Err, IfOk, Vec, Global, Bool, IsTrue, length-append}
use Rattle.std.specs.List.{flat_map}
use Rattle.std.proofs.lemmas.Grind.{flat_map-append, common_steps}
use Rattle.std.proofs.lemmas.List.{take_more, length-take-le}
use Rattle.code_descriptor.specs.declared.TheConstants.{MOST_TEXT}
use Rattle.code_descriptor.specs.Meaning.{IsRefusedFor, Describes, MeansTheSame}
use Rattle.code_descriptor.proofs.OneMeaning.{large_same}
use Rattle.ag_io.specs.Counts.{Rose}
use Rattle.ag_io.specs.Views.{SourceView}
use Rattle.stream_codec.specs.declared.limits.TheConstants.{PIECE}
use Rattle.agcode_top.specs.declared.input.InputFault.{InputFault}
use Rattle.agcode_top.specs.declared.input.InputFault.TheVariants.{NoMemory, Fault, TooLong}
use Rattle.agcode_top.specs.declared.input.Tail.{Tail}
use Rattle.agcode_top.specs.declared.input.Tail.TheVariants as ends
use Rattle.agcode_top.specs.Inputs.{IsInputFault, IsFaultAt, Took}
use Rattle.agcode_top.specs.Texts.{IsFront}

-- what is left out of a text that fills the room changes nothing
same-all : (text before : List ℕ) → text ≡ before → MeansTheSame text before
same-all text before e = record {
  refused = λ c h. subst (λ (t : List ℕ). IsRefusedFor t c) e h;
  described = λ p h. subst (λ (t : List ℕ). Describes t p) e h;
}

pub front-means : (text before after : List ℕ) → IsFront (MOST_TEXT + 1) text before after → MeansTheSame text before
front-means text before after h = elim h.end [
  | inl e ↦ same-all text before (sym (h.split ∙ ap (λ (x : List ℕ). text ++ x) e ∙ append-nil text))
  | inr e ↦
      let n : length before ≡ length text + length after = ap length h.split ∙ length-append text after in
      let m : length text ≡ MOST_TEXT + 1 = e in
      large_same text before (omega arith) (omega arith)
]

-- one more piece of a text
pub pieces-more : {X : Type 0} (f : X → List ℕ) (xs : List X) (i : ℕ) (d : X) (text : List ℕ) → i < length xs → text ≡ flat_map f (take i xs) → text ++ f (get_or xs i d) ≡ flat_map f (take (i + 1) xs)
pieces-more f xs i d text l h =
    ap (λ (t : List ℕ). t ++ f (get_or xs i d)) h
    ∙ sym (ap (λ (ys : List _). flat_map f ys) (take_more xs i d l)
    ∙ flat_map-append f (take i xs) (get_or xs i d ∷ [])
    ∙ ap (λ (t : List ℕ). flat_map f (take i xs) ++ t) (append-nil (f (get_or xs i d))))

pub read-means : {E : Type 0} (r : Result (Vec ℕ Global) E) (tells : Bool) (before after : List ℕ) → IfOk r (λ t. IsTrue tells → IsFront (MOST_TEXT + 1) t.items before after) →
    IfOk r (λ t. IsTrue tells → MeansTheSame t.items before)
read-means (Ok t) tells before after h = λ told. front-means t.items before after (h told)
read-means (Err e) tells before after h = tt

-- a word that is all of the input, and an input that is no word
pub word-whole : (n : ℕ) (buf before after : List ℕ) → before ≡ buf ++ after → length buf ≡ n + 1 → (length before ≢ n) × (n + 1 ≡ min (length before) (n + 1))
word-whole n buf before after e l =
    let s : length before ≡ length buf + length after = ap length e ∙ length-append buf after in
    (omega arith, grind (arith, common_steps))

pub word-short : (n got : ℕ) (buf before after : List ℕ) → before ≡ take got buf ++ after → after ≡ [] → got < length buf → length buf ≡ n + 1 → got ≢ n →
    (length before ≢ n) × (got ≡ min (length before) (n + 1))
word-short n got buf before after e f l m d =
    let b : before ≡ take got buf = e ∙ ap (λ (x : List ℕ). take got buf ++ x) f ∙ append-nil (take got buf) in
    let s : length before ≡ got = ap length b ∙ length-take-le got buf (omega arith) in
    (omega arith, grind (arith, common_steps))

pub word-is : (n : ℕ) (buf before after : List ℕ) → before ≡ take n buf ++ after → after ≡ [] → before ≡ take n buf
word-is n buf before after e f = e ∙ ap (λ (x : List ℕ). take n buf ++ x) f ∙ append-nil (take n buf)

pub ruleset word_steps = (word-whole, word-short, word-is)

-- a read of the input failed after a text was read, and some bytes more
pub fault-cases : (limit : ℕ) (tells : Bool) (first mid last : SourceView) (text : List ℕ) (got : ℕ) (fault : InputFault) → (IsTrue tells → first.left ≡ text ++ mid.left) → length text ≤ limit → mid.faults ≡ first.faults → got < PIECE →
    (IsTrue tells → length mid.left ≡ length last.left + got) → Rose mid.faults last.faults → IsFaultAt limit (length text + got) fault → IsInputFault limit (record { tells = tells; before = first; after = last }) fault
fault-cases limit tells first mid last text got NoMemory read few well short took rose at = absurd at
fault-cases limit tells first mid last text got Fault read few well short took rose at = (
  λ told.
      let a : length first.left ≡ length text + length mid.left = ap length (read told) ∙ length-append text mid.left in
      let b : length mid.left ≡ length last.left + got = took told in
      let c : length text + got ≤ limit = at in
      omega arith,
  subst (λ (n : ℕ). Rose n last.faults) well rose,
)
fault-cases limit tells first mid last text got (TooLong number) read few well short took rose at =
    let c : limit < length text + got = at.0 in
    let d : number ≡ length text + got = at.1 in (
      omega arith,
      omega arith,
      λ told.
          let a : length first.left ≡ length text + length mid.left = ap length (read told) ∙ length-append text mid.left in
          let b : length mid.left ≡ length last.left + got = took told in
          omega arith,
      λ told none. absurd (none (subst (λ (n : ℕ). Rose n last.faults) well rose)),
    )

pub read-stops : (limit : ℕ) (tells : Bool) (first mid last : SourceView) (text after : List ℕ) (len got : ℕ) (tail : Tail) (fault : InputFault) → (IsTrue tells → first.left ≡ text ++ mid.left) → length text ≤ limit → mid.faults ≡ first.faults →
    Took (record { tells = tells; before = mid; after = last }) text after tail → tail ≡ ends.Fault got → len ≡ length after → IsFaultAt limit (len + got) fault → IsInputFault limit (record { tells = tells; before = first; after = last }) fault
read-stops limit tells first mid last text after len got tail fault read few well took is l at =
    let k : Took (record { tells = tells; before = mid; after = last }) text after (ends.Fault got) = subst (λ (t : Tail). Took (record { tells = tells; before = mid; after = last }) text after t) is took in
    let e : len ≡ length text = l ∙ ap length k.0 in
    fault-cases limit tells first mid last text got fault read few well k.1 k.2 k.3 (subst (λ (n : ℕ). IsFaultAt limit (n + got) fault) e at)
