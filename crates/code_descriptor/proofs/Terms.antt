-- From what the curve says of the terms that fit to the refusal of all terms
use Rattle.std.proofs.Common.{◌≡◌, ◌≢◌, ℕ, ◌+◌, ◌*◌, ◌<◌, ◌≤◌, ℤ, pos, negsuc, Bool, true, false, not, ◌&&◌, ◌||◌, ltb, List, length, take, map, Option, Some, None, option_map, refl, sym, ap, ap₂, ◌∙◌, arith}
use Rattle.std.proofs.Math.Seq.{take-length}
use Rattle.std.proofs.Math.ListN.{get_or-map}
use Rattle.std.proofs.lemmas.List.{take-map, take-take, get_or-take}
use Rattle.std.proofs.lemmas.Bool.Decides.{nat_tests}
use Rattle.std.specs.Option.{option_or}
use Rattle.curve_theory.specs.declared.Term.{Term}
use Rattle.curve_theory.specs.Curve.{has_term}
use Rattle.weight_semi.specs.Generators.{are_generators}
use Rattle.cab_curve.specs.First.{when, least}
use Rattle.cab_curve.specs.Equation.{term_at, is_bad_term, misses_lead, curve_refusal}
use Rattle.cab_curve.specs.declared.equation.CurveFault.{CurveFault}
use Rattle.cab_curve.specs.declared.equation.CurveFault.TheVariants as fault
use Rattle.cab_curve.proofs.Least.{least-at, least-same, least-some}
use Rattle.code_descriptor.specs.declared.DescCause.TheVariants.{BadTerm, MissingLead}
use Rattle.code_descriptor.specs.Tree.{NamedTerm}
use Rattle.code_descriptor.specs.Tests.{nat, fits_u32, is_from_to, plain_term, named_term_at, is_bad_named_term, term_refusal}
use Rattle.code_descriptor.specs.Views.{fits_term, IsFittingPart, error_of, IsRefusal}

-- ---- the terms that fit beside all terms

at_map : (ts : List NamedTerm) (k : ℕ) → term_at (map plain_term ts) k ≡ plain_term (named_term_at ts k)
at_map ts k = get_or-map plain_term ts k (record { i = pos 0; j = pos 0; c = pos 0 })

at_front : (ts : List NamedTerm) (n k : ℕ) → k < n → term_at (map plain_term (take n ts)) k ≡ term_at (map plain_term ts) k
at_front ts n k l =
    at_map (take n ts) k ∙ ap plain_term (get_or-take n ts k (record { i = pos 0; j = pos 0; c = pos 0 }) l) ∙ sym (at_map ts k)

front_front : (ts : List NamedTerm) (n k : ℕ) → k < n → take k (map plain_term (take n ts)) ≡ take k (map plain_term ts)
front_front ts n k l =
    take-map plain_term k (take n ts) ∙ ap (map plain_term) (take-take k n ts (omega arith)) ∙ sym (take-map plain_term k ts)

bad_front : (size a b : ℕ) (ts : List NamedTerm) (n k : ℕ) → k < n → is_bad_term size a b (map plain_term (take n ts)) k ≡ is_bad_term size a b (map plain_term ts) k
unfolding is_bad_term
bad_front size a b ts n k l =
    ap₂ (λ (t : Term) (us : List Term). (not (ltb 0 t.c && ltb t.c size) || ltb (a * b) (a * t.i + b * t.j)) || has_term us t.i t.j)
    (at_front ts n k l) (front_front ts n k l)

fit_parts : (p q r : Bool) → (p && q) && r ≡ true → p && q ≡ true
fit_parts true true r h = refl
fit_parts true false r h = cc
fit_parts false q r h = cc

-- a term that fits is bad where the curve says so
bad_same : (size a b : ℕ) (ts : List NamedTerm) (k : ℕ) → fits_term (named_term_at ts k) ≡ true → is_bad_named_term size a b ts k ≡ is_bad_term size a b (map plain_term ts) k
unfolding is_bad_named_term fits_term
bad_same size a b ts k fit =
    let t = named_term_at ts k in
    rw (fit_parts (fits_u32 t.i) (fits_u32 t.j) (is_from_to 0 255 t.c) fit) refl

no_symbol : (size : ℕ) (c : ℤ) → size ≤ 256 → is_from_to 0 255 c ≡ false → ltb 0 (nat c) && ltb (nat c) size ≡ false
no_symbol size (pos n) h f = grind (arith, nat_tests)
no_symbol size (negsuc n) h f = refl

unfit : (p q r s u v : Bool) → (p && q) && r ≡ false → (r ≡ false → s ≡ false) → not (p && q) || ((not s || u) || v) ≡ true
unfit true true false s u v h f = rw (f refl) refl
unfit true true true s u v h f = cc
unfit true false r s u v h f = refl
unfit false q r s u v h f = refl

-- a term that does not fit is bad
bad_cut : (size a b : ℕ) (ts : List NamedTerm) (k : ℕ) → size ≤ 256 → fits_term (named_term_at ts k) ≡ false → is_bad_named_term size a b ts k ≡ true
unfolding is_bad_named_term fits_term is_bad_term
bad_cut size a b ts k small cut =
    let t = named_term_at ts k in
    let p = plain_term t in
    rw (at_map ts k) (unfit (fits_u32 t.i) (fits_u32 t.j) (is_from_to 0 255 t.c) (ltb 0 p.c && ltb p.c size) (ltb (a * b) (a * p.i + b * p.j))
    (has_term (take k (map plain_term ts)) p.i p.j) cut (no_symbol size t.c small))

module _ (size a b : ℕ) (ts : List NamedTerm) (plain : List Term) (part : IsFittingPart ts plain) where
  least_front : least (length plain) (is_bad_named_term size a b ts) ≡ least (length plain) (is_bad_term size a b plain)
  least_front =
      least-same (length plain) (is_bad_named_term size a b ts) (is_bad_term size a b plain)
      (λ k h. bad_same size a b ts k (part.fit k h) ∙ sym (bad_front size a b ts (length plain) k h) ∙ ap (λ (l : List Term). is_bad_term size a b l k) (sym part.items))

  cut_term : size ≤ 256 → length plain < length ts → least (length plain) (is_bad_term size a b plain) ≡ None → term_refusal size a b ts ≡ Some (BadTerm (length plain))
  unfolding term_refusal
  cut_term small lt none =
      rw (least-at (length ts) (length plain) (is_bad_named_term size a b ts) (least_front ∙ none) (bad_cut size a b ts (length plain) small (part.cut lt)) lt) refl

  whole : length plain ≡ length ts → plain ≡ map plain_term ts
  whole e = part.items ∙ ap (λ (n : ℕ). map plain_term (take n ts)) e ∙ ap (map plain_term) (take-length ts)

  all_terms : length plain ≡ length ts → least (length plain) (is_bad_term size a b plain) ≡ None → term_refusal size a b ts ≡ option_or (when (misses_lead a b plain) MissingLead) None
  unfolding term_refusal
  all_terms e none =
      let mine : least (length ts) (is_bad_named_term size a b ts) ≡ None = rw e at (least_front ∙ none) in
      rw (mine, whole e) refl

  -- the first bad term of those that fit is the first of all
  bad_term : (k : ℕ) → least (length plain) (is_bad_term size a b plain) ≡ Some k → term_refusal size a b ts ≡ Some (BadTerm k)
  unfolding term_refusal
  bad_term k some =
      let found = least-some (length plain) k (is_bad_named_term size a b ts) (least_front ∙ some) in
      rw (least-at (length ts) k (is_bad_named_term size a b ts) found.2 found.1 (omega (arith, found.0, part.at_most))) refl

  -- ---- what the curve answers

  opened : are_generators a b ≡ true → curve_refusal size a b plain
      ≡ option_or (option_map fault.BadTerm (least (length plain) (is_bad_term size a b plain))) (option_or (when (misses_lead a b plain) fault.MissingLead) None)
  unfolding curve_refusal
  opened good = rw good refl

  ok_go : (o : Option ℕ) → least (length plain) (is_bad_term size a b plain) ≡ o → (miss : Bool) → misses_lead a b plain ≡ miss
      → option_or (option_map fault.BadTerm o) (option_or (when miss fault.MissingLead) None) ≡ None
      → (least (length plain) (is_bad_term size a b plain) ≡ None) × (misses_lead a b plain ≡ false)
  ok_go (Some x) e miss m h = cc
  ok_go None e true m h = cc
  ok_go None e false m h = (e, m)

  accepted : are_generators a b ≡ true → curve_refusal size a b plain ≡ None → (least (length plain) (is_bad_term size a b plain) ≡ None) × (misses_lead a b plain ≡ false)
  accepted good h = ok_go (least (length plain) (is_bad_term size a b plain)) refl (misses_lead a b plain) refl (sym (opened good) ∙ h)

  pub accepted_whole : are_generators a b ≡ true → curve_refusal size a b plain ≡ None → length plain ≡ length ts → (term_refusal size a b ts ≡ None) × (plain ≡ map plain_term ts)
  accepted_whole good h e = let both = accepted good h in (all_terms e both.0 ∙ rw both.1 refl, whole e)

  pub accepted_cut : are_generators a b ≡ true → curve_refusal size a b plain ≡ None → size ≤ 256 → length plain < length ts → term_refusal size a b ts ≡ Some (BadTerm (length plain))
  accepted_cut good h small lt = cut_term small lt (accepted good h).0

  err_go : (o : Option ℕ) → least (length plain) (is_bad_term size a b plain) ≡ o → (miss : Bool) → misses_lead a b plain ≡ miss → (f : CurveFault)
      → (f ≢ fault.NoMemory → option_or (option_map fault.BadTerm o) (option_or (when miss fault.MissingLead) None) ≡ Some f)
      → (is_cut : Bool) → (is_cut ≡ true → length plain < length ts) → (is_cut ≡ false → length plain ≡ length ts) → size ≤ 256
      → IsRefusal (error_of f (length plain) is_cut) (term_refusal size a b ts)
  err_go o e miss m fault.NoMemory h is_cut cut uncut small = tt
  err_go (Some x) e miss m fault.BadDegrees h is_cut cut uncut small = let bad : Some (fault.BadTerm x) ≡ Some fault.BadDegrees = h (λ w. cc) in cc
  err_go None e true m fault.BadDegrees h is_cut cut uncut small = let bad : Some fault.MissingLead ≡ Some fault.BadDegrees = h (λ w. cc) in cc
  err_go None e false m fault.BadDegrees h is_cut cut uncut small = let bad : None ≡ Some fault.BadDegrees = h (λ w. cc) in cc
  err_go (Some x) e miss m (fault.BadTerm k) h is_cut cut uncut small =
      let is : Some (fault.BadTerm x) ≡ Some (fault.BadTerm k) = h (λ w. cc) in
      let same : x ≡ k = cc in
      bad_term k (e ∙ ap Some same)
  err_go None e true m (fault.BadTerm k) h is_cut cut uncut small = let bad : Some fault.MissingLead ≡ Some (fault.BadTerm k) = h (λ w. cc) in absurd (cc)
  err_go None e false m (fault.BadTerm k) h is_cut cut uncut small = let bad : None ≡ Some (fault.BadTerm k) = h (λ w. cc) in absurd (cc)
  err_go (Some x) e miss m fault.MissingLead h is_cut cut uncut small = let bad : Some (fault.BadTerm x) ≡ Some fault.MissingLead = h (λ w. cc) in absurd (cc)
  err_go None e false m fault.MissingLead h is_cut cut uncut small = let bad : None ≡ Some fault.MissingLead = h (λ w. cc) in absurd (cc)
  err_go None e true m fault.MissingLead h true cut uncut small = cut_term small (cut refl) e
  err_go None e true m fault.MissingLead h false cut uncut small = all_terms (uncut refl) e ∙ rw m refl

  pub refused_by_curve : are_generators a b ≡ true → (f : CurveFault) → (f ≢ fault.NoMemory → curve_refusal size a b plain ≡ Some f)
      → (is_cut : Bool) → (is_cut ≡ true → length plain < length ts) → (is_cut ≡ false → length plain ≡ length ts) → size ≤ 256
      → IsRefusal (error_of f (length plain) is_cut) (term_refusal size a b ts)
  refused_by_curve good f h = err_go (least (length plain) (is_bad_term size a b plain)) refl (misses_lead a b plain) refl f (λ w. sym (opened good) ∙ h w)
