-- A text is refused at one line at the most
use Rattle.std.proofs.Common.{◌≡◌, ℕ, suc, ◌+◌, ◌^◌, ◌<◌, ◌≤◌, List, [], ◌∷◌, ◌++◌, length, refl, ap, sym, ◌∙◌, subst, arith, All, append_assoc, inl, inr}
use Rattle.std.specs.List.{flat_map}
use Rattle.std.proofs.lemmas.List.{length-append}
use Rattle.std.proofs.lemmas.Bool.{cases_lt}
use Rattle.order_domain.specs.declared.Point.{Point}
use Rattle.order_domain.specs.Domain.{Domain}
use Rattle.eval_basis.specs.declared.checked.CheckRule.{CheckRule}
use Rattle.order_bound.specs.TableText.{Entry, title, head_line, entry_line}
use Rattle.order_bound.specs.TableForm.{IsForm, AreLines, IsBadForm, no_title, no_head, no_entry, more_lines}
use Rattle.order_bound.specs.TableChecks.{IsGoodLabel, IsGoodDual, AreGood, IsFirstBad, IsSaid, IsRefused, bad_form, bad_label, bad_dual, bad_head}
use Rattle.order_bound.specs.Refusals.{OneLineLaw}
use Rattle.order_bound.proofs.Splits.{same_rest}
use Rattle.order_bound.proofs.Once.{IsSameLine, lines_same, IsSameHead, heads_same, same_text, well_formed, not_both}

-- ---- lines that a text begins with
module _ (size n : ℕ) (small : size ≤ 256) where
  pub record AreNext (es fs : List Entry) (rest after : List ℕ) : Type 0 where
    pub more : List Entry
    pub are : fs ≡ es ++ more
    pub rest_is : rest ≡ flat_map entry_line more ++ after

  next_lines : (es fs : List Entry) (rest after : List ℕ) → All (IsForm size n) es → All (IsForm size n) fs → length es ≤ length fs → flat_map entry_line es ++ rest ≡ flat_map entry_line fs ++ after → AreNext es fs rest after
  next_lines [] fs rest after he hf l q = record { more = fs; are = refl; rest_is = q }
  next_lines (e ∷ es) [] rest after he hf l q = absurd (omega arith)
  next_lines (e ∷ es) (f ∷ fs) rest after he hf l q =
      let s : IsSameLine size n small e f (flat_map entry_line es ++ rest) (flat_map entry_line fs ++ after) =
      lines_same size n small e f _ _ (he 0 e (omega arith)) (hf 0 f (omega arith)) (sym (append_assoc (entry_line e) (flat_map entry_line es) rest) ∙ q ∙ append_assoc (entry_line f) (flat_map entry_line fs) after) in
      let r : AreNext es fs rest after = next_lines es fs rest after (λ k d m. he (suc k) d (omega arith)) (λ k d m. hf (suc k) d (omega arith)) (omega arith) s.rests in
      record { more = r.more; are = ap (λ (z : Entry). z ∷ fs) (sym s.entries) ∙ ap (λ (zs : List Entry). e ∷ zs) r.are; rest_is = r.rest_is }

  forms_after : (xs ys : List Entry) → All (IsForm size n) (xs ++ ys) → All (IsForm size n) ys
  forms_after [] ys h = h
  forms_after (x ∷ xs) ys h = forms_after xs ys (λ k d l. h (suc k) d (omega arith))

  -- what follows the title of such a text
  titled : (text : List ℕ) (c b : ℕ) (es : List Entry) (rest : List ℕ) → AreLines size n text c b es rest → text ≡ title ++ (head_line n c b ++ (flat_map entry_line es ++ rest))
  titled text c b es rest h = h.is
      ∙ ap (λ (z : List ℕ). z ++ rest) (append_assoc title (head_line n c b) (flat_map entry_line es))
      ∙ append_assoc title (head_line n c b ++ flat_map entry_line es) rest
      ∙ ap (λ (z : List ℕ). title ++ z) (append_assoc (head_line n c b) (flat_map entry_line es) rest)

  -- the label lines of two readings follow the same head
  bodies : (few : n < 10 ^ 19) (text : List ℕ) (c b c' b' : ℕ) (es fs : List Entry) (rest after : List ℕ) → AreLines size n text c b es rest → AreLines size n text c' b' fs after → flat_map entry_line es ++ rest ≡ flat_map entry_line fs ++ after
  bodies few text c b c' b' es fs rest after h h' =
      let s : IsSameHead c b c' b' (flat_map entry_line es ++ rest) (flat_map entry_line fs ++ after) =
      heads_same n c b c' b' _ _ few h.head h'.head (same_rest title _ _ (sym (titled text c b es rest h) ∙ titled text c' b' fs after h')) in
      s.rests

  -- no text ends its label lines before those that it has
  too_early : (few : n < 10 ^ 19) (text : List ℕ) (c b c' b' : ℕ) (es fs : List Entry) (rest after : List ℕ) → AreLines size n text c b es rest → AreLines size n text c' b' fs after → length es < length fs →
      ((e : Entry) (follows : List ℕ) → IsForm size n e → rest ≡ entry_line e ++ follows → ⊥) → ⊥
  too_early few text c b c' b' es fs rest after h h' l none =
      let w : AreNext es fs rest after = next_lines es fs rest after h.forms h'.forms (omega arith) (bodies few text c b c' b' es fs rest after h h') in
      let m : length fs ≡ length es + length w.more = ap length w.are ∙ length-append es w.more in
      next w.more (omega arith) (forms_after es w.more (subst (λ (z : List Entry). All (IsForm size n) z) w.are h'.forms)) w.rest_is
    where
      next : (more : List Entry) → 1 ≤ length more → All (IsForm size n) more → rest ≡ flat_map entry_line more ++ after → ⊥
      next [] some forms q = omega arith
      next (e ∷ more) some forms q = none e (flat_map entry_line more ++ after) (forms 0 e (omega arith)) (q ∙ append_assoc (entry_line e) (flat_map entry_line more) after)

  -- ---- one line is not of the form
  one_form : (few : n < 10 ^ 19) (text : List ℕ) (line other : ℕ) → IsBadForm size n text line → IsBadForm size n text other → line ≡ other
  one_form few text line other (no_title none) (no_title none') = refl
  one_form few text line other (no_title none) (no_head rest is none') = absurd (none rest is)
  one_form few text line other (no_title none) (no_entry c b es rest h l none') = absurd (none _ (titled text c b es rest h))
  one_form few text line other (no_title none) (more_lines c b es rest h l some) = absurd (none _ (titled text c b es rest h))
  one_form few text line other (no_head rest is none) (no_title none') = absurd (none' rest is)
  one_form few text line other (no_head rest is none) (no_head rest' is' none') = refl
  one_form few text line other (no_head rest is none) (no_entry c b es rest' h l none') = absurd (none c b (flat_map entry_line es ++ rest') h.head (same_rest title _ _ (sym is ∙ titled text c b es rest' h)))
  one_form few text line other (no_head rest is none) (more_lines c b es rest' h l some) = absurd (none c b (flat_map entry_line es ++ rest') h.head (same_rest title _ _ (sym is ∙ titled text c b es rest' h)))
  one_form few text line other (no_entry c b es rest h l none) (no_title none') = absurd (none' _ (titled text c b es rest h))
  one_form few text line other (no_entry c b es rest h l none) (no_head rest' is none') = absurd (none' c b (flat_map entry_line es ++ rest) h.head (same_rest title _ _ (sym is ∙ titled text c b es rest h)))
  one_form few text line other (no_entry c b es rest h l none) (no_entry c' b' fs after h' l' none') = elim (cases_lt (length es) (length fs)) [
    | inl k ↦ absurd (too_early few text c b c' b' es fs rest after h h' k none)
    | inr k ↦ elim (cases_lt (length fs) (length es)) [
      | inl j ↦ absurd (too_early few text c' b' c b fs es after rest h' h j none')
      | inr j ↦ omega arith
    ]
  ]
  one_form few text line other (no_entry c b es rest h l none) (more_lines c' b' fs after h' l' some) = absurd (too_early few text c b c' b' es fs rest after h h' (omega arith) none)
  one_form few text line other (more_lines c b es rest h l some) (no_title none') = absurd (none' _ (titled text c b es rest h))
  one_form few text line other (more_lines c b es rest h l some) (no_head rest' is none') = absurd (none' c b (flat_map entry_line es ++ rest) h.head (same_rest title _ _ (sym is ∙ titled text c b es rest h)))
  one_form few text line other (more_lines c b es rest h l some) (no_entry c' b' fs after h' l' none) = absurd (too_early few text c' b' c b fs es after rest h' h (omega arith) none)
  one_form few text line other (more_lines c b es rest h l some) (more_lines c' b' fs after h' l' some') = refl

-- ---- one line fails a check first
first_once : (n : ℕ) (P : ℕ → Type 0) (k j : ℕ) → IsFirstBad n P k → IsFirstBad n P j → k ≡ j
first_once n P k j h i = elim (cases_lt k j) [
  | inl l ↦ absurd (h.bad (i.before k l))
  | inr l ↦ elim (cases_lt j k) [
    | inl m ↦ absurd (i.bad (h.before j m))
    | inr m ↦ omega arith
  ]
]

-- ---- one line is refused
module _ (d : Domain) (modulus : ℕ) (points : List Point) (rule : CheckRule) (text : List ℕ) (small : 2 ^ d.bits ≤ 256) (few : length points ≤ 1024) where
  n_few : length points < 10 ^ 19
  n_few = omega arith

  formed : (c b : ℕ) (es : List Entry) (line : ℕ) → IsSaid (2 ^ d.bits) (length points) text c b es → IsBadForm (2 ^ d.bits) (length points) text line → ⊥
  formed c b es line said bad = well_formed (2 ^ d.bits) (length points) small n_few text c b es said.lines said.n_entries line bad

  same_lines : (c b c' b' : ℕ) (es fs : List Entry) → IsSaid (2 ^ d.bits) (length points) text c b es → IsSaid (2 ^ d.bits) (length points) text c' b' fs → es ≡ fs
  same_lines c b c' b' es fs h i = same_text (2 ^ d.bits) (length points) small n_few text c' b' fs i.lines i.n_entries c b es h.lines h.n_entries

  label_once : (c b c' b' k j : ℕ) (es fs : List Entry) → IsSaid (2 ^ d.bits) (length points) text c b es → IsSaid (2 ^ d.bits) (length points) text c' b' fs →
      IsFirstBad (length points) (IsGoodLabel d rule es) k → IsFirstBad (length points) (IsGoodLabel d rule fs) j → k ≡ j
  label_once c b c' b' k j es fs h i x y =
      first_once (length points) (IsGoodLabel d rule fs) k j (subst (λ (z : List Entry). IsFirstBad (length points) (IsGoodLabel d rule z) k) (same_lines c b c' b' es fs h i) x) y

  dual_once : (c b c' b' k j : ℕ) (es fs : List Entry) → IsSaid (2 ^ d.bits) (length points) text c b es → IsSaid (2 ^ d.bits) (length points) text c' b' fs →
      IsFirstBad (length points) (IsGoodDual d modulus points es) k → IsFirstBad (length points) (IsGoodDual d modulus points fs) j → k ≡ j
  dual_once c b c' b' k j es fs h i x y =
      first_once (length points) (IsGoodDual d modulus points fs) k j (subst (λ (z : List Entry). IsFirstBad (length points) (IsGoodDual d modulus points z) k) (same_lines c b c' b' es fs h i) x) y

  no_label : (c b c' b' k : ℕ) (es fs : List Entry) → IsSaid (2 ^ d.bits) (length points) text c b es → IsSaid (2 ^ d.bits) (length points) text c' b' fs →
      IsFirstBad (length points) (IsGoodLabel d rule es) k → AreGood (length points) (IsGoodLabel d rule fs) → ⊥
  no_label c b c' b' k es fs h i x good =
      x.bad (subst (λ (z : List Entry). IsGoodLabel d rule z k) (sym (same_lines c b c' b' es fs h i)) (good.each k x.within))

  no_dual : (c b c' b' k : ℕ) (es fs : List Entry) → IsSaid (2 ^ d.bits) (length points) text c b es → IsSaid (2 ^ d.bits) (length points) text c' b' fs →
      IsFirstBad (length points) (IsGoodDual d modulus points es) k → AreGood (length points) (IsGoodDual d modulus points fs) → ⊥
  no_dual c b c' b' k es fs h i x good =
      x.bad (subst (λ (z : List Entry). IsGoodDual d modulus points z k) (sym (same_lines c b c' b' es fs h i)) (good.each k x.within))

  pub one_line : (line other : ℕ) → IsRefused d modulus points rule text line → IsRefused d modulus points rule text other → line ≡ other
  one_line line other (bad_form l h) (bad_form m i) = one_form (2 ^ d.bits) (length points) small n_few text line other h i
  one_line line other (bad_form l h) (bad_label c b es k said x) = absurd (formed c b es line said h)
  one_line line other (bad_form l h) (bad_dual c b es k said good x) = absurd (formed c b es line said h)
  one_line line other (bad_form l h) (bad_head c b es said good duals x) = absurd (formed c b es line said h)
  one_line line other (bad_label c b es k said x) (bad_form m i) = absurd (formed c b es other said i)
  one_line line other (bad_label c b es k said x) (bad_label c' b' fs j said' y) = ap (λ (z : ℕ). z + 3) (label_once c b c' b' k j es fs said said' x y)
  one_line line other (bad_label c b es k said x) (bad_dual c' b' fs j said' good y) = absurd (no_label c b c' b' k es fs said said' x good)
  one_line line other (bad_label c b es k said x) (bad_head c' b' fs said' good duals y) = absurd (no_label c b c' b' k es fs said said' x good)
  one_line line other (bad_dual c b es k said good x) (bad_form m i) = absurd (formed c b es other said i)
  one_line line other (bad_dual c b es k said good x) (bad_label c' b' fs j said' y) = absurd (no_label c' b' c b j fs es said' said y good)
  one_line line other (bad_dual c b es k said good x) (bad_dual c' b' fs j said' good' y) = ap (λ (z : ℕ). z + 3) (dual_once c b c' b' k j es fs said said' x y)
  one_line line other (bad_dual c b es k said good x) (bad_head c' b' fs said' good' duals y) = absurd (no_dual c b c' b' k es fs said said' x duals)
  one_line line other (bad_head c b es said good duals x) (bad_form m i) = absurd (formed c b es other said i)
  one_line line other (bad_head c b es said good duals x) (bad_label c' b' fs j said' y) = absurd (no_label c' b' c b j fs es said' said y good)
  one_line line other (bad_head c b es said good duals x) (bad_dual c' b' fs j said' good' y) = absurd (no_dual c' b' c b j fs es said' said y duals)
  one_line line other (bad_head c b es said good duals x) (bad_head c' b' fs said' good' duals' y) = refl

pub one_line_law : OneLineLaw
one_line_law d modulus points rule text line small few refused = record {
  once = λ other again. one_line d modulus points rule text small few line other refused again;
  not_accepted = λ bound accepted. not_both d modulus points rule text bound line small few accepted refused;
}
