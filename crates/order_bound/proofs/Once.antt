-- A text says one thing, so it is not both accepted and refused
use Rattle.std.proofs.Common.{◌≡◌, ℕ, suc, ◌+◌, ◌^◌, ◌<◌, ◌≤◌, Bool, true, false, List, [], ◌∷◌, ◌++◌, length, refl, ap, sym, ◌∙◌, subst, arith, All, append_assoc}
use Rattle.std.specs.Prelude.{codes}
use Rattle.std.specs.List.{flat_map}
use Rattle.std.specs.Fmt.{decimal}
use Rattle.std.proofs.lemmas.List.{append-nil, length-append}
use Rattle.order_domain.specs.declared.Point.{Point}
use Rattle.order_domain.specs.Domain.{Domain, ArePoints, IsOrderDomain}
use Rattle.order_theory.specs.Basis.{Basis, IsSoundBasis}
use Rattle.eval_basis.specs.Built.{IsBuilt}
use Rattle.eval_basis.specs.Rules.{checked_by}
use Rattle.eval_basis.specs.declared.checked.CheckRule.{CheckRule}
use Rattle.order_bound.specs.TableText.{Entry, mark_text, title, head_line, entry_line, IsTableOf}
use Rattle.std.proofs.Math.Pow.{pow_mono}
use Rattle.order_bound.specs.TableForm.{IsForm, IsHead, AreLines, IsBadForm, no_title, no_head, no_entry, more_lines}
use Rattle.order_bound.specs.Reading.{symbols, entry_body, head_body}
use Rattle.order_bound.specs.TableChecks.{IsGoodLabel, IsGoodDual, IsGoodHead, IsAccepted, IsRefused, bad_form, bad_label, bad_dual, bad_head}
use Rattle.order_bound.proofs.Pieces.{entry-pieces, head-pieces}
use Rattle.order_bound.proofs.Splits.{AreSame, same_rest}
use Rattle.order_bound.proofs.Fields.{IsFollowed, fields_same, symbols_end, same_marks, marks_differ}
use Rattle.order_bound.proofs.Lines.{line_is, body_feedless, head_feedless}
use Rattle.order_bound.proofs.Tables.{entry_same, table_is_accepted}

symbols_same : (xs ys : List ℕ) → All (λ x. x < 256) xs → All (λ x. x < 256) ys → symbols xs ≡ symbols ys → xs ≡ ys
symbols_same [] [] h i e = refl
symbols_same [] (y ∷ ys) h i e = absurd (let z : 0 ≡ suc (length (decimal y ++ symbols ys)) = ap length e in omega arith)
symbols_same (x ∷ xs) [] h i e = absurd (let z : suc (length (decimal x ++ symbols xs)) ≡ 0 = ap length e in omega arith)
symbols_same (x ∷ xs) (y ∷ ys) h i e =
    let f : IsFollowed x y (symbols xs) (symbols ys) = fields_same x y (symbols xs) (symbols ys) (omega (arith, h 0 0 (omega arith))) (omega (arith, i 0 0 (omega arith))) (symbols_end xs) (symbols_end ys) e in
    ap (λ (z : ℕ). z ∷ xs) f.value ∙ ap (λ (zs : List ℕ). y ∷ zs) (symbols_same xs ys (λ k d l. h (suc k) d (omega arith)) (λ k d l. i (suc k) d (omega arith)) f.rest)

marks_same : (m m' : Bool) (xs ys : List ℕ) → (32 ∷ mark_text m) ++ xs ≡ (32 ∷ mark_text m') ++ ys → m ≡ m'
marks_same true true xs ys e = refl
marks_same false false xs ys e = refl
marks_same true false xs ys e = absurd (marks_differ xs ys e)
marks_same false true xs ys e = absurd (marks_differ ys xs (sym e))

module _ (size n : ℕ) (small : size ≤ 256) where
  bodies_same : (e f : Entry) → IsForm size n e → IsForm size n f → entry_body e.label e.pairs e.mark e.dual ≡ entry_body f.label f.pairs f.mark f.dual → e ≡ f
  unfolding entry_body
  bodies_same e f he hf q =
      let a : IsFollowed e.label f.label ((32 ∷ decimal e.pairs) ++ ((32 ∷ mark_text e.mark) ++ symbols e.dual)) ((32 ∷ decimal f.pairs) ++ ((32 ∷ mark_text f.mark) ++ symbols f.dual)) =
      fields_same e.label f.label _ _ he.label_read hf.label_read refl refl (same_rest (codes "label") _ _ q) in
      let b : IsFollowed e.pairs f.pairs ((32 ∷ mark_text e.mark) ++ symbols e.dual) ((32 ∷ mark_text f.mark) ++ symbols f.dual) =
      fields_same e.pairs f.pairs _ _ he.pairs_read hf.pairs_read refl refl a.rest in
      entry_same e f.label f.pairs f.mark f.dual a.value b.value (marks_same e.mark f.mark (symbols e.dual) (symbols f.dual) b.rest)
      (symbols_same e.dual f.dual (λ k d l. omega (arith, he.symbols k d l)) (λ k d l. omega (arith, hf.symbols k d l)) (same_marks e.mark f.mark (symbols e.dual) (symbols f.dual) b.rest))

  pub record IsSameLine (e f : Entry) (A B : List ℕ) : Type 0 where
    pub entries : e ≡ f
    pub rests : A ≡ B

  pub lines_same : (e f : Entry) (A B : List ℕ) → IsForm size n e → IsForm size n f → entry_line e ++ A ≡ entry_line f ++ B → IsSameLine e f A B
  lines_same e f A B he hf q =
      let s : AreSame (entry_body e.label e.pairs e.mark e.dual) (entry_body f.label f.pairs f.mark f.dual) (10 ∷ A) (10 ∷ B) =
      line_is _ _ A B (body_feedless size n small e he) (body_feedless size n small f hf)
      (sym (append_assoc (entry_body e.label e.pairs e.mark e.dual) (10 ∷ []) A) ∙ ap (λ (z : List ℕ). z ++ A) (sym (entry-pieces e)) ∙ q ∙ ap (λ (z : List ℕ). z ++ B) (entry-pieces f)) in
      record { entries = bodies_same e f he hf s.fronts; rests = same_rest (10 ∷ []) A B s.rests }

  -- the first lines of a table are those of each text that it begins with
  pub record AreFirst (es fs : List Entry) (rest : List ℕ) : Type 0 where
    pub more : List Entry
    pub are : fs ≡ es ++ more
    pub rest_is : rest ≡ flat_map entry_line more

  first_lines : (es fs : List Entry) (rest : List ℕ) → All (IsForm size n) es → All (IsForm size n) fs → length es ≤ length fs → flat_map entry_line es ++ rest ≡ flat_map entry_line fs → AreFirst es fs rest
  first_lines [] fs rest he hf l q = record { more = fs; are = refl; rest_is = q }
  first_lines (e ∷ es) [] rest he hf l q = absurd (omega arith)
  first_lines (e ∷ es) (f ∷ fs) rest he hf l q =
      let s : IsSameLine e f (flat_map entry_line es ++ rest) (flat_map entry_line fs) =
      lines_same e f _ _ (he 0 e (omega arith)) (hf 0 f (omega arith)) (sym (append_assoc (entry_line e) (flat_map entry_line es) rest) ∙ q) in
      let r : AreFirst es fs rest = first_lines es fs rest (λ k d m. he (suc k) d (omega arith)) (λ k d m. hf (suc k) d (omega arith)) (omega arith) s.rests in
      record { more = r.more; are = ap (λ (z : Entry). z ∷ fs) (sym s.entries) ∙ ap (λ (zs : List Entry). e ∷ zs) r.are; rest_is = r.rest_is }

-- ---- the second line
pub record IsSameHead (c b c' b' : ℕ) (A B : List ℕ) : Type 0 where
  pub checked_are : c ≡ c'
  pub bounds : b ≡ b'
  pub rests : A ≡ B

pub heads_same : (n c b c' b' : ℕ) (A B : List ℕ) → n < 10 ^ 19 → IsHead c b → IsHead c' b' → head_line n c b ++ A ≡ head_line n c' b' ++ B → IsSameHead c b c' b' A B
unfolding head_body
heads_same n c b c' b' A B few h h' q =
    let s : AreSame (head_body n c b) (head_body n c' b') (10 ∷ A) (10 ∷ B) =
    line_is _ _ A B (head_feedless n c b few h) (head_feedless n c' b' few h')
    (sym (append_assoc (head_body n c b) (10 ∷ []) A) ∙ ap (λ (z : List ℕ). z ++ A) (sym (head-pieces n c b)) ∙ q ∙ ap (λ (z : List ℕ). z ++ B) (head-pieces n c' b')) in
    let one : IsFollowed n n (codes " checked" ++ ((32 ∷ decimal c) ++ (codes " bound" ++ (32 ∷ decimal b)))) (codes " checked" ++ ((32 ∷ decimal c') ++ (codes " bound" ++ (32 ∷ decimal b')))) =
    fields_same n n _ _ few few refl refl (same_rest (codes "n") _ _ s.fronts) in
    let two : IsFollowed c c' (codes " bound" ++ (32 ∷ decimal b)) (codes " bound" ++ (32 ∷ decimal b')) =
    fields_same c c' _ _ h.checked_read h'.checked_read refl refl (same_rest (codes " checked") _ _ one.rest) in
    let three : IsFollowed b b' [] [] =
    fields_same b b' [] [] h.bound_read h'.bound_read tt tt (append-nil (32 ∷ decimal b) ∙ same_rest (codes " bound") _ _ two.rest ∙ sym (append-nil (32 ∷ decimal b'))) in
    record { checked_are = two.value; bounds = three.value; rests = same_rest (10 ∷ []) A B s.rests }

-- ---- a whole table
module _ (size n : ℕ) (small : size ≤ 256) (few : n < 10 ^ 19) (text : List ℕ) (c b : ℕ) (fs : List Entry) (lines : AreLines size n text c b fs []) (long : length fs ≡ n) where
  tail : text ≡ title ++ (head_line n c b ++ flat_map entry_line fs)
  tail = lines.is ∙ append-nil (title ++ head_line n c b ++ flat_map entry_line fs) ∙ append_assoc title (head_line n c b) (flat_map entry_line fs)

  pub record IsOnce (c' b' : ℕ) (es : List Entry) (rest : List ℕ) : Type 0 where
    pub checked_are : c' ≡ c
    pub bounds : b' ≡ b
    pub first : AreFirst size n small es fs rest

  once : (c' b' : ℕ) (es : List Entry) (rest : List ℕ) → AreLines size n text c' b' es rest → length es ≤ n → IsOnce c' b' es rest
  once c' b' es rest other l =
      let q : title ++ (head_line n c' b' ++ (flat_map entry_line es ++ rest)) ≡ title ++ (head_line n c b ++ flat_map entry_line fs) =
      sym (ap (λ (z : List ℕ). z ++ rest) (append_assoc title (head_line n c' b') (flat_map entry_line es)) ∙ append_assoc title (head_line n c' b' ++ flat_map entry_line es) rest ∙ ap (λ (z : List ℕ). title ++ z) (append_assoc (head_line n c' b') (flat_map entry_line es) rest))
      ∙ sym other.is ∙ tail in
      let h : IsSameHead c' b' c b (flat_map entry_line es ++ rest) (flat_map entry_line fs) = heads_same n c' b' c b _ _ few other.head lines.head (same_rest title _ _ q) in
      record { checked_are = h.checked_are; bounds = h.bounds; first = first_lines size n small es fs rest other.forms lines.forms (omega arith) h.rests }

  pub same_text : (c' b' : ℕ) (es : List Entry) → AreLines size n text c' b' es [] → length es ≡ n → es ≡ fs
  same_text c' b' es other l =
      let o : IsOnce c' b' es [] = once c' b' es [] other (omega arith) in
      let m : length fs ≡ length es + length o.first.more = ap length o.first.are ∙ length-append es o.first.more in
      sym (o.first.are ∙ ap (λ (z : List Entry). es ++ z) (none o.first.more (omega arith)) ∙ append-nil es)
    where
      none : (xs : List Entry) → length xs ≡ 0 → xs ≡ []
      none [] e = refl
      none (x ∷ xs) e = absurd (omega arith)

  pub well_formed : (line : ℕ) → IsBadForm size n text line → ⊥
  well_formed line (no_title none) = none (head_line n c b ++ flat_map entry_line fs) tail
  well_formed line (no_head rest is none) = none c b (flat_map entry_line fs) lines.head (same_rest title _ _ (sym is ∙ tail))
  well_formed line (no_entry c' b' es rest other l none) =
      let o : IsOnce c' b' es rest = once c' b' es rest other (omega arith) in
      let m : length fs ≡ length es + length o.first.more = ap length o.first.are ∙ length-append es o.first.more in
      next o.first.more (omega arith) (forms_after es o.first.more (subst (λ (z : List Entry). All (IsForm size n) z) o.first.are lines.forms)) o.first.rest_is
    where
      forms_after : (xs ys : List Entry) → All (IsForm size n) (xs ++ ys) → All (IsForm size n) ys
      forms_after [] ys h = h
      forms_after (x ∷ xs) ys h = forms_after xs ys (λ k d l. h (suc k) d (omega arith))

      next : (more : List Entry) → 1 ≤ length more → All (IsForm size n) more → rest ≡ flat_map entry_line more → ⊥
      next [] some h q = omega arith
      next (e ∷ more) some h q = none e (flat_map entry_line more) (h 0 e (omega arith)) q
  well_formed line (more_lines c' b' es rest other l some) =
      let o : IsOnce c' b' es rest = once c' b' es rest other (omega arith) in
      let m : length fs ≡ length es + length o.first.more = ap length o.first.are ∙ length-append es o.first.more in
      none o.first.more (omega arith) o.first.rest_is
    where
      none : (xs : List Entry) → length xs ≡ 0 → rest ≡ flat_map entry_line xs → ⊥
      none [] e q = some q
      none (x ∷ xs) e q = omega arith

pub not_both : (d : Domain) (modulus : ℕ) (points : List Point) (rule : CheckRule) (text : List ℕ) (bound line : ℕ) → 2 ^ d.bits ≤ 256 → length points ≤ 1024 → IsAccepted d modulus points rule text bound → IsRefused d modulus points rule text line → ⊥
not_both d modulus points rule text bound line small few a (bad_form line' bad) = well_formed (2 ^ d.bits) (length points) small (omega arith) text a.checked bound a.entries a.is_said.lines a.is_said.n_entries line' bad
not_both d modulus points rule text bound line small few a (bad_label c b es k said bad) =
    let same : es ≡ a.entries = same_text (2 ^ d.bits) (length points) small (omega arith) text a.checked bound a.entries a.is_said.lines a.is_said.n_entries c b es said.lines said.n_entries in
    bad.bad (subst (λ (z : List Entry). IsGoodLabel d rule z k) (sym same) (a.labels.each k bad.within))
not_both d modulus points rule text bound line small few a (bad_dual c b es k said labels bad) =
    let same : es ≡ a.entries = same_text (2 ^ d.bits) (length points) small (omega arith) text a.checked bound a.entries a.is_said.lines a.is_said.n_entries c b es said.lines said.n_entries in
    bad.bad (subst (λ (z : List Entry). IsGoodDual d modulus points z k) (sym same) (a.duals.each k bad.within))
not_both d modulus points rule text bound line small few a (bad_head c b es said labels duals bad) =
    let o : IsOnce (2 ^ d.bits) (length points) small (omega arith) text a.checked bound a.entries a.is_said.lines a.is_said.n_entries c b es [] = once (2 ^ d.bits) (length points) small (omega arith) text a.checked bound a.entries a.is_said.lines a.is_said.n_entries c b es [] said.lines (omega (arith, said.n_entries)) in
    let same : es ≡ a.entries = same_text (2 ^ d.bits) (length points) small (omega arith) text a.checked bound a.entries a.is_said.lines a.is_said.n_entries c b es said.lines said.n_entries in
    bad (subst (λ (z : List Entry). IsGoodHead c b z) (sym same) (subst (λ (x : ℕ). IsGoodHead x b a.entries) (sym o.checked_are) (subst (λ (x : ℕ). IsGoodHead a.checked x a.entries) (sym o.bounds) a.head)))

pub refused_is_no_table : (d : Domain) (modulus : ℕ) (points : List Point) (b : Basis) (rule : CheckRule) (text : List ℕ) (line : ℕ) → IsOrderDomain d → ArePoints d modulus points → IsBuilt d modulus points b → IsSoundBasis b →
    length points ≤ 1024 → d.count < 2 ^ 32 → ((i : ℕ) → i < d.count → d.label i < 2 ^ 32) → IsRefused d modulus points rule text line → IsTableOf b (checked_by b rule) text → ⊥
refused_is_no_table d modulus points b rule text line lawful are built sound few count labels refused t =
    let wide : d.bits ≤ 8 = omega (arith, built.bits_are, sound.modulus.at_most_eight) in
    let small : 2 ^ d.bits ≤ 2 ^ 8 = pow_mono wide in
    not_both d modulus points rule text t.bound line (omega arith) few (table_is_accepted d modulus points b rule lawful are built sound text t count labels) refused
