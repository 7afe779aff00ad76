-- Lines as pieces in a row
use Rattle.std.proofs.Common.{subst, ◌≡◌, ℕ, ◌+◌, Bool, List, [], ◌∷◌, ◌++◌, map, refl, ap, sym, ◌∙◌, arith, append_assoc}
use Rattle.std.specs.Prelude.{codes}
use Rattle.std.specs.Fmt.{decimal}
use Rattle.std.specs.List.{flat_map, join_with_byte, range_with_len}
use Rattle.std.proofs.lemmas.List.{append-nil, flat_map_more}
use Rattle.std.proofs.lemmas.List.Folds.{flat_map-map}
use Rattle.std.proofs.lemmas.List.FromFn.{map-range_with_len_more}
use Rattle.order_bound.specs.Reading.{symbols, entry_body, head_body}
use Rattle.order_bound.specs.TableText.{Entry, title, head_line, mark_text, entry_line}

join_fields : (x : List ℕ) (ys : List (List ℕ)) → join_with_byte 32 (x ∷ ys) ≡ x ++ flat_map (λ y. 32 ∷ y) ys
join_fields x [] = sym (append-nil x)
join_fields x (y ∷ ys) = ap (λ (z : List ℕ). x ++ 32 ∷ z) (join_fields y ys)

pub entry-pieces : (e : Entry) → entry_line e ≡ entry_body e.label e.pairs e.mark e.dual ++ 10 ∷ []
unfolding entry_line entry_body
entry-pieces e = ap (λ (z : List ℕ). (codes "label" ++ 32 ∷ (decimal e.label ++ 32 ∷ (decimal e.pairs ++ 32 ∷ z))) ++ 10 ∷ [])
    (join_fields (mark_text e.mark) (map decimal e.dual) ∙ ap (λ (z : List ℕ). mark_text e.mark ++ z) (flat_map-map (λ y. 32 ∷ y) decimal e.dual))

six_pieces : (o w a b c d n : List ℕ) → (((((o ++ w) ++ a) ++ b) ++ c) ++ d) ++ n ≡ o ++ ((w ++ (a ++ (b ++ (c ++ d)))) ++ n)
six_pieces o w a b c d n = simp append_assoc refl

pub entry_written : (old : List ℕ) (e : Entry) → (((((old ++ codes "label") ++ 32 ∷ decimal e.label) ++ 32 ∷ decimal e.pairs) ++ 32 ∷ mark_text e.mark) ++ symbols e.dual) ++ codes "\n" ≡ old ++ entry_line e
unfolding entry_body
entry_written old e = six_pieces old (codes "label") (32 ∷ decimal e.label) (32 ∷ decimal e.pairs) (32 ∷ mark_text e.mark) (symbols e.dual) (codes "\n") ∙ ap (λ (z : List ℕ). old ++ z) (sym (entry-pieces e))

seven_pieces : (o t a c b d e n : List ℕ) → ((((((o ++ t) ++ a) ++ c) ++ b) ++ d) ++ e) ++ n ≡ o ++ (t ++ (a ++ (c ++ (b ++ (d ++ (e ++ n))))))
seven_pieces o t a c b d e n = simp append_assoc refl

head_joined : (n checked bound : List ℕ) → join_with_byte 32 (codes "n" ∷ n ∷ codes "checked" ∷ checked ∷ codes "bound" ∷ bound ∷ []) ++ 10 ∷ [] ≡ (codes "n" ++ ((32 ∷ n) ++ (codes " checked" ++ ((32 ∷ checked) ++ (codes " bound" ++ (32 ∷ bound)))))) ++ 10 ∷ []
head_joined n checked bound = refl

pub head-pieces : (n checked bound : ℕ) → head_line n checked bound ≡ head_body n checked bound ++ 10 ∷ []
unfolding head_line head_body
head-pieces n checked bound = head_joined (decimal n) (decimal checked) (decimal bound)

tail_pieces : (a c b d e n : List ℕ) → (a ++ (c ++ (b ++ (d ++ e)))) ++ n ≡ a ++ (c ++ (b ++ (d ++ (e ++ n))))
tail_pieces a c b d e n = simp append_assoc refl

pub head_written : (old : List ℕ) (n checked bound : ℕ) →
    ((((((old ++ codes "agcode-bound 1\nn") ++ 32 ∷ decimal n) ++ codes " checked") ++ 32 ∷ decimal checked) ++ codes " bound") ++ 32 ∷ decimal bound) ++ codes "\n" ≡ old ++ (title ++ head_line n checked bound)
unfolding title head_body
head_written old n checked bound =
    seven_pieces old (codes "agcode-bound 1\nn") (32 ∷ decimal n) (codes " checked") (32 ∷ decimal checked) (codes " bound") (32 ∷ decimal bound) (codes "\n")
    ∙ ap (λ (z : List ℕ). old ++ (codes "agcode-bound 1\nn" ++ z)) (sym (tail_pieces (32 ∷ decimal n) (codes " checked") (32 ∷ decimal checked) (codes " bound") (32 ∷ decimal bound) (codes "\n")))
    ∙ ap (λ (z : List ℕ). old ++ (title ++ z)) (sym (head-pieces n checked bound))

pub head_steps : (old t1 t2 t3 t4 t5 t6 t7 : List ℕ) (n checked bound n' checked' bound' : ℕ) →
    t1 ≡ old ++ codes "agcode-bound 1\nn" → t2 ≡ t1 ++ 32 ∷ decimal n' → t3 ≡ t2 ++ codes " checked" → t4 ≡ t3 ++ 32 ∷ decimal checked' → t5 ≡ t4 ++ codes " bound" → t6 ≡ t5 ++ 32 ∷ decimal bound' →
    n' ≡ n → checked' ≡ checked → bound' ≡ bound → t7 ≡ t6 ++ codes "\n" → t7 ≡ old ++ (title ++ head_line n checked bound)
head_steps old t1 t2 t3 t4 t5 t6 t7 n checked bound n' checked' bound' e1 e2 e3 e4 e5 e6 en ec eb e7 =
    subst (λ (t : List ℕ). t ≡ old ++ (title ++ head_line n checked bound)) (sym (e7 ∙ ap (λ (t : List ℕ). t ++ codes "\n") (e6 ∙ ap (λ (x : ℕ). t5 ++ 32 ∷ decimal x) eb ∙ ap (λ (t : List ℕ). t ++ 32 ∷ decimal bound)
    (e5 ∙ ap (λ (t : List ℕ). t ++ codes " bound") (e4 ∙ ap (λ (x : ℕ). t3 ++ 32 ∷ decimal x) ec ∙ ap (λ (t : List ℕ). t ++ 32 ∷ decimal checked)
    (e3 ∙ ap (λ (t : List ℕ). t ++ codes " checked") (e2 ∙ ap (λ (x : ℕ). t1 ++ 32 ∷ decimal x) en ∙ ap (λ (t : List ℕ). t ++ 32 ∷ decimal n) e1))))))) (head_written old n checked bound)

pub entry_steps : (old t1 t2 t3 t4 t5 t6 : List ℕ) (e : Entry) (label pairs : ℕ) (mark : Bool) (dual : List ℕ) →
    t1 ≡ old ++ codes "label" → t2 ≡ t1 ++ 32 ∷ decimal label → t3 ≡ t2 ++ 32 ∷ decimal pairs → t4 ≡ t3 ++ 32 ∷ mark_text mark → t5 ≡ t4 ++ symbols dual →
    label ≡ e.label → pairs ≡ e.pairs → mark ≡ e.mark → dual ≡ e.dual → t6 ≡ t5 ++ codes "\n" → t6 ≡ old ++ entry_line e
entry_steps old t1 t2 t3 t4 t5 t6 e label pairs mark dual e1 e2 e3 e4 e5 el ep em ed e6 =
    subst (λ (t : List ℕ). t ≡ old ++ entry_line e) (sym (e6 ∙ ap (λ (t : List ℕ). t ++ codes "\n") (e5 ∙ ap (λ (x : List ℕ). t4 ++ symbols x) ed ∙ ap (λ (t : List ℕ). t ++ symbols e.dual)
    (e4 ∙ ap (λ (x : Bool). t3 ++ 32 ∷ mark_text x) em ∙ ap (λ (t : List ℕ). t ++ 32 ∷ mark_text e.mark) (e3 ∙ ap (λ (x : ℕ). t2 ++ 32 ∷ decimal x) ep ∙ ap (λ (t : List ℕ). t ++ 32 ∷ decimal e.pairs)
    (e2 ∙ ap (λ (x : ℕ). t1 ++ 32 ∷ decimal x) el ∙ ap (λ (t : List ℕ). t ++ 32 ∷ decimal e.label) e1)))))) (entry_written old e)

pub entries_more : (front : List ℕ) (f : ℕ → Entry) (k : ℕ) →
    (front ++ flat_map entry_line (map f (range_with_len 0 k))) ++ entry_line (f k) ≡ front ++ flat_map entry_line (map f (range_with_len 0 (k + 1)))
entries_more front f k =
    flat_map_more entry_line front (map f (range_with_len 0 k)) (f k) ∙ ap (λ (es : List Entry). front ++ flat_map entry_line es) (sym (map-range_with_len_more f 0 k k (omega arith)))
