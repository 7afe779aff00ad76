-- What a call that encodes says.
use Rattle.std.proofs.Common.{ℕ, ◌/◌, ◌<◌, ◌≤◌, ◌≡◌, ◌⊎◌, nat_le, subst, inl, inr, IsTrue, List, ◌++◌, length, Result, Ok, Err, sym, ap, ap₂, ◌∙◌, arith, length-append, mul-div_cancel}
use Rattle.std.proofs.lemmas.List.{append-nil}
use Rattle.std.proofs.lemmas.Bool.{cond-true, cond-false, le-leb, lt-leb}
use Rattle.ag_io.specs.Counts.{Rose}
use Rattle.ag_io.specs.Views.{Takes, IsSpent, GivesFront, GivesLess}
use Rattle.stored_form.specs.Bits.{bits_of_symbols}
use Rattle.stream_codec.specs.Groups.{full_groups}
use Rattle.stream_codec.specs.Taking.{most_taken, taken_past}
use Rattle.stream_codec.specs.declared.limits.TheConstants.{PIECE}
use Rattle.stream_codec.proofs.TakenLemmas.{least_left, least_right, front_taken, front_were_taken}
use Rattle.stored_form.specs.Form.{IsSound}
use Rattle.stored_form.specs.Frame.{group_bytes, image}
use Rattle.stored_form.proofs.FrameLemmas.{group_bytes_above_0}
use Rattle.stream_codec.specs.Encoding.{EncodeOutcome}
use Rattle.stream_codec.specs.Encoded.{Encode, stored, within, encode_answer, EncodeToldAs, EncodeFaultAs, EncodedAs, EncodesAll}
use Rattle.stream_codec.specs.declared.encode.EncodeCounts.{EncodeCounts}
use Rattle.stream_codec.specs.declared.encode.EncodeFault.{EncodeFault}
use Rattle.stream_codec.specs.declared.encode.EncodeFault.TheVariants.{InputFault, OutFault, TooLong}

abbrev counts_at : ℕ → ℕ → EncodeCounts
counts_at t n = record { taken = t; groups = n }

counts_equal : (t t2 n n2 : ℕ) → t ≡ t2 → n ≡ n2 → counts_at t n ≡ counts_at t2 n2
counts_equal t t2 n n2 e f = ap₂ counts_at e f

-- past the limit as many are taken as pieces make
exact_count : (e : Encode) (x : List ℕ) → IsTrue e.source_tells → Takes e.source_tells e.source e.source_after x → length x ≤ most_taken 4096 e.limit → ((length x ≡ most_taken 4096 e.limit) ⊎ (IsSpent e.source_tells e.source_after ⊎ Rose e.source.faults e.source_after.faults)) → (Rose e.source.faults e.source_after.faults → ⊥) → length x ≡ taken_past 4096 e.limit (length e.source.left)
exact_count e x t left most (inl full) steady = least_right (length e.source.left) (most_taken 4096 e.limit) (length x) full (omega (arith, ap length (left t), length-append x e.source_after.left))
exact_count e x t left most (inr (inl spent)) steady = least_left (length e.source.left) (most_taken 4096 e.limit) (length x) (omega (arith, ap length (left t), length-append x e.source_after.left, ap length (spent t))) most
exact_count e x t left most (inr (inr rose)) steady = absurd (steady rose)

told_as : (e : Encode) (x : List ℕ) (answer : Result EncodeCounts EncodeFault) → IsSound e.form → IsTrue e.source_tells → EncodeOutcome e x answer → EncodeToldAs e answer
told_as e x (Ok counts) sound t o =
    let all : e.source.left ≡ x = o.left t ∙ ap (λ l. x ++ l) (o.ended t) ∙ append-nil x in
    record {
      within = omega (arith, ap length all, o.numbers.0);
      ended = o.ended t;
      taken_is = o.numbers.1 ∙ sym (ap length all);
      groups_are = sym (mul-div_cancel counts.groups (group_bytes_above_0 e.form sound)) ∙ ap (λ n. n / group_bytes e.form) (o.numbers.2 ∙ sym (ap (λ l. length (image e.form l)) all));
      out = λ k. o.gave.gives k ∙ ap (λ l. e.out.given ++ image e.form l) (sym all);
    }
told_as e x (Err InputFault) sound t o =
    let same = front_taken e.source e.source_after x (o.left t) in
    record {
      left = front_were_taken e.source e.source_after x (o.left t);
      within = omega (arith, ap length same, o.numbers);
      out = λ k. o.gave.gives k ∙ ap (λ l. e.out.given ++ full_groups e.form (bits_of_symbols 8 l)) (sym same);
    }
told_as e x (Err (TooLong count)) sound t o =
    let same = front_taken e.source e.source_after x (o.left t) in
    record {
      left = front_were_taken e.source e.source_after x (o.left t);
      count_is = o.numbers.1 ∙ ap length (sym same);
      passes = omega (arith, o.numbers.0, o.numbers.1);
      exact = λ steady. o.numbers.1 ∙ exact_count e x t o.left o.numbers.2 o.numbers.3 steady;
      out = λ k. o.gave.gives k ∙ ap (λ l. e.out.given ++ full_groups e.form (bits_of_symbols 8 (within e.limit l))) (sym same);
    }
told_as e x (Err OutFault) sound t o =
    let same = front_taken e.source e.source_after x (o.left t) in
    record {
      left = front_were_taken e.source e.source_after x (o.left t);
      within = omega (arith, ap length same, o.numbers);
      out = subst (λ l. GivesFront e.out_tells e.out e.out_after (image e.form l)) (sym same) o.gave.gives;
      fewer = subst (λ l. GivesLess e.out_tells e.out e.out_after (image e.form l)) (sym same) o.gave.fewer;
    }

fault_as : (e : Encode) (x : List ℕ) (answer : Result EncodeCounts EncodeFault) → EncodeOutcome e x answer → EncodeFaultAs e answer
fault_as e x (Ok counts) o = (o.gave.faults, o.faulted)
fault_as e x (Err InputFault) o = (o.gave.faults, o.faulted)
fault_as e x (Err (TooLong taken)) o = (o.gave.faults, omega (arith, o.numbers.0, o.numbers.1))
fault_as e x (Err OutFault) o = (o.gave.rose, o.gave.enough)

takes_most : (e : Encode) (x : List ℕ) (answer : Result EncodeCounts EncodeFault) → EncodeOutcome e x answer → length x ≤ most_taken 4096 e.limit
takes_most e x (Ok counts) o = omega (arith, o.numbers.0)
takes_most e x (Err InputFault) o = omega (arith, o.numbers)
takes_most e x (Err (TooLong taken)) o = o.numbers.2
takes_most e x (Err OutFault) o = omega (arith, o.numbers)

out_counted : (e : Encode) (x : List ℕ) (answer : Result EncodeCounts EncodeFault) → EncodeOutcome e x answer → e.out.faults ≤ e.out_after.faults
out_counted e x (Ok counts) o = omega (arith, o.gave.faults)
out_counted e x (Err InputFault) o = omega (arith, o.gave.faults)
out_counted e x (Err (TooLong taken)) o = omega (arith, o.gave.faults)
out_counted e x (Err OutFault) o = o.gave.counted

out_sure : (e : Encode) (x : List ℕ) (answer : Result EncodeCounts EncodeFault) → EncodeOutcome e x answer → e.out_after.sure ≡ e.out.sure
out_sure e x (Ok counts) o = o.gave.sure
out_sure e x (Err InputFault) o = o.gave.sure
out_sure e x (Err (TooLong taken)) o = o.gave.sure
out_sure e x (Err OutFault) o = o.gave.sure

pub encoded_as : (e : Encode) (x : List ℕ) (answer : Result EncodeCounts EncodeFault) → IsSound e.form → e.source.faults ≤ e.source_after.faults → EncodeOutcome e x answer → EncodedAs e answer
encoded_as e x answer sound counted o = record {
  told = λ t. told_as e x answer sound t o;
  fault = fault_as e x answer o;
  most = λ t. omega (arith, ap length (front_taken e.source e.source_after x (o.left t)), takes_most e x answer o);
  source_counted = counted;
  out_counted = out_counted e x answer o;
  out_sure = out_sure e x answer o;
}

answer_past : (e : Encode) → e.limit < length e.source.left → encode_answer e.form e.limit e.source.left ≡ Err (TooLong (taken_past PIECE e.limit (length e.source.left)))
answer_past e over = cond-false (nat_le (length e.source.left) e.limit) _ _ (lt-leb (length e.source.left) e.limit over)

pub encodes_all : (e : Encode) (answer : Result EncodeCounts EncodeFault) → EncodedAs e answer → EncodesAll e answer
encodes_all e (Ok counts) h t source out =
    ap Ok (counts_equal counts.taken (length e.source.left) counts.groups (length (image e.form e.source.left) / group_bytes e.form) (h.told t).taken_is (h.told t).groups_are)
    ∙ sym (cond-true (nat_le (length e.source.left) e.limit) _ _ (le-leb (length e.source.left) e.limit (h.told t).within))
encodes_all e (Err InputFault) h t source out = absurd (source h.fault.1)
encodes_all e (Err OutFault) h t source out = absurd (out h.fault.0)
encodes_all e (Err (TooLong count)) h t source out =
    let p = h.told t in
    ap (λ n. Err (TooLong n)) (p.exact source) ∙ sym (answer_past e (omega (arith, ap length p.left, length-append (stored e) e.source_after.left, p.count_is, p.passes)))
