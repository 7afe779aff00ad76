-- What an encoder took and wrote, piece by piece.
use Rattle.std.proofs.Common.{ℕ, ◌+◌, ◌*◌, ◌/◌, ◌%◌, ◌<◌, ◌≤◌, ◌≡◌, Bool, false, List, [], ◌++◌, length, Result, Ok, Err, ◌⊎◌, inl, inr, subst, refl, sym, ap, ap₂, ◌∙◌, arith, append_assoc, length-append}
use Rattle.std.proofs.lemmas.List.{append-nil, take_at}
use Rattle.std.proofs.lemmas.List.Concat.{flat_map-append}
use Rattle.ag_io.specs.Counts.{Rose}
use Rattle.ag_io.specs.Views.{SinkView, SourceView, Takes, IsSpent}
use Rattle.ag_io.specs.Puts.{WroteSome}
use Rattle.ag_io.proofs.Writes.{some_of_longer, wrote_more, wrote_some}
use Rattle.stored_form.specs.Bits.{bits_of, bits_of_symbols}
use Rattle.stored_form.specs.Form.{Form, IsSound}
use Rattle.stored_form.specs.Frame.{group_bits, group_bytes, group_of, image}
use Rattle.stored_form.proofs.FrameLemmas.{group_bits_above_0}
use Rattle.stored_form.proofs.BitsLemmas.{length-bits_of_symbols}
use Rattle.ag_frame.specs.declared.frame.Layout.{Layout}
use Rattle.stream_codec.specs.Layouts.{in_groups}
use Rattle.stream_codec.specs.declared.encode.EncodeCounts.{EncodeCounts}
use Rattle.stream_codec.specs.Groups.{full_groups, full_count, bits_left, last_group, closed_groups, Pushed}
use Rattle.stream_codec.specs.Encoded.{encode_of, within}
use Rattle.stream_codec.specs.Taking.{IsSteady}
use Rattle.stream_codec.specs.Encoding.{Used, Ended, EndFault, EncodeOutcome}
use Rattle.stream_codec.specs.declared.encode.EncodeFault.TheVariants.{InputFault, OutFault, TooLong}
use Rattle.stream_codec.specs.declared.encode.EncodeFault.{EncodeFault}
use Rattle.stream_codec.proofs.Advance.{advance}
use Rattle.stream_codec.proofs.PushLemmas.{pushing_starts, pushing_more, pushing_fails, pushed_few, image_is, image_count}

-- the groups so far, apart from the call
pub used_pushed : {G : Form} {limit : ℕ} {st ot : Bool} {s0 s1 : SourceView} {o0 o1 : SinkView} {x last : List ℕ} {w : List Bool} {taken groups : ℕ} → Used (encode_of G limit st s0 s1 ot o0 o1) x last w taken groups → Pushed G ot o0 o1 (bits_of_symbols 8 x) w groups
used_pushed {G} {limit} {st} {ot} {s0} {s1} {o0} {o1} {x} {last} {w} {taken} {groups} used = record { wrote = used.wrote; waiting_are = used.waiting_are; groups_are = used.groups_are }

pub used_none : (G : Form) (limit : ℕ) (st ot : Bool) (s : SourceView) (o : SinkView) (w : List Bool) → 0 < group_bits G → w ≡ [] → Used (encode_of G limit st s s ot o o) [] [] w 0 0
used_none G limit st ot s o w some none =
    let start = pushing_starts G ot o [] w (sym none) (omega (arith, ap length none)) in
    record { left = λ t. refl; taken_is = refl; wrote = start.wrote; waiting_are = start.waiting_are; groups_are = start.groups_are }

pub used_more : {G : Form} {limit : ℕ} {st ot : Bool} {s0 s1 s2 : SourceView} {o0 o1 o2 : SinkView} {x : List ℕ} {w w2 : List Bool} {taken groups h : ℕ} (piece : List ℕ) (taken2 : ℕ) → 0 < group_bits G → Used (encode_of G limit st s0 s1 ot o0 o1) x [] w taken groups → Takes st s1 s2 piece → Pushed G ot o1 o2 (w ++ bits_of_symbols 8 piece) w2 h → taken2 ≡ taken + length piece → Used (encode_of G limit st s0 s2 ot o0 o2) (x ++ piece) [] w2 taken2 (groups + h)
used_more {G} {limit} {st} {ot} {s0} {s1} {s2} {o0} {o1} {o2} {x} {w} {w2} {taken} {groups} {h} piece taken2 some used took pushed total =
    let all = pushing_more (bits_of_symbols 8 piece) (bits_of_symbols 8 (x ++ piece)) some (used_pushed used) pushed (flat_map-append (bits_of 8) x piece) in
    record {
      left = λ t. used.left t ∙ ap (λ l. l ++ s1.left) (append-nil x) ∙ ap (λ l. x ++ l) (took t) ∙ sym (append_assoc x piece s2.left) ∙ ap (λ l. l ++ s2.left) (sym (append-nil (x ++ piece)));
      taken_is = total ∙ ap (λ n. n + length piece) used.taken_is ∙ sym (length-append x piece);
      wrote = all.wrote;
      waiting_are = all.waiting_are;
      groups_are = all.groups_are;
    }

-- a piece that is not used
pub used_last : {G : Form} {limit : ℕ} {st ot : Bool} {s0 s1 s2 : SourceView} {o0 o1 : SinkView} {x : List ℕ} {w : List Bool} {taken groups : ℕ} (piece : List ℕ) → Used (encode_of G limit st s0 s1 ot o0 o1) x [] w taken groups → Takes st s1 s2 piece → Used (encode_of G limit st s0 s2 ot o0 o1) x piece w taken groups
used_last {G} {limit} {st} {ot} {s0} {s1} {s2} {o0} {o1} {x} {w} {taken} {groups} piece used took = record {
  left = λ t. used.left t ∙ ap (λ l. l ++ s1.left) (append-nil x) ∙ ap (λ l. x ++ l) (took t) ∙ sym (append_assoc x piece s2.left);
  taken_is = used.taken_is;
  wrote = used.wrote;
  waiting_are = used.waiting_are;
  groups_are = used.groups_are;
}

pub used_few : {G : Form} {limit : ℕ} {st ot : Bool} {s0 s1 : SourceView} {o0 o1 : SinkView} {x last : List ℕ} {w : List Bool} {taken groups : ℕ} → 0 < group_bits G → Used (encode_of G limit st s0 s1 ot o0 o1) x last w taken groups → groups ≤ taken * 8
used_few {G} {limit} {st} {ot} {s0} {s1} {o0} {o1} {x} {last} {w} {taken} {groups} some used =
    omega (arith, pushed_few some (used_pushed used), used.taken_is, length-bits_of_symbols 8 x)

-- the pieces within a limit that the next bytes pass
pub within_is : (limit taken : ℕ) (x last : List ℕ) → taken ≡ length x → taken % 4096 ≡ 0 → taken ≤ limit → limit < taken + 4096 → within limit (x ++ last) ≡ x
within_is limit taken x last long even low high = take_at x last (limit / 4096 * 4096) (let h : length x ≡ limit / 4096 * 4096 = omega arith in h)

-- ---- where the pieces go no further
pub passes_outcome : {G : Form} {limit : ℕ} {st ot : Bool} {s0 s1 : SourceView} {o0 o1 : SinkView} {x : List ℕ} {w : List Bool} {taken groups : ℕ} (last : List ℕ) (total : ℕ) → Used (encode_of G limit st s0 s1 ot o0 o1) x last w taken groups → taken % 4096 ≡ 0 → taken ≤ limit → length last ≤ 4096 → total ≡ taken + length last → limit < total → ((length last ≡ 4096) ⊎ (IsSpent st s1 ⊎ Rose s0.faults s1.faults)) → EncodeOutcome (encode_of G limit st s0 s1 ot o0 o1) (x ++ last) (Err (TooLong total))
passes_outcome {G} {limit} {st} {ot} {s0} {s1} {o0} {o1} {x} {w} {taken} {groups} last total used even below few sum above cut = record {
  left = used.left;
  ended = tt;
  numbers = (
    omega (arith, length-append x last, used.taken_is),
    omega (arith, length-append x last, used.taken_is),
    omega (arith, length-append x last, used.taken_is),
    elim cut [ inl full ↦ inl (omega (arith, length-append x last, used.taken_is)) | inr more ↦ inr more ],
  );
  gave = rw (within_is limit taken x last used.taken_is even below (omega arith)) used.wrote;
  faulted = tt;
}

pub fails_outcome : {G : Form} {limit : ℕ} {st ot : Bool} {s0 s1 s2 : SourceView} {o0 o1 o2 : SinkView} {x : List ℕ} {w : List Bool} {taken groups : ℕ} (piece : List ℕ) → IsSound G → Used (encode_of G limit st s0 s1 ot o0 o1) x [] w taken groups → Takes st s1 s2 piece → WroteSome ot o1 o2 (full_groups G (w ++ bits_of_symbols 8 piece)) → taken + length piece ≤ limit → EncodeOutcome (encode_of G limit st s0 s2 ot o0 o2) (x ++ piece) (Err OutFault)
fails_outcome {G} {limit} {st} {ot} {s0} {s1} {s2} {o0} {o1} {o2} {x} {w} {taken} {groups} piece sound used took part below =
    let some = group_bits_above_0 G sound in
    let all = bits_of_symbols 8 (x ++ piece) in
    let front = pushing_fails (bits_of_symbols 8 piece) [] all some (used_pushed used) part (flat_map-append (bits_of 8) x piece ∙ sym (append-nil (bits_of_symbols 8 x ++ bits_of_symbols 8 piece))) in
    let there : Used (encode_of G limit st s0 s2 ot o0 o1) x piece w taken groups = used_last piece used took in
    record {
      left = there.left;
      ended = tt;
      numbers = omega (arith, length-append x piece, used.taken_is);
      gave = some_of_longer (group_of G (last_group G (bits_left G all))) (image G (x ++ piece)) front (image_is G (x ++ piece) sound);
      faulted = tt;
    }

-- ---- the last bytes
-- what is written for the last bytes, where the last group follows them
closed_after : (G : Form) (bits more w : List Bool) → 0 < group_bits G → w ≡ bits_left G bits → closed_groups G (bits ++ more) ≡ full_groups G bits ++ closed_groups G (w ++ more)
closed_after G bits more w some left =
    let step = advance G bits more w (w ++ more) (bits ++ more) some left refl refl in
    ap₂ (λ a b. a ++ group_of G (last_group G b)) step.groups step.left
    ∙ append_assoc (full_groups G bits) (full_groups G (w ++ more)) (group_of G (last_group G (bits_left G (w ++ more))))

pub ended_outcome : {G : Form} {limit : ℕ} {st ot ended : Bool} {s0 s1 : SourceView} {o0 o1 o2 : SinkView} {x : List ℕ} {w : List Bool} {taken groups more : ℕ} (last : List ℕ) (total : ℕ) → IsSound G → Used (encode_of G limit st s0 s1 ot o0 o1) x last w taken groups → total ≡ taken + length last → total ≤ limit → IsSpent st s1 → IsSteady s0.faults s1.faults → Ended G ot o1 o2 (w ++ bits_of_symbols 8 last) ended more → EncodeOutcome (encode_of G limit st s0 s1 ot o0 o2) (x ++ last) (Ok (record { taken = total; groups = groups + more }))
ended_outcome {G} {limit} {st} {ot} {ended} {s0} {s1} {o0} {o1} {o2} {x} {w} {taken} {groups} {more} last total sound used sum below none steady end =
    let some = group_bits_above_0 G sound in
    let b = bits_of_symbols 8 x in
    let m = bits_of_symbols 8 last in
    let split = flat_map-append (bits_of 8) x last in
    let step = advance G b m w (w ++ m) (bits_of_symbols 8 (x ++ last)) some used.waiting_are refl split in
    let count : groups + more ≡ full_count G (bits_of_symbols 8 (x ++ last)) + 1 = omega (arith, used.groups_are, end.groups_are, step.count) in
    record {
      left = used.left;
      ended = none;
      numbers = (omega (arith, length-append x last, used.taken_is), omega (arith, length-append x last, used.taken_is), ap (λ n. n * group_bytes G) count ∙ image_count G (x ++ last) sound);
      gave = wrote_more (image G (x ++ last)) used.wrote end.wrote (image_is G (x ++ last) sound ∙ ap (closed_groups G) split ∙ closed_after G b m w some used.waiting_are);
      faulted = steady;
    }

pub unended_outcome : {G : Form} {limit : ℕ} {st ot ended : Bool} {s0 s1 : SourceView} {o0 o1 o2 : SinkView} {x : List ℕ} {w : List Bool} {taken groups : ℕ} (last : List ℕ) (fault : EncodeFault) → IsSound G → Used (encode_of G limit st s0 s1 ot o0 o1) x last w taken groups → taken + length last ≤ limit → (ended ≡ false → Rose s0.faults s1.faults) → EndFault G ot o1 o2 (w ++ bits_of_symbols 8 last) ended fault → EncodeOutcome (encode_of G limit st s0 s1 ot o0 o2) (x ++ last) (Err fault)
unended_outcome {G} {limit} {st} {ot} {ended} {s0} {s1} {o0} {o1} {o2} {x} {w} {taken} {groups} last InputFault sound used below failed (open_end, wrote) =
    let b = bits_of_symbols 8 x in
    let m = bits_of_symbols 8 last in
    let step = advance G b m w (w ++ m) (bits_of_symbols 8 (x ++ last)) (group_bits_above_0 G sound) used.waiting_are refl (flat_map-append (bits_of 8) x last) in
    record {
      left = used.left;
      ended = tt;
      numbers = omega (arith, length-append x last, used.taken_is);
      gave = wrote_more (full_groups G (bits_of_symbols 8 (x ++ last))) used.wrote wrote step.groups;
      faulted = failed open_end;
    }
unended_outcome {G} {limit} {st} {ot} {ended} {s0} {s1} {o0} {o1} {o2} {x} {w} {taken} {groups} last (TooLong n) sound used below failed h = absurd h
unended_outcome {G} {limit} {st} {ot} {ended} {s0} {s1} {o0} {o1} {o2} {x} {w} {taken} {groups} last OutFault sound used below failed part =
    let some = group_bits_above_0 G sound in
    let b = bits_of_symbols 8 x in
    let m = bits_of_symbols 8 last in
    let all = full_groups G b ++ closed_groups G (w ++ m) in
    record {
      left = used.left;
      ended = tt;
      numbers = omega (arith, length-append x last, used.taken_is);
      gave = wrote_some [] (image G (x ++ last)) used.wrote part (image_is G (x ++ last) sound ∙ ap (closed_groups G) (flat_map-append (bits_of 8) x last) ∙ closed_after G b m w some used.waiting_are ∙ sym (append-nil all));
      faulted = tt;
    }

-- ---- the same by another name of the layout
pub outcome_at : {limit : ℕ} {st ot : Bool} {s0 s1 : SourceView} {o0 o1 : SinkView} {x : List ℕ} {answer : Result EncodeCounts EncodeFault} (F : Form) (l l2 : Layout) → EncodeOutcome (encode_of (in_groups l F) limit st s0 s1 ot o0 o1) x answer → l ≡ l2 → EncodeOutcome (encode_of (in_groups l2 F) limit st s0 s1 ot o0 o1) x answer
outcome_at {limit} {st} {ot} {s0} {s1} {o0} {o1} {x} {answer} F l l2 h same = subst (λ (v : Layout). EncodeOutcome (encode_of (in_groups v F) limit st s0 s1 ot o0 o1) x answer) same h

pub ended_at : {tells ended : Bool} {a b : SinkView} {bits : List Bool} {n : ℕ} (F : Form) (l l2 : Layout) → Ended (in_groups l F) tells a b bits ended n → l ≡ l2 → Ended (in_groups l2 F) tells a b bits ended n
ended_at {tells} {ended} {a} {b} {bits} {n} F l l2 h same = subst (λ (v : Layout). Ended (in_groups v F) tells a b bits ended n) same h

pub end_fault_at : (tells ended : Bool) (a b : SinkView) (bits : List Bool) (fault : EncodeFault) (F : Form) (l l2 : Layout) → EndFault (in_groups l F) tells a b bits ended fault → l ≡ l2 → EndFault (in_groups l2 F) tells a b bits ended fault
end_fault_at tells ended a b bits fault F l l2 h same = subst (λ (v : Layout). EndFault (in_groups v F) tells a b bits ended fault) same h
