-- What the clauses of encode and decode say, from how the command ended
use Rattle.std.proofs.Common.{◌≡◌, ℕ, ◌<◌, ◌≤◌, true, false, List, [], ◌++◌, length, append-nil, IsTrue, sym, ap, ◌∙◌, refl, inl, inr, ◌⊎◌, subst, Result, Ok, Err}
use Rattle.ag_io.specs.Views.{SinkView, GaveFront}
use Rattle.ag_texts.specs.Lines.{done_line_of}
use Rattle.command_words.specs.declared.words.Command.{Command}
use Rattle.command_words.specs.declared.words.Command.TheVariants.{Encode, Decode}
use Rattle.command_words.specs.declared.words.Words.{Words}
use Rattle.stored_form.specs.Form.{Form, IsSound}
use Rattle.stored_form.specs.Frame.{IsFile, image}
use Rattle.stored_form.specs.Reading.{Reading, File, Beyond as ReadBeyond, Ragged as ReadRagged, Framing as ReadFraming, group_count, blocks, reading, out_at, out as output, IsNearImage, Change, differences}
use Rattle.stored_form.proofs.Theorems.{file_law, change_law}
use Rattle.stream_codec.specs.declared.encode.EncodeCounts.{EncodeCounts}
use Rattle.stream_codec.specs.declared.encode.EncodeFault.{EncodeFault}
use Rattle.stream_codec.specs.declared.encode.EncodeFault.TheVariants as encoding
use Rattle.stream_codec.specs.declared.decode.DecodeCounts.{DecodeCounts}
use Rattle.stream_codec.specs.declared.decode.DecodeFault.{DecodeFault}
use Rattle.stream_codec.specs.declared.decode.DecodeFault.TheVariants as decoding
use Rattle.stream_codec.specs.Encoded.{EncodeToldAs, StoresFile}
use Rattle.stream_codec.specs.Decoding.{Decode as DecodeCall, ToldAs, ReadsFile, Refuses, FaultAs}
use Rattle.stream_codec.specs.Report.{lines_of, lines, done, done_at, counts_of}
use Rattle.code_descriptor.specs.Parts.{Parts}
use Rattle.descriptor_code.specs.Plain.{plain_form}
use Rattle.stream_codec.specs.declared.limits.TheConstants.{MOST_BYTES}
use Rattle.agcode_top.specs.declared.status.Status.{Status}
use Rattle.agcode_top.specs.declared.status.Status.TheVariants.{Done, NoMemory, Salvaged}
use Rattle.agcode_top.specs.Calls.{Call, SourceCall, SinkCall, until, once_given, GivesText, WritesWell, GivesOrFails, NoneFailed}
use Rattle.agcode_top.specs.Statuses.{OnWords, OnCommand, IsRead, IsOwn}
use Rattle.agcode_top.specs.Commands.{Accepts}
use Rattle.agcode_top.specs.Lines.{line_of}
use Rattle.agcode_top.specs.Streams.{Encoded, Decoded, SalvagedText, encode_status, decode_status, encode_of, decode_of}
use Rattle.agcode_top.specs.Leaves.{EncodeLeaves, encoded, unencoded, DecodeLeaves, decoded, salvaged, undecoded, ServesDescribed, CarryOutLeaves, unread, refused, unserved, served, ObeyLeaves}
use Rattle.agcode_top.specs.Headline.{StoresImage, HasImage, Repairs, Repaired, status_of_reading, ReadsText, ReadAs, EncodesAs, DecodesAs, Rescues, RescuedOver, SalvagesExactly, SalvagesAs}
use Rattle.agcode_top.proofs.EndLemmas.{with_line, line_call, carried-served, obeyed-carried, described-at, same-parts}
use Rattle.stored_form.specs.Salvage.{lost_count}
use Rattle.stream_codec.specs.Salvaging.{salvage_report}
use Rattle.agcode_top.proofs.SalvageLemmas.{file-none, plain-decoded, read-none, rescued, decode-Salvaged, salvages-all}
use Rattle.agcode_top.proofs.StillLemmas.{no-line}
use Rattle.agcode_top.proofs.AnswerLemmas.{gives-told}
use Rattle.agcode_top.proofs.CauseLemmas.{decode-answer, none-first}

-- encoding
image-given : (p : Parts) (run : Call) (last : SinkView) (h : Encoded p run.input run.out Done) (answer : Result EncodeCounts EncodeFault) → h.answer ≡ answer → Done ≡ encode_status answer → IsTrue run.input.tells →
    Accepts Encode run.desc.before.left p → HasImage (with_line run last)
image-given p run last h (Ok counts) e is told a =
    let k : StoresFile (encode_of (plain_form p) run.input run.out) counts =
    subst (λ (r : Result EncodeCounts EncodeFault). EncodeToldAs (encode_of (plain_form p) run.input run.out) r) e (h.encoded.told told) in
    record { parts = p; accepted = a; ended = k.ended; given = k.out }
image-given p run last h (Err encoding.InputFault) e is told a = let z : ⊥ = cc in absurd z
image-given p run last h (Err encoding.OutFault) e is told a = let z : ⊥ = cc in absurd z
image-given p run last h (Err (encoding.TooLong taken)) e is told a = let z : ⊥ = cc in absurd z

image-leaves : (p : Parts) (run : Call) (last : SinkView) (s : Status) → EncodeLeaves p run.input run.out run.report s → s ≡ Done → IsTrue run.input.tells → Accepts Encode run.desc.before.left p → HasImage (with_line run last)
image-leaves p run last s (encoded h still) e told a =
    let k : Encoded p run.input run.out Done = subst (λ (x : Status). Encoded p run.input run.out x) e h in
    image-given p run last k k.answer refl k.status_is told a
image-leaves p run last s (unencoded k still) e told a = absurd (let l : NoMemory ≡ Done = sym k ∙ e in let z : ⊥ = cc in z)

pub run-encode : (texts : List (List ℕ)) (run : Call) (s : Status) (last : SinkView) → ObeyLeaves texts run s → OnCommand texts Encode (StoresImage (with_line run last) s)
run-encode texts run s last h v k c e told it =
    let g : ServesDescribed v Encode run s = described-at v Encode run s Done (subst (λ (x : Command). CarryOutLeaves v x run s) c (obeyed-carried texts run s h v k)) e tt in
    image-leaves g.parts run last s g.leaves e it (g.accepted told)

-- the report of a status without a line
gives-no_line : (s : SinkCall) (last : SinkView) (own line : List ℕ) → line ≡ [] → GivesText s own → GivesOrFails (line_call s last) line → GivesText (until s last) own
gives-no_line s last own line e g h = λ told. no-line s last line e h told ∙ g told

-- decoding a text that is near the image of a file
report-of : (F : Form) (z x : List ℕ) → IsSound F → IsFile x → IsNearImage F x z → reading F z ≡ File x →
    lines F z ++ done F z ≡ lines_of (differences F (blocks F z) (blocks F (image F x))) ++ done_line_of (length x) (group_count F z) (length (differences F (blocks F z) (blocks F (image F x))))
report-of F z x sound file near e =
    ap (λ (r : Reading). lines F z ++ done_at F z r) e
    ∙ ap (λ (cs : List Change). lines_of cs ++ done_line_of (length x) (group_count F z) (length cs)) (change_law F x z sound file near)

file-same : (x y : List ℕ) → File x ≡ File y → x ≡ y
file-same x y e = cc

read-file : (p : Parts) (run : Call) (s : Status) (h : Decoded p run.input run.out run.report s) (x : List ℕ) → IsTrue run.input.tells → NoneFailed run → length run.input.before.left ≤ MOST_BYTES →
    reading (plain_form p) run.input.before.left ≡ File x →
    ReadsFile (decode_of (plain_form p) run.input run.out run.report) x (counts_of (plain_form p) run.input.before.left x)
read-file p run s h x told n l e =
    let answer : h.answer ≡ Ok (counts_of (plain_form p) run.input.before.left x) =
    decode-answer p run.input run.out run.report s h x told n.input n.out n.report l e in
    let w : ToldAs (decode_of (plain_form p) run.input run.out run.report) (Ok (counts_of (plain_form p) run.input.before.left x)) =
    subst (λ (r : Result DecodeCounts DecodeFault). ToldAs (decode_of (plain_form p) run.input run.out run.report) r) answer (h.decoded.told told) in
    subst (λ (y : List ℕ). ReadsFile (decode_of (plain_form p) run.input run.out run.report) y (counts_of (plain_form p) run.input.before.left x)) (file-same w.0 x (sym w.1.reads ∙ e)) w.1

repaired-by : (p : Parts) (run : Call) (s : Status) (last : SinkView) (h : Decoded p run.input run.out run.report s) (x : List ℕ) → IsSound (plain_form p) → IsTrue run.input.tells → NoneFailed run →
    length run.input.before.left ≤ MOST_BYTES → IsFile x → IsNearImage (plain_form p) x run.input.before.left → GivesOrFails (line_call run.report last) (line_of s) →
    (s ≡ Done) × Repaired (plain_form p) x run.input run.out (until run.report last)
repaired-by p run s last h x sound told n l file near t =
    let e : reading (plain_form p) run.input.before.left ≡ File x = (file_law (plain_form p) x run.input.before.left sound).1 (file, near) in
    let k : ReadsFile (decode_of (plain_form p) run.input run.out run.report) x (counts_of (plain_form p) run.input.before.left x) = read-file p run s h x told n l e in
    let done_is : s ≡ Done = h.status_is ∙ ap decode_status (decode-answer p run.input run.out run.report s h x told n.input n.out n.report l e) in (
      done_is,
      record {
        ended = k.ended;
        given = k.out;
        told = λ mt. gives-no_line run.report last (lines (plain_form p) run.input.before.left ++ done (plain_form p) run.input.before.left) (line_of s) (ap line_of done_is) k.report t mt
            ∙ ap (λ (bytes : List ℕ). run.report.before.given ++ bytes) (report-of (plain_form p) run.input.before.left x sound file near e);
      },
    )

repaired-over : (ws : Words) (p : Parts) (run : Call) (s : Status) (last : SinkView) (g : ServesDescribed ws Decode run s) (x : List ℕ) → IsTrue run.desc.tells → IsTrue run.input.tells → NoneFailed run →
    Accepts Decode run.desc.before.left p → IsFile x → IsNearImage (plain_form p) x run.input.before.left → length run.input.before.left ≤ MOST_BYTES →
    GivesOrFails (line_call run.report last) (line_of s) → ((s ≡ Done) × Repaired (plain_form p) x run.input run.out (until run.report last)) ⊎ (s ≡ NoMemory)
repaired-over ws p run s last g x told it n a file near l t =
    let leaves : DecodeLeaves ws p run.input run.out run.report s =
    subst (λ (q : Parts). DecodeLeaves ws q run.input run.out run.report s) (same-parts Decode run.desc.before.left g.parts p (g.accepted told) a) g.leaves in
    go leaves
  where
    go : DecodeLeaves ws p run.input run.out run.report s → ((s ≡ Done) × Repaired (plain_form p) x run.input run.out (until run.report last)) ⊎ (s ≡ NoMemory)
    go (decoded flag h) = inl (repaired-by p run s last h x h.sound it n l file near t)
    go (salvaged flag h) =
        let e : reading (plain_form p) run.input.before.left ≡ File x = (file_law (plain_form p) x run.input.before.left h.sound).1 (file, near) in
        let d = plain-decoded p run.input run.out run.report s h it (file-none (plain_form p) run.input.before.left x e) in
        inl (repaired-by p run s last d x d.sound it n l file near t)
    go (undecoded e still) = inr e

pub run-repair : (texts : List (List ℕ)) (run : Call) (s : Status) (last : SinkView) → ObeyLeaves texts run s → run.report.before.faults ≤ run.report.after.faults → run.report.after.faults ≤ last.faults →
    GivesOrFails (line_call run.report last) (line_of s) → OnCommand texts Decode (Repairs (with_line run last) s)
run-repair texts run s last h l k t v q c told it n p x a file near w =
    let g : CarryOutLeaves v Decode run s = subst (λ (y : Command). CarryOutLeaves v y run s) c (obeyed-carried texts run s h v q) in
    let first : NoneFailed run = none-first run last l k n in
    elim (carried-served v Decode p run s g told first.desc a) [
      | inl e ↦ inr e
      | inr y ↦ repaired-over v p run s last y x told it first a file near w t
    ]

-- what a text is read as
file-output : (F : Form) (z x : List ℕ) → reading F z ≡ File x → output F z ≡ x
unfolding output
file-output F z x e = ap (λ (r : Reading). out_at F z r) e

-- the report of a decoding that ends with a status of a reading
steady-report : (d : DecodeCall) (answer : Result DecodeCounts DecodeFault) → IsRead (decode_status answer) → FaultAs d answer → d.report_after.faults ≡ d.report.faults
steady-report d (Ok counts) q h = h.0.1
steady-report d (Err decoding.InputFault) q h = absurd q
steady-report d (Err decoding.OutFault) q h = absurd q
steady-report d (Err decoding.ReportFault) q h = absurd q
steady-report d (Err (decoding.TooLong taken)) q h = absurd q
steady-report d (Err (decoding.Beyond group word)) q h = h.1
steady-report d (Err (decoding.Ragged extra)) q h = h.0.1
steady-report d (Err decoding.Framing) q h = h.0.1

read-report : (p : Parts) (run : Call) (s : Status) (h : Decoded p run.input run.out run.report s) → IsRead s → WritesWell run.report
read-report p run s h q = steady-report (decode_of (plain_form p) run.input run.out run.report) h.answer (subst IsRead h.status_is q) h.decoded.fault

no-done : (F : Form) (z : List ℕ) (r : Reading) → reading F z ≡ r → done_at F z r ≡ [] → lines F z ≡ lines F z ++ done F z
no-done F z r e n = sym (append-nil (lines F z)) ∙ ap (λ (t : List ℕ). lines F z ++ t) (sym (ap (λ (y : Reading). done_at F z y) e ∙ n))

refused-as : (p : Parts) (run : Call) (s : Status) (last : SinkView) (h : Decoded p run.input run.out run.report s) (r : Reading) → Refuses (decode_of (plain_form p) run.input run.out run.report) r →
    s ≡ status_of_reading r → done_at (plain_form p) run.input.before.left r ≡ [] → Accepts Decode run.desc.before.left p → WritesWell run.report →
    GivesOrFails (line_call run.report last) (line_of s) → ReadAs (with_line run last) s
refused-as p run s last h r k is n a l t = record {
  parts = p;
  accepted = a;
  status_is = is ∙ ap status_of_reading (sym k.reads);
  given = k.out;
  told = gives-told run.report last (lines (plain_form p) run.input.before.left ++ done (plain_form p) run.input.before.left) (line_of s) (record {
    given = λ mt. k.report mt ∙ ap (λ (bytes : List ℕ). run.report.before.given ++ bytes) (no-done (plain_form p) run.input.before.left r k.reads n);
    well = l;
  }) t;
}

read-as : (p : Parts) (run : Call) (s : Status) (last : SinkView) (h : Decoded p run.input run.out run.report s) (answer : Result DecodeCounts DecodeFault) → h.answer ≡ answer → s ≡ decode_status answer → IsRead s →
    IsTrue run.input.tells → Accepts Decode run.desc.before.left p → WritesWell run.report → GivesOrFails (line_call run.report last) (line_of s) → ReadAs (with_line run last) s
read-as p run s last h (Ok counts) e is q told a l t =
    let w : (x : List ℕ) × ReadsFile (decode_of (plain_form p) run.input run.out run.report) x counts =
    subst (λ (r : Result DecodeCounts DecodeFault). ToldAs (decode_of (plain_form p) run.input run.out run.report) r) e (h.decoded.told told) in
    record {
      parts = p;
      accepted = a;
      status_is = is ∙ ap status_of_reading (sym w.1.reads);
      given = λ ot. w.1.out ot ∙ ap (λ (bytes : List ℕ). run.out.before.given ++ bytes) (sym (file-output (plain_form p) run.input.before.left w.0 w.1.reads));
      told = gives-told run.report last (lines (plain_form p) run.input.before.left ++ done (plain_form p) run.input.before.left) (line_of s) (record { given = w.1.report; well = l }) t;
    }
read-as p run s last h (Err decoding.InputFault) e is q told a l t = absurd (subst IsRead is q)
read-as p run s last h (Err decoding.OutFault) e is q told a l t = absurd (subst IsRead is q)
read-as p run s last h (Err decoding.ReportFault) e is q told a l t = absurd (subst IsRead is q)
read-as p run s last h (Err (decoding.TooLong taken)) e is q told a l t = absurd (subst IsRead is q)
read-as p run s last h (Err (decoding.Beyond group word)) e is q told a l t = refused-as p run s last h (ReadBeyond group word)
    (subst (λ (r : Result DecodeCounts DecodeFault). ToldAs (decode_of (plain_form p) run.input run.out run.report) r) e (h.decoded.told told)) is refl a l t
read-as p run s last h (Err (decoding.Ragged extra)) e is q told a l t = refused-as p run s last h (ReadRagged extra)
    (subst (λ (r : Result DecodeCounts DecodeFault). ToldAs (decode_of (plain_form p) run.input run.out run.report) r) e (h.decoded.told told)) is refl a l t
read-as p run s last h (Err decoding.Framing) e is q told a l t = refused-as p run s last h ReadFraming
    (subst (λ (r : Result DecodeCounts DecodeFault). ToldAs (decode_of (plain_form p) run.input run.out run.report) r) e (h.decoded.told told)) is refl a l t

reading-over : (ws : Words) (run : Call) (s : Status) (last : SinkView) (p : Parts) → DecodeLeaves ws p run.input run.out run.report s → IsRead s → Accepts Decode run.desc.before.left p → IsTrue run.input.tells →
    GivesOrFails (line_call run.report last) (line_of s) → ReadAs (with_line run last) s
reading-over ws run s last p (decoded flag h) q a it t = read-as p run s last h h.answer refl h.status_is q it a (read-report p run s h q) t
reading-over ws run s last p (salvaged flag h) q a it t =
    let d = plain-decoded p run.input run.out run.report s h it (read-none p run.input run.out run.report s h it q) in
    read-as p run s last d d.answer refl d.status_is q it a (read-report p run s d q) t
reading-over ws run s last p (undecoded e still) q a it t = absurd (subst IsRead e q)

carried-read : (ws : Words) (command : Command) (run : Call) (s : Status) → CarryOutLeaves ws command run s → IsRead s → ServesDescribed ws command run s
carried-read ws command run s (unread e failed still) q = absurd (subst IsRead e q)
carried-read ws command run s (refused cause e why well still) q = absurd (subst IsRead e q)
carried-read ws command run s (unserved e well still) q = absurd (subst IsRead e q)
carried-read ws command run s (served h) q = h

pub run-reading : (texts : List (List ℕ)) (run : Call) (s : Status) (last : SinkView) → ObeyLeaves texts run s →
    GivesOrFails (line_call run.report last) (line_of s) → OnCommand texts Decode (ReadsText (with_line run last) s)
run-reading texts run s last h t v k c q told it =
    let g : ServesDescribed v Decode run s = carried-read v Decode run s (subst (λ (y : Command). CarryOutLeaves v y run s) c (obeyed-carried texts run s h v k)) q in
    reading-over v run s last g.parts g.leaves q (g.accepted told) it t

-- all that encode and decode leave
encoded-own : (p : Parts) (i : SourceCall) (o r : SinkCall) (s : Status) → IsOwn s → EncodeLeaves p i o r s → Encoded p i o s
encoded-own p i o r s q (encoded h still) = h
encoded-own p i o r s q (unencoded e still) = absurd (subst IsOwn e q)

decoded-own : (ws : Words) (p : Parts) (i : SourceCall) (o r : SinkCall) (s : Status) → ws.salvage ≡ false → IsOwn s → DecodeLeaves ws p i o r s → Decoded p i o r s
decoded-own ws p i o r s b q (decoded flag h) = h
decoded-own ws p i o r s b q (salvaged flag h) = absurd (let k : true ≡ false = sym flag ∙ b in let z : ⊥ = cc in z)
decoded-own ws p i o r s b q (undecoded e still) = absurd (subst IsOwn e q)

salvaged-own : (ws : Words) (p : Parts) (i : SourceCall) (o r : SinkCall) (s : Status) → ws.salvage ≡ true → IsOwn s → DecodeLeaves ws p i o r s → SalvagedText p i o r s
salvaged-own ws p i o r s b q (decoded flag h) = absurd (let k : true ≡ false = sym b ∙ flag in let z : ⊥ = cc in z)
salvaged-own ws p i o r s b q (salvaged flag h) = h
salvaged-own ws p i o r s b q (undecoded e still) = absurd (subst IsOwn e q)

pub run-encoded : (texts : List (List ℕ)) (run : Call) (s : Status) (last : SinkView) → ObeyLeaves texts run s → OnCommand texts Encode (EncodesAs (with_line run last) s)
run-encoded texts run s last h v k c q told =
    let g : ServesDescribed v Encode run s = described-at v Encode run s s (subst (λ (x : Command). CarryOutLeaves v x run s) c (obeyed-carried texts run s h v k)) refl q in
    record { parts = g.parts; accepted = g.accepted told; encoded = encoded-own g.parts run.input run.out run.report s q g.leaves }

pub run-decoded : (texts : List (List ℕ)) (run : Call) (s : Status) (last : SinkView) → ObeyLeaves texts run s → run.report.after.faults ≤ last.faults →
    GivesOrFails (line_call run.report last) (line_of s) → OnWords texts (λ w. w.command ≡ Decode → w.salvage ≡ false → DecodesAs (with_line run last) s)
run-decoded texts run s last h k t v l c b q told =
    let g : ServesDescribed v Decode run s = described-at v Decode run s s (subst (λ (x : Command). CarryOutLeaves v x run s) c (obeyed-carried texts run s h v l)) refl q in
    record {
      parts = g.parts;
      accepted = g.accepted told;
      told = run.report.after;
      counted = k;
      decoded = decoded-own v g.parts run.input run.out run.report s b q g.leaves;
      line = t;
    }

-- decoding that goes on past lost codewords
pub run-salvaged : (texts : List (List ℕ)) (run : Call) (s : Status) (last : SinkView) → ObeyLeaves texts run s → run.report.after.faults ≤ last.faults →
    GivesOrFails (line_call run.report last) (line_of s) → OnWords texts (λ w. w.command ≡ Decode → w.salvage ≡ true → SalvagesAs (with_line run last) s)
run-salvaged texts run s last h k t v l c b q told =
    let g : ServesDescribed v Decode run s = described-at v Decode run s s (subst (λ (x : Command). CarryOutLeaves v x run s) c (obeyed-carried texts run s h v l)) refl q in
    record {
      parts = g.parts;
      accepted = g.accepted told;
      told = run.report.after;
      counted = k;
      salvaged = salvaged-own v g.parts run.input run.out run.report s b q g.leaves;
      line = t;
    }

rescued-over : (ws : Words) (p : Parts) (run : Call) (s : Status) (last : SinkView) → DecodeLeaves ws p run.input run.out run.report s → s ≡ Salvaged → IsTrue run.input.tells → Accepts Decode run.desc.before.left p →
    GivesOrFails (line_call run.report last) (line_of s) → RescuedOver (with_line run last)
rescued-over ws p run s last (decoded flag h) e it a t = decode-Salvaged h.answer (sym e ∙ h.status_is)
rescued-over ws p run s last (salvaged flag h) e it a t =
    let k = rescued p run.input run.out run.report s h it e in
    record {
      parts = p;
      accepted = a;
      lost = k.lost;
      within = k.text.within;
      ended = k.text.ended;
      given = k.text.out;
      told = gives-no_line run.report last (salvage_report (plain_form p) run.input.before.left) (line_of s) (ap line_of e) k.text.report t;
    }
rescued-over ws p run s last (undecoded n still) e it a t = absurd (let l : NoMemory ≡ Salvaged = sym n ∙ e in let z : ⊥ = cc in z)

pub run-rescue : (texts : List (List ℕ)) (run : Call) (s : Status) (last : SinkView) → ObeyLeaves texts run s →
    GivesOrFails (line_call run.report last) (line_of s) → OnCommand texts Decode (Rescues (with_line run last) s)
run-rescue texts run s last h t v k c e told it =
    let g : ServesDescribed v Decode run s = described-at v Decode run s Salvaged (subst (λ (x : Command). CarryOutLeaves v x run s) c (obeyed-carried texts run s h v k)) e tt in
    rescued-over v g.parts run s last g.leaves e it (g.accepted told) t

salvages-over : (ws : Words) (p : Parts) (run : Call) (s : Status) → DecodeLeaves ws p run.input run.out run.report s → ws.salvage ≡ true → IsTrue run.input.tells → NoneFailed run →
    0 < lost_count (plain_form p) run.input.before.left → length run.input.before.left ≤ MOST_BYTES → (s ≡ Salvaged) ⊎ (s ≡ NoMemory)
salvages-over ws p run s (decoded flag h) b it n some within = absurd (let k : true ≡ false = sym b ∙ flag in let z : ⊥ = cc in z)
salvages-over ws p run s (salvaged flag h) b it n some within =
    inl (salvages-all p run.input run.out run.report s h it (record { source = n.input; out = n.out; report = n.report }) some within)
salvages-over ws p run s (undecoded e still) b it n some within = inr e

pub run-salvages : (texts : List (List ℕ)) (run : Call) (s : Status) (last : SinkView) → ObeyLeaves texts run s → run.report.before.faults ≤ run.report.after.faults → run.report.after.faults ≤ last.faults →
    OnWords texts (λ w. w.command ≡ Decode → w.salvage ≡ true → SalvagesExactly (with_line run last) s)
run-salvages texts run s last h l k v q c b told it n p a some within =
    let g : CarryOutLeaves v Decode run s = subst (λ (y : Command). CarryOutLeaves v y run s) c (obeyed-carried texts run s h v q) in
    let first : NoneFailed run = none-first run last l k n in
    elim (carried-served v Decode p run s g told first.desc a) [
      | inl e ↦ inr e
      | inr y ↦ salvages-over v p run s
          (subst (λ (x : Parts). DecodeLeaves v x run.input run.out run.report s) (same-parts Decode run.desc.before.left y.parts p (y.accepted told) a) y.leaves)
          b it first some within
    ]
