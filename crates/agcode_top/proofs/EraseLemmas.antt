-- What erase says of an input, and how it ends
use Rattle.std.proofs.Common.{◌≡◌, ◌≢◌, ℕ, ◌+◌, ◌*◌, ◌<◌, ◌≤◌, min, inl, inr, List, [], length, Bool, true, false, IsTrue, All, get_or, arith, sym, ap, subst, ◌∙◌, refl}
use Rattle.std.proofs.lemmas.Bool.{cases_order, cases_lt}
use Rattle.std.proofs.lemmas.List.Elements.{All-get_or}
use Rattle.ag_io.specs.Views.{SourceView, SinkView}
use Rattle.ag_io.specs.Puts.{Wrote, WroteSome}
use Rattle.block_theory.specs.Checks.{ParityChecks}
use Rattle.block_code.specs.Compiled.{Compiled, checks_in}
use Rattle.code_descriptor.specs.Parts.{Parts}
use Rattle.descriptor_code.specs.Plain.{checks, bound}
use Rattle.descriptor_code.specs.PlainLaws.{IsPlain}
use Rattle.erase_code.specs.declared.fill.FillSays.{FillSays}
use Rattle.erase_code.specs.declared.fill.FillSays.TheVariants.{Filled as Fills, Ambiguous as Several, NoCodeword as None}
use Rattle.erase_code.specs.Filling.{lost_count, IsOnlyFit, IsLeastDifference, IsAnswer}
use Rattle.erase_code.specs.Marks.{IsBadMark, lost_by, positions_of}
use Rattle.code_texts.specs.Texts.{filled_text_of}
use Rattle.erase_code.proofs.Exact.{one_or_more, one_place}
use Rattle.command_words.specs.declared.words.Words.{Words}
use Rattle.command_words.specs.declared.words.Command.TheVariants.{Erase}
use Rattle.agcode_top.specs.declared.status.Status.{Status}
use Rattle.agcode_top.specs.declared.status.Status.TheVariants.{Done, NotCodeword, Beyond, Ragged, Framing, TableRefused, WordLength, Usage, Descriptor, TooLong, DescFault, InputFault, OutFault, ReportFault, NoMemory, Salvaged, BadMark, NoCodeword, Ambiguous, NoDesign}
use Rattle.agcode_top.specs.Calls.{SourceCall, SinkCall, IsEnded, ReadsWell, TakesAtMost, Writes, StopsAt, still_sink}
use Rattle.agcode_top.specs.Statuses.{CanSay, has_text, TellsMore}
use Rattle.agcode_top.specs.Steps.{IsWordFault}
use Rattle.agcode_top.specs.Erase.{word_in, marks_in, lost_in, IsMarkedWord, IsOtherLength, SaysErase, word_length, bad_mark, no_codeword, ambiguous, filled, IsFillable}
use Rattle.agcode_top.specs.Filled.{LeavesFilled, all_written, out_failed, report_failed, memory_wanted, FillLeaves, fills, fills_nothing, fill_wants}
use Rattle.agcode_top.specs.Commands.{Saying, most_taken, TakesFor, PassesAt}
use Rattle.agcode_top.specs.Leaves.{AnswerLeaves, said, out_stopped, report_stopped, input_stopped, wanting}
use Rattle.agcode_top.proofs.EndLemmas.{Alike}
use Rattle.agcode_top.proofs.RunLemmas.{told-nothing}

-- ---- what erase says is one answer
module _ (p : Parts) (input : List ℕ) where
  good-bad : IsMarkedWord p input → (place : ℕ) → IsBadMark (marks_in p input) place → ⊥
  good-bad h place bad =
      let good : get_or (marks_in p input) place 0 ≤ 1 = All-get_or (λ m. m ≤ 1) (marks_in p input) place 0 bad.position h.marks in
      let above : 1 < get_or (marks_in p input) place 0 = bad.bad in
      omega arith

  one-mark : (a b : ℕ) → IsBadMark (marks_in p input) a → IsBadMark (marks_in p input) b → a ≡ b
  one-mark a b h k = elim (cases_order a b) [
    | inl e ↦ e
    | inr w ↦ elim w [
      | inl l ↦ absurd (let good : get_or (marks_in p input) a 0 ≤ 1 = k.first a l in let above : 1 < get_or (marks_in p input) a 0 = h.bad in let z : ⊥ = omega arith in z)
      | inr l ↦ absurd (let good : get_or (marks_in p input) b 0 ≤ 1 = h.first b l in let above : 1 < get_or (marks_in p input) b 0 = k.bad in let z : ⊥ = omega arith in z)
    ]
  ]

  only-several : (x : List ℕ) (place : ℕ) → IsOnlyFit (checks p) (word_in p input) (lost_in p input) x → IsLeastDifference (checks p) (word_in p input) (lost_in p input) place → ⊥
  only-several x place h k = one_or_more (checks p) (word_in p input) (lost_in p input) x place h k

  one-least : (a b : ℕ) → IsLeastDifference (checks p) (word_in p input) (lost_in p input) a → IsLeastDifference (checks p) (word_in p input) (lost_in p input) b → a ≡ b
  one-least a b h k = one_place (checks p) (word_in p input) (lost_in p input) a b h k

  pub one-erase : (s t : Status) (text told other tells : List ℕ) → SaysErase p input s text told → SaysErase p input t other tells → Alike s t
  one-erase s t text told other tells (word_length taken e h x y) (word_length taken' f k z w) = inl (f ∙ ap (λ (n : ℕ). WordLength n) (k.taken_is ∙ sym h.taken_is) ∙ sym e)
  one-erase s t text told other tells (word_length taken e h x y) (bad_mark place f long k z w) = absurd (h.other long)
  one-erase s t text told other tells (word_length taken e h x y) (no_codeword f m k z w) = absurd (h.other m.long)
  one-erase s t text told other tells (word_length taken e h x y) (ambiguous place f m k b z w) = absurd (h.other m.long)
  one-erase s t text told other tells (word_length taken e h x y) (filled f m k w) = absurd (h.other m.long)
  one-erase s t text told other tells (bad_mark place e long h x y) (word_length taken f k z w) = absurd (k.other long)
  one-erase s t text told other tells (bad_mark place e long h x y) (bad_mark place' f long' k z w) = inl (f ∙ ap (λ (n : ℕ). BadMark n) (one-mark place' place k h) ∙ sym e)
  one-erase s t text told other tells (bad_mark place e long h x y) (no_codeword f m k z w) = absurd (good-bad m place h)
  one-erase s t text told other tells (bad_mark place e long h x y) (ambiguous place' f m k b z w) = absurd (good-bad m place h)
  one-erase s t text told other tells (bad_mark place e long h x y) (filled f m k w) = absurd (good-bad m place h)
  one-erase s t text told other tells (no_codeword e m h x y) (word_length taken f k z w) = absurd (k.other m.long)
  one-erase s t text told other tells (no_codeword e m h x y) (bad_mark place f long k z w) = absurd (good-bad m place k)
  one-erase s t text told other tells (no_codeword e m h x y) (no_codeword f m' k z w) = inl (f ∙ sym e)
  one-erase s t text told other tells (no_codeword e m h x y) (ambiguous place f m' k b z w) = absurd (h.none k.one k.one_fits)
  one-erase s t text told other tells (no_codeword e m h x y) (filled f m' k w) = absurd (h.none other k.fits)
  one-erase s t text told other tells (ambiguous place e m h b x y) (word_length taken f k z w) = absurd (k.other m.long)
  one-erase s t text told other tells (ambiguous place e m h b x y) (bad_mark place' f long k z w) = absurd (good-bad m place' k)
  one-erase s t text told other tells (ambiguous place e m h b x y) (no_codeword f m' k z w) = absurd (k.none h.one h.one_fits)
  one-erase s t text told other tells (ambiguous place e m h b x y) (ambiguous place' f m' k b' z w) = inl (f ∙ ap (λ (n : ℕ). Ambiguous n) (one-least place' place k h) ∙ sym e)
  one-erase s t text told other tells (ambiguous place e m h b x y) (filled f m' k w) = absurd (only-several other place k h)
  one-erase s t text told other tells (filled e m h y) (word_length taken f k z w) = absurd (k.other m.long)
  one-erase s t text told other tells (filled e m h y) (bad_mark place f long k z w) = absurd (good-bad m place k)
  one-erase s t text told other tells (filled e m h y) (no_codeword f m' k z w) = absurd (k.none text h.fits)
  one-erase s t text told other tells (filled e m h y) (ambiguous place f m' k b z w) = absurd (only-several text place h k)
  one-erase s t text told other tells (filled e m h y) (filled f m' k w) = inl (f ∙ sym e)

  pub valid-erase : (status : Status) (text told : List ℕ) → IsFillable p input → SaysErase p input status text told → status ≡ Done
  valid-erase status text told v (word_length taken e h x y) = absurd (h.other v.marked.long)
  valid-erase status text told v (bad_mark place e long h x y) = absurd (good-bad v.marked place h)
  valid-erase status text told v (no_codeword e m h x y) = absurd (h.none v.word v.only.fits)
  valid-erase status text told v (ambiguous place e m h b x y) = absurd (only-several v.word place v.only h)
  valid-erase status text told v (filled e m h y) = e

  -- where it says nothing on out
  erase-can : (s : Status) (text told : List ℕ) → SaysErase p input s text told → CanSay s Erase
  erase-can s text told (word_length taken e h x y) = subst (λ (t : Status). CanSay t Erase) (sym e) (inr (inr refl))
  erase-can s text told (bad_mark place e long h x y) = subst (λ (t : Status). CanSay t Erase) (sym e) refl
  erase-can s text told (no_codeword e m h x y) = subst (λ (t : Status). CanSay t Erase) (sym e) refl
  erase-can s text told (ambiguous place e m h b x y) = subst (λ (t : Status). CanSay t Erase) (sym e) refl
  erase-can s text told (filled e m h y) = subst (λ (t : Status). CanSay t Erase) (sym e) tt

-- ---- no word and marks were read
module _ (ws : Words) (p : Parts) (n : ℕ) (input : SourceCall) (out_tells tells : Bool) (out report : SinkView) (e : n ≡ 2 * length p.points) where
  other-length : (taken : ℕ) → length input.before.left ≢ n → taken ≡ min (length input.before.left) (n + 1) → IsOtherLength p input.before.left taken
  other-length taken a b = record {
    other = subst (λ (m : ℕ). length input.before.left ≢ m) e a;
    taken_is = subst (λ (m : ℕ). taken ≡ min (length input.before.left) (m + 1)) e b;
  }

  pub erase-fault : (status : Status) → IsWordFault n input status → AnswerLeaves ws Erase p input (still_sink out_tells out) (still_sink tells report) status
  erase-fault Done h = absurd h
  erase-fault NotCodeword h = absurd h
  erase-fault (Beyond group word) h = absurd h
  erase-fault (Ragged extra) h = absurd h
  erase-fault Framing h = absurd h
  erase-fault (TableRefused line) h = absurd h
  erase-fault (WordLength taken) h = said (record {
    text = [];
    told = [];
    saying = record {
      can = inr (inr refl);
      says = λ it. (let k = h.0 (it refl) in word_length taken refl (other-length taken k.0 k.1) refl refl);
      bare = λ _. refl;
      plain = λ _. refl;
      most = λ told. (let k : length input.before.left ≡ length input.after.left + taken = h.1 told in let l : taken ≤ n + 1 = h.2 in omega arith);
      taken = h.1;
      passes = tt;
      read_well = λ _. h.3;
    };
    written = told-nothing out_tells out;
    reported = told-nothing tells report;
  })
  erase-fault Salvaged h = absurd h
  erase-fault (BadMark place) h = absurd h
  erase-fault NoCodeword h = absurd h
  erase-fault (Ambiguous place) h = absurd h
  erase-fault (NoDesign least) h = absurd h
  erase-fault Usage h = absurd h
  erase-fault (Descriptor cause) h = absurd h
  erase-fault (TooLong taken) h = absurd h
  erase-fault DescFault h = absurd h
  erase-fault InputFault h = input_stopped (record {
    status_is = refl;
    reads = refl;
    most = λ told. (let k : length input.before.left ≤ length input.after.left + (n + 1) = h.1 told in omega arith);
    failed = h.0;
    out_still = refl;
    report_still = refl;
  })
  erase-fault OutFault h = absurd h
  erase-fault ReportFault h = absurd h
  erase-fault NoMemory h = wanting (record {
    status_is = refl;
    most = λ _. (let k : length input.after.left ≡ length input.before.left = ap (λ (v : SourceView). length v.left) h in omega arith);
    read_well = ap (λ (v : SourceView). v.faults) h;
    out_still = refl;
    report_still = refl;
  })

-- ---- they were read
still-writes : (s : SinkCall) → s.after ≡ s.before → Writes s []
still-writes s e = subst (λ (v : SinkView). Writes (record { tells = s.tells; before = s.before; after = v }) []) (sym e) (told-nothing s.tells s.before)

module _ (ws : Words) (p : Parts) (input : SourceCall) (out report : SinkCall) (got : List ℕ) (read : IsTrue input.tells → input.before.left ≡ got)
    (n : length got ≡ 2 * length p.points) (ended : IsEnded input) (well : ReadsWell input) where
  within : TakesAtMost (most_taken Erase p) input
  within = λ told. (let e : length input.before.left ≡ length got = ap length (read told) in omega arith)

  said-of : (s : Status) (text told : List ℕ) → SaysErase p got s text told → Saying ws Erase p input s text told
  said-of s text told h = record {
    can = erase-can p got s text told h;
    says = λ it. subst (λ (w : List ℕ). SaysErase p w s text told) (sym (read (it refl))) h;
    bare = bare h;
    plain = plain h;
    most = within;
    taken = taken h;
    passes = passes h;
    read_well = λ _. well;
  }
    where
      bare : SaysErase p got s text told → has_text s ≡ false → text ≡ []
      bare (word_length count e k x y) f = x
      bare (bad_mark place e long k x y) f = x
      bare (no_codeword e m k x y) f = x
      bare (ambiguous place e m k b x y) f = x
      bare (filled e m k y) f = absurd (let l : true ≡ false = sym (ap has_text e) ∙ f in let z : ⊥ = cc in z)

      plain : SaysErase p got s text told → (TellsMore Erase s → ⊥) → told ≡ []
      plain (word_length count e k x y) f = y
      plain (bad_mark place e long k x y) f = y
      plain (no_codeword e m k x y) f = y
      plain (ambiguous place e m k b x y) f = y
      plain (filled e m k y) f = absurd (f (subst (λ (t : Status). TellsMore Erase t) (sym e) tt))

      taken : SaysErase p got s text told → TakesFor Erase s input
      taken (word_length count e k x y) = absurd (k.other n)
      taken (bad_mark place e long k x y) = subst (λ (t : Status). TakesFor Erase t input) (sym e) ended
      taken (no_codeword e m k x y) = subst (λ (t : Status). TakesFor Erase t input) (sym e) ended
      taken (ambiguous place e m k b x y) = subst (λ (t : Status). TakesFor Erase t input) (sym e) ended
      taken (filled e m k y) = subst (λ (t : Status). TakesFor Erase t input) (sym e) ended

      passes : SaysErase p got s text told → PassesAt (most_taken Erase p) input s
      passes (word_length count e k x y) = subst (λ (t : Status). PassesAt (most_taken Erase p) input t) (sym e) tt
      passes (bad_mark place e long k x y) = subst (λ (t : Status). PassesAt (most_taken Erase p) input t) (sym e) tt
      passes (no_codeword e m k x y) = subst (λ (t : Status). PassesAt (most_taken Erase p) input t) (sym e) tt
      passes (ambiguous place e m k b x y) = subst (λ (t : Status). PassesAt (most_taken Erase p) input t) (sym e) tt
      passes (filled e m k y) = subst (λ (t : Status). PassesAt (most_taken Erase p) input t) (sym e) tt

  pub erase-read : (status : Status) → FillLeaves p got out report status → AnswerLeaves ws Erase p input out report status
  erase-read status (fills text told h (all_written e w r)) =
      said (record { text = text; told = told; saying = subst (λ (t : Status). Saying ws Erase p input t text told) (sym e) (said-of Done text told h); written = w; reported = r })
  erase-read status (fills text told h (out_failed e w still)) =
      out_stopped (record { status_is = e; answer = Done; text = text; told = told; saying = said-of Done text told h; has = refl; written = w; report_still = still })
  erase-read status (fills text told h (report_failed e w r)) =
      report_stopped (record { status_is = e; tells = refl; more = tt; answer = Done; text = text; told = told; saying = said-of Done text told h; has = refl; written = w; reported = r })
  erase-read status (fills text told h (memory_wanted e o r)) = wanting (record { status_is = e; most = within; read_well = well; out_still = o; report_still = r })
  erase-read status (fills_nothing h o r) = said (record { text = []; told = []; saying = said-of status [] [] h; written = still-writes out o; reported = still-writes report r })
  erase-read status (fill_wants e o r) = wanting (record { status_is = e; most = within; read_well = well; out_still = o; report_still = r })

-- ---- what the built code says, of the plain code
not-below : (a b : ℕ) → (a < b → ⊥) → b ≤ a
not-below a b h = elim (cases_lt a b) [ inl l ↦ absurd (h l) | inr l ↦ l ]

module _ (p : Parts) (c : Compiled) (plain : IsPlain p c) (got word marks before : List ℕ) (lost : List Bool) (long : length got ≡ 2 * length p.points) (is_word : word ≡ word_in p got)
    (are_marks : marks ≡ marks_in p got) (are_lost : lost ≡ lost_by marks) where
  same-lost : lost ≡ lost_in p got
  same-lost = are_lost ∙ ap lost_by are_marks

  plain-answer : (s : FillSays) (out : List ℕ) → IsAnswer (checks_in c) word lost before s out → IsAnswer (checks p) (word_in p got) (lost_in p got) before s out
  plain-answer s out h =
      subst (λ (k : ParityChecks). IsAnswer k (word_in p got) (lost_in p got) before s out) plain.checks_are
      (subst (λ (w : List ℕ). IsAnswer (checks_in c) w (lost_in p got) before s out) is_word
      (subst (λ (l : List Bool). IsAnswer (checks_in c) word l before s out) same-lost h))

  marked : All (λ m. m ≤ 1) marks → IsMarkedWord p got
  marked good = record { long = long; marks = subst (λ (m : List ℕ). All (λ x. x ≤ 1) m) are_marks good }

  pub erase-mark : (place : ℕ) → IsBadMark marks place → SaysErase p got (BadMark place) [] []
  erase-mark place h = bad_mark place refl long (subst (λ (m : List ℕ). IsBadMark m place) are_marks h) refl refl

  pub erase-none : (out : List ℕ) → All (λ m. m ≤ 1) marks → IsAnswer (checks_in c) word lost before None out → SaysErase p got NoCodeword [] []
  erase-none out good h = no_codeword refl (marked good) (plain-answer None out h).0 refl refl

  pub erase-several : (place : ℕ) (out : List ℕ) → All (λ m. m ≤ 1) marks → IsAnswer (checks_in c) word lost before (Several place) out → (lost_count lost < c.bound → ⊥) → SaysErase p got (Ambiguous place) [] []
  erase-several place out good h many =
      ambiguous place refl (marked good) (plain-answer (Several place) out h).0
      (subst (λ (l : List Bool). bound p ≤ lost_count l) same-lost (let b : c.bound ≡ bound p = plain.bound_is in let m : c.bound ≤ lost_count lost = not-below (lost_count lost) c.bound many in omega arith))
      refl refl

  pub erase-filled : (count : ℕ) (out text : List ℕ) (again : List Bool) → text ≡ out → again ≡ lost → All (λ m. m ≤ 1) marks → IsAnswer (checks_in c) word lost before (Fills count) out → SaysErase p got Done text (filled_text_of (positions_of again) text)
  erase-filled count out text again same-text same-again good h =
      filled refl (marked good) (subst (λ (v : List ℕ). IsOnlyFit (checks p) (word_in p got) (lost_in p got) v) (sym same-text) (plain-answer (Fills count) out h).0)
      (ap (λ (l : List Bool). filled_text_of (positions_of l) text) (same-again ∙ same-lost))

-- ---- what writes leave
wrote-writes : (s : SinkCall) (bytes : List ℕ) → Wrote s.tells s.before s.after bytes → Writes s bytes
wrote-writes s bytes w = record { given = w.gives; well = w.faults }

some-stops : (s : SinkCall) (bytes : List ℕ) → WroteSome s.tells s.before s.after bytes → StopsAt s bytes
some-stops s bytes w = record { given = w.gives; fewer = w.fewer; failed = w.rose }

pub filled-done : (out report : SinkCall) (word lines told : List ℕ) → Wrote out.tells out.before out.after word → Wrote report.tells report.before report.after lines → lines ≡ told → LeavesFilled out report word told Done
filled-done out report word lines told w r e = all_written refl (wrote-writes out word w) (subst (λ (t : List ℕ). Writes report t) e (wrote-writes report lines r))

pub filled-untold : (out report : SinkCall) (word lines told : List ℕ) → Wrote out.tells out.before out.after word → WroteSome report.tells report.before report.after lines → lines ≡ told → LeavesFilled out report word told ReportFault
filled-untold out report word lines told w r e = report_failed refl (wrote-writes out word w) (subst (λ (t : List ℕ). StopsAt report t) e (some-stops report lines r))
