-- How the commands that read a word end, by what was read and what was written
use Rattle.std.proofs.Common.{◌≡◌, ◌≢◌, ℕ, ◌+◌, ◌<◌, ◌≤◌, All, min, inl, inr, List, [], length, codes, Bool, true, false, IsTrue, arith, sym, ap, subst, ◌∙◌, refl}
use Rattle.block_theory.specs.Checks.{ParityChecks, IsInCode}
use Rattle.block_theory.proofs.Forms.{code_law}
use Rattle.block_theory.proofs.Lists.{distance_same}
use Rattle.vote_core.specs.declared.ledger.VoteLine.{VoteLine}
use Rattle.coded_block.specs.declared.Verdict.TheVariants.{Near, Beyond as Far}
use Rattle.order_bound.specs.declared.table.TableSays.TheVariants.{Accepted, Refused}
use Rattle.block_code.specs.Compiled.{Compiled, IsMade, checks_in}
use Rattle.block_code.specs.Decoding.{IsVerdict, ledger_after}
use Rattle.order_theory.specs.Basis.{times}
use Rattle.order_theory.specs.Codes.{IsNear, low_bits, list_sum}
use Rattle.code_descriptor.specs.Parts.{Parts}
use Rattle.descriptor_code.specs.Plain.{checks, radius, plain_form}
use Rattle.descriptor_code.specs.Tables.{ledger, IsTable}
use Rattle.descriptor_code.specs.PlainLaws.{IsPlain}
use Rattle.code_texts.specs.Texts.{votes_text_of}
use Rattle.code_trial.specs.Trials.{trial_text_of}
use Rattle.ag_texts.specs.Lines.{plain_line_of, number_line_of}
use Rattle.command_words.specs.declared.words.Command.{Command}
use Rattle.command_words.specs.declared.words.Words.{Words}
use Rattle.command_words.specs.declared.words.Command.TheVariants.{Member, Points, Params, Bound, Check, Votes, Trial}
use Rattle.agcode_top.specs.declared.status.Status.{Status}
use Rattle.agcode_top.specs.declared.status.Status.TheVariants.{Done, NotCodeword, Beyond, Ragged, Framing, TableRefused, WordLength, Usage, Descriptor, TooLong, DescFault, InputFault, OutFault, ReportFault, NoMemory, Salvaged, BadMark, NoCodeword, Ambiguous, NoDesign}
use Rattle.ag_io.specs.Views.{SourceView, SinkView}
use Rattle.agcode_top.specs.declared.limit.TheConstants.{MOST_TABLE}
use Rattle.stream_codec.specs.declared.limits.TheConstants.{PIECE}
use Rattle.agcode_top.specs.declared.input.InputFault.TheVariants as reading
use Rattle.agcode_top.specs.Inputs.{IsInputFault}
use Rattle.agcode_top.specs.Commands.{IsNoWord, Says, is_in_code, not_in_code, not_long, is_table, no_table, too_long, is_near, is_far, not_n_long, HasParameters, points_text, AcceptsTable, RefusesTable, IsNearWord, HasVotes, IsFar, most_taken}
use Rattle.agcode_top.specs.Calls.{SourceCall, SinkCall, IsEnded, ReadsWell, TakesJust, TakesAtMost, still_source, still_sink}
use Rattle.agcode_top.specs.Statuses.{CanSay, reads_input}
use Rattle.agcode_top.specs.Steps.{IsWordFault, LeavesText, SaysOf}
use Rattle.agcode_top.specs.Leaves.{AnswerLeaves, wanting, input_stopped}
use Rattle.agcode_top.proofs.RunLemmas.{answered, said-only, saying-done}

-- what was taken, by the lengths
pub took-all : (input : SourceCall) (word : List ℕ) (most : ℕ) → (IsTrue input.tells → input.before.left ≡ word) → length word ≤ most → TakesAtMost most input
took-all input word most read l = λ told. let e : length input.before.left ≡ length word = ap length (read told) in omega arith

no-word : (p : Parts) (n : ℕ) (input : List ℕ) (taken : ℕ) → n ≡ length p.points → length input ≢ n → taken ≡ min (length input) (n + 1) → IsNoWord p input taken
no-word p n input taken e a b = record {
  other_length = subst (λ (m : ℕ). length input ≢ m) e a;
  taken_is = subst (λ (m : ℕ). taken ≡ min (length input) (m + 1)) e b;
}

most-just : (input : SourceCall) (taken n most : ℕ) → TakesJust taken input → taken ≤ n + 1 → n + 1 ≡ most → TakesAtMost most input
most-just input taken n most just few e = λ told. let k : _ = just told in omega arith

most-most : (input : SourceCall) (n most : ℕ) → TakesAtMost n input → n ≡ most → TakesAtMost most input
most-most input n most h e = λ told. let k : _ = h told in omega arith

-- there is no word
module _ (ws : Words) (command : Command) (p : Parts) (n : ℕ) (input : SourceCall) (out_tells tells : Bool) (out report : SinkView) where
  word-fault : (status : Status) → reads_input command ≡ true → ((taken : ℕ) → CanSay (WordLength taken) command) →
      ((taken : ℕ) → IsNoWord p input.before.left taken → Says ws command p input.before.left (WordLength taken) [] []) → n + 1 ≡ most_taken command p → n ≡ length p.points →
      IsWordFault n input status → AnswerLeaves ws command p input (still_sink out_tells out) (still_sink tells report) status
  word-fault Done reads can says most e h = absurd h
  word-fault NotCodeword reads can says most e h = absurd h
  word-fault (Beyond group word) reads can says most e h = absurd h
  word-fault (Ragged extra) reads can says most e h = absurd h
  word-fault Framing reads can says most e h = absurd h
  word-fault (TableRefused line) reads can says most e h = absurd h
  word-fault (WordLength taken) reads can says most e h =
      said-only ws command p input out_tells tells out report (WordLength taken) (record {
        can = can taken;
        says = λ it. says taken (no-word p n input.before.left taken e (h.0 (it reads)).0 (h.0 (it reads)).1);
        bare = λ _. refl;
        plain = λ _. refl;
        most = most-just input taken n (most_taken command p) h.1 h.2 most;
        taken = h.1;
        passes = tt;
        read_well = λ _. h.3;
      })
  word-fault Salvaged reads can says most e h = absurd h
  word-fault (BadMark place) reads can says most e h = absurd h
  word-fault NoCodeword reads can says most e h = absurd h
  word-fault (Ambiguous place) reads can says most e h = absurd h
  word-fault (NoDesign least) reads can says most e h = absurd h
  word-fault Usage reads can says most e h = absurd h
  word-fault (Descriptor cause) reads can says most e h = absurd h
  word-fault (TooLong taken) reads can says most e h = absurd h
  word-fault DescFault reads can says most e h = absurd h
  word-fault InputFault reads can says most e h = input_stopped (record { status_is = refl; reads = reads; most = most-most input (n + 1) (most_taken command p) h.1 most; failed = h.0; out_still = refl; report_still = refl })
  word-fault OutFault reads can says most e h = absurd h
  word-fault ReportFault reads can says most e h = absurd h
  word-fault NoMemory reads can says most e h = wanting (record {
    status_is = refl;
    most = λ _. let k : length input.after.left ≡ length input.before.left = ap (λ (v : SourceView). length v.left) h in omega arith;
    read_well = ap (λ (v : SourceView). v.faults) h;
    out_still = refl;
    report_still = refl;
  })

pub member-fault : (ws : Words) (p : Parts) (n : ℕ) (input : SourceCall) (out_tells tells : Bool) (out report : SinkView) (status : Status) → n ≡ length p.points → IsWordFault n input status →
    AnswerLeaves ws Member p input (still_sink out_tells out) (still_sink tells report) status
member-fault ws p n input out_tells tells out report status e h =
    word-fault ws Member p n input out_tells tells out report status refl (λ taken. inl refl) (λ taken w. (not_long taken refl w refl, refl)) (ap (λ (k : ℕ). k + 1) e) e h

pub votes-fault : (ws : Words) (p : Parts) (n : ℕ) (input : SourceCall) (out_tells tells : Bool) (out report : SinkView) (status : Status) → n ≡ length p.points → IsWordFault n input status →
    AnswerLeaves ws Votes p input (still_sink out_tells out) (still_sink tells report) status
votes-fault ws p n input out_tells tells out report status e h =
    word-fault ws Votes p n input out_tells tells out report status refl (λ taken. inr (inl refl)) (λ taken w. (not_n_long taken refl w refl, refl)) (ap (λ (k : ℕ). k + 1) e) e h

-- memory is wanting after a word or a table was read
pub wanting-read : (ws : Words) (command : Command) (p : Parts) (input : SourceCall) (out_tells tells : Bool) (out report : SinkView) → TakesAtMost (most_taken command p) input → ReadsWell input →
    AnswerLeaves ws command p input (still_sink out_tells out) (still_sink tells report) NoMemory
wanting-read ws command p input out_tells tells out report most well = wanting (record { status_is = refl; most = most; read_well = well; out_still = refl; report_still = refl })

pub wanting-word : (ws : Words) (p : Parts) (input : SourceCall) (out_tells tells : Bool) (out report : SinkView) (word : List ℕ) → (IsTrue input.tells → input.before.left ≡ word) → length word ≡ length p.points → ReadsWell input →
    AnswerLeaves ws Votes p input (still_sink out_tells out) (still_sink tells report) NoMemory
wanting-word ws p input out_tells tells out report word read n well =
    wanting-read ws Votes p input out_tells tells out report (took-all input word (length p.points + 1) read (omega arith)) well

-- what the built code says, of the plain code
pub in-code : (a b : ParityChecks) (x y : List ℕ) → a ≡ b → x ≡ y → IsInCode a x → IsInCode b y
in-code a b x y e f h = subst (λ (w : List ℕ). IsInCode b w) f (subst (λ (k : ParityChecks). IsInCode k x) e h)

pub not-true : (b : Bool) → b ≡ false → IsTrue b → ⊥
not-true b e h = absurd (let k : true ≡ false = sym h ∙ e in let z : ⊥ = cc in z)

near-word : (p : Parts) (c : Compiled) (y x : List ℕ) → IsPlain p c → IsMade c → IsNear (times c.basis) c.basis c.marks c.radius y x → IsNearWord p y x
near-word p c y x plain made h = record {
  in_code = in-code (checks_in c) (checks p) x x plain.checks_are refl ((code_law c.basis c.marks x made.sound made.n_marks).1 h.is_codeword);
  close = let r : c.radius ≡ radius p = plain.radius_is in omega (arith, r, distance_same y x, h.close);
}

word-near : (p : Parts) (c : Compiled) (y x : List ℕ) → IsPlain p c → IsMade c → IsNearWord p y x → IsNear (times c.basis) c.basis c.marks c.radius y x
word-near p c y x plain made h = record {
  is_codeword = (code_law c.basis c.marks x made.sound made.n_marks).0 (in-code (checks p) (checks_in c) x x (sym plain.checks_are) refl h.in_code);
  close = let r : c.radius ≡ radius p = plain.radius_is in omega (arith, r, distance_same y x, h.close);
}

pub near-plain : (p : Parts) (c : Compiled) (got word : List ℕ) (changes : ℕ) → IsPlain p c → IsMade c → IsVerdict c got word (Near changes) → IsNearWord p got word
near-plain p c got word changes plain made h = near-word p c got word plain made h.near

pub far-plain : (p : Parts) (c : Compiled) (got word : List ℕ) → IsPlain p c → IsMade c → IsVerdict c got word Far → IsFar p got
far-plain p c got word plain made h = λ x near. h.none x (word-near p c got x plain made near)

pub ledger-plain : (p : Parts) (c : Compiled) (got word : List ℕ) (changes : ℕ) (lines : List VoteLine) → IsPlain p c → lines ≡ ledger_after c got word (Near changes) → lines ≡ ledger p (list_sum (low_bits p.bits got) word)
ledger-plain p c got word changes lines plain e =
    e ∙ plain.ledger_is (list_sum (low_bits c.basis.bits got) word) ∙ ap (λ (b : ℕ). ledger p (list_sum (low_bits b got) word)) plain.bits_are

-- the word is in the code, or not
module _ (ws : Words) (p : Parts) (input : SourceCall) (out : SinkCall) (tells : Bool) (report : SinkView) (word : List ℕ) (result : Status)
    (read : IsTrue input.tells → input.before.left ≡ word) (n : length word ≡ length p.points) (ended : IsEnded input) (well : ReadsWell input) where
  pub member-yes : IsInCode (checks p) word → LeavesText out (plain_line_of (codes "codeword")) Done result → AnswerLeaves ws Member p input out (still_sink tells report) result
  member-yes good h =
      answered ws Member p input out tells report (plain_line_of (codes "codeword")) Done result refl (record {
        can = tt;
        says = λ it. (is_in_code refl (subst (λ (w : List ℕ). IsInCode (checks p) w) (sym (read (it refl))) good) refl, refl);
        bare = λ e. absurd (let z : ⊥ = cc in z);
        plain = λ _. refl;
        most = took-all input word (length p.points + 1) read (omega arith);
        taken = ended;
        passes = tt;
        read_well = λ _. well;
      }) h

  pub member-no : (IsInCode (checks p) word → ⊥) → LeavesText out (plain_line_of (codes "not a codeword")) NotCodeword result → AnswerLeaves ws Member p input out (still_sink tells report) result
  member-no other h =
      answered ws Member p input out tells report (plain_line_of (codes "not a codeword")) NotCodeword result refl (record {
        can = refl;
        says = λ it. (not_in_code refl (ap length (read (it refl)) ∙ n) (λ k. other (subst (λ (w : List ℕ). IsInCode (checks p) w) (read (it refl)) k)) refl, refl);
        bare = λ e. absurd (let z : ⊥ = cc in z);
        plain = λ _. refl;
        most = took-all input word (length p.points + 1) read (omega arith);
        taken = ended;
        passes = tt;
        read_well = λ _. well;
      }) h

  -- a codeword is near, or none
  pub votes-near : (near_word text : List ℕ) (lines : List VoteLine) → IsNearWord p word near_word → lines ≡ ledger p (list_sum (low_bits p.bits word) near_word) → All (λ line. line.wrong < line.right) lines →
      text ≡ votes_text_of lines → LeavesText out text Done result → AnswerLeaves ws Votes p input out (still_sink tells report) result
  votes-near near_word text lines near are wins t h =
      answered ws Votes p input out tells report text Done result refl (record {
        can = tt;
        says = λ it. (is_near refl (ap length (read (it refl)) ∙ n) (subst (λ (y : List ℕ). HasVotes p y text) (sym (read (it refl))) (record { word = near_word; near = near; lines = lines; lines_are = are; right_wins = wins; text_is = t })), refl);
        bare = λ e. absurd (let z : ⊥ = cc in z);
        plain = λ _. refl;
        most = took-all input word (length p.points + 1) read (omega arith);
        taken = ended;
        passes = tt;
        read_well = λ _. well;
      }) h

pub votes-far : (ws : Words) (p : Parts) (input : SourceCall) (out_tells tells : Bool) (out report : SinkView) (got : List ℕ) → (IsTrue input.tells → input.before.left ≡ got) → length got ≡ length p.points →
    IsEnded input → ReadsWell input → IsFar p got → AnswerLeaves ws Votes p input (still_sink out_tells out) (still_sink tells report) (Beyond 0 0)
votes-far ws p input out_tells tells out report got read n ended well far =
    said-only ws Votes p input out_tells tells out report (Beyond 0 0) (record {
      can = inr refl;
      says = λ it. (is_far refl (ap length (read (it refl)) ∙ n) (subst (λ (y : List ℕ). IsFar p y) (sym (read (it refl))) far) refl, refl);
      bare = λ _. refl;
      plain = λ _. refl;
      most = took-all input got (length p.points + 1) read (omega arith);
      taken = ended;
      passes = tt;
      read_well = λ _. well;
    })

-- commands that do not read their input
pub done-text : (ws : Words) (command : Command) (p : Parts) (reads tells : Bool) (input : SourceView) (out : SinkCall) (report : SinkView) (text : List ℕ) (result : Status) → reads_input command ≡ false →
    Says ws command p input.left Done text [] → LeavesText out text Done result → AnswerLeaves ws command p (still_source reads input) out (still_sink tells report) result
done-text ws command p reads tells input out report text result none says h =
    answered ws command p (still_source reads input) out tells report text Done result refl (saying-done ws command p reads input text none says) h

pub params-has : (ws : Words) (p : Parts) (reads tells : Bool) (input : SourceView) (out : SinkCall) (report : SinkView) (text bytes : List ℕ) (result : Status) → HasParameters p text → bytes ≡ text → LeavesText out bytes Done result →
    AnswerLeaves ws Params p (still_source reads input) out (still_sink tells report) result
params-has ws p reads tells input out report text bytes result t e h =
    done-text ws Params p reads tells input out report bytes result refl ((refl, subst (λ (b : List ℕ). HasParameters p b) (sym e) t), refl) h

pub points-has : (ws : Words) (p : Parts) (reads tells : Bool) (input : SourceView) (out : SinkCall) (report : SinkView) (text bytes : List ℕ) (result : Status) → text ≡ points_text p → bytes ≡ text → LeavesText out bytes Done result →
    AnswerLeaves ws Points p (still_source reads input) out (still_sink tells report) result
points-has ws p reads tells input out report text bytes result t e h = done-text ws Points p reads tells input out report bytes result refl ((refl, e ∙ t), refl) h

pub table-has : (ws : Words) (p : Parts) (reads tells : Bool) (input : SourceView) (out : SinkCall) (report : SinkView) (text bytes : List ℕ) (result : Status) → IsTable p text → bytes ≡ text → LeavesText out bytes Done result →
    AnswerLeaves ws Bound p (still_source reads input) out (still_sink tells report) result
table-has ws p reads tells input out report text bytes result t e h = done-text ws Bound p reads tells input out report bytes result refl ((refl, subst (λ (b : List ℕ). IsTable p b) (sym e) t), refl) h

pub trial-has : (ws : Words) (p : Parts) (reads tells : Bool) (input : SourceView) (out : SinkCall) (report : SinkView) (text bytes : List ℕ) (result : Status) → text ≡ trial_text_of (plain_form p) (radius p) ws.seed ws.bytes → bytes ≡ text →
    LeavesText out bytes Done result → AnswerLeaves ws Trial p (still_source reads input) out (still_sink tells report) result
trial-has ws p reads tells input out report text bytes result h e gave = done-text ws Trial p reads tells input out report bytes result refl ((refl, e ∙ h), refl) gave

-- check
module _ (ws : Words) (p : Parts) (input : SourceCall) (text given : List ℕ) (read : IsTrue input.tells → input.before.left ≡ text) (same : given ≡ text) (few : length text ≤ MOST_TABLE) (ended : IsEnded input) (well : ReadsWell input) where
  few-left : IsTrue input.tells → length input.before.left ≤ MOST_TABLE
  few-left told = let e : length input.before.left ≡ length text = ap length (read told) in omega arith

  pub check-accepts : (out : SinkCall) (tells : Bool) (report : SinkView) (bytes : List ℕ) (least : ℕ) (result : Status) →
      SaysOf p given (Accepted least) → bytes ≡ number_line_of (codes "accepted bound") least → LeavesText out bytes Done result → AnswerLeaves ws Check p input out (still_sink tells report) result
  check-accepts out tells report bytes least result says line h =
      answered ws Check p input out tells report bytes Done result refl (record {
        can = tt;
        says = λ it. (
          is_table refl (few-left (it refl)) (subst (λ (y : List ℕ). AcceptsTable p y bytes) (same ∙ sym (read (it refl)))
              (record { is_table = says.0; text_is = line ∙ ap (λ (v : ℕ). number_line_of (codes "accepted bound") v) says.1 })),
          refl,
        );
        bare = λ e. absurd (let z : ⊥ = cc in z);
        plain = λ _. refl;
        most = took-all input text (MOST_TABLE + PIECE) read (omega arith);
        taken = ended;
        passes = tt;
        read_well = λ _. well;
      }) h

  pub check-refuses : (out_tells tells : Bool) (out report : SinkView) (line : ℕ) → SaysOf p given (Refused line) →
      AnswerLeaves ws Check p input (still_sink out_tells out) (still_sink tells report) (TableRefused line)
  check-refuses out_tells tells out report line says =
      said-only ws Check p input out_tells tells out report (TableRefused line) (record {
        can = refl;
        says = λ it. (no_table line refl (few-left (it refl)) (subst (λ (y : List ℕ). RefusesTable p y line) (same ∙ sym (read (it refl))) says) refl, refl);
        bare = λ _. refl;
        plain = λ _. refl;
        most = took-all input text (MOST_TABLE + PIECE) read (omega arith);
        taken = ended;
        passes = tt;
        read_well = λ _. well;
      })

pub check-long : (ws : Words) (p : Parts) (input : SourceCall) (out_tells tells : Bool) (out report : SinkView) (taken : ℕ) → IsInputFault MOST_TABLE input (reading.TooLong taken) →
    AnswerLeaves ws Check p input (still_sink out_tells out) (still_sink tells report) (TooLong taken)
check-long ws p input out_tells tells out report taken h =
    said-only ws Check p input out_tells tells out report (TooLong taken) (record {
      can = inl refl;
      says = λ it. (too_long taken refl h.0 (let k : length input.before.left ≡ length input.after.left + taken = h.2 (it refl) in omega arith) refl, refl);
      bare = λ _. refl;
      plain = λ _. refl;
      most = λ told. let k : length input.before.left ≡ length input.after.left + taken = h.2 told in let l : taken ≤ MOST_TABLE + PIECE = h.1 in omega arith;
      taken = h.2;
      passes = h.3;
      read_well = λ e. absurd (let z : ⊥ = cc in z);
    })

pub check-stopped : (ws : Words) (p : Parts) (input : SourceCall) (out_tells tells : Bool) (out report : SinkView) → IsInputFault MOST_TABLE input reading.Fault →
    AnswerLeaves ws Check p input (still_sink out_tells out) (still_sink tells report) InputFault
check-stopped ws p input out_tells tells out report h =
    input_stopped (record { status_is = refl; reads = refl; most = h.0; failed = h.1; out_still = refl; report_still = refl })
