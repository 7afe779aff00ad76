-- From what a command's own function leaves to how the command ended
use Rattle.std.proofs.Common.{◌≡◌, ◌≢◌, ◌↔◌, ℕ, List, [], ◌∷◌, length, true, false, IsTrue, sym, ap, ◌∙◌, refl, inl, inr, subst, Bool, append-nil, arith}
use Rattle.ag_io.specs.Views.{SourceView, SinkView}
use Rattle.order_domain.specs.declared.Point.{Point}
use Rattle.command_words.specs.declared.words.Command.{Command}
use Rattle.command_words.specs.declared.words.Words.{Words}
use Rattle.code_descriptor.specs.Parts.{Parts}
use Rattle.code_descriptor.specs.Meaning.{IsRefusedFor, Describes, MeansTheSame}
use Rattle.code_descriptor.specs.declared.DescCause.{DescCause}
use Rattle.code_descriptor.specs.declared.DescCause.TheVariants.{TooLarge, NotToml, BadKey, BadField, BadSpace, BadDegrees, BadTerm, MissingLead, BadPoint, BadWeight, BadImproved, BadLayout, BadDepth, NoPoints, NothingFree}
use Rattle.descriptor_code.specs.Plain.{IsFull}
use Rattle.agcode_top.specs.declared.status.Status.{Status}
use Rattle.agcode_top.specs.declared.status.Status.TheVariants.{Done, NoMemory}
use Rattle.agcode_top.specs.declared.needs.Needs.TheVariants as need
use Rattle.agcode_top.specs.Calls.{Call, SourceCall, SinkCall, Writes, ReadsWell, still_source, still_sink}
use Rattle.agcode_top.specs.Statuses.{has_text, reads_input}
use Rattle.agcode_top.specs.Commands.{has_points, needs, Refuses, RefusesParts, Says, Saying, TakesFor}
use Rattle.agcode_top.specs.Steps.{LeavesText}
use Rattle.agcode_top.specs.Leaves.{AnswerLeaves, said, out_stopped, wanting, ServeLeaves, CompileAndServe, no_code, not_made, made, CarryOutLeaves, refused, unserved, served}

-- nothing was told
pub told-nothing : (tells : Bool) (v : SinkView) → Writes (still_sink tells v) []
told-nothing tells v = record { given = λ _. sym (append-nil v.given); well = refl }

-- a text was written, or a front of it
pub answered : (ws : Words) (command : Command) (p : Parts) (input : SourceCall) (out : SinkCall) (tells : Bool) (report : SinkView) (text : List ℕ) (status result : Status) → has_text status ≡ true →
    Saying ws command p input status text [] → LeavesText out text status result → AnswerLeaves ws command p input out (still_sink tells report) result
answered ws command p input out tells report text status result has k (inl h) =
    subst (λ (s : Status). AnswerLeaves ws command p input out (still_sink tells report) s) (sym h.same)
    (said (record { text = text; told = []; saying = k; written = h.written; reported = told-nothing tells report }))
answered ws command p input out tells report text status result has k (inr h) =
    out_stopped (record { status_is = h.stopped; answer = status; text = text; told = []; saying = k; has = has; written = h.written; report_still = refl })

-- an answer without a text
pub said-only : (ws : Words) (command : Command) (p : Parts) (input : SourceCall) (out_tells tells : Bool) (out report : SinkView) (status : Status) → Saying ws command p input status [] [] →
    AnswerLeaves ws command p input (still_sink out_tells out) (still_sink tells report) status
said-only ws command p input out_tells tells out report status k = said (record { text = []; told = []; saying = k; written = told-nothing out_tells out; reported = told-nothing tells report })

-- a command that does not read its input is done
pub saying-done : (ws : Words) (command : Command) (p : Parts) (reads : Bool) (input : SourceView) (text : List ℕ) → reads_input command ≡ false → Says ws command p input.left Done text [] →
    Saying ws command p (still_source reads input) Done text []
saying-done ws command p reads input text none says = record {
  can = tt;
  says = λ _. says;
  bare = λ e. refl-text e;
  plain = λ _. refl;
  most = λ _. omega arith;
  taken = untaken none;
  passes = tt;
  read_well = λ _. refl;
}
  where
    refl-text : has_text Done ≡ false → text ≡ []
    refl-text e = absurd (let z : ⊥ = cc in z)

    untaken : reads_input command ≡ false → TakesFor command Done (still_source reads input)
    untaken e = rw e (λ _. refl)

-- memory was wanting before anything was touched
pub wanting-still : (ws : Words) (command : Command) (p : Parts) (reads out_tells tells : Bool) (input : SourceView) (out report : SinkView) →
    AnswerLeaves ws command p (still_source reads input) (still_sink out_tells out) (still_sink tells report) NoMemory
wanting-still ws command p reads out_tells tells input out report = wanting (record { status_is = refl; most = λ _. omega arith; read_well = refl; out_still = refl; report_still = refl })

pub serve-at : (ws : Words) (command x : Command) (p : Parts) (input : SourceCall) (out report : SinkCall) (status : Status) → command ≡ x → ServeLeaves ws x p input out report status → ServeLeaves ws command p input out report status
serve-at ws command x p input out report status e h = subst (λ (y : Command). ServeLeaves ws y p input out report status) (sym e) h

-- over the parts that a text describes
pub carry_out-compiled : (ws : Words) (command : Command) (p : Parts) (c : Call) (status : Status) → (IsTrue c.desc.tells → Describes c.desc.before.left p) → ReadsWell c.desc →
    CompileAndServe ws command p c.input c.out c.report status → CarryOutLeaves ws command c status
carry_out-compiled ws command p c status read well (no_code cause is parts still) = refused cause is (λ told. inr (p, read told, parts)) well still
carry_out-compiled ws command p c status read well (not_made is still) = unserved is well still
carry_out-compiled ws command p c status read well (made a h) =
    served (record { parts = p; accepted = λ told. record { described = read told; accepted = a }; desc_well = well; leaves = h })

pub has_points-from : (ps : List Point) → length ps ≢ 0 → has_points ps ≡ true
has_points-from [] h = absurd (h refl)
has_points-from (p ∷ ps) h = refl

-- what refuses the parts of a descriptor
pub takes-all : (command : Command) (p : Parts) → needs command ≡ need.Space → (cause : DescCause) → RefusesParts command p cause → ⊥
takes-all command p e TooLarge h = h
takes-all command p e NotToml h = h
takes-all command p e (BadKey key) h = h
takes-all command p e BadField h = h
takes-all command p e BadSpace h = h
takes-all command p e BadDegrees h = h
takes-all command p e (BadTerm index) h = h
takes-all command p e MissingLead h = h
takes-all command p e (BadPoint index) h = h
takes-all command p e BadWeight h = h
takes-all command p e BadDepth h = h
takes-all command p e BadImproved h = h
takes-all command p e BadLayout h = h
takes-all command p e NoPoints h = h.0 e
takes-all command p e NothingFree h = let k : need.Space ≡ need.Code = sym e ∙ h.0 in let z : ⊥ = cc in z

-- a command that needs a basis refuses none of the parts that have points
pub takes-basis : (command : Command) (p : Parts) → needs command ≡ need.Basis → has_points p.points ≡ true → (cause : DescCause) → RefusesParts command p cause → ⊥
takes-basis command p e some TooLarge h = h
takes-basis command p e some NotToml h = h
takes-basis command p e some (BadKey key) h = h
takes-basis command p e some BadField h = h
takes-basis command p e some BadSpace h = h
takes-basis command p e some BadDegrees h = h
takes-basis command p e some (BadTerm index) h = h
takes-basis command p e some MissingLead h = h
takes-basis command p e some (BadPoint index) h = h
takes-basis command p e some BadWeight h = h
takes-basis command p e some BadDepth h = h
takes-basis command p e some BadImproved h = h
takes-basis command p e some BadLayout h = h
takes-basis command p e some NoPoints h = let k : true ≡ false = sym some ∙ h.1 in let z : ⊥ = cc in z
takes-basis command p e some NothingFree h = let k : need.Basis ≡ need.Code = sym e ∙ h.0 in let z : ⊥ = cc in z

pub takes-code : (command : Command) (p : Parts) → has_points p.points ≡ true → (IsFull p → ⊥) → (cause : DescCause) → RefusesParts command p cause → ⊥
takes-code command p some free TooLarge h = h
takes-code command p some free NotToml h = h
takes-code command p some free (BadKey key) h = h
takes-code command p some free BadField h = h
takes-code command p some free BadSpace h = h
takes-code command p some free BadDegrees h = h
takes-code command p some free (BadTerm index) h = h
takes-code command p some free MissingLead h = h
takes-code command p some free (BadPoint index) h = h
takes-code command p some free BadWeight h = h
takes-code command p some free BadDepth h = h
takes-code command p some free BadImproved h = h
takes-code command p some free BadLayout h = h
takes-code command p some free NoPoints h = let k : true ≡ false = sym some ∙ h.1 in let z : ⊥ = cc in z
takes-code command p some free NothingFree h = free h.2

-- what a text means, by the bytes that were read of it
pub read-describes : (before bytes text : List ℕ) (p : Parts) → text ≡ bytes → MeansTheSame bytes before → Describes text p → Describes before p
read-describes before bytes text p e m d = m.described p (subst (λ (t : List ℕ). Describes t p) e d)

pub read-refused : (command : Command) (before bytes text : List ℕ) (cause : DescCause) → text ≡ bytes → MeansTheSame bytes before → IsRefusedFor text cause → Refuses command before cause
read-refused command before bytes text cause e m d = inl (m.refused cause (subst (λ (t : List ℕ). IsRefusedFor t cause) e d))

pub points-some : (b : Bool) (ps qs : List Point) → (IsTrue b ↔ (length ps ≡ 0)) → b ≡ false → ps ≡ qs → length qs ≢ 0
points-some b ps qs h f e k = let t : b ≡ true = h.1 (ap length e ∙ k) in let z : true ≡ false = sym t ∙ f in let w : ⊥ = cc in w

no-points : (ps : List Point) → length ps ≡ 0 → has_points ps ≡ false
no-points [] h = refl
no-points (p ∷ ps) h = absurd (let z : ⊥ = cc in z)

pub points-none : (b : Bool) (ps qs : List Point) → (IsTrue b ↔ (length ps ≡ 0)) → b ≡ true → ps ≡ qs → has_points qs ≡ false
points-none b ps qs h t e = no-points qs (ap length (sym e) ∙ h.0 t)

pub code-not-space : (command : Command) → needs command ≡ need.Code → needs command ≡ need.Space → ⊥
code-not-space command e f = let k : need.Code ≡ need.Space = sym e ∙ f in let z : ⊥ = cc in z

pub serve-same : (ws : Words) (command : Command) (p q : Parts) (input : SourceCall) (out report : SinkCall) (status : Status) → p ≡ q → ServeLeaves ws command p input out report status →
    ServeLeaves ws command q input out report status
serve-same ws command p q input out report status e h = subst (λ (x : Parts). ServeLeaves ws command x input out report status) e h

pub carry_out-at : (ws : Words) (command x : Command) (c : Call) (status : Status) → command ≡ x → CarryOutLeaves ws x c status → CarryOutLeaves ws command c status
carry_out-at ws command x c status e h = subst (λ (y : Command). CarryOutLeaves ws y c status) (sym e) h
