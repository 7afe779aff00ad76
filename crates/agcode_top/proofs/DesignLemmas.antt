-- What design leaves
use Rattle.std.proofs.Common.{◌≡◌, ℕ, List, true, refl, arith, subst, sym, Bool}
use Rattle.ag_io.specs.Views.{SourceView, SinkView}
use Rattle.command_words.specs.declared.words.Command.{Command}
use Rattle.command_words.specs.declared.words.Command.TheVariants.{Member, Points, Params, Bound, Check, Encode, Decode, Votes, Trial, Erase, Design}
use Rattle.command_words.specs.declared.words.Words.{Words}
use Rattle.code_descriptor.specs.Parts.{Parts}
use Rattle.descriptor_design.specs.Plans.{HasDesign, HasNoDesign}
use Rattle.agcode_top.specs.declared.status.Status.{Status}
use Rattle.agcode_top.specs.declared.status.Status.TheVariants.{Done, NoDesign}
use Rattle.agcode_top.specs.declared.needs.Needs.TheVariants as need
use Rattle.agcode_top.specs.Calls.{SinkCall, still_source, still_sink}
use Rattle.agcode_top.specs.Commands.{has_points, needs}
use Rattle.agcode_top.specs.Design.{has_plans, no_plan}
use Rattle.agcode_top.specs.Steps.{LeavesText}
use Rattle.agcode_top.specs.Leaves.{CompileAndServe, made}
use Rattle.agcode_top.proofs.RunLemmas.{said-only, takes-basis}
use Rattle.agcode_top.proofs.WordLemmas.{done-text}

-- the commands by what they need
pub needs-Space : (command : Command) → needs command ≡ need.Space → command ≡ Points
needs-Space Member e = absurd (let z : ⊥ = cc in z)
needs-Space Points e = refl
needs-Space Params e = absurd (let z : ⊥ = cc in z)
needs-Space Bound e = absurd (let z : ⊥ = cc in z)
needs-Space Check e = absurd (let z : ⊥ = cc in z)
needs-Space Encode e = absurd (let z : ⊥ = cc in z)
needs-Space Decode e = absurd (let z : ⊥ = cc in z)
needs-Space Votes e = absurd (let z : ⊥ = cc in z)
needs-Space Trial e = absurd (let z : ⊥ = cc in z)
needs-Space Erase e = absurd (let z : ⊥ = cc in z)
needs-Space Design e = absurd (let z : ⊥ = cc in z)

pub needs-Basis : (command : Command) → needs command ≡ need.Basis → command ≡ Design
needs-Basis Member e = absurd (let z : ⊥ = cc in z)
needs-Basis Points e = absurd (let z : ⊥ = cc in z)
needs-Basis Params e = absurd (let z : ⊥ = cc in z)
needs-Basis Bound e = absurd (let z : ⊥ = cc in z)
needs-Basis Check e = absurd (let z : ⊥ = cc in z)
needs-Basis Encode e = absurd (let z : ⊥ = cc in z)
needs-Basis Decode e = absurd (let z : ⊥ = cc in z)
needs-Basis Votes e = absurd (let z : ⊥ = cc in z)
needs-Basis Trial e = absurd (let z : ⊥ = cc in z)
needs-Basis Erase e = absurd (let z : ⊥ = cc in z)
needs-Basis Design e = refl

pub design-not-space : needs Design ≡ need.Space → ⊥
design-not-space e = let k : need.Basis ≡ need.Space = e in let z : ⊥ = cc in z

pub design-has : (ws : Words) (p : Parts) (reads tells : Bool) (input : SourceView) (out : SinkCall) (report : SinkView) (text bytes : List ℕ) (result : Status) → has_points p.points ≡ true →
    HasDesign p ws.want text → bytes ≡ text → LeavesText out bytes Done result → CompileAndServe ws Design p (still_source reads input) out (still_sink tells report) result
design-has ws p reads tells input out report text bytes result some plans same h =
    made (takes-basis Design p refl some)
    (done-text ws Design p reads tells input out report bytes result refl (has_plans refl (subst (λ (b : List ℕ). HasDesign p ws.want b) (sym same) plans), refl) h)

pub design-none : (ws : Words) (p : Parts) (reads out_tells tells : Bool) (input : SourceView) (out report : SinkView) (most : ℕ) → has_points p.points ≡ true → HasNoDesign p ws.want most →
    CompileAndServe ws Design p (still_source reads input) (still_sink out_tells out) (still_sink tells report) (NoDesign most)
design-none ws p reads out_tells tells input out report most some none =
    made (takes-basis Design p refl some)
    (said-only ws Design p (still_source reads input) out_tells tells out report (NoDesign most) (record {
      can = refl;
      says = λ _. (no_plan most refl none refl, refl);
      bare = λ _. refl;
      plain = λ _. refl;
      most = λ _. omega arith;
      taken = λ _. refl;
      passes = tt;
      read_well = λ _. refl;
    }))
