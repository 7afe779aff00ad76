-- SaysDesign    what design says of the points of a descriptor and a wanted number of errors: its status and its text on out
use Rattle.std.specs.Prelude.{◌≡◌, ℕ, List, []}
use Rattle.code_descriptor.specs.Parts.{Parts}
use Rattle.descriptor_design.specs.Plans.{HasDesign, HasNoDesign}
use Rattle.agcode_top.specs.declared.status.Status.{Status}
use Rattle.agcode_top.specs.declared.status.Status.TheVariants.{Done, NoDesign}

pub data SaysDesign (p : Parts) (want : ℕ) (status : Status) (text : List ℕ) : Type 0 where
  has_plans : status ≡ Done → HasDesign p want text → SaysDesign p want status text
  no_plan : (most : ℕ) → status ≡ NoDesign most → HasNoDesign p want most → text ≡ [] → SaysDesign p want status text
