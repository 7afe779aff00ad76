-- What the private steps of erase leave.
--
-- LeavesFilled    a word that was filled in was written and told, or a fault of out or of report stopped that, or memory was
--                 wanting
-- FillLeaves      the same over the bytes that were read, or nothing was filled in, as erase says of them
use Rattle.std.specs.Prelude.{◌≡◌, ℕ, List, []}
use Rattle.code_descriptor.specs.Parts.{Parts}
use Rattle.agcode_top.specs.declared.status.Status.{Status}
use Rattle.agcode_top.specs.declared.status.Status.TheVariants.{Done, OutFault, ReportFault, NoMemory}
use Rattle.agcode_top.specs.Calls.{SinkCall, Writes, StopsAt}
use Rattle.agcode_top.specs.Erase.{SaysErase}

pub data LeavesFilled (out report : SinkCall) (text told : List ℕ) (status : Status) : Type 0 where
  all_written : status ≡ Done → Writes out text → Writes report told → LeavesFilled out report text told status
  out_failed : status ≡ OutFault → StopsAt out text → report.after ≡ report.before →
      LeavesFilled out report text told status
  report_failed : status ≡ ReportFault → Writes out text → StopsAt report told →
      LeavesFilled out report text told status
  memory_wanted : status ≡ NoMemory → out.after ≡ out.before → report.after ≡ report.before →
      LeavesFilled out report text told status

pub data FillLeaves (p : Parts) (got : List ℕ) (out report : SinkCall) (status : Status) : Type 0 where
  fills : (text told : List ℕ) → SaysErase p got Done text told → LeavesFilled out report text told status →
      FillLeaves p got out report status
  fills_nothing : SaysErase p got status [] [] → out.after ≡ out.before → report.after ≡ report.before →
      FillLeaves p got out report status
  fill_wants : status ≡ NoMemory → out.after ≡ out.before → report.after ≡ report.before →
      FillLeaves p got out report status
