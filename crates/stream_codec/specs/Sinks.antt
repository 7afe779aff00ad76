-- Sinks       the sinks of a call that decodes, one for the file and one for the report, before and after
-- sinks_of    the same by their parts
use Rattle.std.specs.Prelude.{Bool}
use Rattle.ag_io.specs.Views.{SinkView}

pub record Sinks : Type 0 where
  pub out_tells : Bool
  pub out : SinkView
  pub out_after : SinkView
  pub report_tells : Bool
  pub report : SinkView
  pub report_after : SinkView

abbrev pub sinks_of : Bool → SinkView → SinkView → Bool → SinkView → SinkView → Sinks
sinks_of out_tells out out_after report_tells report report_after = record {
  out_tells = out_tells;
  out = out;
  out_after = out_after;
  report_tells = report_tells;
  report = report;
  report_after = report_after;
}
