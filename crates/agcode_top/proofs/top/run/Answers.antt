use Rattle.agcode_top.proofs.StillLemmas.{run-quiet, run-early, run-unread, run-line, run-usage_line, run-taken, run-number, run-kept}
use Rattle.agcode_top.proofs.CauseLemmas.{run-usage, run-own, run-desc_fault, run-input_fault, run-out_fault, run-report_fault, run-descriptor, run-refused, run-accepted, run-complete}
use Rattle.agcode_top.proofs.AnswerLemmas.{run-answer, run-exactly, run-part, run-untold}
use Rattle.agcode_top.proofs.HeadlineLemmas.{run-encode, run-repair, run-reading, run-encoded, run-decoded, run-salvaged, run-rescue, run-salvages}
use Rattle.agcode_top.proofs.top.run.Goals as goal

pub returns-clause-usage : goal.returns-clause-usage
returns-clause-usage g c = run-usage _ _ _ c.obey-status.ensures.leaves

pub returns-clause-own : goal.returns-clause-own
returns-clause-own g c = run-own _ _ _ c.obey-status.ensures.leaves

pub returns-clause-desc_fault : goal.returns-clause-desc_fault
returns-clause-desc_fault g c = run-desc_fault _ _ _ c.obey-status.ensures.leaves

pub returns-clause-input_fault : goal.returns-clause-input_fault
returns-clause-input_fault g c = run-input_fault _ _ _ c.obey-status.ensures.leaves

pub returns-clause-out_fault : goal.returns-clause-out_fault
returns-clause-out_fault g c = run-out_fault _ _ _ c.obey-status.ensures.leaves

pub returns-clause-report_fault : goal.returns-clause-report_fault
returns-clause-report_fault g c = run-report_fault _ _ _ _ c.obey-status.ensures.leaves c.tell.ensures.quiet

pub returns-clause-descriptor : goal.returns-clause-descriptor
returns-clause-descriptor g c = run-descriptor _ _ _ c.obey-status.ensures.leaves

pub returns-clause-refused : goal.returns-clause-refused
returns-clause-refused g c = run-refused _ _ _ c.obey-status.ensures.leaves

pub returns-clause-accepted : goal.returns-clause-accepted
returns-clause-accepted g c = run-accepted _ _ _ c.obey-status.ensures.leaves

pub returns-clause-encode : goal.returns-clause-encode
returns-clause-encode g c = run-encode _ _ _ (g.R.Sink.view c.tell.new.report) c.obey-status.ensures.leaves

pub returns-clause-repair : goal.returns-clause-repair
returns-clause-repair g c = run-repair _ _ _ (g.R.Sink.view c.tell.new.report) c.obey-status.ensures.leaves c.obey-status.ensures.report_counted c.tell.ensures.counted c.tell.ensures.given

pub returns-clause-reading : goal.returns-clause-reading
returns-clause-reading g c = run-reading _ _ _ (g.R.Sink.view c.tell.new.report) c.obey-status.ensures.leaves c.tell.ensures.given

pub returns-clause-complete : goal.returns-clause-complete
returns-clause-complete g c = run-complete _ _ _ (g.R.Sink.view c.tell.new.report) c.obey-status.ensures.leaves c.obey-status.ensures.report_counted c.tell.ensures.counted

pub returns-clause-answer : goal.returns-clause-answer
returns-clause-answer g c = run-answer _ _ _ (g.R.Sink.view c.tell.new.report) c.obey-status.ensures.leaves c.tell.ensures.given

pub returns-clause-exactly : goal.returns-clause-exactly
returns-clause-exactly g c = run-exactly _ _ _ (g.R.Sink.view c.tell.new.report) c.obey-status.ensures.leaves

pub returns-clause-part : goal.returns-clause-part
returns-clause-part g c = run-part _ _ _ (g.R.Sink.view c.tell.new.report) c.obey-status.ensures.leaves

pub returns-clause-untold : goal.returns-clause-untold
returns-clause-untold g c = run-untold _ _ _ (g.R.Sink.view c.tell.new.report) c.obey-status.ensures.leaves c.tell.ensures.given c.tell.ensures.quiet

pub returns-clause-quiet : goal.returns-clause-quiet
returns-clause-quiet g c = run-quiet _ _ _ c.obey-status.ensures.leaves

pub returns-clause-early : goal.returns-clause-early
returns-clause-early g c = run-early _ _ _ (g.R.Sink.view c.tell.new.report) c.obey-status.ensures.leaves

pub returns-clause-unread : goal.returns-clause-unread
returns-clause-unread g c = run-unread _ _ _ c.obey-status.ensures.leaves

pub returns-clause-line : goal.returns-clause-line
returns-clause-line g c = run-line _ _ _ (g.R.Sink.view c.tell.new.report) c.obey-status.ensures.leaves c.tell.ensures.given

pub returns-clause-usage_line : goal.returns-clause-usage_line
returns-clause-usage_line g c = run-usage_line _ _ _ (g.R.Sink.view c.tell.new.report) c.obey-status.ensures.leaves c.tell.ensures.given

pub returns-clause-taken : goal.returns-clause-taken
returns-clause-taken g c = run-taken _ _ _ (g.R.Sink.view c.tell.new.report) c.obey-status.ensures.leaves

pub returns-clause-number : goal.returns-clause-number
returns-clause-number g c = run-number _ _ _ c.obey-status.ensures.leaves

pub returns-clause-kept : goal.returns-clause-kept
returns-clause-kept g c = run-kept _ _ _ (g.R.Sink.view c.tell.new.report) c.obey-status.ensures.leaves c.tell.ensures.quiet

pub returns-clause-encoded : goal.returns-clause-encoded
returns-clause-encoded g c = run-encoded _ _ _ (g.R.Sink.view c.tell.new.report) c.obey-status.ensures.leaves

pub returns-clause-decoded : goal.returns-clause-decoded
returns-clause-decoded g c = run-decoded _ _ _ (g.R.Sink.view c.tell.new.report) c.obey-status.ensures.leaves c.tell.ensures.counted c.tell.ensures.given

pub returns-clause-salvaged : goal.returns-clause-salvaged
returns-clause-salvaged g c = run-salvaged _ _ _ (g.R.Sink.view c.tell.new.report) c.obey-status.ensures.leaves c.tell.ensures.counted c.tell.ensures.given

pub returns-clause-rescue : goal.returns-clause-rescue
returns-clause-rescue g c = run-rescue _ _ _ (g.R.Sink.view c.tell.new.report) c.obey-status.ensures.leaves c.tell.ensures.given

pub returns-clause-salvages : goal.returns-clause-salvages
returns-clause-salvages g c = run-salvages _ _ _ (g.R.Sink.view c.tell.new.report) c.obey-status.ensures.leaves c.obey-status.ensures.report_counted c.tell.ensures.counted
