use Rattle.plain_voter.specs.Sheets.{AreEntries}
use Rattle.plain_voter.proofs.sheet.entries_of.Given as goal

abbrev pub invariant-loop-j : goal.invariant-loop-j
invariant-loop-j g l = AreEntries l.basis l.work l.i l.row.items l.j
