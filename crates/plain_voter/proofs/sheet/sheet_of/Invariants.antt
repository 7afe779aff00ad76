use Rattle.plain_voter.specs.Sheets.{IsTableOf}
use Rattle.plain_voter.proofs.sheet.sheet_of.Given as goal

abbrev pub invariant-loop-i : goal.invariant-loop-i
invariant-loop-i g l = IsTableOf l.basis l.work l.table l.i
