-- PlanNumbers         of a plan: the number that it goes by, how many members it checks, and its bound
-- MemberNumbers       of a member: its label and its pairs
-- order_line_of       the order plan, or that there is none
-- stopped_line_of     the stop, or that there is none
-- member_text_of      a label and its pairs
-- must_line_of        the members that each code must check
-- design_text_of      the lines of a design, from the wanted number of errors, the order plan, the stop, the improved plan
--                     and the members that each code must check
use Rattle.std.specs.Prelude.{ℕ, ◌++◌, ◌∷◌, List, map, codes, Option, None, Some}
use Rattle.std.specs.Fmt.{decimal}
use Rattle.ag_texts.specs.Lines.{line_of, plain_line_of, number_line_of, plan_line_of, stop_line_of}
pub use Rattle.code_texts.specs.declared.design.PlanNumbers.{PlanNumbers}
pub use Rattle.code_texts.specs.declared.design.MemberNumbers.{MemberNumbers}

abbrev pub order_line_of : Option PlanNumbers → List ℕ
order_line_of None = plain_line_of (codes "order none")
order_line_of (Some p) = plan_line_of (codes "order weight") p.first p.checks p.bound

abbrev pub stopped_line_of : Option MemberNumbers → List ℕ
stopped_line_of None = plain_line_of (codes "stop none")
stopped_line_of (Some m) = stop_line_of m.label m.pairs

abbrev pub member_text_of : MemberNumbers → List ℕ
member_text_of m = decimal m.label ++ codes ":" ++ decimal m.pairs

abbrev pub must_line_of : List MemberNumbers → List ℕ
must_line_of members = line_of (codes "must" ∷ map member_text_of members)

abbrev pub design_text_of : ℕ → Option PlanNumbers → Option MemberNumbers → PlanNumbers → List MemberNumbers → List ℕ
design_text_of want order stop improved must =
    number_line_of (codes "want") want
    ++ order_line_of order
    ++ stopped_line_of stop
    ++ plan_line_of (codes "improved") improved.first improved.checks improved.bound
    ++ must_line_of must
