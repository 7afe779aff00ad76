use Rattle.std.proofs.Common.{◌≡◌, ◌++◌, map, count_by}
use Rattle.std.specs.List.{flat_map, range_with_len}
use Rattle.order_bound.specs.TableText.{title, head_line, entry_line, entry_of}
use Rattle.order_bound.proofs.writer.table_text.Given as goal

abbrev pub invariant-loop-k : goal.invariant-loop-k
invariant-loop-k g l = l.writer.text.items ≡ title ++ head_line l.basis.n (count_by (λ m. m) l.checked) l.least ++ flat_map entry_line (map (entry_of l.basis l.checked) (range_with_len 0 l.k))
