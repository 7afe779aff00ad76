-- Entry          what a label line says: a label, its pairs, whether it is checked, and its dual list
-- title          the first line
-- head_line      the second line: how many points and checked labels there are, and the bound
-- entry_line     a label line
-- table_text     a whole text: title, head and label lines
-- entry_of       what the label line of member k says
-- basis_table    the table of a basis: its members, their marks, and a bound
-- IsTableOf      the text of that table with the order bound
use Rattle.std.specs.Prelude.{◌≡◌, ℕ, Bool, List, [], ◌∷◌, ◌++◌, map, codes, count_by, slice_index_or, if◌then◌else◌}
use Rattle.std.specs.Fmt.{decimal}
use Rattle.std.specs.List.{range_with_len, flat_map}
use Rattle.ag_texts.specs.Lines.{line_of}
use Rattle.order_theory.specs.Basis.{Basis, label, pairs_at}
use Rattle.order_theory.specs.Codes.{marked, IsOrderBound}

pub record Entry : Type 0 where
  pub label : ℕ
  pub pairs : ℕ
  pub mark : Bool
  pub dual : List ℕ

unfoldable pub title : List ℕ
title = line_of (codes "agcode-bound 1" ∷ [])

unfoldable pub head_line : ℕ → ℕ → ℕ → List ℕ
head_line n checked bound = line_of (codes "n" ∷ decimal n ∷ codes "checked" ∷ decimal checked ∷ codes "bound" ∷ decimal bound ∷ [])

-- `c` for a checked label, `f` for a free one
abbrev pub mark_text : Bool → List ℕ
mark_text mark = if mark then codes "c" else codes "f"

unfoldable pub entry_line : Entry → List ℕ
entry_line e = line_of (codes "label" ∷ decimal e.label ∷ decimal e.pairs ∷ mark_text e.mark ∷ map decimal e.dual)

abbrev pub table_text : ℕ → ℕ → ℕ → List Entry → List ℕ
table_text n checked bound entries = title ++ head_line n checked bound ++ flat_map entry_line entries

abbrev pub entry_of : Basis → List Bool → ℕ → Entry
entry_of b marks k = record { label = label b k; pairs = pairs_at b k; mark = marked marks k; dual = slice_index_or b.duals k [] }

abbrev pub basis_table : Basis → List Bool → ℕ → List ℕ
basis_table b marks bound = table_text b.n (count_by (λ m. m) marks) bound (map (entry_of b marks) (range_with_len 0 b.n))

pub record IsTableOf (b : Basis) (marks : List Bool) (text : List ℕ) : Type 0 where
  pub bound : ℕ
  pub is_bound : IsOrderBound b marks bound
  pub is : text ≡ basis_table b marks bound
