-- numbers_line_of     a word and numbers, or the word alone
-- term_text_of        a term of a normal form: its weight and its coefficient
-- relation_line_of    the terms of a normal form
-- relation_text_of    the same of a normal form that may be there
-- params_text_of      the parameters of a code, a line each, from its length, the labels of its members and of the checked
--                     ones, the bound, the radius, and a normal form, if there is one
-- votes_text_of       the lines of a ledger
-- filled_text_of      for each of these places a line with the symbol of a word there, and the number of the places
use Rattle.std.specs.Prelude.{ℕ, ◌-◌, ◌++◌, ◌∷◌, List, length, map, codes, slice_index, Option, Some, None}
use Rattle.std.specs.Fmt.{decimal}
use Rattle.std.specs.List.{flat_map}
use Rattle.ag_texts.specs.Lines.{line_of, plain_line_of, number_line_of, votes_line_of, filled_line_of}
use Rattle.cab_curve.specs.declared.normal.NormTerm.{NormTerm}
use Rattle.vote_core.specs.declared.ledger.VoteLine.{VoteLine}

abbrev pub numbers_line_of : List ℕ → List ℕ → List ℕ
numbers_line_of word numbers = line_of (word ∷ map decimal numbers)

abbrev pub term_text_of : NormTerm → List ℕ
term_text_of t = decimal t.weight ++ codes ":" ++ decimal t.c

abbrev pub relation_line_of : List NormTerm → List ℕ
relation_line_of terms = line_of (codes "relation" ∷ map term_text_of terms)

abbrev pub relation_text_of : Option (List NormTerm) → List ℕ
relation_text_of (Some terms) = relation_line_of terms
relation_text_of None = plain_line_of (codes "relation none")

abbrev pub params_text_of : (n : ℕ) (labels checked : List ℕ) (bound radius : ℕ) → Option (List NormTerm) → List ℕ
params_text_of n labels checked bound radius relation =
    number_line_of (codes "n") n
    ++ number_line_of (codes "k") (n - length checked)
    ++ number_line_of (codes "checks") (length checked)
    ++ number_line_of (codes "bound") bound
    ++ number_line_of (codes "t") radius
    ++ numbers_line_of (codes "labels") labels
    ++ numbers_line_of (codes "checked") checked
    ++ relation_text_of relation

abbrev pub votes_text_of : List VoteLine → List ℕ
votes_text_of lines = flat_map (λ l. votes_line_of l.label l.pairs l.right l.wrong) lines

abbrev pub filled_text_of : List ℕ → List ℕ → List ℕ
filled_text_of places word =
    flat_map (λ p. filled_line_of p (slice_index word p)) places
    ++ number_line_of (codes "done filled") (length places)
