-- line_of fields           the fields with one space between them, and a line feed
-- plain_line_of t          the text t
-- number_line_of name n    a name and a number
-- point1_line_of x         `[X],`
-- point_line_of x y        `[X, Y],`
-- point3_line_of x y z     `[X, Y, Z],`
-- votes_line_of l p r w    the four numbers
-- plan_line_of h f c b     `HEAD F checks C bound B`
-- stop_line_of l p         `stop L P`
-- changed_line_of ..       `changed G C P OLD NEW`, the last two as hexadecimal digits
-- filled_line_of p n       `filled P NEW`, the last as hexadecimal digits
-- done_line_of b g e       `done bytes B groups G changed E`
-- salvaged_line_of ..      `salvaged bytes B groups G changed E lost N`
-- lost_line_of g c         `lost G C`
-- beyond_line_of g c       `beyond G C`
-- counts_of b g e          `bytes B groups G changed E`, without a line feed
-- line_end_in t from       the place of the first line feed of t at or after a place, if there is one
use Rattle.std.specs.Prelude.{ℕ, ◌+◌, List, [], ◌∷◌, ◌++◌, drop, codes, Option, option_map, nat_eq, position}
use Rattle.std.specs.Fmt.{decimal}
use Rattle.std.specs.List.{join_with_byte}
use Rattle.ag_texts.specs.Numbers.{hex_of}

abbrev pub line_of : List (List ℕ) → List ℕ
line_of fields = join_with_byte 32 fields ++ 10 ∷ []

abbrev pub plain_line_of : List ℕ → List ℕ
plain_line_of text = line_of (text ∷ [])

abbrev pub number_line_of : List ℕ → ℕ → List ℕ
number_line_of name v = line_of (name ∷ decimal v ∷ [])

abbrev pub point1_line_of : ℕ → List ℕ
point1_line_of x = codes "[" ++ decimal x ++ codes "]," ++ 10 ∷ []

abbrev pub point_line_of : ℕ → ℕ → List ℕ
point_line_of x y = codes "[" ++ decimal x ++ codes ", " ++ decimal y ++ codes "]," ++ 10 ∷ []

abbrev pub point3_line_of : ℕ → ℕ → ℕ → List ℕ
point3_line_of x y z = codes "[" ++ decimal x ++ codes ", " ++ decimal y ++ codes ", " ++ decimal z ++ codes "]," ++ 10 ∷ []

abbrev pub votes_line_of : ℕ → ℕ → ℕ → ℕ → List ℕ
votes_line_of label pairs right wrong = line_of (decimal label ∷ decimal pairs ∷ decimal right ∷ decimal wrong ∷ [])

abbrev pub plan_line_of : List ℕ → ℕ → ℕ → ℕ → List ℕ
plan_line_of head first checks bound = line_of (head ∷ decimal first ∷ codes "checks" ∷ decimal checks ∷ codes "bound" ∷ decimal bound ∷ [])

abbrev pub stop_line_of : ℕ → ℕ → List ℕ
stop_line_of label pairs = line_of (codes "stop" ∷ decimal label ∷ decimal pairs ∷ [])

abbrev pub changed_line_of : ℕ → ℕ → ℕ → ℕ → ℕ → List ℕ
changed_line_of group word place old new = line_of (codes "changed" ∷ decimal group ∷ decimal word ∷ decimal place ∷ hex_of old ∷ hex_of new ∷ [])

abbrev pub filled_line_of : ℕ → ℕ → List ℕ
filled_line_of place new = line_of (codes "filled" ∷ decimal place ∷ hex_of new ∷ [])

abbrev pub counts_of : ℕ → ℕ → ℕ → List ℕ
counts_of bytes groups changes = join_with_byte 32 (codes "bytes" ∷ decimal bytes ∷ codes "groups" ∷ decimal groups ∷ codes "changed" ∷ decimal changes ∷ [])

abbrev pub done_line_of : ℕ → ℕ → ℕ → List ℕ
done_line_of bytes groups changes = line_of (codes "done" ∷ codes "bytes" ∷ decimal bytes ∷ codes "groups" ∷ decimal groups ∷ codes "changed" ∷ decimal changes ∷ [])

abbrev pub salvaged_line_of : ℕ → ℕ → ℕ → ℕ → List ℕ
salvaged_line_of bytes groups changes lost = line_of (codes "salvaged" ∷ codes "bytes" ∷ decimal bytes ∷ codes "groups" ∷ decimal groups ∷ codes "changed" ∷ decimal changes ∷ codes "lost" ∷ decimal lost ∷ [])

abbrev pub lost_line_of : ℕ → ℕ → List ℕ
lost_line_of group word = line_of (codes "lost" ∷ decimal group ∷ decimal word ∷ [])

abbrev pub beyond_line_of : ℕ → ℕ → List ℕ
beyond_line_of group word = line_of (codes "beyond" ∷ decimal group ∷ decimal word ∷ [])

abbrev pub line_end_in : List ℕ → ℕ → Option ℕ
line_end_in text from = option_map (λ p. from + p) (position (λ b. nat_eq b 10) (drop from text))
