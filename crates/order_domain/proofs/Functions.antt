-- What is named of the functions of a domain, and what its laws speak of
use Rattle.std.proofs.Common.{◌≡◌, ℕ, ◌<◌, List, length, sym, ◌∙◌, refl}
use Rattle.std.specs.Prelude.{slice_index}
use Rattle.std.proofs.lemmas.List.{length-map, get_or-map}
use Rattle.counting_theory.specs.Votes.{pairs}
use Rattle.order_domain.specs.Points.{Point, origin}
use Rattle.order_domain.specs.Domain.{Domain}
use Rattle.order_domain.specs.Functions.{Functions, functions_of, values, sum_index, pair_count}
use Rattle.order_domain.specs.Values.{value_at, sum_or_count}
use Rattle.order_domain.proofs.Values.{value_at-is}

pub sum_index-is : (d : Domain) (i j : ℕ) → sum_index (functions_of d) i j ≡ sum_or_count d i j
unfolding sum_or_count
sum_index-is d i j = refl

pub pair_count-is : (d : Domain) (i : ℕ) → pair_count (functions_of d) i ≡ pairs d.count (sum_or_count d) i
unfolding sum_or_count
pair_count-is d i = refl

pub length-values : (f : Functions) (modulus : ℕ) (points : List Point) (i : ℕ) → length (values f modulus points i) ≡ length points
length-values f modulus points i = length-map points (f.eval modulus i)

pub values-at : (d : Domain) (modulus : ℕ) (points : List Point) (i p : ℕ) → i < d.count → p < length points →
    slice_index (values (functions_of d) modulus points i) p ≡ value_at d modulus points i p
values-at d modulus points i p li lp = get_or-map (d.eval modulus i) points p origin 0 lp ∙ sym (value_at-is d modulus points i p li lp)
