use Rattle.std.proofs.Common.{ℕ, ◌+◌, ◌<◌, ◌^◌, sym, subst}
use Rattle.std.proofs.Math.Numerals.{add-one}
use Rattle.gf_theory.proofs.Product.{gf_mul-product, product-unique}
use Rattle.gf_theory.proofs.product_is_unique.Goals as goal

pub returns : goal.returns
returns c m p d =
    let below : p < 2 ^ (m + 1) = subst (λ (k : ℕ). p < 2 ^ k) (sym (add-one m)) d.below in record {
      product = λ x y. gf_mul-product m p x y d.at_least below;
      only = λ x y r. product-unique m p x y r d.at_least below;
    }
