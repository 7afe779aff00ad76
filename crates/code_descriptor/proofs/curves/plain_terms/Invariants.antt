use Rattle.std.proofs.Common.{◌≡◌, ℕ, ◌<◌, true, map, take}
use Rattle.code_descriptor.specs.Tests.{plain_term, named_term_at}
use Rattle.code_descriptor.specs.Views.{fits_term}
use Rattle.code_descriptor.proofs.curves.plain_terms.Given as goal

abbrev pub invariant-loop-term : goal.invariant-loop-term
invariant-loop-term l = record {
  items : l.plain.items ≡ map plain_term (take l.term-index l.terms);
  fit : (k : ℕ) → k < l.term-index → fits_term (named_term_at l.terms k) ≡ true;
}
