use Rattle.std.proofs.Common.{sym, subst, refl, rules}
use Rattle.vote_core.specs.Voters.{Fits, VoterState}
use Rattle.bench_decode.proofs.tests.find.Goals as goal

pub find-found-requires-clause-fits : goal.find-found-requires-clause-fits
find-found-requires-clause-fits g c =
    subst (λ (v : VoterState). Fits v c.in_ok-basis.basis) (sym c.in_ok-voter.ensures)
    (record {
      bits = refl;
      modulus = refl;
      n = refl;
      some_free = (c.in_ok-context.field-0, search rules, search rules);
      radius = search rules;
    })
