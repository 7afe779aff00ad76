use Rattle.std.proofs.Common.{sym, subst, refl}
use Rattle.vote_core.specs.Voters.{Fits, VoterState}
use Rattle.order_example.proofs.voters.voter_says.Goals as goal

pub told_by-requires-clause-fits : goal.told_by-requires-clause-fits
told_by-requires-clause-fits c =
    let code = c.args.code.now in
    subst (λ (v : VoterState). Fits v code.basis) (sym c.in_ok-voter.ensures)
    (record {
      bits = refl;
      modulus = refl;
      n = refl;
      some_free = (code.free, code.inside, code.is_free);
      radius = code.radius;
    })
