use Rattle.std.proofs.Common.{refl, inl, inr}
use Rattle.agcode_top.proofs.obey.obey.Goals as goal

pub returns-in_default-clause-leaves : goal.returns-in_default-clause-leaves
returns-in_default-clause-leaves g c = inl (record {
  nobody = λ w k. c.in_default.ensures.value w k;
  status_is = refl;
  desc_still = refl;
  still = record { input_still = refl; out_still = refl; report_still = refl };
})

pub returns-clause-leaves : goal.returns-clause-leaves
returns-clause-leaves g c = inr (record {
  words = c.in-Some.asked;
  line = c.in-Some.ensures.value;
  leaves = c.carry_out.ensures.leaves;
})
