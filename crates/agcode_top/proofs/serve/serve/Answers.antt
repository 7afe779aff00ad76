use Rattle.command_words.specs.declared.words.Command.TheVariants.{Member, Params, Bound, Check, Encode, Decode, Votes, Trial, Erase}
use Rattle.agcode_top.proofs.RunLemmas.{serve-at}
use Rattle.agcode_top.proofs.serve.serve.Goals as goal

pub returns-in-Member-clause-leaves : goal.returns-in-Member-clause-leaves
returns-in-Member-clause-leaves g c = serve-at _ _ Member _ _ _ _ _ c.in-Member.is (c.member.ensures.leaves _ _ _)

pub returns-in-Params-clause-leaves : goal.returns-in-Params-clause-leaves
returns-in-Params-clause-leaves g c = serve-at _ _ Params _ _ _ _ _ c.in-Params.is (c.params.ensures.leaves _ _ _ _ _)

pub returns-in-Bound-clause-leaves : goal.returns-in-Bound-clause-leaves
returns-in-Bound-clause-leaves g c = serve-at _ _ Bound _ _ _ _ _ c.in-Bound.is (c.table.ensures.leaves _ _ _ _ _)

pub returns-in-Encode-clause-leaves : goal.returns-in-Encode-clause-leaves
returns-in-Encode-clause-leaves g c = serve-at _ _ Encode _ _ _ _ _ c.in-Encode.is (c.encode.ensures.leaves _ _)

pub returns-in-Decode-clause-leaves : goal.returns-in-Decode-clause-leaves
returns-in-Decode-clause-leaves g c = serve-at _ _ Decode _ _ _ _ _ c.in-Decode.is c.decode.ensures.leaves

pub returns-in-Votes-clause-leaves : goal.returns-in-Votes-clause-leaves
returns-in-Votes-clause-leaves g c = serve-at _ _ Votes _ _ _ _ _ c.in-Votes.is (c.votes.ensures.leaves _ _ _)

pub returns-in-Check-clause-leaves : goal.returns-in-Check-clause-leaves
returns-in-Check-clause-leaves g c = serve-at _ _ Check _ _ _ _ _ c.in-Check.is (c.check.ensures.leaves _ _ _)

pub returns-in-Trial-clause-leaves : goal.returns-in-Trial-clause-leaves
returns-in-Trial-clause-leaves g c = serve-at _ _ Trial _ _ _ _ _ c.in-Trial.is (c.trial.ensures.leaves _ _ _ _)

pub returns-in-Erase-clause-leaves : goal.returns-in-Erase-clause-leaves
returns-in-Erase-clause-leaves g c = serve-at _ _ Erase _ _ _ _ _ c.in-Erase.is (c.erase.ensures.leaves _)
