use Rattle.std.proofs.Common.{◌∙◌}
use Rattle.vote_core.specs.Progress.{poll_of}
use Rattle.vote_core.proofs.Pursuing.{goes_on}
use Rattle.vote_core.proofs.steps.go_through.Goals as goal

pub returns-in-Ended-clause-says : goal.returns-in-Ended-clause-says
returns-in-Ended-clause-says g c = λ v y u. c.in-Ended.ensures.comes v y (c.loop-found.invariant.pursues v y u)

pub loop-found-smaller : goal.loop-found-smaller
loop-found-smaller g c =
    let v = c.requires.pursues.0 in
    let y = c.requires.pursues.1 in
    (goes_on c.args.basis.now c.args.classes.now v y (poll_of c.loop-found.progress) (poll_of c.go_on.new.progress) c.go_on.result c.in_default.not-Ended
    (c.go_on.ensures.comes v y (c.loop-found.invariant.pursues v y c.requires.pursues.2))).fewer

pub loop-found-preserved : goal.loop-found-preserved
loop-found-preserved g c = record {
  kept = c.go_on.ensures.kept;
  ready =
      let v = c.requires.pursues.0 in
      let y = c.requires.pursues.1 in
      (goes_on c.args.basis.now c.args.classes.now v y (poll_of c.loop-found.progress) (poll_of c.go_on.new.progress) c.go_on.result c.in_default.not-Ended
      (c.go_on.ensures.comes v y (c.loop-found.invariant.pursues v y c.requires.pursues.2))).pursues.ready;
  pursues = λ v y u.
      (goes_on c.args.basis.now c.args.classes.now v y (poll_of c.loop-found.progress) (poll_of c.go_on.new.progress) c.go_on.result c.in_default.not-Ended
      (c.go_on.ensures.comes v y (c.loop-found.invariant.pursues v y u))).pursues;
  room = c.go_on.ensures.room ∙ c.loop-found.invariant.room;
}
