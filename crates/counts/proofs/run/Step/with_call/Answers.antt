-- `Step::with_call` puts what the answer tells to the counts so far.
use Rattle.counts.specs.Inner.{stepped_by}
use Rattle.counts.proofs.run.Step.with_call.Goals as goal

pub returns : goal.returns
unfolding stepped_by
returns c = cc
